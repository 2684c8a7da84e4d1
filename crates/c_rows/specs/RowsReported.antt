-- What is reported to C of rows of data in pieces.
use Rattle.std.specs.Prelude.{Option}
use Rattle.std.specs.Option.{ForSome}
use Rattle.hayro_ccitt.specs.RowCursors.{Paused}
use Rattle.hayro_ccitt.specs.RowFeeds.{Feeding as RowsFed, offset_of}
use Rattle.c_rows.specs.RowsGiven.{TellsOf}
use Rattle.c_rows.specs.declared.row_outcome.RowOutcome.{RowOutcome}

-- where a reading is, as a reader of all data is that came to the same place
abbrev pub as_paused : RowsFed → Paused
as_paused feed = record { ctx = feed.ctx; rows = feed.rows; order = feed.order; place = offset_of feed }

-- what was reported of it last still holds
abbrev pub IsReportedStill : RowsFed → Option RowOutcome → Type 0
IsReportedStill feed reported = ForSome reported (λ outcome. TellsOf (as_paused feed) outcome)
