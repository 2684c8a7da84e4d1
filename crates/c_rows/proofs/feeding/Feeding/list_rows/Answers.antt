use Rattle.std.proofs.Common.{Ok, refl}
use Rattle.hayro_ccitt.specs.Fed.{Fed}
use Rattle.c_rows.specs.GivenRows.{AreListedRows, room_of_lists}
use Rattle.c_rows.proofs.FedRows.{gives_from, gives_no_row}
use Rattle.c_rows.proofs.feeding.Feeding.list_rows.Goals as goal

pub returns-then-stays_within_line : goal.returns-then-stays_within_line
returns-then-stays_within_line c =
    let stays = c.stays_within_line.ensures in
    gives_no_row AreListedRows room_of_lists _ _ (Ok Fed.NeedsMore) (record { rows_are = refl; rest = refl })
    (stays.more c.if-stays_within_line.true) refl (stays.none_kept c.if-stays_within_line.true) stays.layout refl

pub returns : goal.returns
returns c =
    let stays = c.stays_within_line.ensures in
    gives_from c.args.self.now c.stays_within_line.new.self stays.layout (stays.goes_on c.if-stays_within_line.false)
    AreListedRows room_of_lists (λ rows are. are) c.list_next_rows.ensures
