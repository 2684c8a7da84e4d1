-- White rows below a white row that are read one after another, and passed to a sink. This is not part of the trusted
-- specification: no contract of a public call cites it.
use Rattle.std.specs.Prelude.{◌≡◌, ◌+◌, ◌<◌, ◌^◌, ℕ, zero, suc, List, [], None, Result, Ok, Err, true, false}
use Rattle.fax_bits.specs.Bits.{BitsAt}
use Rattle.fax_bits.specs.declared.error.DecodeError.{DecodeError}
use Rattle.fax_bits.specs.declared.error.DecodeError.TheVariants.{Refused}
use Rattle.fax_rows.specs.declared.row_reader.RowState.{RowState}
use Rattle.fax_rows.specs.declared.row_reader.Stand.TheVariants.{AfterRow}
use Rattle.fax_rows.specs.declared.white_lines.WhiteLines.{WhiteLines}
use Rattle.fax_reading.specs.Context.{Context}
use Rattle.fax_reading.specs.Decoding.{SinkState}
use Rattle.fax_reading.specs.PlainReading.{limit_met}
use Rattle.fax_rows.specs.WhiteLines.{MayFollow, PassesLine}

-- a white row is read by its bits, with the EOL before it, from this offset of the data on (T.4, 4.1.2; T.6, 2.2)
pub record TakesWhite (lines : WhiteLines) (start : ℕ) (rows kept : RowState) (old new : Context) (before after : BitsAt)
    : Type 0 where
  pub unmet : limit_met old.held.settings old.held.taken ≡ false
  pub room : old.held.taken + 1 < 2 ^ 64
  pub passes : PassesLine lines before after
  pub kept_is : kept ≡ record { started_at = start + lines.gap; damage = None; cut = false; missed = None; stand = AfterRow }
  pub new_is : new ≡ record old { held = record old.held { taken = old.held.taken + 1 }; ticks = old.ticks + 2 }

-- where a reading is, and what a sink means then
pub record Pushed (M : Type 0) : Type 0 where
  pub rows : RowState
  pub ctx : Context
  pub at : BitsAt
  pub meaning : M

-- a white line is read that may follow, so many bits after the first one of the data
pub record ReadsWhite {M : Type 0} (lines : WhiteLines) (dropped : ℕ) (old new : Pushed M) : Type 0 where
  pub follow : MayFollow old.ctx.held.settings old.ctx.held.has_eols old.ctx.held.reference lines
  pub takes : TakesWhite lines (dropped + old.at.place) old.rows new.rows old.ctx new.ctx old.at new.at

-- and its row is passed to a sink of this step
pub record PassesWhite {M : Type 0} (step : M → List ℕ → M) (lines : WhiteLines) (dropped : ℕ) (old new : Pushed M) : Type 0 where
  pub reads : ReadsWhite lines dropped old new
  pub meaning : new.meaning ≡ step old.meaning []

-- so many are, one after another
abbrev pub PassWhite : {M : Type 0} (step : M → List ℕ → M) (lines : WhiteLines) (dropped : ℕ) → ℕ → Pushed M → Pushed M → Type 0
PassWhite step lines dropped zero old new = new ≡ old
PassWhite {M} step lines dropped (suc count) old new =
    (mid : Pushed M) × PassWhite step lines dropped count old mid × PassesWhite step lines dropped mid new

-- the sink refuses the row of one more
pub record RefusesWhite {M : Type 0} (lines : WhiteLines) (dropped : ℕ) (after : SinkState M) (mid new : Pushed M)
    (error : DecodeError) : Type 0 where
  pub reads : ReadsWhite lines dropped mid new
  pub meaning : new.meaning ≡ mid.meaning
  pub is : error ≡ Refused
  pub flag : after.refused ≡ true
  pub row : after.refuses []

-- the last one was passed, or the sink refuses the row of one more
abbrev pub WhiteEnds : {M : Type 0} → WhiteLines → ℕ → SinkState M → SinkState M → Pushed M → Pushed M
    → Result (Unit {0}) DecodeError → Type 0
WhiteEnds lines dropped before after mid new (Ok x) = (new ≡ mid) × (after.refused ≡ before.refused)
WhiteEnds lines dropped before after mid new (Err error) = RefusesWhite lines dropped after mid new error

-- white rows were read, each passed to a sink of this step, which takes it from one state to another
pub record PushesWhite {M : Type 0} (step : M → List ℕ → M) (lines : WhiteLines) (dropped : ℕ) (before after : SinkState M)
    (rows kept : RowState) (old new : Context) (at next : BitsAt) (answer : Result (Unit {0}) DecodeError) : Type 0 where
  pub count : ℕ
  pub mid : Pushed M
  pub pass : PassWhite step lines dropped count (record { rows = rows; ctx = old; at = at; meaning = before.meaning }) mid
  pub ends : WhiteEnds lines dropped before after mid
      (record { rows = kept; ctx = new; at = next; meaning = after.meaning }) answer
