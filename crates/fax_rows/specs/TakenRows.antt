-- What the functions that take rows have in common. This is not part of the trusted specification: no contract of a public call
-- cites it.
use Rattle.std.specs.Prelude.{◌≡◌, ◌+◌, ◌<◌, ◌≤◌, ◌^◌, length, Result, Err, IsOkUnless}
use Rattle.fax_bits.specs.declared.error.DecodeError.{DecodeError}
use Rattle.fax_bits.specs.Bits.{BitsAt, here}
use Rattle.fax_reading.specs.Answers.{IsRepairable, RepairStoresChange}
use Rattle.fax_reading.specs.Context.{Context, Held}
use Rattle.fax_reading.specs.PlainReading.{aligned_after_row}

-- A row was taken, and the reader is where the next line, or its EOL, begins. No tick was counted, and no room was needed.
pub record MovesAfterRow (before after : Context) (from to : BitsAt) : Type 0 where
  pub rest : here to ≡ aligned_after_row before.held.settings before.held.has_eols (here from)
  pub width : length after.held.reference ≡ before.held.settings.columns
  pub same_bits : to.bits ≡ from.bits
  pub count : after.ticks ≡ before.ticks
  pub space : after.space ≡ before.space

-- The row that is drawn is full (T.4, 4.1.1).
abbrev pub IsFull : Held → Type 0
IsFull held = held.settings.columns ≤ length held.front

-- One more row can be counted, also as damaged.
pub record CanTakeRow (held : Held) : Type 0 where
  pub rows : held.taken + 1 < 2 ^ 64
  pub damaged : held.repairs.rows ≤ held.taken

-- A repair fails only where memory runs out as it stores a change; the error of a line that isn't repaired is returned.
pub record FailsToRepair (held : Held) (error : DecodeError) (answer : Result (Unit {0}) DecodeError) : Type 0 where
  pub only_memory : IsRepairable held error → IsOkUnless answer DecodeError.OutOfMemory
  pub memory : IsRepairable held error → answer ≡ Err DecodeError.OutOfMemory → RepairStoresChange held
  pub otherwise : (IsRepairable held error → ⊥) → answer ≡ Err error
