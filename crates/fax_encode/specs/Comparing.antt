-- Bits of some data that are compared with those that the coding procedure writes.
use Rattle.std.specs.Prelude.{◌≡◌, ◌≢◌, ℕ, ◌+◌, ◌-◌, ◌≤◌, Bool, true, false, Option, None, Some, List, [], ◌∷◌, ◌++◌, length}
use Rattle.std.specs.Prelude.{if◌then◌else◌}
use Rattle.fax_bits.specs.Bits.{Bits, BitsAt, here, low_bits}
use Rattle.fax_bits.specs.declared.codes.Color.{Color}
use Rattle.fax_reading.specs.Rows.{opposite, pixels}
use Rattle.fax_encode.specs.Chosen.{chosen_mode, chosen_run, place_after}
use Rattle.fax_encode.specs.Coding.{AreAllLeft, IsNear, place_of}
use Rattle.fax_coding.specs.declared.group4.Coding.{Coding}
use Rattle.fax_encode.specs.declared.procedure.CodedMode.{CodedMode}
use Rattle.fax_encode.specs.declared.procedure.Runs.{Runs}

-- of a part its first bits are consumed, and these are left of it
pub record IsPassed (part left : Bits) (old new : BitsAt) : Type 0 where
  pub first : Bits
  pub is : part ≡ first ++ left
  pub stands : here old ≡ first ++ here new
  pub place : new.place ≡ old.place + length first
  pub same_bits : new.bits ≡ old.bits

-- a part is consumed if it is here; else its bits up to the first one that isn't
pub data Compares (part : Bits) (old new : BitsAt) : Bool → Type 0 where
  passed : IsPassed part [] old new → Compares part old new true
  differs : (bit : Bool) (left : Bits) → IsPassed part (bit ∷ left) old new → ((rest : Bits) → here new ≢ bit ∷ rest)
      → Compares part old new false

-- each bit that is consumed is counted, and the one that isn't here
abbrev pub CountsBits : BitsAt → BitsAt → ℕ → ℕ → Bool → Type 0
CountsBits old new before after is_here = after ≡ before + (new.place - old.place) + (if is_here then 0 else 1)

-- ---- A mode and what is after it

-- the runs after the word of a mode
abbrev pub bits_of_runs : Color → Option Runs → Bits
bits_of_runs color None = []
bits_of_runs color (Some runs) = chosen_run color runs.first ++ chosen_run (opposite color) runs.second

-- the word of a mode and the runs after it
abbrev pub bits_of_mode : Color → CodedMode → Bits
bits_of_mode color mode = low_bits mode.word.count mode.word.bits ++ bits_of_runs color mode.runs

-- A row is coded below another by one mode more: the place is that after the mode, b1 is found from an index on that is one less
-- than before at least, and the changes left of the place are counted, which is past the row's end only if none are left.
pub record IsOneModeOn (columns : ℕ) (above row : List ℕ) (at : Coding) (index : ℕ) (after : Coding) : Type 0 where
  pub place : place_of after ≡ place_after (pixels columns above) (pixels columns row) (place_of at)
      (chosen_mode (pixels columns above) (pixels columns row) (place_of at))
  pub near : IsNear columns above (place_of after) after.above
  pub back : index ≤ after.above + 1
  pub next : after.from ≤ columns → AreAllLeft row after.from after.next
