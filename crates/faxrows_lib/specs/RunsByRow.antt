-- What a run writes that writes each row as it is read.
use Rattle.std.specs.Prelude.{◌≡◌, ◌≢◌, ℕ, List, Err}
use Rattle.hayro_ccitt.specs.DecodeError.TheVariants.{OutOfMemory, Refused}
use Rattle.hayro_ccitt.specs.DecodeSettings.{DecodeSettings}
use Rattle.hayro_ccitt.specs.Bits.{Bits}
use Rattle.faxrows_lib.specs.Runs.{Outcome, EndsAfter, IsTextOfEnd, outcome_of, text_after, whole_text}
use Rattle.faxrows_lib.specs.declared.program.Done.{Done}

-- reading row by row may end like this after this number of rows: as decoding may, but no row is refused
abbrev pub EndsByRow : DecodeSettings → Bits → ℕ → Outcome → Type 0
EndsByRow settings bits read outcome = EndsAfter settings bits read outcome × (outcome ≢ Err Refused)

-- the lines of the rows that were read, and then that of the allocation failure that ended the reading there
abbrev pub IsTextWithoutMemory : DecodeSettings → Bits → List ℕ → Type 0
IsTextWithoutMemory settings bits text =
    (read : ℕ) × EndsAfter settings bits read (Err OutOfMemory) × (text ≡ text_after settings bits read (Err OutOfMemory))

-- what a run writes of some data that ends like this
abbrev pub IsTextByRow : DecodeSettings → Bits → Done → List ℕ → Type 0
IsTextByRow settings bits done =
    IsTextOfEnd done (outcome_of settings bits) (whole_text settings bits) (IsTextWithoutMemory settings bits)
