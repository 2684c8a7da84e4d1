-- Where a reading of data ends.
use Rattle.std.specs.Prelude.{◌≡◌, ◌≤◌, ◌*◌, ℕ, List, IfOk}
use Rattle.std.specs.List.{All}
use Rattle.fax_guess.specs.declared.reading.Outcome.{Outcome}

-- A reading of so many bytes ends within them.
pub record IsWithin (size : ℕ) (outcome : Outcome) : Type 0 where
  pub bytes : IfOk outcome.end (λ count. count ≤ size)
  pub fault : outcome.fault_start ≤ 8 * size

-- All bytes are zeros.
abbrev pub AreZeros : List ℕ → Type 0
AreZeros bytes = All (λ byte. byte ≡ 0) bytes
