-- What an encoder refuses, and how it says so.
use Rattle.std.specs.Prelude.{◌≡◌, ◌≢◌, ℕ, ◌<◌, ◌↔◌, true, List, ◌++◌, length, get_or, codes, decimal, []}
use Rattle.std.specs.Prelude.{Option, Some, None, Result, Err}
use Rattle.fax_reading.specs.Rows.{AreChanges}
use Rattle.fax_encode.specs.declared.error.EncodeError.{EncodeError}
use Rattle.fax_encode.specs.declared.error.EncodeError.TheVariants.{NoColumns, NoRows, NotARow, OutOfMemory}
use Rattle.fax_encode.specs.RowByRow.{RowsEncoded}

-- the first list, counted from 0, that isn't strictly ascending and below the width
pub record IsFirstUnlawful (columns : ℕ) (lists : List (List ℕ)) (k : ℕ) : Type 0 where
  pub within : k < length lists
  pub before : (j : ℕ) → j < k → AreChanges columns (get_or lists j [])
  pub here : AreChanges columns (get_or lists k []) → ⊥

-- of lists that aren't all rows the first such is refused, if there are columns
abbrev pub RefusesFirstUnlawful : {V : Type 0} → ℕ → List (List ℕ) → Result V EncodeError → Type 0
RefusesFirstUnlawful columns lists answer =
    (k : ℕ) → (answer ≡ Err (NotARow k)) ↔ ((0 < columns) × IsFirstUnlawful columns lists k)

-- How a row is refused: if it isn't one, and then nothing changes; or for memory, and then so is each row after it.
pub record FailsToPush (old new : RowsEncoded) (answer : Result (Unit {0}) EncodeError) : Type 0 where
  pub kept : (k : ℕ) → answer ≡ Err (NotARow k) → new ≡ old
  pub others : (answer ≢ Err NoColumns) × (answer ≢ Err NoRows)
  pub wanted : old.wants_memory ≡ true → answer ≡ Err OutOfMemory
  pub wants : answer ≡ Err OutOfMemory → new.wants_memory ≡ true

-- the text of a refusal
abbrev pub text_of_refusal : EncodeError → List ℕ
text_of_refusal NoColumns = codes "no columns"
text_of_refusal NoRows = codes "no rows"
text_of_refusal (NotARow k) = codes "row " ++ decimal k ++ codes " is not a list of changes"
text_of_refusal OutOfMemory = codes "out of memory"

-- the text of a refusal, whatever the width and other options it is printed with; the text of a refusal that has a
-- number is not specified
abbrev pub text_with_options : EncodeError → Option (List ℕ)
text_with_options NoColumns = Some (text_of_refusal NoColumns)
text_with_options NoRows = Some (text_of_refusal NoRows)
text_with_options (NotARow k) = None
text_with_options OutOfMemory = Some (text_of_refusal OutOfMemory)
