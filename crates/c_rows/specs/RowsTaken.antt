-- Rows that C passes one at a time, and the bytes that it gets of them.
use Rattle.std.specs.Prelude.{◌≡◌, ◌≤◌, ◌⊎◌, ◌↔◌, ℕ, true, false, List, length, take, drop, Result, Ok, Err}
use Rattle.hayro_ccitt.specs.Bits.{bits_in}
use Rattle.hayro_ccitt.specs.Rows.{Row}
use Rattle.fax_encode.specs.Chosen.{filled_up}
use Rattle.fax_encode.specs.RowByRow.{RowsEncoded, with_row}
use Rattle.fax_encode.specs.Settings.{needs_row, with_end}
use Rattle.fax_encode.specs.declared.error.EncodeError.{EncodeError}
use Rattle.fax_encode.specs.declared.error.EncodeError.TheVariants.{NoColumns, NoRows, NotARow}
use Rattle.fax_encode.specs.declared.error.EncodeError.TheVariants.{OutOfMemory as NoMemory}
use Rattle.c_rows.specs.declared.encoding.EncodeOutcome.{EncodeOutcome}
use Rattle.c_rows.specs.declared.strip.Strip.{Strip}
use Rattle.c_rows.specs.declared.strip.Strip.TheVariants.{Rows, Whole, OutOfMemory}
use Rattle.c_rows.specs.declared.status.TheConstants.{OK, OUT_OF_MEMORY, REFUSED, NOT_TAKEN}

-- the status of adding a row: 6 if it isn't one
abbrev pub status_of_adding : Result (Unit {0}) EncodeError → ℕ
status_of_adding (Ok done) = OK
status_of_adding (Err NoColumns) = NOT_TAKEN
status_of_adding (Err NoRows) = NOT_TAKEN
status_of_adding (Err (NotARow k)) = NOT_TAKEN
status_of_adding (Err NoMemory) = OUT_OF_MEMORY

-- whether an allocation failed
abbrev pub WantsMemory : Strip → Type 0
WantsMemory (Rows rows) = rows.wants_memory ≡ true
WantsMemory (Whole finished) = ⊥
WantsMemory OutOfMemory = Unit {0}

-- What adding a row leaves of the rows so far: one more row; all of them, if it isn't a row of their width; or out of memory,
-- from then on.
pub record TakesNext (rows : RowsEncoded) (new : Strip) (IsRow : Type 0) (row : Row) (status : ℕ) : Type 0 where
  pub statuses : (status ≡ OK) ⊎ (status ≡ OUT_OF_MEMORY) ⊎ (status ≡ NOT_TAKEN)
  pub taken : status ≡ OK → IsRow × (new ≡ Rows (with_row rows row))
  pub untaken : (status ≡ NOT_TAKEN) ↔ ((rows.wants_memory ≡ false) × (¬ IsRow))
  pub kept : status ≡ NOT_TAKEN → new ≡ Rows rows
  pub wanted : rows.wants_memory ≡ true → status ≡ OUT_OF_MEMORY
  pub wants : status ≡ OUT_OF_MEMORY → WantsMemory new

-- The same of a strip, to which no row is added once it is finished. Whether it is a row depends on the width.
abbrev pub TakesRow : Strip → Strip → (ℕ → Type 0) → (ℕ → Row) → ℕ → Type 0
TakesRow (Rows rows) new IsRow row status = TakesNext rows new (IsRow rows.columns) (row rows.columns) status
TakesRow (Whole finished) new IsRow row status = (status ≡ NOT_TAKEN) × (new ≡ Whole finished)
TakesRow OutOfMemory new IsRow row status = (status ≡ OUT_OF_MEMORY) × (new ≡ OutOfMemory)

-- the strip is that of these rows: their lines, EOFB or RTC, and zeros up to a whole byte
abbrev pub IsStripOf : RowsEncoded → Strip → Type 0
IsStripOf rows (Rows more) = ⊥
IsStripOf rows (Whole finished) =
    (bits_in rows.settings.order finished.bytes.items ≡ filled_up (with_end rows.settings rows.lines))
    × (finished.rows ≡ rows.count)
IsStripOf rows OutOfMemory = ⊥

-- What finishing leaves of the rows so far: their strip; all of them, if there are none and one is needed; or out of memory.
pub record FinishesRows (rows : RowsEncoded) (new : Strip) (status : ℕ) : Type 0 where
  pub statuses : (status ≡ OK) ⊎ (status ≡ OUT_OF_MEMORY) ⊎ (status ≡ REFUSED) ⊎ (status ≡ NOT_TAKEN)
  pub finished : (status ≡ OK) ⊎ (status ≡ REFUSED) → IsStripOf rows new
  pub untaken : (status ≡ NOT_TAKEN)
      ↔ ((rows.wants_memory ≡ false) × (rows.count ≡ 0) × (needs_row rows.settings.encoding rows.settings.end_of_block ≡ true))
  pub kept : status ≡ NOT_TAKEN → new ≡ Rows rows
  pub wanted : rows.wants_memory ≡ true → status ≡ OUT_OF_MEMORY
  pub wants : status ≡ OUT_OF_MEMORY → new ≡ OutOfMemory

-- the same of a strip, which stays as it is once it is finished
abbrev pub Finishes : Strip → Strip → ℕ → Type 0
Finishes (Rows rows) new status = FinishesRows rows new status
Finishes (Whole finished) new status = ((status ≡ OK) ⊎ (status ≡ REFUSED)) × (new ≡ Whole finished)
Finishes OutOfMemory new status = (status ≡ OUT_OF_MEMORY) × (new ≡ OutOfMemory)

-- a statement about the bytes of a strip that is finished
abbrev pub IfFinished : Strip → (List ℕ → Type 0) → Type 0
IfFinished (Rows rows) P = Unit {0}
IfFinished (Whole finished) P = P finished.bytes.items
IfFinished OutOfMemory P = Unit {0}

-- the bytes are at the front of the caller's memory, and what follows them is unchanged
pub record IsGiven (bytes before after : List ℕ) : Type 0 where
  pub room : length bytes ≤ length after
  pub bytes_are : take (length bytes) after ≡ bytes
  pub rest : drop (length bytes) after ≡ drop (length bytes) before

-- the outcome: the number of rows and of bytes of a strip that is finished, else zeros
abbrev pub strip_reported : Strip → EncodeOutcome
strip_reported (Rows rows) = record { rows = 0; bytes = 0 }
strip_reported (Whole finished) = record { rows = finished.rows; bytes = length finished.bytes.items }
strip_reported OutOfMemory = record { rows = 0; bytes = 0 }
