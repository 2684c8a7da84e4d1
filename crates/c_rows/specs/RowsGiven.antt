-- Rows that C reads one at a time.
use Rattle.std.specs.Prelude.{max, ◌*◌, ◌≡◌, ◌≤◌, ◌⊎◌, ◌+◌, ◌/◌, ℕ, Bool, true, false, List, length, take, drop, Option, None}
use Rattle.std.specs.Prelude.{Some}
use Rattle.std.specs.Prelude.{Result, Ok, Err}
use Rattle.hayro_ccitt.specs.BitOrder.{BitOrder}
use Rattle.hayro_ccitt.specs.DecodeError.{DecodeError}
use Rattle.hayro_ccitt.specs.DecodeError.TheVariants.{UnexpectedEof, InvalidCode, Overflow, OutOfMemory, Refused}
use Rattle.hayro_ccitt.specs.DecodeSettings.{DecodeSettings}
use Rattle.hayro_ccitt.specs.Bits.{Bits, bits_in, bits_of}
use Rattle.hayro_ccitt.specs.RowCursors.{Paused, IsReadingOf, rows_over}
use Rattle.hayro_ccitt.specs.Rows.{Row, changes}
use Rattle.hayro_ccitt.specs.RowsRead.{ReadsNext, at_end_of_rows, ended}
use Rattle.c_rows.specs.Packing.{bytes_of_row, packed_row}
use Rattle.c_rows.specs.declared.reading.Reading.{Reading}
use Rattle.c_rows.specs.declared.row_outcome.RowOutcome.{RowOutcome}
use Rattle.c_rows.specs.declared.status.TheConstants.{OK, UNEXPECTED_EOF, INVALID_CODE, OVERFLOW, OUT_OF_MEMORY}
use Rattle.c_rows.specs.declared.status.TheConstants.{REFUSED, NOT_TAKEN, NO_ROW}

-- whether there was a row
abbrev pub is_row : Result Bool DecodeError → Bool
is_row (Ok more) = more
is_row (Err error) = false

-- the status of a result; no reading of rows refuses one
abbrev pub status_of_row : Result Bool DecodeError → ℕ
status_of_row (Ok true) = OK
status_of_row (Ok false) = NO_ROW
status_of_row (Err UnexpectedEof) = UNEXPECTED_EOF
status_of_row (Err InvalidCode) = INVALID_CODE
status_of_row (Err Overflow) = OVERFLOW
status_of_row (Err OutOfMemory) = OUT_OF_MEMORY
status_of_row (Err Refused) = NOT_TAKEN

-- What a call that reads the next row leaves of a reading of these bits: the row of the plain reading, or its end; and after
-- the end nothing changes. Of other bits nothing is said but that the lists of changes grow no further than a row needs.
pub record ReadsRow (bits : Bits) (old new : Paused) (answer : Result Bool DecodeError) : Type 0 where
  pub reading : IsReadingOf bits old → IsReadingOf bits new
  pub reads : IsReadingOf bits old → ended old.rows.stand ≡ None → ReadsNext (rows_over bits old) (rows_over bits new) answer
  pub over : (end : Result (Unit {0}) DecodeError) → ended old.rows.stand ≡ Some end → (new ≡ old) × (answer ≡ at_end_of_rows end)
  pub order : new.order ≡ old.order
  pub most : new.ctx.space ≤ max old.ctx.space (2 * old.ctx.held.settings.columns + 66)

-- the same, but if the last row is still to be returned nothing is read
abbrev pub TurnsTo : Bool → Bits → Paused → Paused → Result Bool DecodeError → Type 0
TurnsTo true bits old new answer = (new ≡ old) × (answer ≡ Ok true)
TurnsTo false bits old new answer = ReadsRow bits old new answer

-- What a call leaves that returns the next row: a row that there is no room for is kept, and returned by the next call.
pub record GivesRow (input : List ℕ) (old new : Reading) (status : ℕ) : Type 0 where
  pub answer : Result Bool DecodeError
  pub turns : TurnsTo old.is_kept (bits_in old.rows.order input) old.rows new.rows answer
  pub status_is : (status ≡ status_of_row answer) ⊎ ((status ≡ REFUSED) × (answer ≡ Ok true))
  pub kept : (new.is_kept ≡ true) → status ≡ REFUSED
  pub refused : status ≡ REFUSED → new.is_kept ≡ true
  pub black : new.black_is_0 ≡ old.black_is_0

-- the changes of a row are at the front of the caller's memory, and what follows them is unchanged
pub record IsListed (row : Row) (before after : List ℕ) : Type 0 where
  pub room : length (changes row) ≤ length after
  pub row_is : take (length (changes row)) after ≡ changes row
  pub rest : drop (length (changes row)) after ≡ drop (length (changes row)) before

-- a packed row is at the front of the caller's memory, and what follows it is unchanged
pub record IsPacked (black_is_0 : Bool) (columns : ℕ) (row : Row) (before after : List ℕ) : Type 0 where
  pub room : bytes_of_row columns ≤ length after
  pub row_is : bits_of (take (bytes_of_row columns) after) ≡ packed_row black_is_0 row
  pub rest : drop (bytes_of_row columns) after ≡ drop (bytes_of_row columns) before

-- zeros
abbrev pub reported_nothing : RowOutcome
reported_nothing = record {
  rows = 0;
  changes = 0;
  line_start = 0;
  bytes_read = 0;
  damaged_rows = 0;
  damage = 0;
  missed_eols = 0;
  cut_rows = 0;
  is_cut = 0;
  missed_eol = 0;
}

-- the status of the fault of a row that was repaired, 0 for one that was whole
abbrev pub damage_reported : Option DecodeError → ℕ
damage_reported None = 0
damage_reported (Some error) = status_of_row (Err error)

-- 1 if a run of a row was cut, else 0
abbrev pub cut_reported : Bool → ℕ
cut_reported true = 1
cut_reported false = 0

-- the offset of an EOL that was missed, 0 if none was
abbrev pub miss_reported : Option ℕ → ℕ
miss_reported None = 0
miss_reported (Some place) = place

-- What C gets of a reading: the number of rows read, the number of changes of the last one, the offset of its line, the bytes
-- consumed so far, the number of repaired rows, the fault of the last one, the number of missed EOLs, the number of rows in
-- which a run was cut, whether one was in the last row, and the offset at which the last gap lacked an EOL.
pub record TellsOf (paused : Paused) (reported : RowOutcome) : Type 0 where
  pub rows : reported.rows ≡ paused.ctx.held.taken
  pub changes : reported.changes ≡ length (changes paused.ctx.held.reference)
  pub line_start : reported.line_start ≡ paused.rows.started_at
  pub bytes_read : reported.bytes_read ≡ (paused.place + 7) / 8
  pub damaged_rows : reported.damaged_rows ≡ paused.ctx.held.repairs.rows
  pub damage : reported.damage ≡ damage_reported paused.rows.damage
  pub missed_eols : reported.missed_eols ≡ paused.ctx.held.repairs.missed
  pub cut_rows : reported.cut_rows ≡ paused.ctx.held.repairs.cut
  pub is_cut : reported.is_cut ≡ cut_reported paused.rows.cut
  pub missed_eol : reported.missed_eol ≡ miss_reported paused.rows.missed

-- A reading of these bits by these settings before the first row, whose packed rows have 0 for black if it says so.
pub record IsOpened (settings : DecodeSettings) (bits : Bits) (order : BitOrder) (black_is_0 : Bool) (opened : Reading)
    : Type 0 where
  pub reading : IsReadingOf bits opened.rows
  pub settings_are : opened.rows.ctx.held.settings ≡ settings
  pub order_is : opened.rows.order ≡ order
  pub none_read : opened.rows.ctx.held.taken ≡ 0
  pub none_kept : opened.is_kept ≡ false
  pub black : opened.black_is_0 ≡ black_is_0
