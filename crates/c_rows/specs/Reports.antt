-- What C gets of a decoding.
use Rattle.std.specs.Prelude.{sum_by, ◌≡◌, ◌≤◌, ◌<◌, ◌⊎◌, ◌*◌, ℕ, List, length, map, take, drop, sum, min, IfSome, Result}
use Rattle.std.specs.Prelude.{Err, Ok}
use Rattle.hayro_ccitt.specs.DecodeError.{DecodeError}
use Rattle.hayro_ccitt.specs.DecodeError.TheVariants.{UnexpectedEof, InvalidCode, Overflow, OutOfMemory, Refused}
use Rattle.hayro_ccitt.specs.DecodeSettings.{DecodeSettings}
use Rattle.hayro_ccitt.specs.Answers.{PaintsBlack}
use Rattle.hayro_ccitt.specs.Bits.{Bits, BitsFit, bits_of, bits_in}
use Rattle.hayro_ccitt.specs.Damage.{repairs_by_line, cuts_by_line, misses_by_line}
use Rattle.hayro_ccitt.specs.PlainReading.{plain, lines_of, failed_at}
use Rattle.hayro_ccitt.specs.Rows.{changes}
use Rattle.fax_encode.specs.Packed.{packed}
use Rattle.c_rows.specs.Packing.{bytes_of_row, bytes_of_rows, packed_row, rows_at, outside_rows}
use Rattle.c_rows.specs.Listing.{listed}
use Rattle.c_rows.specs.Settings.{settings_of, order_of}
use Rattle.c_rows.specs.declared.packed_rows.Layout.{Layout}
use Rattle.c_rows.specs.declared.report.Outcome.{Outcome}
use Rattle.c_rows.specs.declared.settings.Settings.{Settings}
use Rattle.c_rows.specs.declared.status.TheConstants.{OK, UNEXPECTED_EOF, INVALID_CODE, OVERFLOW, OUT_OF_MEMORY, REFUSED}

-- the status of a result
abbrev pub status_of : Result ℕ DecodeError → ℕ
status_of (Ok count) = OK
status_of (Err UnexpectedEof) = UNEXPECTED_EOF
status_of (Err InvalidCode) = INVALID_CODE
status_of (Err Overflow) = OVERFLOW
status_of (Err OutOfMemory) = OUT_OF_MEMORY
status_of (Err Refused) = REFUSED

-- the number of bytes that a result says were read
abbrev pub bytes_read_of : Result ℕ DecodeError → ℕ
bytes_read_of (Ok count) = count
bytes_read_of (Err error) = 0

-- How decoding may end after this number of rows: after all of them, as the plain reading does; with an allocation
-- failure, before it begins or while a line that paints black is read; or because the next row was refused.
abbrev pub EndsAfter : DecodeSettings → Bits → ℕ → Result ℕ DecodeError → Type 0
EndsAfter settings bits taken (Ok count) =
    (taken ≡ length (plain settings bits).rows) × ((plain settings bits).outcome ≡ Ok count)
EndsAfter settings bits taken (Err UnexpectedEof) =
    (taken ≡ length (plain settings bits).rows) × ((plain settings bits).outcome ≡ Err UnexpectedEof)
EndsAfter settings bits taken (Err InvalidCode) =
    (taken ≡ length (plain settings bits).rows) × ((plain settings bits).outcome ≡ Err InvalidCode)
EndsAfter settings bits taken (Err Overflow) =
    (taken ≡ length (plain settings bits).rows) × ((plain settings bits).outcome ≡ Err Overflow)
EndsAfter settings bits taken (Err OutOfMemory) =
    (taken ≤ length (plain settings bits).rows) × ((taken ≡ 0) ⊎ PaintsBlack (lines_of settings bits) taken)
EndsAfter settings bits taken (Err Refused) = taken < length (plain settings bits).rows

-- where such an end is: at no offset if there is no fault; else where the reading fails, or at 0 if an allocation failed before
-- it began
abbrev pub FailsAt : DecodeSettings → Bits → ℕ → Result ℕ DecodeError → ℕ → Type 0
FailsAt settings bits taken (Ok count) place = place ≡ 0
FailsAt settings bits taken (Err error) place =
    (place ≡ failed_at settings bits taken) ⊎ ((error ≡ OutOfMemory) × (taken ≡ 0) × (place ≡ 0))

-- what C gets: a status, the number of rows accepted, the number of bytes read, and the offset of the fault
pub record IsReport (settings : DecodeSettings) (bits : Bits) (status rows bytes_read fault_start : ℕ) : Type 0 where
  pub answer : Result ℕ DecodeError
  pub ends : EndsAfter settings bits rows answer
  pub status_is : status ≡ status_of answer
  pub bytes_are : bytes_read ≡ bytes_read_of answer
  pub fault_is : FailsAt settings bits rows answer fault_start

-- the number of changes of the first `taken` rows, saturated at the greatest value of 64 bits
abbrev pub changes_taken : DecodeSettings → Bits → ℕ → ℕ
changes_taken settings bits taken =
    min (sum (map (λ row. length (changes row)) (take taken (plain settings bits).rows))) 18446744073709551615

-- the number of repaired rows among the first n (T.4, 4.1.2)
abbrev pub damaged_taken : DecodeSettings → Bits → ℕ → ℕ
damaged_taken settings bits taken = sum_by length (take taken (repairs_by_line settings bits))

-- the number of those after which the EOL was missed (T.4, 4.1.2)
abbrev pub missed_taken : DecodeSettings → Bits → ℕ → ℕ
missed_taken settings bits taken = sum_by length (take taken (misses_by_line settings bits))

-- the number of those in which a run was cut (T.4, 4.1.1 and 4.2.1.3)
abbrev pub cut_taken : DecodeSettings → Bits → ℕ → ℕ
cut_taken settings bits taken = sum_by length (take taken (cuts_by_line settings bits))

-- these three numbers, of the first rows (T.4, 4.1.1 and 4.1.2)
pub record TellsDamage (settings : DecodeSettings) (bits : Bits) (rows damaged_rows missed_eols cut_rows : ℕ) : Type 0 where
  pub damaged : damaged_rows ≡ damaged_taken settings bits rows
  pub missed : missed_eols ≡ missed_taken settings bits rows
  pub cut : cut_rows ≡ cut_taken settings bits rows

-- what C gets
abbrev pub outcome_of : ℕ → ℕ → ℕ → ℕ → ℕ → ℕ → ℕ → Outcome
outcome_of rows changes bytes_read damaged_rows fault_start missed_eols cut_rows = record {
  rows = rows;
  changes = changes;
  bytes_read = bytes_read;
  damaged_rows = damaged_rows;
  fault_start = fault_start;
  missed_eols = missed_eols;
  cut_rows = cut_rows;
}

-- a statement about the settings that C passes, if they are valid, and about the bits of the data in the order that C
-- passes, if the data isn't too long
abbrev pub OnSettings : Settings → List ℕ → (DecodeSettings → Bits → Type 0) → Type 0
OnSettings settings input P = BitsFit input → IfSome (settings_of settings) (λ s. P s (bits_in (order_of settings) input))

-- The first packed rows, this many, are in the caller's memory, by this layout, and what is outside them is unchanged.
pub record ArePacked (layout : Layout) (settings : DecodeSettings) (bits : Bits) (taken : ℕ) (before after : List ℕ)
    : Type 0 where
  pub rows : rows_at layout.stride settings.columns taken after
      ≡ map (packed_row layout.black_is_0) (take taken (plain settings bits).rows)
  pub others : outside_rows layout.stride settings.columns taken after ≡ outside_rows layout.stride settings.columns taken before
  pub room : bytes_of_rows layout.stride settings.columns taken ≤ length after

-- The same of rows that follow one another, with 1 for black: memory begins with their bits, and what follows them is unchanged.
pub record AreTogether (settings : DecodeSettings) (bits : Bits) (taken : ℕ) (before after : List ℕ) : Type 0 where
  pub rows : bits_of (take (taken * bytes_of_row settings.columns) after) ≡ packed (take taken (plain settings bits).rows)
  pub rest : drop (taken * bytes_of_row settings.columns) after ≡ drop (taken * bytes_of_row settings.columns) before
  pub room : taken * bytes_of_row settings.columns ≤ length after

-- the number of numbers that the lists of the first `taken` rows occupy
abbrev pub numbers_taken : DecodeSettings → Bits → ℕ → ℕ
numbers_taken settings bits taken = length (listed (take taken (plain settings bits).rows))

-- The caller's memory begins with the lists of the first rows, this many, and what follows them is unchanged.
pub record AreListed (settings : DecodeSettings) (bits : Bits) (taken : ℕ) (before after : List ℕ) : Type 0 where
  pub rows : take (numbers_taken settings bits taken) after ≡ listed (take taken (plain settings bits).rows)
  pub rest : drop (numbers_taken settings bits taken) after ≡ drop (numbers_taken settings bits taken) before
