-- The damage of some data as lines of text.
use Rattle.std.specs.Prelude.{◌≡◌, ◌≢◌, ℕ, zero, suc, List, [], ◌∷◌, ◌++◌, length, take, get_or, sum_by, codes, decimal, Option}
use Rattle.std.specs.Prelude.{None, Some, Ok, Err, Bool, true, false}
use Rattle.hayro_ccitt.specs.DecodeError.{DecodeError}
use Rattle.hayro_ccitt.specs.DecodeError.TheVariants.{OutOfMemory}
use Rattle.hayro_ccitt.specs.DecodeSettings.{DecodeSettings}
use Rattle.hayro_ccitt.specs.Bits.{Bits}
use Rattle.hayro_ccitt.specs.Damage.{cut_in, cuts_by_line, fault_in, misses_by_line, repairs_by_line, start_in}
use Rattle.hayro_ccitt.specs.PlainReading.{line_starts, failed_at}
use Rattle.hayro_ccitt.specs.RowsRead.{RowsRead}
use Rattle.hayro_ccitt.specs.Texts as library
use Rattle.faxrows_lib.specs.Runs.{Outcome, EndsAfter, IsTextOfEnd, rows_of, outcome_of}
use Rattle.faxrows_lib.specs.declared.program.Done.{Done}

-- a number, and a sign after it
abbrev pub number_and : ℕ → ℕ → List ℕ
number_and number sign = decimal number ++ sign ∷ []

-- a word, and two numbers with a space after each
abbrev pub numbered : List ℕ → ℕ → ℕ → List ℕ
numbered word first second = word ++ (number_and first 32 ++ number_and second 32)

-- a fault, up to the line's end
abbrev pub end_with_fault : DecodeError → List ℕ
end_with_fault fault = library.text_of fault ++ 10 ∷ []

-- The line of a row, if a run of it was cut: `cut`, its index, and the offset in bits at which its line begins (T.4, 4.1.1 and
-- 4.2.1.3).
abbrev pub line_of_cut : ℕ → ℕ → Bool → List ℕ
line_of_cut row start true = codes "cut " ++ (number_and row 32 ++ number_and start 10)
line_of_cut row start false = []

-- The line of a row, if it was repaired: `damaged`, its index, the offset in bits at which its line begins, and the fault (T.4,
-- 4.1.2). That of a run that was cut, if it was whole.
abbrev pub line_of_damage : ℕ → ℕ → Option DecodeError → Bool → List ℕ
line_of_damage row start None cut = line_of_cut row start cut
line_of_damage row start (Some fault) cut = numbered (codes "damaged ") row start ++ end_with_fault fault

-- The line of an EOL that is missed after a row: `missed`, the row's index, and the offset in bits at which it is expected (T.4,
-- 4.1.2).
abbrev pub line_of_miss : ℕ → Option ℕ → List ℕ
line_of_miss row None = []
line_of_miss row (Some start) = codes "missed " ++ (number_and row 32 ++ number_and start 10)

-- those of the row with this index, and of the EOL after it (T.4, 4.1.2)
abbrev pub repair_of_row : DecodeSettings → Bits → ℕ → List ℕ
repair_of_row settings bits row =
    line_of_damage row (get_or (line_starts settings bits) row 0) (fault_in (get_or (repairs_by_line settings bits) row []))
    (cut_in (get_or (cuts_by_line settings bits) row []))

abbrev pub miss_of_row : DecodeSettings → Bits → ℕ → List ℕ
miss_of_row settings bits row = line_of_miss row (start_in (get_or (misses_by_line settings bits) row []))

abbrev pub damage_of_row : DecodeSettings → Bits → ℕ → List ℕ
damage_of_row settings bits row = repair_of_row settings bits row ++ miss_of_row settings bits row

-- the lines of the first n rows
abbrev pub damage_lines : DecodeSettings → Bits → ℕ → List ℕ
damage_lines settings bits zero = []
damage_lines settings bits (suc row) = damage_lines settings bits row ++ damage_of_row settings bits row

-- the number of repaired rows among the first n
abbrev pub damaged_among : DecodeSettings → Bits → ℕ → ℕ
damaged_among settings bits rows = sum_by length (take rows (repairs_by_line settings bits))

-- The last line: `ok`, the rows, the number of them that were repaired, and the byte count; or `error`, the index of the row
-- that can't be read, the offset in bits at which its line begins, or at which its EOL is missing, and the error (T.4, 4.1.2).
abbrev pub last_line_of_damage : DecodeSettings → Bits → ℕ → Outcome → List ℕ
last_line_of_damage settings bits rows (Ok count) =
    numbered (codes "ok ") rows (damaged_among settings bits rows) ++ number_and count 10
last_line_of_damage settings bits rows (Err error) =
    numbered (codes "error ") rows (failed_at settings bits rows) ++ end_with_fault error

-- what is written of the damage after this number of rows, and how the reading ended
abbrev pub damage_after : DecodeSettings → Bits → ℕ → Outcome → List ℕ
damage_after settings bits rows outcome = damage_lines settings bits rows ++ last_line_of_damage settings bits rows outcome

-- all that is written of the damage
abbrev pub whole_damage : DecodeSettings → Bits → List ℕ
whole_damage settings bits = damage_after settings bits (length (rows_of settings bits)) (outcome_of settings bits)

-- the damage of the rows that were read, and the line of the allocation failure that ended the reading there
abbrev pub IsDamageWithoutMemory : DecodeSettings → Bits → List ℕ → Type 0
IsDamageWithoutMemory settings bits text =
    (read : ℕ) × EndsAfter settings bits read (Err OutOfMemory) × (text ≡ damage_after settings bits read (Err OutOfMemory))

-- what a run writes of the damage of some data that ends like this
abbrev pub IsDamageText : DecodeSettings → Bits → Done → List ℕ → Type 0
IsDamageText settings bits done =
    IsTextOfEnd done (outcome_of settings bits) (whole_damage settings bits) (IsDamageWithoutMemory settings bits)

-- ---- How far the rows are read whose damage is reported

-- none is read, and reading hasn't failed
pub record IsAtFirstRow (rows : RowsRead) : Type 0 where
  pub none_read : rows.taken ≡ 0
  pub unfailed : (error : DecodeError) → rows.end ≢ Some (Err error)

-- the settings and the data are the same
pub record IsOfSameData (old new : RowsRead) : Type 0 where
  pub settings : new.settings ≡ old.settings
  pub bits : new.bits ≡ old.bits
