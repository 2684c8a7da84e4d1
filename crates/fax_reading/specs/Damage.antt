-- Damage that a lenient reading passes: runs that it cuts, and in Group 3 data with EOLs rows that it repairs and EOLs that it
-- misses (T.4, 4.1.1 and 4.1.2).
use Rattle.std.specs.Prelude.{ℕ, zero, suc, ◌+◌, ◌-◌, Bool, true, false, not, ◌&&◌, ◌||◌, List, [], ◌∷◌, ◌++◌, length, map}
use Rattle.std.specs.Prelude.{flat_map, Option, Some, None, if◌then◌else◌, get_or}
use Rattle.fax_bits.specs.declared.error.DecodeError.{DecodeError}
use Rattle.fax_bits.specs.declared.error.DecodeError.TheVariants.{InvalidCode}
use Rattle.fax_bits.specs.declared.settings.DecodeSettings.{DecodeSettings}
use Rattle.fax_reading.specs.Answers.{is_broken}
use Rattle.fax_bits.specs.Bits.{Bits}
use Rattle.fax_reading.specs.Lines.{Line}
use Rattle.fax_reading.specs.PlainReading.{Progress, turns_of, line_of_turn, misses_eol, aligned_after_row}

-- damage: the index of the row, an offset in bits, and the fault. It is the offset of the line's first bit, where the line is
-- repaired or a run of it is cut; or that at which an EOL is missed after a whole line.
pub record Damaged : Type 0 where
  pub row : ℕ
  pub start : ℕ
  pub fault : DecodeError

-- ---- Rows that are repaired

-- what is repaired of a line that begins at this offset: a broken one, in lenient data with EOLs (T.4, 4.1.2)
abbrev pub repaired_in : DecodeSettings → Bool → ℕ → ℕ → Line → List Damaged
repaired_in settings has_eols row start (Line.whole pixels rest) = []
repaired_in settings has_eols row start (Line.broken front fault) =
    if settings.strict || not has_eols then [] else record { row = row; start = start; fault = fault } ∷ []

-- the fault of what is repaired of a line, if anything is
abbrev pub fault_in : List Damaged → Option DecodeError
fault_in [] = None
fault_in (damaged ∷ more) = Some damaged.fault

-- auxiliary: of the line of a turn
abbrev pub repaired_by_turn : DecodeSettings → Bits → Progress → List Damaged
repaired_by_turn settings bits so_far =
    repaired_in settings so_far.has_eols (length so_far.rows) (length bits - length so_far.rest) (line_of_turn settings so_far)

-- What is repaired of each line of the plain reading, in the order of `lines_of`: one row or none.
abbrev pub repairs_by_line : DecodeSettings → Bits → List (List Damaged)
repairs_by_line settings bits = map (repaired_by_turn settings bits) (turns_of settings bits)

-- The rows that the plain reading repairs, in order (T.4, 4.1.2).
abbrev pub repairs_of : DecodeSettings → Bits → List Damaged
repairs_of settings bits = flat_map (λ repaired. repaired) (repairs_by_line settings bits)

-- ---- Rows in which a run is cut

-- A run of a line is cut, as it is read and as a strict reading has it: it is whole as it is read, and broken for the strict one.
-- Only where a run or a vertical mode goes beyond the row's end do the two differ (T.4, 4.1.1 and 4.2.1.3).
abbrev pub cuts_run : Line → Line → Bool
cuts_run (Line.whole row rest) strict = is_broken strict
cuts_run (Line.broken front fault) strict = false

-- auxiliary: the line of a turn, as a strict reading has it
abbrev pub strict_line_of_turn : DecodeSettings → Progress → Line
strict_line_of_turn settings so_far = line_of_turn (record settings { strict = true }) so_far

-- auxiliary: what is cut of the line of a turn
abbrev pub cut_by_turn : DecodeSettings → Bits → Progress → List Damaged
cut_by_turn settings bits so_far =
    if cuts_run (line_of_turn settings so_far) (strict_line_of_turn settings so_far)
    then record { row = length so_far.rows; start = length bits - length so_far.rest; fault = InvalidCode } ∷ []
    else []

-- What is cut of each line of the plain reading, in the order of `lines_of`: one row or none.
abbrev pub cuts_by_line : DecodeSettings → Bits → List (List Damaged)
cuts_by_line settings bits = map (cut_by_turn settings bits) (turns_of settings bits)

-- The rows in which the plain reading cuts a run, in order (T.4, 4.1.1 and 4.2.1.3).
abbrev pub cuts_of : DecodeSettings → Bits → List Damaged
cuts_of settings bits = flat_map (λ cut. cut) (cuts_by_line settings bits)

-- whether anything is cut of a line
abbrev pub cut_in : List Damaged → Bool
cut_in [] = false
cut_in (cut ∷ more) = true

-- ---- EOLs that are missed

-- what is missed after a line: its EOL, if the line is whole and other bits follow, in lenient data with EOLs (T.4, 4.1.2)
abbrev pub missed_after : DecodeSettings → Bits → Progress → Line → List Damaged
missed_after settings bits so_far (Line.whole row rest) =
    if misses_eol settings (length so_far.rows + 1) so_far.has_eols
    (aligned_after_row settings so_far.has_eols rest) && not settings.strict
    then record {
      row = length so_far.rows;
      start = length bits - length (aligned_after_row settings so_far.has_eols rest);
      fault = InvalidCode;
    } ∷ []
    else []
missed_after settings bits so_far (Line.broken front fault) = []

-- auxiliary: after the line of a turn
abbrev pub missed_by_turn : DecodeSettings → Bits → Progress → List Damaged
missed_by_turn settings bits so_far = missed_after settings bits so_far (line_of_turn settings so_far)

-- What is missed after each line of the plain reading, in the order of `lines_of`: one EOL or none.
abbrev pub misses_by_line : DecodeSettings → Bits → List (List Damaged)
misses_by_line settings bits = map (missed_by_turn settings bits) (turns_of settings bits)

-- The EOLs that the plain reading misses, in order (T.4, 4.1.2).
abbrev pub misses_of : DecodeSettings → Bits → List Damaged
misses_of settings bits = flat_map (λ missed. missed) (misses_by_line settings bits)

-- the offset of what is missed after a line, if anything is
abbrev pub start_in : List Damaged → Option ℕ
start_in [] = None
start_in (missed ∷ more) = Some missed.start

-- where the EOL was missed in the gap before the line after this number of rows, if it was (T.4, 4.1.2)
abbrev pub missed_before : DecodeSettings → Bits → ℕ → Option ℕ
missed_before settings bits zero = None
missed_before settings bits (suc row) = start_in (get_or (misses_by_line settings bits) row [])

-- ---- All damage

-- auxiliary: of a turn
abbrev pub damaged_by_turn : DecodeSettings → Bits → Progress → List Damaged
damaged_by_turn settings bits so_far =
    repaired_by_turn settings bits so_far ++ (cut_by_turn settings bits so_far ++ missed_by_turn settings bits so_far)

-- All damage that the plain reading passes, in order: each row that it repairs, each in which it cuts a run, and each after which
-- it misses the EOL (T.4, 4.1.1 and 4.1.2).
abbrev pub damage_of : DecodeSettings → Bits → List Damaged
damage_of settings bits = flat_map (damaged_by_turn settings bits) (turns_of settings bits)
