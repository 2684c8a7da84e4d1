-- What decoding counts: the words that its lines find, and how much at most.
use Rattle.std.specs.Prelude.{ℕ, Bool, ◌+◌, ◌-◌, ◌*◌, ◌≤◌, Result, Ok, Err, List, [], ◌++◌, length, take, drop, map, sum_by}
use Rattle.std.specs.Prelude.{if◌then◌else◌}
use Rattle.fax_bits.specs.declared.codes.Color.{Color}
use Rattle.fax_bits.specs.declared.codes.Mode.{Mode}
use Rattle.fax_bits.specs.declared.codes.Mode.TheVariants.{Pass, Horizontal, Vertical}
use Rattle.fax_bits.specs.declared.error.DecodeError.{DecodeError}
use Rattle.fax_bits.specs.declared.settings.DecodeSettings.{DecodeSettings}
use Rattle.fax_bits.specs.declared.settings.EncodingMode.{EncodingMode}
use Rattle.fax_bits.specs.declared.settings.EncodingMode.TheVariants.{Group4, Group3_1D, Group3_2D}
use Rattle.fax_bits.specs.Bits.{Bits}
use Rattle.fax_bits.specs.CodeLists.{mode_codes}
use Rattle.fax_bits.specs.CodeReading.{read_code}
use Rattle.fax_reading.specs.Lines.{found_1d, line_found}
use Rattle.fax_reading.specs.PlainReading.{Progress, row_before, turns_of}
use Rattle.fax_reading.specs.Rows.{Row, opposite}
use Rattle.fax_bits.specs.Runs.{read_run}
use Rattle.fax_bits.specs.Ticks.{looked, looked_ahead, run_found, word_found}

-- ---- auxiliary: the words that the lines of a reading find, line by line

-- the words that the line here finds, read by the settings (T.4, 4.1 and 4.2; T.6, 2.2)
abbrev pub found_here : DecodeSettings → Row → Bits → List Bits
found_here settings reference here = line_found settings.encoding settings.strict settings.columns reference here

-- those of the line of a turn
abbrev pub words_of_turn : DecodeSettings → Progress → List Bits
words_of_turn settings so_far = found_here settings (row_before settings.columns so_far.rows) so_far.rest

-- The words that the lines of the plain reading find, in the order of `lines_of`.
abbrev pub words_of : DecodeSettings → Bits → List (List Bits)
words_of settings bits = map (words_of_turn settings) (turns_of settings bits)

-- ---- auxiliary: how much is counted

-- A run that accepted this number of rows counted each word that their lines find, and at most this much.
pub record CountsRun (words : List (List Bits)) (taken before after most : ℕ) : Type 0 where
  pub at_least : before + sum_by length (take taken words) ≤ after
  pub at_most : after ≤ before + most

-- the most that a run over this number of bits counts
abbrev pub most_counted : EncodingMode → ℕ → ℕ
most_counted Group4 bits = 22 * bits + 1
most_counted Group3_1D bits = 36 * bits + 14
most_counted Group3_2D bits = 36 * bits + 14

-- What decoding counts: each word that the lines of the accepted rows find; and no more than 128 ticks a bit and 256 more,
-- in Group 4 no more than 22 a bit and one, in Group 3 no more than 36 a bit and 14.
pub record CountsWork (settings : DecodeSettings) (bits : Bits) (taken ticks : ℕ) : Type 0 where
  pub words : sum_by length (take taken (words_of settings bits)) ≤ ticks
  pub bound : ticks ≤ 128 * length bits + 256
  pub closer : ticks ≤ most_counted settings.encoding (length bits)

-- ---- how much is counted if a body is tested

-- The most that the tests of a body between two positions count: each of its bits four times, the zeros after it and the
-- bit that follows them five times, the twelve bits before it, and each word of its line and one more (T.4, 4.1.2).
abbrev pub most_for_body : DecodeSettings → Bits → ℕ → ℕ → ℕ
most_for_body settings bits from to =
    4 * (to - from) + 5 * looked (drop to bits) + length (found_1d settings.strict settings.columns (drop from bits)) + 13

-- ---- how much is counted if lines are passed

-- auxiliary: the words of the second run of a horizontal mode, if the first one is read (T.4, 4.2.1.3)
abbrev pub second_run_found : Color → Result (ℕ × Bits) DecodeError → List Bits
second_run_found color (Ok run) = run_found (opposite color) (0, run.1)
second_run_found color (Err fault) = []

-- auxiliary: the words of the runs after the word of a mode (T.4, 4.2.1.3)
abbrev pub runs_found : Color → Mode → Bits → List Bits
runs_found color Pass rest = []
runs_found color (Vertical k) rest = []
runs_found color Horizontal rest = run_found color (0, rest) ++ second_run_found color (read_run color rest)

-- auxiliary: the same, if the word is read
abbrev pub runs_found_after : Color → Result (Mode × Bits) DecodeError → List Bits
runs_found_after color (Ok mode) = runs_found color mode.0 mode.1
runs_found_after color (Err fault) = []

-- the words that the mode here finds in a line of this colour, with those of its runs, even if one is broken (T.4, 4.2.1.3)
abbrev pub mode_found : Color → Bits → List Bits
mode_found color here = word_found mode_codes here ++ runs_found_after color (read_code mode_codes here)

-- The most that passing lines counts, as long as each is two-dimensional and ends before the next EOL, with this number
-- of bits from the first EOL on: the zeros of an EOL and the bits of a line are examined a few times (T.4, 4.1.2 and 4.2).
abbrev pub most_for_lines : ℕ → ℕ
most_for_lines bits = 6 * bits + 3

-- ---- auxiliary: the account between two rows

-- Of data of this many bits: what was counted, and the changes of the reference row, are paid by the bits that were
-- consumed, by the zeros ahead, and if EOLs aren't sought by what ceasing to seek them may have cost.
abbrev pub IsPaidUpTo : ℕ → ℕ → ℕ → EncodingMode → Bool → ℕ → ℕ → Bits → Type 0
IsPaidUpTo begun bits giving_up encoding has_eols ticks changes here =
    ticks + changes + 16 * length here ≤ begun + 16 * bits + looked_ahead encoding here + 1 + (if has_eols then 0 else giving_up)
