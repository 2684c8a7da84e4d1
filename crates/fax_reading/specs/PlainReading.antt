-- The plain reading of whole data: rows, and how it ends.
use Rattle.std.specs.Prelude.{ℕ, suc, ◌+◌, ◌-◌, ◌/◌, Bool, true, false, not, ◌&&◌, ◌||◌, List, [], ◌∷◌, ◌++◌, length, map}
use Rattle.std.specs.Prelude.{get_or, nat_le, nat_lt, ◌==◌, Option, Some, None, Result, Ok, Err, if◌then◌else◌}
pub use Rattle.fax_bits.specs.Bits.{aligned, at_end}
use Rattle.fax_bits.specs.declared.error.DecodeError.{DecodeError}
use Rattle.fax_bits.specs.declared.error.DecodeError.TheVariants.{UnexpectedEof, InvalidCode}
use Rattle.fax_bits.specs.declared.settings.EncodingMode.{EncodingMode}
use Rattle.fax_bits.specs.declared.settings.EncodingMode.TheVariants.{Group4, Group3_1D, Group3_2D}
use Rattle.fax_bits.specs.declared.settings.DecodeSettings.{DecodeSettings}
use Rattle.fax_bits.specs.Bits.{Bits}
use Rattle.fax_bits.specs.Repetition.{Turn, repeated, gathered}
use Rattle.fax_reading.specs.Rows.{Row, white_row, repaired}
use Rattle.fax_reading.specs.Lines.{Line, line_1d, line_2d}
use Rattle.fax_bits.specs.EndOfLine.{eols, all_eols, tagged_eols, next_eol}

-- ---- auxiliary: the state between two turns, and what a turn yields

-- the state of the reading between turns: the rows so far, whether EOLs are sought, and the bits from here on
pub record Progress : Type 0 where
  pub rows : List Row
  pub has_eols : Bool
  pub rest : Bits

-- how the reading ends: well, having read up to an offset, or with a fault
pub record Ending : Type 0 where
  pub rows : List Row
  pub has_eols : Bool
  pub outcome : Result Bits DecodeError

-- what the turn of one row yields
abbrev pub Move : Type 0
Move = Turn Progress Ending

-- ---- The gap before a line: after the rows so far, is there a line (T.4, 4.1; T.6, 2.4.1)

-- what is between two rows: a line follows, and EOLs are sought from now on or aren't; or the reading ends, well or
-- with a fault
pub data Gap : Type 0 where
  line_at : Bool → Bits → Gap
  over : Result Bits DecodeError → Gap

-- auxiliary: the row limit is met; a limit of 0 is no limit
abbrev pub limit_met : DecodeSettings → ℕ → Bool
limit_met settings taken = not (settings.rows == 0) && (settings.rows == taken)

-- The EOLs here: in Group 4 with `end_of_block` at most the two of EOFB (T.6, 2.4.1.1), in two-dimensional data of Group 3
-- with their tags (T.4, 4.2.2).
abbrev pub eols_by : EncodingMode → Bool → Bits → ℕ × Bits
eols_by Group3_1D end_of_block here = all_eols here
eols_by Group3_2D end_of_block here = tagged_eols here
eols_by Group4 end_of_block here = if end_of_block then eols 2 here else all_eols here

-- auxiliary: the EOLs here, read by the settings
abbrev pub eols_here : DecodeSettings → Bits → ℕ × Bits
eols_here settings here = eols_by settings.encoding settings.end_of_block here

-- as many EOLs are the end: the two of EOFB (T.6, 2.4.1.1), the six of RTC (T.4, 4.1.4)
abbrev pub eols_of_end : EncodingMode → ℕ
eols_of_end Group4 = 2
eols_of_end Group3_1D = 6
eols_of_end Group3_2D = 6

-- this number of EOLs ends the data: EOFB (T.6, 2.4.1.1) or RTC (T.4, 4.1.4), with `end_of_block`
abbrev pub is_end_of_block : DecodeSettings → ℕ → Bool
is_end_of_block settings count = settings.end_of_block && nat_le (eols_of_end settings.encoding) count

-- EOLs were counted after this number of rows: EOFB or RTC with `end_of_block`, the row limit and the end of the data end
-- the reading (T.4, 4.1.4; T.6, 2.4.1.1)
abbrev pub is_over : DecodeSettings → ℕ → ℕ × Bits → Bool
is_over settings taken (count, rest) =
    is_end_of_block settings count || limit_met settings taken || at_end rest

-- a line follows these EOLs, unless the reading is over (T.4, 4.1.4; T.6, 2.4.1.1)
abbrev pub after_eols : DecodeSettings → ℕ → Bool → ℕ × Bits → Gap
after_eols settings taken has_eols (count, rest) =
    if is_over settings taken (count, rest) then Gap.over (Ok rest) else Gap.line_at has_eols rest

-- The next EOL was looked for. If there is one, the EOLs there are counted; else a line is here, and EOLs are no longer
-- sought (T.4, 4.1.2).
abbrev pub from_next_eol : DecodeSettings → ℕ → Bits → Option Bits → Gap
from_next_eol settings taken here (Some found) = after_eols settings taken true (eols_here settings found)
from_next_eol settings taken here None = Gap.line_at false here

-- there is no EOL here, in data that has them: a strict reading fails, and a lenient one looks for the next EOL (T.4,
-- 4.1.2)
abbrev pub missing_eol : DecodeSettings → ℕ → Bits → Gap
missing_eol settings taken here =
    if settings.strict then Gap.over (Err InvalidCode) else from_next_eol settings taken here (next_eol here)

-- there is no EOL after this number of rows, although the data has EOLs, the limit isn't met and bits are left (T.4, 4.1.2)
abbrev pub misses_eol : DecodeSettings → ℕ → Bool → Bits → Bool
misses_eol settings taken has_eols here =
    ((eols_here settings here).0 == 0) && has_eols && not (limit_met settings taken) && not (at_end here)

-- What follows this number of rows: EOLs, which are counted, and searched for if there are none although the data has EOLs,
-- the limit isn't met and bits are left (T.4, 4.1.2).
abbrev pub gap_after_row : DecodeSettings → ℕ → Bool → Bits → Gap
gap_after_row settings taken has_eols here =
    if misses_eol settings taken has_eols here
    then missing_eol settings taken here
    else after_eols settings taken has_eols (eols_here settings here)

-- ---- One row (T.4, 4.1 and 4.2; T.6, 2.2)

-- the next line's reference row: the last row, or a white row before the first line (T.4, 4.2.1.1)
abbrev pub row_before : ℕ → List Row → Row
row_before columns [] = white_row columns
row_before columns (row ∷ []) = row
row_before columns (row ∷ next ∷ rows) = row_before columns (next ∷ rows)

-- The line here: one-dimensional; of the kind that its tag says in two-dimensional data of Group 3 (T.4, 4.2.2); or
-- two-dimensional in Group 4.
abbrev pub line_by : EncodingMode → Bool → ℕ → Row → Bits → Line
line_by Group3_1D strict columns reference here = line_1d strict columns here
line_by Group3_2D strict columns reference [] = Line.broken [] UnexpectedEof
line_by Group3_2D strict columns reference (true ∷ rest) = line_1d strict columns rest
line_by Group3_2D strict columns reference (false ∷ rest) = line_2d strict columns reference rest
line_by Group4 strict columns reference here = line_2d strict columns reference here

-- auxiliary: the line here, read by the settings
abbrev pub line_here : DecodeSettings → Row → Bits → Line
line_here settings reference here = line_by settings.encoding settings.strict settings.columns reference here

-- the bits after a row: where rows are aligned and the data has no EOLs, they begin at a whole byte (T.4, 4.1.3)
abbrev pub aligned_after_row : DecodeSettings → Bool → Bits → Bits
aligned_after_row settings has_eols rest = if settings.rows_are_byte_aligned && not has_eols then aligned rest else rest

-- What a line yields: its row, and the bits after it, or its fault. In lenient data with EOLs a broken row is repaired: its
-- front is continued in white, and the reader goes back to the line's start (T.4, 4.1.2). Data without EOLs, such as those
-- of Group 4, are never repaired (T.6, 2.2).
abbrev pub row_of_line : DecodeSettings → Bool → Bits → Line → Result (Row × Bits) DecodeError
row_of_line settings has_eols start (Line.whole row rest) = Ok (row, aligned_after_row settings has_eols rest)
row_of_line settings has_eols start (Line.broken front fault) =
    if settings.strict || not has_eols then Err fault
    else Ok (repaired settings.columns front, aligned_after_row settings has_eols start)

-- ---- One turn: a row, and the gap after it

-- auxiliary: the reading ends here
abbrev pub ends_with : Progress → Result Bits DecodeError → Move
ends_with so_far outcome = Turn.done (record { rows = so_far.rows; has_eols = so_far.has_eols; outcome = outcome })

-- auxiliary: one row more, and the bits after it
abbrev pub with_row : Progress → Row → Bits → Progress
with_row so_far row rest = record so_far { rows = so_far.rows ++ row ∷ []; rest = rest }

-- auxiliary: the reading continues at a line, or ends there
abbrev pub at_gap : Progress → Gap → Move
at_gap so_far (Gap.over outcome) = ends_with so_far outcome
at_gap so_far (Gap.line_at has_eols here) = Turn.next (record so_far { has_eols = has_eols; rest = here })

-- auxiliary: the gap after the rows so far
abbrev pub pass_gap : DecodeSettings → Progress → Move
pass_gap settings so_far = at_gap so_far (gap_after_row settings (length so_far.rows) so_far.has_eols so_far.rest)

-- auxiliary: a row is added and the gap after it passed, or its fault ends the reading
abbrev pub add_row : DecodeSettings → Progress → Result (Row × Bits) DecodeError → Move
add_row settings so_far (Ok (row, rest)) = pass_gap settings (with_row so_far row rest)
add_row settings so_far (Err fault) = ends_with so_far (Err fault)

-- auxiliary: after a line
abbrev pub after_line : DecodeSettings → Progress → Line → Move
after_line settings so_far line = add_row settings so_far (row_of_line settings so_far.has_eols so_far.rest line)

-- one turn in every encoding, from a line on: its row, and the gap after it (T.4, 4.1 and 4.2; T.6, 2.2)
abbrev pub move_on : DecodeSettings → Progress → Move
move_on settings so_far = after_line settings so_far (line_here settings (row_before settings.columns so_far.rows) so_far.rest)

-- ---- The whole data: the first gap, and turns (T.4, 4.1 and 4.2; T.6, 2.2 and 2.4.1)

-- auxiliary: before the first gap
abbrev pub at_front : Bits → Progress
at_front bits = record { rows = []; has_eols = false; rest = bits }

-- the first line of Group 3: EOLs at the start of the data are read without tags, and say that the data has EOLs (T.4,
-- 4.1.2)
abbrev pub first_line : DecodeSettings → Bits → Progress
first_line settings bits =
    record { rows = []; has_eols = nat_lt 0 (all_eols bits).0 || settings.end_of_line; rest = (all_eols bits).1 }

-- The first gap: in Group 4 as after a row (T.6, 2.4.1.1); in Group 3 the EOLs at the start of the data, and always a line
-- (T.4, 4.1.2). Only here does a reading depend on its encoding as a whole.
abbrev pub first_gap : EncodingMode → DecodeSettings → Bits → Move
first_gap Group4 settings bits = pass_gap settings (at_front bits)
first_gap Group3_1D settings bits = Turn.next (first_line settings bits)
first_gap Group3_2D settings bits = Turn.next (first_line settings bits)

-- how turns from a state end; there are at most two more turns than bits
abbrev pub ending_from : (Progress → Move) → Progress → Ending
ending_from move so_far =
    repeated move (record { rows = so_far.rows; has_eols = so_far.has_eols; outcome = Err UnexpectedEof })
    (suc (suc (length so_far.rest))) so_far

-- auxiliary: how the reading ends after a gap
abbrev pub ending_after : DecodeSettings → Move → Ending
ending_after settings (Turn.next so_far) = ending_from (move_on settings) so_far
ending_after settings (Turn.done end) = end

-- how the reading of data with these settings ends
abbrev pub end_of : DecodeSettings → Bits → Ending
end_of settings bits = ending_after settings (first_gap settings.encoding settings bits)

-- a reading of whole data: the rows, the number of bytes read or the fault, and whether EOLs were sought to the end
pub record Reading : Type 0 where
  pub rows : List Row
  pub outcome : Result ℕ DecodeError
  pub has_eols : Bool

-- the bits that were read, in bytes, the last one rounded up
abbrev pub bytes_before : Bits → Result Bits DecodeError → Result ℕ DecodeError
bytes_before bits (Ok rest) = Ok ((length bits - length rest + 7) / 8)
bytes_before bits (Err fault) = Err fault

-- the reading that ends like this
abbrev pub whole_reading : Bits → Ending → Reading
whole_reading bits end = record { rows = end.rows; outcome = bytes_before bits end.outcome; has_eols = end.has_eols }

-- without columns: no rows, no bytes
abbrev pub nothing_read : Reading
nothing_read = record { rows = []; outcome = Ok 0; has_eols = false }

-- The plain reading of the bits of some data: without columns nothing is read.
abbrev pub plain : DecodeSettings → Bits → Reading
plain settings bits = if settings.columns == 0 then nothing_read else whole_reading bits (end_of settings bits)

-- ---- auxiliary: the turns of a reading, and the lines that they read

-- the states before the turns from a state on, in order
abbrev pub turns_from : (Progress → Move) → Progress → List Progress
turns_from move so_far = gathered move (λ turn. turn ∷ []) (suc (suc (length so_far.rest))) so_far

-- the same after a gap
abbrev pub turns_after : DecodeSettings → Move → List Progress
turns_after settings (Turn.next so_far) = turns_from (move_on settings) so_far
turns_after settings (Turn.done end) = []

-- The states before the turns of the plain reading, in order: the one with index n is before the line that is read after n
-- rows. Without columns there are none.
abbrev pub turns_of : DecodeSettings → Bits → List Progress
turns_of settings bits =
    if settings.columns == 0 then [] else turns_after settings (first_gap settings.encoding settings bits)

-- the line that a turn reads
abbrev pub line_of_turn : DecodeSettings → Progress → Line
line_of_turn settings so_far = line_here settings (row_before settings.columns so_far.rows) so_far.rest

-- The lines that the plain reading reads, in order. The line with index n is read after n rows.
abbrev pub lines_of : DecodeSettings → Bits → List Line
lines_of settings bits = map (line_of_turn settings) (turns_of settings bits)

-- ---- Where lines begin, and where a reading fails

-- auxiliary: the offset of the bits from a turn on, and of those after its row; without a row it is the same
abbrev pub start_of_turn : Bits → Progress → ℕ
start_of_turn bits so_far = length bits - length so_far.rest

-- auxiliary: the offset of the bits after a row; without one, of those from the turn on
abbrev pub end_of_row : Bits → Progress → Result (Row × Bits) DecodeError → ℕ
end_of_row bits so_far (Ok (row, rest)) = length bits - length rest
end_of_row bits so_far (Err fault) = start_of_turn bits so_far

-- auxiliary: the same of the row of a turn
abbrev pub end_of_turn : DecodeSettings → Bits → Progress → ℕ
end_of_turn settings bits so_far =
    end_of_row bits so_far (row_of_line settings so_far.has_eols so_far.rest (line_of_turn settings so_far))

-- where the lines of the plain reading begin: the offset of each one's first bit (T.4, 4.1.1 and 4.2.2)
abbrev pub line_starts : DecodeSettings → Bits → List ℕ
line_starts settings bits = map (start_of_turn bits) (turns_of settings bits)

-- where the gaps after its rows begin: the offset of the first bit after each row (T.4, 4.1.2)
abbrev pub row_ends : DecodeSettings → Bits → List ℕ
row_ends settings bits = map (end_of_turn settings bits) (turns_of settings bits)

-- auxiliary: where a reading fails after this number of rows, if its lines begin and its rows end here
abbrev pub failing_at : List ℕ → List ℕ → ℕ → ℕ
failing_at starts ends taken = get_or starts taken (get_or ends (taken - 1) 0)

-- Where a reading fails after this number of rows: the offset of the first bit of the line there; or, if none begins there,
-- that of the first bit after the last row, where strict data lacks an EOL (T.4, 4.1.2).
abbrev pub failed_at : DecodeSettings → Bits → ℕ → ℕ
failed_at settings bits taken = failing_at (line_starts settings bits) (row_ends settings bits) taken
