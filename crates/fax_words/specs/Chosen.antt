-- The encoding that an encoder chooses among those of a picture (T.4, 4.1 and 4.2.1.3; T.6, 2.2).
use Rattle.std.specs.Prelude.{ℕ, suc, ◌+◌, ◌-◌, ◌/◌, ◌%◌, ◌==◌, Bool, true, false, ◌&&◌, nat_le, nat_lt, List, [], ◌∷◌, ◌++◌}
use Rattle.std.specs.Prelude.{length, replicate, flat_map, map, pos, negsuc, if◌then◌else◌, All}
use Rattle.fax_bits.specs.declared.codes.Color.{Color}
use Rattle.fax_bits.specs.declared.codes.Color.TheVariants.{White}
use Rattle.fax_bits.specs.declared.codes.Mode.{Mode}
use Rattle.fax_bits.specs.declared.codes.Mode.TheVariants.{Pass, Horizontal, Vertical}
use Rattle.fax_bits.specs.Bits.{Bits}
use Rattle.fax_bits.specs.CodeLists.{Code, mode_codes}
use Rattle.fax_bits.specs.Runs.{codes_of}
use Rattle.fax_bits.specs.Repetition.{Turn, gathered}
use Rattle.fax_reading.specs.Rows.{AreChanges, Row, white_row, opposite, changes, pixels, b1, b2, a1, a2}
use Rattle.fax_reading.specs.Encodings.{padding, eol}

-- ---- code words

-- the word of the first value of a list that passes a test
abbrev pub word_of : {V : Type 0} → (V → Bool) → List (Code V) → Bits
word_of test [] = []
word_of test (c ∷ list) = if test c.value then c.word else word_of test list

-- the word of a colour for a length (T.4, tables 2 and 3)
abbrev pub word_of_length : Color → ℕ → Bits
word_of_length color n = word_of (λ m. m == n) (codes_of color)

-- whether two modes are the same
abbrev pub same_mode : Mode → Mode → Bool
same_mode Pass Pass = true
same_mode Horizontal Horizontal = true
same_mode (Vertical (pos m)) (Vertical (pos n)) = m == n
same_mode (Vertical (negsuc m)) (Vertical (negsuc n)) = m == n
same_mode _ _ = false

-- the word of a mode (T.4, table 4; T.6, table 1)
abbrev pub word_of_mode : Mode → Bits
word_of_mode mode = word_of (same_mode mode) mode_codes

-- ---- runs

-- less than 2560 pixels: a make-up word for the whole times 64, if there are any, and a terminating word
abbrev pub chosen_rest : Color → ℕ → Bits
chosen_rest color n = (if nat_lt n 64 then [] else word_of_length color (n - n % 64)) ++ word_of_length color (n % 64)

-- the words of 2560, as many as fit, and then the rest (T.4, 4.1.1)
abbrev pub chosen_run : Color → ℕ → Bits
chosen_run color n = flat_map (λ word. word) (replicate (n / 2560) (word_of_length color 2560)) ++ chosen_rest color (n % 2560)

-- ---- one-dimensional lines

-- the runs from a position on, up to each change and up to the width
abbrev pub chosen_runs : ℕ → Color → ℕ → List ℕ → Bits
chosen_runs width color place [] = chosen_run color (width - place)
chosen_runs width color place (change ∷ changes) =
    chosen_run color (change - place) ++ chosen_runs width (opposite color) change changes

-- the runs of a row, white first (T.4, 4.1.1)
abbrev pub chosen_line_1d : Row → Bits
chosen_line_1d row = chosen_runs (length row) White 0 (changes row)

-- ---- two-dimensional lines

-- the state of a line's coding: the first position right of a0, and the present colour
pub record Place : Type 0 where
  pub from : ℕ
  pub color : Color

-- the vertical mode from b1 to a1
abbrev pub vertical_mode : ℕ → ℕ → Mode
vertical_mode b1 a1 = if nat_le b1 a1 then Vertical (pos (a1 - b1)) else Vertical (negsuc (b1 - a1 - 1))

-- a1 is at most three positions from b1
abbrev pub is_near : ℕ → ℕ → Bool
is_near b1 a1 = nat_le a1 (b1 + 3) && nat_le b1 (a1 + 3)

-- The mode: pass where b2 is left of a1; else vertical where a1 is near b1; else horizontal (T.4, 4.2.1.3.2).
abbrev pub chosen_mode : Row → Row → Place → Mode
chosen_mode reference row at =
    if nat_lt (b2 reference at.from at.color) (a1 row at.from) then Pass
    else (if is_near (b1 reference at.from at.color) (a1 row at.from) then vertical_mode (b1 reference at.from at.color)
    (a1 row at.from)
    else Horizontal)

-- the runs after a mode's word: in horizontal mode from a0 to a1 and from a1 to a2
abbrev pub runs_of_mode : Row → Place → Mode → Bits
runs_of_mode row at Pass = []
runs_of_mode row at (Vertical k) = []
runs_of_mode row at Horizontal =
    chosen_run at.color (a1 row at.from - (at.from - 1)) ++ chosen_run (opposite at.color) (a2 row at.from - a1 row at.from)

-- the new position: a0 is b2 and the colour is kept after pass; it is a1, and the colour turns, after vertical; and a2
-- after horizontal (T.4, 4.2.1.3.1)
abbrev pub place_after : Row → Row → Place → Mode → Place
place_after reference row at Pass = record at { from = suc (b2 reference at.from at.color) }
place_after reference row at (Vertical k) = record { from = suc (a1 row at.from); color = opposite at.color }
place_after reference row at Horizontal = record at { from = suc (a2 row at.from) }

-- the line is complete once a0 is the row's end
abbrev pub is_coded : Row → Place → Bool
is_coded row at = nat_lt (length row) at.from

-- one mode further on
abbrev pub next_place : Row → Row → Place → Turn Place (Unit {0})
next_place reference row at =
    if is_coded row at then Turn.done tt else Turn.next (place_after reference row at (chosen_mode reference row at))

-- the bits of one mode
abbrev pub bits_at : Row → Row → Place → Bits
bits_at reference row at =
    if is_coded row at then []
    else word_of_mode (chosen_mode reference row at) ++ runs_of_mode row at (chosen_mode reference row at)

-- the modes from a position to the row's end
abbrev pub chosen_from : Row → Row → Place → Bits
chosen_from reference row at = gathered (next_place reference row) (bits_at reference row) (suc (suc (length row) - at.from)) at

-- the modes of a row, from the position left of it (T.4, 4.2.1.3)
abbrev pub chosen_line_2d : Row → Row → Bits
chosen_line_2d reference row = chosen_from reference row (record { from = 0; color = White })

-- ---- pictures

-- lines of T.6 in order, each filled up to a whole byte where they are aligned
abbrev pub chosen_lines_2d : Bool → Row → List Row → Bits
chosen_lines_2d aligned reference [] = []
chosen_lines_2d aligned reference (row ∷ rows) =
    chosen_line_2d reference row ++ (if aligned then padding (length (chosen_line_2d reference row)) else [])
    ++ chosen_lines_2d aligned row rows

-- A picture of T.6: its lines and EOFB (T.6, 2.4.1.1).
abbrev pub chosen_t6 : ℕ → Bool → List Row → Bits
chosen_t6 columns aligned rows = chosen_lines_2d aligned (white_row columns) rows ++ eol 0 ++ eol 0

-- lines of T.4 in order, an EOL before each (T.4, 4.1.2)
abbrev pub chosen_lines_1d : List Row → Bits
chosen_lines_1d rows = flat_map (λ row. eol 0 ++ chosen_line_1d row) rows

-- RTC: six EOLs (T.4, 4.1.4)
abbrev pub return_to_control : Bits
return_to_control = eol 0 ++ eol 0 ++ eol 0 ++ eol 0 ++ eol 0 ++ eol 0

-- A picture of one-dimensional T.4: its lines and RTC.
abbrev pub chosen_t4 : List Row → Bits
chosen_t4 rows = chosen_lines_1d rows ++ return_to_control

-- ---- bytes

-- the bits, filled up with zeros to a whole byte
abbrev pub filled_up : Bits → Bits
filled_up bits = bits ++ padding (length bits)

-- the rows of lists of changes
abbrev pub rows_of : ℕ → List (List ℕ) → List Row
rows_of columns lists = map (pixels columns) lists

-- all lists are rows of the width
abbrev pub AreRows : ℕ → List (List ℕ) → Type 0
AreRows columns lists = All (AreChanges columns) lists
