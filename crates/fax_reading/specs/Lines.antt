-- One line (T.4, 4.1 and 4.2; T.6, 2.2).
use Rattle.std.specs.Prelude.{ℕ, suc, ◌-◌, Bool, true, false, ◌&&◌, List, [], ◌∷◌, ◌++◌, length, nat_le, Result, Ok, Err}
use Rattle.std.specs.Prelude.{if◌then◌else◌, ℤ, pos, negsuc, ◌+ℤ◌}
use Rattle.fax_bits.specs.declared.codes.Color.{Color}
use Rattle.fax_bits.specs.declared.codes.Color.TheVariants.{White}
use Rattle.fax_bits.specs.declared.codes.Mode.{Mode}
use Rattle.fax_bits.specs.declared.codes.Mode.TheVariants.{Pass, Horizontal, Vertical}
use Rattle.fax_bits.specs.declared.error.DecodeError.{DecodeError}
use Rattle.fax_bits.specs.declared.error.DecodeError.TheVariants.{UnexpectedEof, Overflow}
use Rattle.fax_bits.specs.declared.settings.EncodingMode.{EncodingMode}
use Rattle.fax_bits.specs.declared.settings.EncodingMode.TheVariants.{Group4, Group3_1D, Group3_2D}
use Rattle.fax_bits.specs.Bits.{Bits}
use Rattle.fax_bits.specs.CodeLists.{mode_codes}
use Rattle.fax_bits.specs.CodeReading.{read_code}
use Rattle.fax_bits.specs.Repetition.{Turn, repeated, gathered}
use Rattle.fax_bits.specs.Runs.{run_from}
use Rattle.fax_reading.specs.Rows.{Row, opposite, right_of, b1, b2, paint}
use Rattle.fax_bits.specs.Ticks.{word_found, run_found}

-- a line: the whole row, and the bits after it; or the front that was painted, and the fault (T.4, 4.1 and 4.2; T.6, 2.2)
pub data Line : Type 0 where
  whole : Row → Bits → Line
  broken : Row → DecodeError → Line

-- the pixels painted, the present colour, and the bits from here on (T.4, 4.1.1 and 4.2.1.3)
pub record Pen : Type 0 where
  pub front : Row
  pub color : Color
  pub rest : Bits

-- the start of a line: nothing is painted, and the first run is white (T.4, 4.1.1)
abbrev pub start : Bits → Pen
start rest = record { front = []; color = White; rest = rest }

-- ---- How drawing continues from step to step (auxiliary).

-- what drawing yields: a value to continue with, or the line that ends; and the words found so far
pub record Drawing (A : Type 0) : Type 0 where
  pub turn : Turn A Line
  pub words : List Bits

-- a turn, and the one after it
abbrev pub turn_following : {A B : Type 0} → Turn A Line → (A → Turn B Line) → Turn B Line
turn_following (Turn.next x) after = after x
turn_following (Turn.done line) after = Turn.done line

-- the words that are found after a turn
abbrev pub words_after : {A : Type 0} → Turn A Line → (A → List Bits) → List Bits
words_after (Turn.next x) after = after x
words_after (Turn.done line) after = []

-- one step after another, unless the line ends with the first: the sequence in a `do`
infixl 10 ◌>>=◌
abbrev pub ◌>>=◌ : {A B : Type 0} → Drawing A → (A → Drawing B) → Drawing B
drawing >>= after = record {
  turn = turn_following drawing.turn (λ x. (after x).turn);
  words = drawing.words ++ words_after drawing.turn (λ x. (after x).words);
}

-- drawing continues with this
abbrev pub go_on : {A : Type 0} → A → Drawing A
go_on x = record { turn = Turn.next x; words = [] }

-- a value to continue with; or a fault, which ends the line with the front painted so far
abbrev pub unless_fault : {A : Type 0} → Row → Result A DecodeError → Turn A Line
unless_fault front (Ok x) = Turn.next x
unless_fault front (Err fault) = Turn.done (Line.broken front fault)

-- what a pen reads or paints, if there is no fault, and the words that it finds
abbrev pub finds : {A : Type 0} → Pen → List Bits → Result A DecodeError → Drawing A
finds pen words result = record { turn = unless_fault pen.front result; words = words }

-- ---- What a pen does.

-- the run of the pen's colour here, and the bits after it (T.4, 4.1.1)
abbrev pub run_here : Pen → Drawing (ℕ × Bits)
run_here pen = finds pen (run_found pen.color (0, pen.rest)) (run_from pen.color (0, pen.rest))

-- the mode here, and the bits after it (T.4, 4.2.1.3; T.6, 2.2)
abbrev pub mode_here : Pen → Drawing (Mode × Bits)
mode_here pen = finds pen (word_found mode_codes pen.rest) (read_code mode_codes pen.rest)

-- the front, with n more pixels of the pen's colour (T.4, 4.1.1)
abbrev pub painted : Bool → ℕ → Pen → ℕ → Drawing Row
painted strict columns pen count = finds pen [] (paint strict columns pen.front pen.color count)

-- the front, painted up to a position (T.4, 4.2.1.3)
abbrev pub painted_to : Bool → ℕ → Pen → ℕ → Drawing Row
painted_to strict columns pen place = painted strict columns pen (place - length pen.front)

-- a position, if it is not left of the pixels painted and fits in 32 bits (T.4, 4.2.1.3)
abbrev pub place_from : ℕ → ℤ → Result ℕ DecodeError
place_from painted (pos p) = if nat_le painted p && nat_le p 4294967295 then Ok p else Err Overflow
place_from painted (negsuc p) = Err Overflow

-- the position that a vertical mode names: a distance right of b1, or left of it (T.4, 4.2.1.3)
abbrev pub place_by : Row → Pen → ℤ → Drawing ℕ
place_by reference pen k = finds pen [] (place_from (length pen.front) (pos (b1 reference (right_of pen.front) pen.color) +ℤ k))

-- ---- One step of a line.

-- a line that has all its pixels is whole (T.4, 4.1.1)
abbrev pub unless_full : ℕ → Pen → Drawing Pen
unless_full columns pen =
    record {
      turn = if nat_le columns (length pen.front) then Turn.done (Line.whole pen.front pen.rest) else Turn.next pen;
      words = [];
    }

-- Reads a run of the pen's colour, paints it and turns the colour (T.4, 4.1.1).
abbrev pub draw_run : Bool → ℕ → Pen → Drawing Pen
draw_run strict columns pen = do
  (run, rest) ← run_here pen
  front ← painted strict columns pen run
  go_on (record { front = front; color = opposite pen.color; rest = rest })

-- What a mode draws (T.4, 4.2.1.3). Pass paints up to b2 and keeps the colour; horizontal draws two runs; vertical
-- paints up to a position next to b1 and turns the colour.
abbrev pub draw_mode : Bool → ℕ → Row → Pen → Mode → Drawing Pen
draw_mode strict columns reference pen Pass = do
  front ← painted_to strict columns pen (b2 reference (right_of pen.front) pen.color)
  go_on (record pen { front = front })
draw_mode strict columns reference pen Horizontal = do
  pen ← draw_run strict columns pen
  draw_run strict columns pen
draw_mode strict columns reference pen (Vertical k) = do
  place ← place_by reference pen k
  front ← painted_to strict columns pen place
  go_on (record pen { front = front; color = opposite pen.color })

-- One step of a one-dimensional line: a run, unless the row is full (T.4, 4.1.1).
abbrev pub draw_1d : Bool → ℕ → Pen → Drawing Pen
draw_1d strict columns pen = do
  pen ← unless_full columns pen
  draw_run strict columns pen

-- One step of a two-dimensional line: a mode is read and drawn, unless the row is full (T.4, 4.2.1.3; T.6, 2.2).
abbrev pub draw_2d : Bool → ℕ → Row → Pen → Drawing Pen
draw_2d strict columns reference pen = do
  pen ← unless_full columns pen
  (mode, rest) ← mode_here pen
  draw_mode strict columns reference (record pen { rest = rest }) mode

-- ---- Lines, and the words that they find.

-- steps from a pen on, until the line is whole or broken (T.4, 4.1 and 4.2; T.6, 2.2)
abbrev pub drawn : (Pen → Drawing Pen) → Pen → Line
drawn draw pen = repeated (λ pen. (draw pen).turn) (Line.broken [] UnexpectedEof) (suc (length pen.rest)) pen

-- the words that these steps find (T.4, 4.1 and 4.2; T.6, 2.2)
abbrev pub words_drawn : (Pen → Drawing Pen) → Pen → List Bits
words_drawn draw pen = gathered (λ pen. (draw pen).turn) (λ pen. (draw pen).words) (suc (length pen.rest)) pen

-- A one-dimensional line: runs of alternating colours, white first, until the row is full (T.4, 4.1.1).
abbrev pub line_1d : Bool → ℕ → Bits → Line
line_1d strict columns here = drawn (draw_1d strict columns) (start here)

-- A two-dimensional line, against a reference row: modes until the row is full (T.4, 4.2; T.6, 2.2).
abbrev pub line_2d : Bool → ℕ → Row → Bits → Line
line_2d strict columns reference here = drawn (draw_2d strict columns reference) (start here)

-- the words that a one-dimensional line finds (T.4, 4.1.1)
abbrev pub found_1d : Bool → ℕ → Bits → List Bits
found_1d strict columns here = words_drawn (draw_1d strict columns) (start here)

-- the words that a two-dimensional line finds (T.4, 4.2; T.6, 2.2)
abbrev pub found_2d : Bool → ℕ → Row → Bits → List Bits
found_2d strict columns reference here = words_drawn (draw_2d strict columns reference) (start here)

-- the tag of the line here, in two-dimensional data of T.4 (T.4, 4.2.2)
abbrev pub tag_at : EncodingMode → Bits → Bits
tag_at Group3_2D [] = []
tag_at Group3_2D (tag ∷ here) = tag ∷ []
tag_at Group3_1D here = []
tag_at Group4 here = []

-- the words that the reading of the line here finds, after its tag if it has one (T.4, 4.1 and 4.2; T.6, 2.2)
abbrev pub line_found : EncodingMode → Bool → ℕ → Row → Bits → List Bits
line_found Group3_2D strict columns reference [] = []
line_found Group3_2D strict columns reference (true ∷ here) = found_1d strict columns here
line_found Group3_2D strict columns reference (false ∷ here) = found_2d strict columns reference here
line_found Group3_1D strict columns reference here = found_1d strict columns here
line_found Group4 strict columns reference here = found_2d strict columns reference here
