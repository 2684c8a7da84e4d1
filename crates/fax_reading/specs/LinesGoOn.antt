-- A line that goes on where its bits ended: a part of it, and the line from that part on (T.4, 4.1.1, 4.2.1.3 and 4.2.2; T.6,
-- 2.2).
use Rattle.std.specs.Prelude.{◌≡◌, ℕ, ◌+◌, ◌<◌, Bool, true, false, [], ◌∷◌, ◌++◌, length, Result, Ok, Err, nat_lt}
use Rattle.std.specs.Prelude.{if◌then◌else◌}
use Rattle.fax_bits.specs.declared.codes.Mode.{Mode}
use Rattle.fax_bits.specs.declared.codes.Mode.TheVariants.{Pass, Horizontal, Vertical}
use Rattle.fax_bits.specs.declared.error.DecodeError.{DecodeError}
use Rattle.fax_bits.specs.declared.error.DecodeError.TheVariants.{UnexpectedEof, Overflow}
use Rattle.fax_bits.specs.declared.settings.DecodeSettings.{DecodeSettings}
use Rattle.fax_bits.specs.declared.settings.EncodingMode.{EncodingMode}
use Rattle.fax_bits.specs.declared.settings.EncodingMode.TheVariants.{Group4, Group3_1D, Group3_2D}
use Rattle.fax_bits.specs.Bits.{Bits}
use Rattle.fax_bits.specs.CodeLists.{mode_codes}
use Rattle.fax_bits.specs.CodeReading.{read_code}
use Rattle.fax_bits.specs.Repetition.{Turn}
use Rattle.fax_bits.specs.Runs.{codes_of, run_from}
use Rattle.fax_bits.specs.Ticks.{run_found, word_found}
use Rattle.fax_reading.specs.Continuations.{is_short, line_before}
use Rattle.fax_reading.specs.Lines.{Line, Pen, Drawing, start, draw_1d, draw_2d, draw_run, drawn, finds, go_on, mode_here}
use Rattle.fax_reading.specs.Lines.{painted, painted_to, place_by, unless_full, ◌>>=◌, line_1d, line_2d}
use Rattle.fax_reading.specs.PlainReading.{line_here}
use Rattle.fax_reading.specs.Rows.{Row, opposite, right_of, b2}

-- ---- A part of a line, and the line from there.

-- A run of which words are read: whether its line is two-dimensional, whether another run follows it in its horizontal mode, and
-- the sum of its words so far (T.4, 4.1.1 and 4.2.1.3).
pub record OpenRun : Type 0 where
  pub is_2d : Bool
  pub another : Bool
  pub total : ℕ

-- Where in a line its reading is: at its start, before its tag if it has one; before a mode of a two-dimensional line, or a run
-- of a one-dimensional one; or within a run (T.4, 4.1.1, 4.2.1.3 and 4.2.2; T.6, 2.2).
pub data LinePart : Type 0 where
  begins : Bits → LinePart
  at_step : Bool → Pen → LinePart
  in_run : OpenRun → Pen → LinePart

-- the bits that are left to read
abbrev pub left_of : LinePart → Bits
left_of (LinePart.begins here) = here
left_of (LinePart.at_step is_2d pen) = pen.rest
left_of (LinePart.in_run run pen) = pen.rest

-- the same part of a line, where more bits follow
abbrev pub part_before : Bits → LinePart → LinePart
part_before more (LinePart.begins here) = LinePart.begins (here ++ more)
part_before more (LinePart.at_step is_2d pen) = LinePart.at_step is_2d (record pen { rest = pen.rest ++ more })
part_before more (LinePart.in_run run pen) = LinePart.in_run run (record pen { rest = pen.rest ++ more })

-- a step of a line: of a two-dimensional one, or of a one-dimensional one (T.4, 4.1.1 and 4.2.1.3)
abbrev pub draw_step : Bool → Bool → ℕ → Row → Pen → Drawing Pen
draw_step true strict columns reference pen = draw_2d strict columns reference pen
draw_step false strict columns reference pen = draw_1d strict columns pen

-- the rest of a run whose words so far sum to a total, and the bits after it (T.4, 4.1.1)
abbrev pub rest_of_run : ℕ → Pen → Drawing (ℕ × Bits)
rest_of_run total pen = finds pen (run_found pen.color (total, pen.rest)) (run_from pen.color (total, pen.rest))

-- Reads the rest of a run, paints the run and turns the colour (T.4, 4.1.1).
abbrev pub finish_run : Bool → ℕ → ℕ → Pen → Drawing Pen
finish_run strict columns total pen = do
  (run, rest) ← rest_of_run total pen
  front ← painted strict columns pen run
  go_on (record { front = front; color = opposite pen.color; rest = rest })

-- the same, with the run that follows it in its horizontal mode, if one does (T.4, 4.2.1.3)
abbrev pub finish_step : Bool → ℕ → OpenRun → Pen → Drawing Pen
finish_step strict columns run pen = do
  pen ← finish_run strict columns run.total pen
  if run.another then draw_run strict columns pen else go_on pen

-- the line, where a turn goes on to this or ends it (auxiliary)
abbrev pub line_after_turn : (Pen → Line) → Turn Pen Line → Line
line_after_turn after (Turn.next pen) = after pen
line_after_turn after (Turn.done line) = line

-- The line from a part of it on (T.4, 4.1 and 4.2; T.6, 2.2).
abbrev pub line_from_part : DecodeSettings → Row → LinePart → Line
line_from_part settings reference (LinePart.begins here) = line_here settings reference here
line_from_part settings reference (LinePart.at_step is_2d pen) =
    drawn (draw_step is_2d settings.strict settings.columns reference) pen
line_from_part settings reference (LinePart.in_run run pen) =
    line_after_turn (drawn (draw_step run.is_2d settings.strict settings.columns reference))
    (finish_step settings.strict settings.columns run pen).turn

-- ---- One word more.

-- the word of a run here, and the bits after it (T.4, 4.1.1)
abbrev pub word_here : Pen → Drawing (ℕ × Bits)
word_here pen = finds pen (word_found (codes_of pen.color) pen.rest) (read_code (codes_of pen.color) pen.rest)

-- the sum of a run's words with one more, unless it has more than 32 bits (T.4, 4.1.1)
abbrev pub sum_with : ℕ → ℕ → Result ℕ DecodeError
sum_with total n = if nat_lt 4294967295 (total + n) then Err Overflow else Ok (total + n)

-- where a line goes on after a run: with the other run of its horizontal mode, or with the next step (T.4, 4.1.1 and 4.2.1.3)
abbrev pub after_run : OpenRun → Pen → LinePart
after_run run pen =
    if run.another then LinePart.in_run (record { is_2d = run.is_2d; another = false; total = 0 }) pen
    else LinePart.at_step run.is_2d pen

-- a run whose words sum to this: it is painted, and the colour is turned; or, after a make-up word, it goes on (T.4, 4.1.1)
abbrev pub run_summed : Bool → ℕ → OpenRun → Pen → ℕ → ℕ → Drawing LinePart
run_summed strict columns run pen n total =
    if nat_lt n 64 then (do
      front ← painted strict columns pen total
      go_on (after_run run (record pen { front = front; color = opposite pen.color })))
    else go_on (LinePart.in_run (record run { total = total }) pen)

-- what a word of a run adds to it (T.4, 4.1.1)
abbrev pub word_added : Bool → ℕ → OpenRun → Pen → ℕ → Drawing LinePart
word_added strict columns run pen n = do
  total ← finds pen [] (sum_with run.total n)
  run_summed strict columns run pen n total

-- what a mode draws before the next word (T.4, 4.2.1.3)
abbrev pub mode_added : Bool → ℕ → Row → Pen → Mode → Drawing LinePart
mode_added strict columns reference pen Pass = do
  front ← painted_to strict columns pen (b2 reference (right_of pen.front) pen.color)
  go_on (LinePart.at_step true (record pen { front = front }))
mode_added strict columns reference pen Horizontal =
    go_on (LinePart.in_run (record { is_2d = true; another = true; total = 0 }) pen)
mode_added strict columns reference pen (Vertical k) = do
  place ← place_by reference pen k
  front ← painted_to strict columns pen place
  go_on (LinePart.at_step true (record pen { front = front; color = opposite pen.color }))

-- a step is begun: a mode is read, or a run is begun, unless the row is full (T.4, 4.1.1 and 4.2.1.3)
abbrev pub begin_step : Bool → Bool → ℕ → Row → Pen → Drawing LinePart
begin_step true strict columns reference pen = do
  (mode, rest) ← mode_here pen
  mode_added strict columns reference (record pen { rest = rest }) mode
begin_step false strict columns reference pen =
    go_on (LinePart.in_run (record { is_2d = false; another = false; total = 0 }) pen)

-- a line is begun: its tag is read, if it has one (T.4, 4.2.2)
abbrev pub begin_line : EncodingMode → Bits → Drawing LinePart
begin_line Group3_1D here = go_on (LinePart.at_step false (start here))
begin_line Group3_2D [] = record { turn = Turn.done (Line.broken [] UnexpectedEof); words = [] }
begin_line Group3_2D (true ∷ here) = go_on (LinePart.at_step false (start here))
begin_line Group3_2D (false ∷ here) = go_on (LinePart.at_step true (start here))
begin_line Group4 here = go_on (LinePart.at_step true (start here))

-- One word more: the part that it leads to, or the line, if that ends with it (T.4, 4.1.1, 4.2.1.3 and 4.2.2; T.6, 2.2).
abbrev pub read_on : DecodeSettings → Row → LinePart → Drawing LinePart
read_on settings reference (LinePart.begins here) = begin_line settings.encoding here
read_on settings reference (LinePart.at_step is_2d pen) = do
  pen ← unless_full settings.columns pen
  begin_step is_2d settings.strict settings.columns reference pen
read_on settings reference (LinePart.in_run run pen) = do
  (n, rest) ← word_here pen
  word_added settings.strict settings.columns run (record pen { rest = rest }) n

-- ---- The law.

-- The next word isn't whole: the bits from here to the end are the beginning of a word of the list that is read next, or there is
-- no tag (T.4, 4.1.1, 4.2.1.3 and 4.2.2; T.6, 2.2).
abbrev pub LacksWord : LinePart → Type 0
LacksWord (LinePart.begins here) = here ≡ []
LacksWord (LinePart.at_step true pen) = read_code mode_codes pen.rest ≡ Err UnexpectedEof
LacksWord (LinePart.at_step false pen) = read_code (codes_of pen.color) pen.rest ≡ Err UnexpectedEof
LacksWord (LinePart.in_run run pen) = read_code (codes_of pen.color) pen.rest ≡ Err UnexpectedEof

-- The line here goes on from this part of it, whatever bits follow: what was read isn't read again. The next word isn't whole, so
-- fewer than thirteen bits are left (T.4, 4.1 and 4.2; T.6, 2.2).
pub record GoesOnFrom (settings : DecodeSettings) (reference : Row) (here : Bits) (part : LinePart) : Type 0 where
  pub line : (more : Bits)
      → line_here settings reference (here ++ more) ≡ line_from_part settings reference (part_before more part)
  pub read : (taken : Bits) × (here ≡ taken ++ left_of part)
  pub lacks : LacksWord part
  pub few : length (left_of part) < 13

-- Each short line goes on from a part of it. The line from its start on is the line. Where one word more leads to another part,
-- the line from there on is the same, whatever follows; and where the line ends with it and isn't short, it ends so whatever
-- follows (T.4, 4.1 and 4.2; T.6, 2.2).
pub record LinesGoOn : Type 0 where
  pub start_1d : (settings : DecodeSettings) (reference : Row) (here : Bits)
      → line_from_part settings reference (LinePart.at_step false (start here)) ≡ line_1d settings.strict settings.columns here
  pub start_2d : (settings : DecodeSettings) (reference : Row) (here : Bits)
      → line_from_part settings reference (LinePart.at_step true (start here))
      ≡ line_2d settings.strict settings.columns reference here
  pub word : (settings : DecodeSettings) (reference : Row) (part next : LinePart)
      → (read_on settings reference part).turn ≡ Turn.next next → (more : Bits)
      → line_from_part settings reference (part_before more part) ≡ line_from_part settings reference (part_before more next)
  pub ends : (settings : DecodeSettings) (reference : Row) (part : LinePart) (line : Line)
      → (read_on settings reference part).turn ≡ Turn.done line → is_short line ≡ false → (more : Bits)
      → line_from_part settings reference (part_before more part) ≡ line_before more line
  pub short : (settings : DecodeSettings) (reference : Row) (here : Bits) → is_short (line_here settings reference here) ≡ true
      → (part : LinePart) × GoesOnFrom settings reference here part
