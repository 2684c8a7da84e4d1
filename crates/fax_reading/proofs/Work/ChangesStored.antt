-- A row has no more changes than its line found words, and a repaired one no more than one besides.
use Rattle.fax_reading.proofs.Names.{common_steps, ◌≡◌, ℕ, zero, suc, ◌+◌, ◌<◌, ◌≤◌, Bool, false, cond, leb, List, []}
use Rattle.fax_reading.proofs.Names.{◌++◌, length, replicate, Result, Ok, Err, refl, ap, ◌∙◌, arith, append-nil, Color}
use Rattle.fax_reading.proofs.Names.{length-append, Mode, Pass, Horizontal, Vertical, DecodeError, UnexpectedEof, EncodingMode}
use Rattle.fax_reading.proofs.Names.{Step, front_of, Bits, mode_codes, read_code, Line, Pen, Drawing, start, turn_following}
use Rattle.fax_reading.proofs.Names.{draw_1d}
use Rattle.fax_reading.proofs.Names.{words_after, unless_fault, mode_here, draw_run, draw_mode, draw_2d, line_1d}
use Rattle.fax_reading.proofs.Names.{line_2d, found_1d, found_2d, line_found, ◌>>=◌, line_by, Turn, repeated, gathered, Row}
use Rattle.fax_reading.proofs.Names.{changes, opposite, paint, repaired, white_row, run_from, word_found, run_found}
use Rattle.fax_reading.proofs.PixelRows.ChangesAndPixels.{changes-recursive}
use Rattle.fax_reading.proofs.PixelRows.RowChanges.{changes_from, changes_from-append, changes_from-same}
use Rattle.fax_reading.proofs.{DrawingLines.CountedLines.words_run, DrawingLines.Drawings.try, CodeWords.WordsFound.run_stands}
use Rattle.fax_bits.proofs.CodeWords.{RunWords.one_word, ReadRuns.chosen, ReadRuns.run_shorter}

-- how many changes a row has
abbrev count : Row → ℕ
count row = length (changes_from 0 false row)

-- painting adds one change at most
count_painted : (front : Row) (n : ℕ) (color : Bool) → count (front ++ replicate n color) ≤ suc (count front)
count_painted front n color = grind (arith, append-nil, changes_from-append, length-append, changes_from-same)

count_paint : (strict : Bool) (columns : ℕ) (front : Row) (color : Color) (n : ℕ) (new : Row)
    → paint strict columns front color n ≡ Ok new → count new ≤ suc (count front)
count_paint strict columns front color n new e = grind (arith, common_steps, chosen, count_painted)

-- ---- A step adds no more changes than it finds words.

abbrev LineCount : ℕ → Line → Type 0
LineCount n line = count (front_of line) ≤ n

abbrev StepCount : ℕ → Step → Type 0
StepCount n (Turn.next pen) = count pen.front ≤ n
StepCount n (Turn.done line) = LineCount n line

step_more : (n m : ℕ) (step : Step) → n ≤ m → StepCount n step → StepCount m step
step_more n m step le few = grind arith

-- a run
run_count : (strict : Bool) (columns : ℕ) (pen : Pen)
    → StepCount (count pen.front + length (draw_run strict columns pen).words) (draw_run strict columns pen).turn
run_count strict columns pen = step_more (count pen.front + length found)
    (count pen.front + length (draw_run strict columns pen).words) (draw_run strict columns pen).turn
    (omega (arith, ap length (words_run strict columns pen))) (by_run_from (run_from pen.color (0, pen.rest)) refl)
  where
    found : List Bits
    found = run_found pen.color (0, pen.rest)

    after : ℕ × Bits → Step
    after run = try pen.front (paint strict columns pen.front pen.color run.0)
        (λ front. Turn.next (record { front = front; color = opposite pen.color; rest = run.1 }))

    painted : (run : ℕ × Bits) → 0 < length found → (r : Result Row DecodeError)
        → paint strict columns pen.front pen.color run.0 ≡ r → StepCount (count pen.front + length found)
        (try pen.front r (λ front. Turn.next (record { front = front; color = opposite pen.color; rest = run.1 })))
    painted run some r e = grind (arith, count_paint)

    by_run_from : (r : Result (ℕ × Bits) DecodeError) → run_from pen.color (0, pen.rest) ≡ r
        → StepCount (count pen.front + length found) (try pen.front r after)
    by_run_from (Ok run) e =
        painted run (grind (arith, common_steps, run_stands pen.color 0 pen.rest, run_shorter pen.color 0 pen.rest run.0 run.1 e))
        (paint strict columns pen.front pen.color run.0) refl
    by_run_from (Err fault) e = omega arith

-- what is tried adds at most what it yields
try_count : {A : Type 0} (n : ℕ) (front : Row) (r : Result A DecodeError) (after : A → Step) → count front ≤ n
    → ((x : A) → r ≡ Ok x → StepCount n (after x)) → StepCount n (try front r after)
try_count n front r after le each = grind arith

-- two runs
after_run_count : (strict : Bool) (columns n : ℕ) (words : List Bits) (turn : Step) → StepCount (n + length words) turn
    → StepCount (n + length (words ++ words_after turn (λ pen. (draw_run strict columns pen).words)))
    (turn_following turn (λ pen. (draw_run strict columns pen).turn))
after_run_count strict columns n words (Turn.next pen) few =
    step_more (count pen.front + length (draw_run strict columns pen).words) _ (draw_run strict columns pen).turn
    (omega (arith, few, length-append words (draw_run strict columns pen).words)) (run_count strict columns pen)
after_run_count strict columns n words (Turn.done line) few = omega (arith, few, length-append words [])

-- a mode, after its word
mode_count : (strict : Bool) (columns : ℕ) (reference : Row) (pen : Pen) (mode : Mode) → StepCount (count pen.front
    + suc (length (draw_mode strict columns reference pen mode).words)) (draw_mode strict columns reference pen mode).turn
mode_count strict columns reference pen Pass = grind (arith, step_more, try_count, count_paint)
mode_count strict columns reference pen Horizontal = step_more (count pen.front + length (draw_mode strict columns reference pen
    Horizontal).words) _ (draw_mode strict columns reference pen Horizontal).turn (omega arith) (after_run_count strict columns
    (count pen.front) (draw_run strict columns pen).words (draw_run strict columns pen).turn (run_count strict columns pen))
mode_count strict columns reference pen (Vertical k) = grind (arith, common_steps, try, step_more, try_count, count_paint)

-- a mode that is read and drawn
read_mode_count : (strict : Bool) (columns : ℕ) (reference : Row) (pen : Pen) → StepCount (count pen.front
    + length (mode_here pen >>= (λ mode. draw_mode strict columns reference (record pen { rest = mode.1 }) mode.0)).words)
    (mode_here pen >>= (λ mode. draw_mode strict columns reference (record pen { rest = mode.1 }) mode.0)).turn
read_mode_count strict columns reference pen = by_read_code (read_code mode_codes pen.rest) refl
  where
    on : Mode × Bits → Drawing Pen
    on mode = draw_mode strict columns reference (record pen { rest = mode.1 }) mode.0

    by_read_code : (r : Result (Mode × Bits) DecodeError) → read_code mode_codes pen.rest ≡ r → StepCount (count pen.front
        + length (word_found mode_codes pen.rest ++ words_after (unless_fault pen.front r) (λ mode. (on mode).words)))
        (turn_following (unless_fault pen.front r) (λ mode. (on mode).turn))
    by_read_code r e = grind (arith, step_more, one_word, length-append, mode_count)

-- a step, unless the row is full
unless_full_count : (full : Bool) (pen : Pen) (draw : Pen → Drawing Pen)
    → StepCount (count pen.front + length (draw pen).words) (draw pen).turn → StepCount (count pen.front
    + length ([] ++ words_after (cond full (Turn.done (Line.whole pen.front pen.rest)) (Turn.next pen)) (λ p. (draw p).words)))
    (turn_following (cond full (Turn.done (Line.whole pen.front pen.rest)) (Turn.next pen)) (λ p. (draw p).turn))
unless_full_count full pen draw few = grind arith

step_2d_count : (strict : Bool) (columns : ℕ) (reference : Row) (pen : Pen) → StepCount
    (count pen.front + length (draw_2d strict columns reference pen).words) (draw_2d strict columns reference pen).turn
step_2d_count strict columns reference pen =
    unless_full_count (leb columns (length pen.front)) pen (λ p. mode_here p >>= (λ mode. draw_mode strict columns reference
    (record p { rest = mode.1 }) mode.0)) (read_mode_count strict columns reference pen)

-- ---- And so does a line.

pen_count : (step : Pen → Step) (gives : Pen → List Bits)
    → ((pen : Pen) → StepCount (count pen.front + length (gives pen)) (step pen)) → (n : ℕ) (pen : Pen)
    → LineCount (count pen.front + length (gathered step gives n pen)) (repeated step (Line.broken [] UnexpectedEof) n pen)
pen_count step gives each zero pen = omega arith
pen_count step gives each (suc n) pen = grind (arith, pen_count step gives each n, length-append)

line_1d_count : (strict : Bool) (columns : ℕ) (here : Bits)
    → LineCount (length (found_1d strict columns here)) (line_1d strict columns here)
line_1d_count strict columns here = omega (
  arith,
  pen_count (λ pen. (draw_1d strict columns pen).turn) (λ pen. (draw_1d strict columns pen).words) (λ pen. unless_full_count
      (leb columns (length pen.front)) pen (draw_run strict columns) (run_count strict columns pen))
      (suc (length here)) (start here),
)

line_2d_count : (strict : Bool) (columns : ℕ) (reference : Row) (here : Bits)
    → LineCount (length (found_2d strict columns reference here)) (line_2d strict columns reference here)
line_2d_count strict columns reference here = grind (arith, common_steps, pen_count, step_2d_count)

-- the row of a line, or the front of a broken one, has no more changes than the line finds words
pub changes_found : (encoding : EncodingMode) (strict : Bool) (columns : ℕ) (reference : Row) (here : Bits) → length (changes
    (front_of (line_by encoding strict columns reference here))) ≤ length (line_found encoding strict columns reference here)
changes_found encoding strict columns reference here =
    grind (arith, common_steps, line_1d_count, line_2d_count, changes-recursive)

-- and a repaired row at most one more than its front
pub changes_repaired : (columns : ℕ) (front : Row) → length (changes (repaired columns front)) ≤ suc (length (changes front))
changes_repaired columns front = grind (arith, common_steps, count_painted, changes-recursive)

-- a white row has none
pub changes_white : (columns : ℕ) → length (changes (white_row columns)) ≡ 0
changes_white columns = ap length (changes-recursive (white_row columns) ∙ changes_from-same 0 columns false)
