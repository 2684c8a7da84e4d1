-- The words that a line finds, step by step.
use Rattle.fax_reading.proofs.Names.{DecodeSettings, length-append, words_of_mode, common_steps, words_after, unless_fault, Bool}
use Rattle.fax_reading.proofs.Names.{mode_codes, word_found, false≢true, draw_mode, DrawsStep, read_code, run_found, OnAnswer, []}
use Rattle.fax_reading.proofs.Names.{pen_of, false, subst, arith, cond, List, ◌++◌, Mode, Bits, Line, Step, Held, Turn, ◌+◌, ◌*◌}
use Rattle.fax_reading.proofs.Names.{run_from, draw_run, painted, draw_1d, draw_2d, IsFault, redrawn, length, Result, lt-leb, ◌≡◌}
use Rattle.fax_reading.proofs.Names.{step_of_mode, words_of_run, DecodeError, turn_following, words_drawn, step_of_run}
use Rattle.fax_reading.proofs.Names.{append-nil}
use Rattle.fax_reading.proofs.Names.{◌<◌, ◌≤◌, Err, ◌∙◌, Pen, Row, Ok, ap, ℕ}
use Rattle.fax_bits.proofs.{Repetition.Gathered.gathered_turn, CodeWords.RunWords.one_word}
use Rattle.fax_reading.proofs.DrawingLines.Drawings.{step_1d, step_2d}
use Rattle.fax_reading.proofs.DrawingLines.ReadLines.{step_1d_shrinks, step_2d_shrinks, mode_read, pen_left}

-- painting finds no word, nor does what follows it
none_painted : {A : Type 0} (front : Row) (result : Result A DecodeError)
    → ◌≡◌ {A = List Bits} ([] ++ words_after (unless_fault front result) (λ x. [])) []
none_painted front result = grind arith

-- the words of a run that is drawn are those that the run finds
pub words_run : (strict : Bool) (columns : ℕ) (pen : Pen)
    → (draw_run strict columns pen).words ≡ run_found pen.color (0, pen.rest)
words_run strict columns pen = by_result (run_from pen.color (0, pen.rest))
  where
    by_result : (result : Result (ℕ × Bits) DecodeError)
        → run_found pen.color (0, pen.rest) ++ words_after (unless_fault pen.front result)
        (λ run. [] ++ words_after (painted strict columns pen run.0).turn (λ front. [])) ≡ run_found pen.color (0, pen.rest)
    by_result result = grind (arith, none_painted, append-nil)

-- ---- The words that are found from a pen on.

-- what the steps after a step find
abbrev pub found_after : (Pen → List Bits) → Step → List Bits
found_after rest (Turn.next pen) = rest pen
found_after rest (Turn.done line) = []

-- the words that steps find from a pen on
abbrev pub found_1d_from : Bool → ℕ → Pen → List Bits
found_1d_from strict columns pen = words_drawn (draw_1d strict columns) pen

abbrev pub found_2d_from : Bool → ℕ → Row → Pen → List Bits
found_2d_from strict columns reference pen = words_drawn (draw_2d strict columns reference) pen

-- and it is that drawing
unless_full_step : (full : Bool) (line : Line) (pen : Pen) (step : Pen → Step) → full ≡ false
    → turn_following (cond full (Turn.done line) (Turn.next pen)) step ≡ step pen
unless_full_step full line pen step open_row = grind (arith, false≢true)

-- what a step of a two-dimensional line finds and yields, if its row isn't full
abbrev mode_words : Bool → ℕ → Row → Pen → List Bits
mode_words strict columns reference pen = word_found mode_codes pen.rest ++ words_after (unless_fault pen.front
    (read_code mode_codes pen.rest)) (λ mode. (draw_mode strict columns reference (record pen { rest = mode.1 }) mode.0).words)

-- a one-dimensional line whose row isn't full finds the words of its next run, and then those after it
pub found_1d_on : (strict : Bool) (columns : ℕ) (pen : Pen) → length pen.front < columns → found_1d_from strict columns pen
    ≡ (draw_run strict columns pen).words ++ found_after (found_1d_from strict columns) (draw_run strict columns pen).turn
found_1d_on strict columns pen open_row =
    gathered_turn (step_1d strict columns) (λ pen. (draw_1d strict columns pen).words) pen_left (step_1d_shrinks strict columns)
    pen ∙ ap (λ (words : List Bits). words ++ found_after (found_1d_from strict columns) (step_1d strict columns pen))
    (grind (arith, common_steps, false≢true, lt-leb)) ∙ ap (λ (step : Step). (draw_run strict
    columns pen).words ++ found_after (found_1d_from strict columns) step) (grind (arith, common_steps, unless_full_step, lt-leb))

-- a two-dimensional line whose row isn't full finds what reading and drawing its next mode does, and then the words after it
found_2d_turn : (strict : Bool) (columns : ℕ) (reference : Row) (pen : Pen)
    → length pen.front < columns → found_2d_from strict columns reference pen ≡ mode_words strict columns reference pen
    ++ found_after (found_2d_from strict columns reference) (mode_read strict columns reference pen)
found_2d_turn strict columns reference pen open_row = gathered_turn (step_2d strict columns reference)
    (λ pen. (draw_2d strict columns reference pen).words) pen_left (step_2d_shrinks strict columns reference) pen ∙ ap
    (λ (words : List Bits). words ++ found_after (found_2d_from strict columns reference) (step_2d strict columns reference pen))
    (grind (arith, common_steps, false≢true, lt-leb)) ∙ ap (λ (step : Step). mode_words strict columns reference
    pen ++ found_after (found_2d_from strict columns reference) step) (grind (arith, common_steps, unless_full_step, lt-leb))

-- so if there is a mode, its word, those of its drawing, and those after it
pub found_2d_on : (strict : Bool) (columns : ℕ) (reference : Row) (pen : Pen) (mode : Mode) (rest : Bits) → length pen.front
    < columns → read_code mode_codes pen.rest ≡ Ok (mode, rest) → length (found_2d_from strict columns reference pen)
    ≡ 1 + length (draw_mode strict columns reference (record pen { rest = rest }) mode).words + length (found_after
    (found_2d_from strict columns reference) (draw_mode strict columns reference (record pen { rest = rest }) mode).turn)
found_2d_on strict columns reference pen mode rest open_row reads =
    grind (arith, common_steps, found_2d_turn, length-append, one_word)

-- ---- What the calls that draw a step need of them.

-- a context whose row isn't full, in a one-dimensional line: the words of its next run, and those after it
pub counted_by_run : (before now : Held) (at : Bits)
    → now ≡ redrawn before now.front now.color → length now.front < now.settings.columns
    → length (found_1d_from before.settings.strict before.settings.columns (pen_of now at)) ≡ length (words_of_run now at)
    + length (found_after (found_1d_from before.settings.strict before.settings.columns) (step_of_run now at))
counted_by_run before now at kept open_row =
    let words : List Bits = found_after (found_1d_from now.settings.strict now.settings.columns) (step_of_run now at) in
    subst (λ (s : DecodeSettings). length (found_1d_from s.strict s.columns (pen_of now at)) ≡ length (words_of_run now at) +
    length (found_after (found_1d_from s.strict s.columns) (step_of_run now at))) (ap (λ (h : Held). h.settings) kept) (ap length
    (found_1d_on now.settings.strict now.settings.columns (pen_of now at) open_row) ∙ length-append (words_of_run now at) words)

-- and in a two-dimensional one: the word of the mode that is read, those of its drawing, and those after it
pub counted_by_mode : (before now : Held) (at rest : Bits) (mode : Mode) → now ≡ redrawn before now.front now.color → length
    now.front < now.settings.columns → read_code mode_codes at ≡ Ok (mode, rest) → length (found_2d_from before.settings.strict
    before.settings.columns before.reference (pen_of now at)) ≡ 1 + length (words_of_mode now rest mode) + length
    (found_after (found_2d_from before.settings.strict before.settings.columns before.reference) (step_of_mode now rest mode))
counted_by_mode before now at rest mode kept open_row reads =
    subst (λ (r : Row). length (found_2d_from before.settings.strict before.settings.columns r (pen_of now at)) ≡ 1 + length
    (words_of_mode now rest mode) + length (found_after (found_2d_from before.settings.strict before.settings.columns r)
    (step_of_mode now rest mode))) (ap (λ (h : Held). h.reference) kept) (subst (λ (s : DecodeSettings).
    length (found_2d_from s.strict s.columns now.reference (pen_of now at)) ≡ 1 + length (words_of_mode now rest mode) + length
    (found_after (found_2d_from s.strict s.columns now.reference) (step_of_mode now rest mode))) (ap (λ (h : Held). h.settings)
    kept) (found_2d_on now.settings.strict now.settings.columns now.reference (pen_of now at) mode rest open_row reads))

-- a step that ends in a fault of the data is the last to find words
pub none_after_fault : (rest : Pen → List Bits) (step : Step) (fault : DecodeError) (pen : Pen) → IsFault fault
    → DrawsStep step (Err fault) pen → length (found_after rest step) ≡ 0
none_after_fault rest step fault pen is draws = grind (arith, common_steps)

-- Between two modes of a line, of whose words some are found and some are still to come: each word found was counted,
-- as were the changes passed and three more for each word, and nothing if there are no words.
pub record IsCountedSoFar (changes begun now passed all left : ℕ) : Type 0 where
  pub at_least : begun + all ≤ now + left
  pub at_most : now + 4 * left ≤ begun + 4 * all + passed
  pub within : passed ≤ changes
  pub no_words : all ≡ 0 → (now ≡ begun) × (left ≡ 0)

-- what follows from what is true of a result is true of it as well
pub on_answer_weaker : {T P Q : Type 0} (result : Result T DecodeError) → (P → Q) → OnAnswer result P → OnAnswer result Q
on_answer_weaker result follows p = grind arith
