-- The turns of drawing, one after another.
use Rattle.fax_reading.proofs.Names.{arith, common_steps, ◌≡◌, ℕ, suc, Bool, cond, leb, [], length, Result, Mode, Horizontal}
use Rattle.fax_reading.proofs.Names.{DecodeError, UnexpectedEof, Step, Bits, mode_codes, read_code, Turn, repeated, Row, opposite}
use Rattle.fax_reading.proofs.Names.{paint, run_from, Line, Pen, turn_following, unless_fault, draw_run, draw_mode, draw_1d}
use Rattle.fax_reading.proofs.Names.{draw_2d}

-- what comes of a value, or the line that a fault ends
abbrev pub try : {A : Type 0} → Row → Result A DecodeError → (A → Step) → Step
try front result after = turn_following (unless_fault front result) after

-- a run that is read and painted, and a step after it
abbrev pub run_then : Bool → ℕ → Pen → (Pen → Step) → Step
run_then strict columns pen after = try pen.front (run_from pen.color (0, pen.rest)) (λ run. try pen.front (paint strict columns
    pen.front pen.color run.0) (λ front. after (record { front = front; color = opposite pen.color; rest = run.1 })))

-- the step of a mode
abbrev pub mode_step : Bool → ℕ → Row → Pen → Mode → Step
mode_step strict columns reference pen mode = (draw_mode strict columns reference pen mode).turn

-- a step, unless the line is whole
abbrev pub step_unless_full : ℕ → Pen → Step → Step
step_unless_full columns pen step = cond (leb columns (length pen.front)) (Turn.done (Line.whole pen.front pen.rest)) step

-- a step of a one-dimensional line
abbrev pub step_1d : Bool → ℕ → Pen → Step
step_1d strict columns pen = (draw_1d strict columns pen).turn

-- a step of a two-dimensional line
abbrev pub step_2d : Bool → ℕ → Row → Pen → Step
step_2d strict columns reference pen = (draw_2d strict columns reference pen).turn

-- steps from a pen on, until the line is whole or broken
abbrev pub drawn_by : (Pen → Step) → Pen → Line
drawn_by step pen = repeated step (Line.broken [] UnexpectedEof) (suc (length pen.rest)) pen

-- a step of a one-dimensional line is a run, unless the line is whole
pub step_1d_is : (strict : Bool) (columns : ℕ) (pen : Pen)
    → step_1d strict columns pen ≡ step_unless_full columns pen (run_then strict columns pen Turn.next)
step_1d_is strict columns pen = grind (arith, common_steps)

-- a step of a two-dimensional line is the mode that is read, unless the line is whole
pub step_2d_is : (strict : Bool) (columns : ℕ) (reference : Row) (pen : Pen)
    → step_2d strict columns reference pen ≡ step_unless_full columns pen (try pen.front (read_code mode_codes pen.rest)
    (λ mode. mode_step strict columns reference (record pen { rest = mode.1 }) mode.0))
step_2d_is strict columns reference pen = grind (arith, common_steps)

-- a step after a run is the run, and then that step
pub run_then_is : (strict : Bool) (columns : ℕ) (pen : Pen) (after : Pen → Step)
    → run_then strict columns pen after ≡ turn_following (draw_run strict columns pen).turn after
run_then_is strict columns pen after = by_result (run_from pen.color (0, pen.rest))
  where
    by_result : (r : Result (ℕ × Bits) DecodeError) → try pen.front r (λ run. try pen.front (paint strict
        columns pen.front pen.color run.0) (λ front. after (record { front = front; color = opposite pen.color; rest = run.1 })))
        ≡ turn_following (try pen.front r (λ run. try pen.front (paint strict columns pen.front pen.color run.0)
        (λ front. Turn.next (record { front = front; color = opposite pen.color; rest = run.1 })))) after
    by_result r = grind (arith)

-- the two runs of a horizontal mode
pub horizontal_is : (strict : Bool) (columns : ℕ) (reference : Row) (pen : Pen)
    → run_then strict columns pen (λ p. run_then strict columns p Turn.next) ≡ mode_step strict columns reference pen Horizontal
horizontal_is strict columns reference pen = run_then_is strict columns pen (λ p. run_then strict columns p Turn.next)
