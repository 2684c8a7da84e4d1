-- Lines, a step at a time.
use Rattle.fax_reading.proofs.Names.{Row, Pen, [], Ok}
use Rattle.fax_reading.proofs.Names.{UnexpectedEof, common_steps, DecodeError, Horizontal, mode_codes, read_code, leb-true, subst}
use Rattle.fax_reading.proofs.Names.{Vertical, opposite, run_from, line_1d, line_2d, length, Result, arith, paint, start, Bool, ℕ}
use Rattle.fax_reading.proofs.Names.{true, Mode, Pass, Bits, Turn, Line, Step, refl, ◌∙◌, sym, ◌≡◌, suc, ◌<◌, ◌≤◌, ◌⊎◌, inr}
use Rattle.fax_bits.proofs.CodeWords.ReadRuns.{read_code_shorter, has_no_empty_word, run_shorter, chosen}
use Rattle.fax_bits.proofs.Repetition.Repeated.{repeated_keeps, repeated_turn, after_turn, not_next, Shrinks, next_is}
use Rattle.fax_reading.proofs.DrawingLines.Drawings.{run_then, step_1d, step_2d, try}
use Rattle.fax_reading.proofs.DrawingLines.Drawings.{step_unless_full, horizontal_is, step_1d_is, step_2d_is, mode_step, drawn_by}

pub modes_not_empty : has_no_empty_word mode_codes ≡ true
modes_not_empty = refl

-- what continued had no fault
pub try_next : {A : Type 0} (front : Row) (r : Result A DecodeError) (f : A → Step) (t : Pen) → try front r f ≡ Turn.next t
    → (x : A) × (r ≡ Ok x) × (f x ≡ Turn.next t)
try_next front r f t e = grind (arith, not_next)

pub unless_full_next : (columns : ℕ) (pen : Pen) (step : Step) (t : Pen) → step_unless_full columns pen step ≡ Turn.next t
    → step ≡ Turn.next t
unless_full_next columns pen step t e = grind (arith, common_steps, chosen, not_next)

abbrev pub pen_left : Pen → ℕ
pen_left pen = length pen.rest

-- a run that was drawn consumed bits
draw_run_next : (strict : Bool) (columns : ℕ) (pen : Pen) (f : Pen → Step) (t : Pen) → run_then strict columns pen f ≡ Turn.next t
    → (p : Pen) × (f p ≡ Turn.next t) × (pen_left p < pen_left pen)
draw_run_next strict columns pen f t e =
    let a = try_next pen.front (run_from pen.color (0, pen.rest)) (λ run. try pen.front (paint strict columns pen.front pen.color
    run.0) (λ front. f (record { front = front; color = opposite pen.color; rest = run.1 }))) t e in
    let b = try_next pen.front (paint strict columns pen.front pen.color a.0.0)
    (λ front. f (record { front = front; color = opposite pen.color; rest = a.0.1 })) t a.2 in
    (record { front = b.0; color = opposite pen.color; rest = a.0.1 }, b.2, run_shorter pen.color 0 pen.rest a.0.0 a.0.1 a.1)

pub drawn_run_shorter : (strict : Bool) (columns : ℕ) (s t : Pen) → run_then strict columns s Turn.next ≡ Turn.next t
    → pen_left t < pen_left s
drawn_run_shorter strict columns s t e = grind (arith, common_steps, draw_run_next strict columns s Turn.next t e)

pub step_1d_shrinks : (strict : Bool) (columns : ℕ) → Shrinks (step_1d strict columns) pen_left
step_1d_shrinks strict columns s t e =
    drawn_run_shorter strict columns s t (unless_full_next columns s _ t (sym (step_1d_is strict columns s) ∙ e))

pub draw_mode_next : (strict : Bool) (columns : ℕ) (reference : Row) (pen : Pen) (mode : Mode) (t : Pen)
    → mode_step strict columns reference pen mode ≡ Turn.next t → pen_left t ≤ pen_left pen
draw_mode_next strict columns reference pen Pass t e = grind (arith, common_steps, try_next)
draw_mode_next strict columns reference pen Horizontal t e = let a = draw_run_next strict columns pen
    (λ pen. run_then strict columns pen Turn.next) t (horizontal_is strict columns reference pen ∙ e) in
    grind (arith, common_steps, draw_run_next strict columns a.0 Turn.next t a.1, next_is)
draw_mode_next strict columns reference pen (Vertical k) t e = grind (arith, common_steps, try_next)

pub step_2d_shrinks : (strict : Bool) (columns : ℕ) (reference : Row) → Shrinks (step_2d strict columns reference) pen_left
step_2d_shrinks strict columns reference s t e =
    let a = try_next s.front (read_code mode_codes s.rest) (λ mode. mode_step strict columns reference
    (record s { rest = mode.1 }) mode.0) t (unless_full_next columns s _ t (sym (step_2d_is strict columns reference s) ∙ e)) in
    let c = read_code_shorter mode_codes s.rest a.0.0 a.0.1 modes_not_empty a.1 in
    omega (arith, draw_mode_next, c)

-- the rule of a line: one step, and the line from there
pub drawn1 : (strict : Bool) (columns : ℕ) (pen : Pen)
    → drawn_by (step_1d strict columns) pen ≡ after_turn (drawn_by (step_1d strict columns)) (step_1d strict columns pen)
drawn1 strict columns pen =
    repeated_turn (step_1d strict columns) (Line.broken [] UnexpectedEof) pen_left (step_1d_shrinks strict columns) pen

pub drawn2 : (strict : Bool) (columns : ℕ) (reference : Row) (pen : Pen) → drawn_by (step_2d strict columns reference) pen
    ≡ after_turn (drawn_by (step_2d strict columns reference)) (step_2d strict columns reference pen)
drawn2 strict columns reference pen = repeated_turn (step_2d strict columns reference) (Line.broken [] UnexpectedEof) pen_left
    (step_2d_shrinks strict columns reference) pen

-- ---- A whole line consumed bits.
abbrev pub EndsNoLine : Step → Type 0
EndsNoLine (Turn.next t) = Unit {0}
EndsNoLine (Turn.done (Line.broken front fault)) = Unit {0}
EndsNoLine (Turn.done (Line.whole row rest)) = ⊥

pub try_goes_on : {A : Type 0} (front : Row) (r : Result A DecodeError) (f : A → Step) → ((x : A) → EndsNoLine (f x))
    → EndsNoLine (try front r f)
try_goes_on front r f g = grind arith

pub draw_run_goes_on : (strict : Bool) (columns : ℕ) (pen : Pen) (f : Pen → Step) → ((p : Pen) → EndsNoLine (f p))
    → EndsNoLine (run_then strict columns pen f)
draw_run_goes_on strict columns pen f g = grind (arith, common_steps, try_goes_on)

pub draw_mode_goes_on : (strict : Bool) (columns : ℕ) (reference : Row) (pen : Pen) (mode : Mode)
    → EndsNoLine (mode_step strict columns reference pen mode)
draw_mode_goes_on strict columns reference pen Pass = grind (arith, common_steps, try_goes_on)
draw_mode_goes_on strict columns reference pen Horizontal =
    subst EndsNoLine (horizontal_is strict columns reference pen) (draw_run_goes_on strict columns pen
    (λ pen. run_then strict columns pen Turn.next) (λ p. draw_run_goes_on strict columns p Turn.next (λ q. tt)))
draw_mode_goes_on strict columns reference pen (Vertical k) = grind (arith, common_steps, try_goes_on)

-- the row and the bits that a step ends with are those of the pen, where the row is full
pub full_by : (columns : ℕ) (pen : Pen) (step : Step) (row : Row) (rest : Bits) → EndsNoLine step → step_unless_full columns pen
    step ≡ Turn.done (Line.whole row rest) → (columns ≤ length pen.front) × (Line.whole pen.front pen.rest ≡ Line.whole row rest)
full_by columns pen step row rest g e = grind (arith, common_steps, chosen, leb-true)

abbrev pub TookBits : ℕ → Line → Type 0
TookBits n (Line.whole row rest) = length rest < n
TookBits n (Line.broken front fault) = Unit {0}

-- the pen has consumed bits, or has painted nothing
abbrev HasRead : ℕ → Pen → Type 0
HasRead n pen = (pen_left pen < n) ⊎ ((pen_left pen ≡ n) × (length pen.front ≡ 0))

-- a step that draws, unless the row is full
pub record IsStep (columns : ℕ) (step body : Pen → Step) : Type 0 where
  pub shrinks : Shrinks step pen_left
  pub goes : (p : Pen) → EndsNoLine (body p)
  pub same : (p : Pen) → step p ≡ step_unless_full columns p (body p)

-- a step of a one-dimensional line draws a run
pub draws_run : (strict : Bool) (columns : ℕ)
    → IsStep columns (step_1d strict columns) (λ p. run_then strict columns p Turn.next)
draws_run strict columns = record {
  shrinks = step_1d_shrinks strict columns;
  goes = λ p. draw_run_goes_on strict columns p Turn.next (λ q. tt);
  same = step_1d_is strict columns;
}

-- and one of a two-dimensional line the mode that is read
abbrev pub mode_read : Bool → ℕ → Row → Pen → Step
mode_read strict columns reference pen = try pen.front (read_code mode_codes pen.rest)
    (λ mode. mode_step strict columns reference (record pen { rest = mode.1 }) mode.0)

pub draws_mode : (strict : Bool) (columns : ℕ) (reference : Row)
    → IsStep columns (step_2d strict columns reference) (mode_read strict columns reference)
draws_mode strict columns reference = grind (arith, common_steps, step_2d_shrinks, try_goes_on, draw_mode_goes_on, step_2d_is)

module _ {columns : ℕ} (wide : 0 < columns) {step body : Pen → Step} (draws : IsStep columns step body) where
  ends : (n : ℕ) (s : Pen) (l : Line) → HasRead n s → step s ≡ Turn.done l → TookBits n l
  ends n s l p e = grind (arith, full_by, draws.goes, draws.same)

  keeps : (n : ℕ) (s t : Pen) → HasRead n s → step s ≡ Turn.next t → HasRead n t
  keeps n s t p e = grind (arith, common_steps)

  pub line_took_bits : (here : Bits) → TookBits (length here) (drawn_by step (start here))
  line_took_bits here = repeated_keeps step (Line.broken [] UnexpectedEof) (HasRead (length here)) (TookBits (length here)) tt
      (keeps (length here)) (ends (length here)) (suc (length here)) (start here) (inr (refl, refl))

pub line_1d_took_bits : (strict : Bool) (columns : ℕ) (here : Bits) → 0 < columns
    → TookBits (length here) (line_1d strict columns here)
line_1d_took_bits strict columns here wide = line_took_bits wide (draws_run strict columns) here

pub line_2d_took_bits : (strict : Bool) (columns : ℕ) (reference : Row) (here : Bits) → 0 < columns
    → TookBits (length here) (line_2d strict columns reference here)
line_2d_took_bits strict columns reference here wide = line_took_bits wide (draws_mode strict columns reference) here
