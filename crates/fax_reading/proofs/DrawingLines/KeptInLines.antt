-- What reading and painting keep, of a front and of the bits that are left, steps and lines keep.
use Rattle.fax_reading.proofs.Names.{Err, ◌≡◌, suc, [], Ok, ℕ, ℤ}
use Rattle.fax_reading.proofs.Names.{UnexpectedEof, unless_fault, turn_following, unless_full, DecodeError, Horizontal}
use Rattle.fax_reading.proofs.Names.{painted_to}
use Rattle.fax_reading.proofs.Names.{drawn, go_on, ◌>>=◌, paint, subst, arith, Bool, Mode, Pass, Bits, Turn, Line, refl, Row, Pen}
use Rattle.fax_reading.proofs.Names.{place_from, mode_codes, mode_here, draw_mode, read_code, draw_run, opposite, Color}
use Rattle.fax_reading.proofs.Names.{run_from, Vertical, Overflow, run_here, Drawing, painted, draw_1d, draw_2d, length, Result}
use Rattle.fax_bits.proofs.Repetition.Repeated.{repeated_induct, Shrinks}
use Rattle.fax_reading.proofs.DrawingLines.ReadLines.{step_1d_shrinks, step_2d_shrinks, pen_left}

-- a turn goes on with what has a property, or ends with a line that has another
abbrev pub Yields : {A : Type 0} → (A → Type 0) → (Line → Type 0) → Turn A Line → Type 0
Yields P Q (Turn.next x) = P x
Yields P Q (Turn.done line) = Q line

after_yields : {A B : Type 0} (P : A → Type 0) (R : B → Type 0) (Q : Line → Type 0) (turn : Turn A Line)
    (after : A → Turn B Line) → Yields P Q turn → ((x : A) → P x → Yields R Q (after x)) → Yields R Q (turn_following turn after)
after_yields P R Q turn after first second = grind arith

-- What is true of a front and of the bits that are left stays true with more that is read or painted, and says this of the line.
pub record AreKept (strict : Bool) (columns : ℕ) (P : Row → Bits → Type 0) (Q : Line → Type 0) : Type 0 where
  pub paints : (front : Row) (rest : Bits) (color : Color) (n : ℕ) → P front rest
      → Yields (λ (row : Row). P row rest) Q (unless_fault front (paint strict columns front color n))
  pub run : (front : Row) (rest : Bits) (color : Color) → P front rest
      → Yields (λ (found : ℕ × Bits). P front found.1) Q (unless_fault front (run_from color (0, rest)))
  pub mode : (front : Row) (rest : Bits) → P front rest
      → Yields (λ (found : Mode × Bits). P front found.1) Q (unless_fault front (read_code mode_codes rest))
  pub place : (front : Row) (rest : Bits) → P front rest → Q (Line.broken front Overflow)
  pub whole : (front : Row) (rest : Bits) → P front rest → Q (Line.whole front rest)

-- what is true of a front alone
found_by_front : {A : Type 0} (P : Row → Type 0) (Q : Line → Type 0) (front : Row) (r : Result A DecodeError) → P front
    → ((fault : DecodeError) → Q (Line.broken front fault)) → Yields (λ (x : A). P front) Q (unless_fault front r)
found_by_front P Q front (Ok x) holds ends = holds
found_by_front P Q front (Err fault) holds ends = ends fault

pub fronts_kept : (strict : Bool) (columns : ℕ) (P : Row → Type 0) (Q : Line → Type 0) → ((front : Row) (color : Color) (n : ℕ)
    (row : Row) → paint strict columns front color n ≡ Ok row → P front → P row) → ((front : Row) → P front
    → (fault : DecodeError) → Q (Line.broken front fault)) → ((front : Row) (rest : Bits) → P front → Q (Line.whole front rest))
    → AreKept strict columns (λ front rest. P front) Q
fronts_kept strict columns P Q paints ends whole = record {
  paints = λ front rest color n holds. by_paint front color n (paint strict columns front color n) refl holds;
  run = λ front rest color holds. found_by_front P Q front (run_from color (0, rest)) holds (ends front holds);
  mode = λ front rest holds. found_by_front P Q front (read_code mode_codes rest) holds (ends front holds);
  place = λ front rest holds. ends front holds Overflow;
  whole = whole;
}
  where
    by_paint : (front : Row) (color : Color) (n : ℕ) (r : Result Row DecodeError) → paint strict columns front color n ≡ r
        → P front → Yields P Q (unless_fault front r)
    by_paint front color n (Ok row) e holds = paints front color n row e holds
    by_paint front color n (Err fault) e holds = ends front holds fault

module _ {strict : Bool} {columns : ℕ} {P : Row → Bits → Type 0} {Q : Line → Type 0} (kept : AreKept strict columns P Q) where
  abbrev OfPen : Pen → Type 0
  OfPen pen = P pen.front pen.rest

  pub run_keeps : (pen : Pen) → OfPen pen → Yields OfPen Q (draw_run strict columns pen).turn
  run_keeps pen p = after_yields (λ (found : ℕ × Bits). P pen.front found.1) OfPen Q (run_here pen).turn (λ run. (drew run).turn)
      (kept.run pen.front pen.rest pen.color p) (λ run q. after_yields (λ (row : Row). P row run.1) OfPen Q
      (painted strict columns pen run.0).turn (λ front. Turn.next
      (record { front = front; color = opposite pen.color; rest = run.1 }))
      (kept.paints pen.front run.1 pen.color run.0 q) (λ front r. r))
    where
      drew : ℕ × Bits → Drawing Pen
      drew run = painted strict columns pen run.0
          >>= (λ front. go_on (record { front = front; color = opposite pen.color; rest = run.1 }))

  place_keeps : (pen : Pen) (z : ℤ) → OfPen pen
      → Yields (λ (place : ℕ). OfPen pen) Q (unless_fault pen.front (place_from (length pen.front) z))
  place_keeps pen z p = let over = kept.place pen.front pen.rest p in grind arith

  to_place_keeps : (pen : Pen) (place : ℕ) (color : Color) → OfPen pen → Yields OfPen Q (painted_to strict columns pen place
      >>= (λ front. go_on (record { front = front; color = color; rest = pen.rest }))).turn
  to_place_keeps pen place color p = grind (arith, after_yields)

  mode_keeps : (reference : Row) (pen : Pen) (mode : Mode) → OfPen pen
      → Yields OfPen Q (draw_mode strict columns reference pen mode).turn
  mode_keeps reference pen Pass p = to_place_keeps pen _ pen.color p
  mode_keeps reference pen Horizontal p = after_yields OfPen OfPen Q (draw_run strict columns pen).turn
      (λ p. (draw_run strict columns p).turn) (run_keeps pen p) run_keeps
  mode_keeps reference pen (Vertical k) p = grind (arith, after_yields, place_keeps, to_place_keeps)

  full_keeps : (pen : Pen) → OfPen pen → Yields OfPen Q (unless_full columns pen).turn
  full_keeps pen p = let whole = kept.whole pen.front pen.rest p in grind arith

  -- and one of a two-dimensional line
  pub step_2d_keeps : (reference : Row) (pen : Pen) → OfPen pen → Yields OfPen Q (draw_2d strict columns reference pen).turn
  step_2d_keeps reference pen p = after_yields OfPen OfPen Q (unless_full columns pen).turn (λ p. (after p).turn)
      (full_keeps pen p) (λ p q. after_yields (λ (found : Mode × Bits). P p.front found.1) OfPen Q (mode_here p).turn
      (λ mode. (drew p mode).turn) (kept.mode p.front p.rest q)
      (λ mode r. mode_keeps reference (record p { rest = mode.1 }) mode.0 r))
    where
      drew : Pen → Mode × Bits → Drawing Pen
      drew p mode = draw_mode strict columns reference (record p { rest = mode.1 }) mode.0

      after : Pen → Drawing Pen
      after p = mode_here p >>= drew p

  steps_keep : (draw : Pen → Drawing Pen) → Shrinks (λ pen. (draw pen).turn) pen_left
      → ((pen : Pen) → OfPen pen → Yields OfPen Q (draw pen).turn) → (pen : Pen) → OfPen pen → Q (drawn draw pen)
  steps_keep draw shrinks each pen p = repeated_induct (λ pen. (draw pen).turn) (Line.broken [] UnexpectedEof) pen_left shrinks
      (λ pen line. OfPen pen → Q line) (λ pen line e q. subst (Yields OfPen Q) e (each pen q))
      (λ pen next line e on q. on (subst (Yields OfPen Q) e (each pen q))) (suc (length pen.rest)) pen (omega arith) p

  -- the line from a pen on
  pub line_1d_keeps : (pen : Pen) → OfPen pen → Q (drawn (draw_1d strict columns) pen)
  line_1d_keeps = steps_keep (draw_1d strict columns) (step_1d_shrinks strict columns) (λ pen p. grind
      (arith, after_yields, full_keeps, run_keeps))

  pub line_2d_keeps : (reference : Row) (pen : Pen) → OfPen pen → Q (drawn (draw_2d strict columns reference) pen)
  line_2d_keeps reference =
      steps_keep (draw_2d strict columns reference) (step_2d_shrinks strict columns reference) (step_2d_keeps reference)
