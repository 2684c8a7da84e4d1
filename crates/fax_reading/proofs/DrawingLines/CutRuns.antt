-- Runs that are cut: where a strict reading breaks a line.
use Rattle.fax_reading.proofs.Names.{arith, Bool, true, false, ◌||◌, subst, OnOk, Color, White, Step, Bits, paint, pen_of, GoesOn}
use Rattle.fax_reading.proofs.Names.{common_steps, DecodeError, is_broken, painted_front, strict_step_of_run, strict_step_of_mode}
use Rattle.fax_reading.proofs.Names.{◌≡◌, length, Result, BitsAt, Context, redrawn, exceeds, line_1d, line_2d, right_of, GoesOn2d}
use Rattle.fax_reading.proofs.Names.{◌<◌, ◌≤◌, ◌-◌, ℕ, ltb, Ok, Err, sym, ap, here, Held, Mode, Pass, Row, Line, Pen, Turn, b2}
use Rattle.fax_reading.proofs.Names.{[], false≢true, Horizontal, turn_following, TellsCut, read_code, mode_codes, run_from}
use Rattle.fax_reading.proofs.Names.{opposite}
use Rattle.fax_bits.proofs.Repetition.Repeated.{after_turn}
use Rattle.fax_reading.proofs.DrawingLines.Drawings.{try, drawn_by, step_1d, step_2d}
use Rattle.fax_reading.proofs.DrawingLines.DrawnLines.{run_open, line_mode}
use Rattle.std.proofs.Math.Bool.{or-true}

-- ---- One step

-- painting reports whether a run is cut
pub paint_cuts : (strict : Bool) (columns : ℕ) (front : Row) (color : Color) (n : ℕ) (row : Row) (go_on : Row → Step) (pen : Pen)
    (before now : Bool) → paint strict columns front color n ≡ Ok row → now ≡ (before || ltb (columns - length front) n)
    → go_on row ≡ Turn.next pen → TellsCut (try front (paint true columns front color n) go_on) pen before now
paint_cuts strict columns front color n row go_on pen before now paints reported on
    = grind (arith, common_steps, false≢true, or-true)

-- two steps, one after the other
pub two_cut : (first : Step) (middle : Pen) (after : Pen → Step) (last : Pen) (a b c : Bool) → TellsCut first middle a b
    → TellsCut (after middle) last b c → TellsCut (turn_following first after) last a c
two_cut first middle after last a b c tells second = grind (arith, false≢true)

-- ---- A line

-- What is known of a strict reading's line, from what is left of it to draw: it is the same while no run was cut, and else it is
-- broken.
abbrev pub StrictSoFar : Line → Line → Bool → Type 0
StrictSoFar line after false = line ≡ after
StrictSoFar line after true = is_broken line ≡ true

-- after one more step
pub strict_on : (line : Line) (after : Pen → Line) (now : Line) (step : Step) (pen : Pen) (before cut : Bool)
    → StrictSoFar line now before → now ≡ after_turn after step → TellsCut step pen before cut → StrictSoFar line (after pen) cut
strict_on line after now step pen before cut so_far is tells = grind (arith, false≢true)

-- after steps that leave the line as it is
pub strict_same : (line now next : Line) (cut : Bool) → StrictSoFar line now cut → next ≡ now → StrictSoFar line next cut
strict_same line now next cut so_far is = grind arith

-- ---- The steps of a context

-- a run that is read and painted
pub run_cuts : (held new : Held) (n : ℕ) (rest after : Bits) (before now : Bool) → run_from held.color (0, rest) ≡ Ok (n, after)
    → painted_front held n ≡ Ok new.front → new.color ≡ opposite held.color → now ≡ (before || exceeds held n)
    → TellsCut (strict_step_of_run held rest) (pen_of new after) before now
run_cuts held new n rest after before now reads paints color reported =
    grind (arith, common_steps, paint_cuts held.settings.strict held.settings.columns held.front held.color n new.front)

-- pass mode
pub pass_cuts : (old mid new : Context) (count : ℕ) (rest : Bits) (r : Result (Unit {0}) DecodeError) → mid.held ≡ old.held
    → mid.cut ≡ old.cut → count ≡ b2 old.held.reference (right_of old.held.front) old.held.color - length old.held.front
    → OnOk r (painted_front mid.held count ≡ Ok new.held.front) → OnOk r (new ≡ record mid
    { held = redrawn mid.held new.held.front mid.held.color; cut = mid.cut || exceeds mid.held count; space = new.space })
    → OnOk r (TellsCut (strict_step_of_mode old.held rest Pass) (pen_of new.held rest) old.cut new.cut)
pass_cuts old mid new count rest r same cut counts painted frame = grind (arith, paint_cuts)

-- horizontal mode
pub horizontal_cuts : (old mid new : Context) (from between after : Bits) (r : Result (Unit {0}) DecodeError) → mid.held ≡ redrawn
    old.held mid.held.front mid.held.color → TellsCut (strict_step_of_run old.held from) (pen_of mid.held between) old.cut mid.cut
    → OnOk r (TellsCut (strict_step_of_run mid.held between) (pen_of new.held after) mid.cut new.cut)
    → OnOk r (TellsCut (strict_step_of_mode old.held from Horizontal) (pen_of new.held after) old.cut new.cut)
horizontal_cuts old mid new from between after (Err e) kept first second = tt
horizontal_cuts old mid new from between after (Ok x) kept first second = grind (arith, common_steps, two_cut)

-- ---- A line of a context, step by step

module _ (before now new : Held) (line : Line) (first cut : Bool) (kept : now ≡ redrawn before now.front now.color) where
  columns_are : now.settings.columns ≡ before.settings.columns
  columns_are = ap (λ (h : Held). h.settings.columns) kept

  -- a run
  pub cut_by_run : (at to : Bits) → length now.front < now.settings.columns → StrictSoFar line
      (drawn_by (step_1d true before.settings.columns) (pen_of now at)) first → TellsCut (strict_step_of_run now at)
      (pen_of new to) first cut → StrictSoFar line (drawn_by (step_1d true before.settings.columns) (pen_of new to)) cut
  cut_by_run at to open_row so_far tells =
      let here = subst (λ (n : ℕ). StrictSoFar line (drawn_by (step_1d true n) (pen_of now at)) first) (sym columns_are) so_far in
      subst (λ (n : ℕ). StrictSoFar line (drawn_by (step_1d true n) (pen_of new to)) cut) columns_are
      (strict_on line (drawn_by (step_1d true now.settings.columns)) _ (strict_step_of_run now at) (pen_of new to) first cut here
      (run_open true now.settings.columns (pen_of now at) open_row) tells)

  -- a mode
  pub cut_by_mode : (at rest to : Bits) (mode : Mode) → length now.front < now.settings.columns → read_code mode_codes at ≡ Ok
      (mode, rest) → StrictSoFar line (drawn_by (step_2d true before.settings.columns before.reference) (pen_of now at)) first
      → TellsCut (strict_step_of_mode now rest mode) (pen_of new to) first cut
      → StrictSoFar line (drawn_by (step_2d true before.settings.columns before.reference) (pen_of new to)) cut
  cut_by_mode at rest to mode open_row reads so_far tells =
      let same : now.reference ≡ before.reference = ap (λ (h : Held). h.reference) kept in
      let here = subst (λ (r : Row). StrictSoFar line (drawn_by (step_2d true now.settings.columns r) (pen_of now at)) first)
      (sym same) (subst (λ (n : ℕ). StrictSoFar line (drawn_by (step_2d true n before.reference) (pen_of now at)) first)
      (sym columns_are) so_far) in
      subst (λ (n : ℕ). StrictSoFar line (drawn_by (step_2d true n before.reference) (pen_of new to)) cut) columns_are
      (subst (λ (r : Row). StrictSoFar line (drawn_by (step_2d true now.settings.columns r) (pen_of new to)) cut) same (strict_on
      line (drawn_by (step_2d true now.settings.columns now.reference)) _ (strict_step_of_mode now rest mode) (pen_of new to)
      first cut here (line_mode true now.settings.columns now.reference (pen_of now at) mode rest open_row reads) tells))

  -- usual runs
  pub cut_by_usual : (at to : Bits) {ticks later : ℕ}
      → GoesOn now.settings.strict now.settings.columns (pen_of now at) (pen_of new to) ticks later → cut ≡ first
      → StrictSoFar line (drawn_by (step_1d true before.settings.columns) (pen_of now at)) first
      → StrictSoFar line (drawn_by (step_1d true before.settings.columns) (pen_of new to)) cut
  cut_by_usual at to goes same so_far = subst (StrictSoFar line (drawn_by (step_1d true before.settings.columns) (pen_of new to)))
      (sym same) (strict_same line _ _ first so_far (subst (λ (n : ℕ). drawn_by (step_1d true n) (pen_of new to) ≡ drawn_by
      (step_1d true n) (pen_of now at)) columns_are goes.strictly))

-- a one-dimensional line that is begun
pub cut_begun_1d : (before now new : Context) (begun next : BitsAt)
    → now ≡ record before { held = redrawn before.held [] White; passed = 0; cut = false } → GoesOn now.held.settings.strict
    now.held.settings.columns (pen_of now.held (here begun)) (pen_of new.held (here next)) now.ticks new.ticks → new.cut ≡ now.cut
    → StrictSoFar (line_1d true before.held.settings.columns (here begun))
    (drawn_by (step_1d true before.held.settings.columns) (pen_of new.held (here next))) new.cut
cut_begun_1d before now new begun next frame goes same = let line = rw frame at goes.strictly in grind arith

-- a two-dimensional line that is begun
pub cut_begun_2d : (before now new : Context) (begun next : BitsAt)
    → now ≡ record before { held = redrawn before.held [] White; passed = 0; cut = false } → {passed later : ℕ}
    → GoesOn2d now.held.settings.strict now.held.settings.columns now.held.reference (pen_of now.held (here begun))
    (pen_of new.held (here next)) now.ticks new.ticks passed later → new.cut ≡ now.cut
    → StrictSoFar (line_2d true before.held.settings.columns before.held.reference (here begun))
    (drawn_by (step_2d true before.held.settings.columns before.held.reference) (pen_of new.held (here next))) new.cut
cut_begun_2d before now new begun next frame goes same = let line = rw frame at goes.strictly in grind arith

-- a line that is drawn
pub cut_drawn_1d : (before now : Held) (cut : Bool) (line : Line) (at : Bits) → now ≡ redrawn before now.front now.color
    → now.settings.columns ≤ length now.front
    → StrictSoFar line (drawn_by (step_1d true before.settings.columns) (pen_of now at)) cut → cut ≡ is_broken line
cut_drawn_1d before now cut line at kept full so_far = grind (arith, common_steps)

pub cut_drawn_2d : (before now : Held) (cut : Bool) (line : Line)
    (at : Bits) → now ≡ redrawn before now.front now.color → now.settings.columns ≤ length now.front → StrictSoFar line
    (drawn_by (step_2d true before.settings.columns before.reference) (pen_of now at)) cut → cut ≡ is_broken line
cut_drawn_2d before now cut line at kept full so_far = grind (arith, common_steps)
