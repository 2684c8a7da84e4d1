-- What a step of a line paints, what that says of the finished line, and that a line that isn't read is no row.
use Rattle.fax_reading.proofs.Names.{Contains-append_right, Contains-append_left, RepairStoresChange, too_many_pixels, Horizontal}
use Rattle.fax_reading.proofs.Names.{DecodeSettings, StopsAtChange, length-append, not_from_true, FitsUnsigned, IsRepairable, Err}
use Rattle.fax_reading.proofs.Names.{StoresChange, append_assoc, common_steps, step_of_mode, DecodeError, OutOfMemory, false≢true}
use Rattle.fax_reading.proofs.Names.{TakesOneRow, front_after, row_of_line, step_of_run, turn_following, last_pixel, mode_codes}
use Rattle.fax_reading.proofs.Names.{Pen}
use Rattle.fax_reading.proofs.Names.{place_from, DrawsLine, DrawsStep, cond-true, not-false, read_code, replicate, HasBlack, Bits}
use Rattle.fax_reading.proofs.Names.{Vertical, cases_lt, front_of, is_black, opposite, or_parts, right_of, run_from, Context, Row}
use Rattle.fax_reading.proofs.Names.{IsFault, SomeIff, kind_of, nat_abs, or_from, redrawn, BitsAt, IsTrue, Option, Result, le-leb}
use Rattle.fax_reading.proofs.Names.{length, lt-leb, pen_of, Color, IfErr, OnErr, arith, false, paint, start, subst, Bool, Held}
use Rattle.fax_reading.proofs.Names.{Line, Mode, OnOk, Pass, Some, Step, Turn, here, ints, refl, true, ◌++◌, ◌+ℤ◌, ◌||◌, inl, inr}
use Rattle.fax_reading.proofs.Names.{not, pos, sym, w32, ◌-◌, ◌<◌, ◌↔◌, ◌∙◌, ◌∷◌, ◌≡◌, ◌≢◌, ◌≤◌, ◌⊎◌, Ok, [], ap, b1, b2, ℕ, ℤ}
use Rattle.fax_bits.proofs.CodeWords.ReadRuns.{read_code_shorter, some_where, chosen}
use Rattle.fax_bits.proofs.ErrorKinds.{at_fault_kind, of_fault_kind, kind_weaker, by_kind}
use Rattle.fax_reading.proofs.DrawingLines.Drawings.{step_1d_is, step_2d_is, mode_step, drawn_by, run_then, step_1d, step_2d, try}
use Rattle.fax_reading.proofs.DrawingLines.KeptInLines.{line_1d_keeps, line_2d_keeps, fronts_kept, run_keeps, AreKept, Yields}
use Rattle.fax_reading.proofs.DrawingLines.ReadLines.{modes_not_empty, draw_mode_next, drawn1, drawn2}
use Rattle.fax_bits.proofs.Repetition.Repeated.{after_turn}

-- ---- What painting yields.

-- what was painted is the front and some more pixels of the colour
pub paint_ok : (strict : Bool) (columns : ℕ) (front : Row) (color : Color) (n : ℕ) (row : Row)
    → paint strict columns front color n ≡ Ok row → (k : ℕ) × (front ++ replicate k (is_black color) ≡ row)
paint_ok strict columns front color n row e = grind (arith, common_steps, chosen)

-- ---- A front that ends at a change.

-- the rows that go on with a change after a front
abbrev stopping_at : Row → Row → Type 0
stopping_at front row = StopsAtChange row front

-- a row that continues further has the same change
later_change : (front row more : Row) → StopsAtChange row front → StopsAtChange (row ++ more) front
later_change front row more stops = grind (arith, common_steps, append_assoc front (stops.0 ∷ stops.1) more)

-- if a change is stored, the front ends at a change of the new row
pub stores_change : (held : Held) (count : ℕ) → (stored : StoresChange held count) → StopsAtChange stored.0 held.front
stores_change held count stored = grind (arith, paint_ok, length-append)

first_black : (row : Row) → HasBlack (true ∷ row)
first_black row = (0, omega arith, refl)

-- a row whose last pixel is black has a black pixel
pub last_black : (before : Bool) (row : Row) → before ≡ false → last_pixel before row ≢ false → HasBlack row
last_black before [] e other = absurd (other e)
last_black before (true ∷ row) e other = first_black row
last_black before (false ∷ row) e other = Contains-append_right (false ∷ []) row true (last_black false row refl other)

-- a row with a change has a black pixel: one side of the change
pub change_has_black : (row front : Row) → StopsAtChange row front → HasBlack row
change_has_black row front stops = subst HasBlack (sym stops.2) (by_pixel stops.0 stops.3)
  where
    by_pixel : (pixel : Bool) → pixel ≢ last_pixel false front → HasBlack (front ++ pixel ∷ stops.1)
    by_pixel v0 other = grind (arith, common_steps, Contains-append_right, first_black, Contains-append_left, last_black)

-- a line that is cut off by an allocation failure has a black pixel
pub memory_has_black : (line : Line) (front : Row) (rest : Bits) → DrawsLine line (Err OutOfMemory) front rest
    → HasBlack (front_of line)
memory_has_black line front rest draws = change_has_black (front_of line) front draws

-- ---- What a step returns.

-- why painting this many pixels is refused
pub record IsUnpainted (held : Held) (count : ℕ) (e : DecodeError) : Type 0 where
  pub too_many : ◌≡◌ {A = Result (Unit {0}) DecodeError} (Err e) (Err too_many_pixels)
      → paint held.settings.strict held.settings.columns held.front held.color count ≡ Err too_many_pixels
  pub memory : ◌≡◌ {A = Result (Unit {0}) DecodeError} (Err e) (Err OutOfMemory) → StoresChange held count
  pub only : (e ≡ too_many_pixels) ⊎ (e ≡ OutOfMemory)

-- what a result of painting says, if it is an error
pub unpainted : (held : Held) (count : ℕ) (r : Result (Unit {0}) DecodeError) (e : DecodeError) → r ≡ Err e → ((r
    ≡ Err too_many_pixels) ↔ (paint held.settings.strict held.settings.columns held.front held.color count ≡ Err too_many_pixels))
    → (r ≡ Err OutOfMemory → StoresChange held count) → IfErr r (λ e. (e ≡ too_many_pixels) ⊎ (e ≡ OutOfMemory))
    → IsUnpainted held count e
unpainted held count r e is too_many memory only = grind (arith, common_steps)

-- an error of painting is that of the step that paints and continues
pub paint_fails : (held : Held) (count : ℕ) (go_on : Row → Step) (e : DecodeError) (pen : Pen) → pen.front ≡ held.front
    → IsUnpainted held count e → ((row : Row) → StopsAtChange row held.front → StopsAtChange (front_after (go_on row)) held.front)
    → DrawsStep (try held.front (paint held.settings.strict held.settings.columns held.front held.color count) go_on) (Err e) pen
paint_fails held count go_on e pen same unpainted keeps = elim unpainted.only [
  | inl is ↦ rw (is, unpainted.too_many (rw is refl), same) refl
  | inr is ↦ let stored = unpainted.memory (rw is refl) in
      rw (is, stored.1, same) (keeps stored.0 (stores_change held count stored))
]

-- a step that paints and keeps the colour, if the painting returns this
pub paint_draws : (held new : Held) (count : ℕ) (rest : Bits) (r : Result (Unit {0}) DecodeError)
    → OnOk r (paint held.settings.strict held.settings.columns held.front held.color count ≡ Ok new.front) → OnOk r
    (new ≡ redrawn held new.front held.color) → OnErr r (new ≡ held) → ((e : DecodeError) → r ≡ Err e → IsUnpainted held count e)
    → DrawsStep (try held.front (paint held.settings.strict held.settings.columns held.front held.color count)
    (λ front. Turn.next (record (pen_of held rest) { front = front }))) r (pen_of new rest)
paint_draws held new count rest r painted kept same unpainted = grind (arith, common_steps, paint_fails, unpainted)

-- what pass draws is what its painting draws
pub pass_draws : (old held new : Held) (count : ℕ) (rest : Bits) (r : Result (Unit {0}) DecodeError) → held ≡ old → count
    ≡ b2 old.reference (right_of old.front) old.color - length old.front → DrawsStep (try held.front (paint held.settings.strict
    held.settings.columns held.front held.color count) (λ front. Turn.next (record (pen_of held rest) { front = front }))) r
    (pen_of new rest) → DrawsStep (step_of_mode old rest Pass) r (pen_of new rest)
pass_draws old held new count rest r same counts draws = grind (arith, common_steps)

-- the position of a vertical mode, where it fits in 32 bits and is not left of the pixels painted
pub place_ok : (painted p : ℕ) (z : ℤ) → z ≡ pos p → p ≤ 4294967295 → painted ≤ p → place_from painted z ≡ Ok p
place_ok painted p z is fits above = rw (is, le-leb painted p above, le-leb p 4294967295 fits) refl

-- a sum that fits in 32 bits unsigned is a position
pub place_of : (z : ℤ) (o : Option ℕ) (p : ℕ) → SomeIff o (FitsUnsigned w32 z) (nat_abs z) → o ≡ Some p → (z ≡ pos p)
    × (p ≤ 4294967295)
place_of z o p iff is = grind (arith, some_where, ints)

-- a vertical mode whose pixels are not painted ends the line
pub vertical_unpainted : (held new : Held) (k : ℤ) (p : ℕ) (rest : Bits) (e : DecodeError)
    → pos (b1 held.reference (right_of held.front) held.color) +ℤ k ≡ pos p → p ≤ 4294967295 → length held.front ≤ p → new ≡ held
    → IsUnpainted held (p - length held.front) e → DrawsStep (step_of_mode held rest (Vertical k)) (Err e) (pen_of new rest)
vertical_unpainted held new k p rest e is fits above same unpainted = grind (arith, common_steps, paint_fails)

-- a run that isn't read ends the line
pub run_unread : (held : Held) (rest after : Bits) (e : DecodeError) → IsFault e → run_from held.color (0, rest) ≡ Err e
    → DrawsStep (step_of_run held rest) (Err e) (pen_of held after)
run_unread held rest after e fault unread = of_fault_kind (kind_of e) _ _ _ fault (rw unread refl)

-- a run that is read and not painted ends the line
pub run_unpainted : (held new : Held) (n : ℕ) (rest after : Bits) (e : DecodeError) → run_from held.color (0, rest)
    ≡ Ok (n, after) → new ≡ held → IsUnpainted held n e → DrawsStep (step_of_run held rest) (Err e) (pen_of new after)
run_unpainted held new n rest after e reads same unpainted =
    let go_on : Row → Step = λ front. Turn.next (record { front = front; color = opposite held.color; rest = after }) in
    grind (arith, common_steps, paint_fails held n go_on e (pen_of new after))

-- ---- A step keeps what is painted: what is true of a front, however the row continues, is true of the finished row.

-- what is true of a front is true of each row that continues it
abbrev pub Stays : (Row → Type 0) → Type 0
Stays P = (row more : Row) → P row → P (row ++ more)

-- if it is true of a front, it is after a step from it
abbrev pub KeepsFront : (Row → Type 0) → (Pen → Step) → Type 0
KeepsFront P go_on = (pen : Pen) → P pen.front → P (front_after (go_on pen))

stays_kept : (P : Row → Type 0) → Stays P → (strict : Bool) (columns : ℕ)
    → AreKept strict columns (λ front rest. P front) (λ line. P (front_of line))
stays_kept P on strict columns = grind (arith, common_steps, fronts_kept, paint_ok)

after_kept : (P : Row → Type 0) (step : Step) → Yields (λ pen. P pen.front) (λ line. P (front_of line)) step
    → P (front_after step)
after_kept P step holds = grind (arith, common_steps)

-- so what is true of a front is true of the row of the line that continues it, or of the front of a broken one
pub drawn_1d_keeps : (P : Row → Type 0) → Stays P → (strict : Bool) (columns : ℕ) (pen : Pen) → P pen.front
    → P (front_of (drawn_by (step_1d strict columns) pen))
drawn_1d_keeps P on strict columns pen holds = line_1d_keeps (stays_kept P on strict columns) pen holds

pub drawn_2d_keeps : (P : Row → Type 0) → Stays P → (strict : Bool) (columns : ℕ) (reference : Row) (pen : Pen) → P pen.front
    → P (front_of (drawn_by (step_2d strict columns reference) pen))
drawn_2d_keeps P on strict columns reference pen holds =
    line_2d_keeps (stays_kept P on strict columns) reference pen holds

-- ---- The rule of one step of a line.

-- a line that isn't full continues with a run, or with a mode
pub run_open : (strict : Bool) (columns : ℕ) (pen : Pen) → length pen.front < columns → drawn_by (step_1d strict columns) pen
    ≡ after_turn (drawn_by (step_1d strict columns)) (run_then strict columns pen Turn.next)
run_open strict columns pen open_row = grind (arith, common_steps, lt-leb, drawn1, step_1d_is)

pub line_open : (strict : Bool) (columns : ℕ) (reference : Row) (pen : Pen) → length pen.front < columns
    → drawn_by (step_2d strict columns reference) pen ≡ after_turn (drawn_by (step_2d strict columns reference)) (try pen.front
    (read_code mode_codes pen.rest) (λ mode. mode_step strict columns reference (record pen { rest = mode.1 }) mode.0))
line_open strict columns reference pen open_row = grind (arith, common_steps, lt-leb, drawn2, step_2d_is)

-- after a mode is read, the line is what comes of the step that draws it
pub line_mode : (strict : Bool) (columns : ℕ) (reference : Row) (pen : Pen) (mode : Mode) (rest : Bits) → length pen.front
    < columns → read_code mode_codes pen.rest ≡ Ok (mode, rest) → drawn_by (step_2d strict columns reference) pen ≡ after_turn
    (drawn_by (step_2d strict columns reference)) (mode_step strict columns reference (record pen { rest = rest }) mode)
line_mode strict columns reference pen mode rest open_row reads = line_open strict columns reference pen open_row ∙ rw reads refl

-- ---- What a line returns.

-- an error of a step is that of the line
fails_by : (step : Pen → Step) → ((P : Row → Type 0) → Stays P → (p : Pen) → P p.front → P (front_of (drawn_by step p)))
    → (line : Line) (turn : Step) (e : DecodeError) (pen : Pen) → line ≡ after_turn (drawn_by step) turn
    → DrawsStep turn (Err e) pen → DrawsLine line (Err e) pen.front pen.rest
fails_by step keeps line turn e pen is = kind_weaker (kind_of e) (turn ≡ Turn.done (Line.broken pen.front e))
    (StopsAtChange (front_after turn) pen.front) ⊥ (line ≡ Line.broken pen.front e) (StopsAtChange (front_of line) pen.front) ⊥
    (λ draws. is ∙ rw draws refl) (λ draws. subst (λ (l : Line). StopsAtChange (front_of l) pen.front) (sym is) (kept turn draws))
    (λ draws. draws)
  where
    kept : (turn : Step) → StopsAtChange (front_after turn) pen.front
        → StopsAtChange (front_of (after_turn (drawn_by step) turn)) pen.front
    kept (Turn.next p) draws = keeps (stopping_at pen.front) (later_change pen.front) p draws
    kept (Turn.done line) draws = draws

pub line_1d_fails : (strict : Bool) (columns : ℕ) (line : Line) (step : Step) (e : DecodeError) (pen : Pen) → line
    ≡ after_turn (drawn_by (step_1d strict columns)) step → DrawsStep step (Err e) pen → DrawsLine line (Err e) pen.front pen.rest
line_1d_fails strict columns = fails_by (step_1d strict columns) (λ P on. drawn_1d_keeps P on strict columns)

pub line_2d_fails : (strict : Bool) (columns : ℕ) (reference : Row) (line : Line) (step : Step) (e : DecodeError) (pen : Pen)
    → line ≡ after_turn (drawn_by (step_2d strict columns reference)) step → DrawsStep step (Err e) pen
    → DrawsLine line (Err e) pen.front pen.rest
line_2d_fails strict columns reference =
    fails_by (step_2d strict columns reference) (λ P on. drawn_2d_keeps P on strict columns reference)

-- if the row isn't full, the line of a context is what comes of the run that is drawn
pub line_by_run : (before now : Held) (line : Line) (at : Bits) → now ≡ redrawn before now.front now.color → drawn_by
    (step_1d before.settings.strict before.settings.columns) (pen_of now at) ≡ line → length now.front < now.settings.columns
    → line ≡ after_turn (drawn_by (step_1d before.settings.strict before.settings.columns)) (step_of_run now at)
line_by_run before now line at kept so_far open_row =
    grind (arith, common_steps, run_open before.settings.strict before.settings.columns (pen_of now at))

-- if the row isn't full, the line of a context is what comes of the mode that is read
pub line_by_mode : (before now : Held) (line : Line) (at rest : Bits) (mode : Mode) → now ≡ redrawn before now.front now.color
    → drawn_by (step_2d before.settings.strict before.settings.columns before.reference) (pen_of now at) ≡ line
    → length now.front < now.settings.columns → read_code mode_codes at ≡ Ok (mode, rest) → line
    ≡ after_turn (drawn_by (step_2d before.settings.strict before.settings.columns before.reference)) (step_of_mode now rest mode)
line_by_mode before now line at rest mode kept so_far open_row reads =
    let settings : now.settings ≡ before.settings = ap (λ (h : Held). h.settings) kept in
    let reference : now.reference ≡ before.reference = ap (λ (h : Held). h.reference) kept in
    let columns : length now.front < before.settings.columns =
    subst (λ (s : DecodeSettings). length now.front < s.columns) settings open_row in
    let after : Step → Line = after_turn (drawn_by (step_2d before.settings.strict before.settings.columns before.reference)) in
    sym so_far ∙ line_mode before.settings.strict before.settings.columns before.reference (pen_of now at) mode rest columns reads
    ∙ ap (λ (s : DecodeSettings). after (mode_step s.strict s.columns before.reference (pen_of now rest) mode)) (sym settings)
    ∙ ap (λ (r : Row). after (mode_step now.settings.strict now.settings.columns r (pen_of now rest) mode)) (sym reference)

-- a row that isn't said to be full has room
pub open_by : (full : Bool) (n columns : ℕ) → full ≡ false → (columns ≤ n → IsTrue full) → n < columns
open_by full n columns e said = grind (arith, false≢true, cases_lt)

-- a mode that is read and drawn consumes bits
pub mode_shorter : (strict : Bool) (columns : ℕ) (reference : Row) (pen t : Pen) (at : Bits) (mode : Mode) → read_code mode_codes
    at ≡ Ok (mode, pen.rest) → mode_step strict columns reference pen mode ≡ Turn.next t → length t.rest < length at
mode_shorter strict columns reference pen t at mode reads draws = omega (
  arith,
  draw_mode_next strict columns reference pen mode t draws,
  read_code_shorter mode_codes at mode pen.rest modes_not_empty reads,
)

-- ---- Two runs.

-- an error of the first step is that of both, if what follows keeps what is painted
pub after_fails : (after : Pen → Step) (step : Step) (e : DecodeError) (pen : Pen) → KeepsFront (stopping_at pen.front) after
    → DrawsStep step (Err e) pen → DrawsStep (turn_following step after) (Err e) pen
after_fails after step e pen keeps = kind_weaker (kind_of e) (step ≡ Turn.done (Line.broken pen.front e))
    (StopsAtChange (front_after step) pen.front) ⊥ (turn_following step after ≡ Turn.done (Line.broken pen.front e))
    (StopsAtChange (front_after (turn_following step after)) pen.front) ⊥ (λ draws. rw draws refl) (stops step) (λ draws. draws)
  where
    stops : (step : Step) → StopsAtChange (front_after step) pen.front
        → StopsAtChange (front_after (turn_following step after)) pen.front
    stops (Turn.next p) draws = keeps p draws
    stops (Turn.done line) draws = draws

-- two runs, if the first is refused
pub first_run_fails : (held : Held) (rest : Bits) (left : Pen) (e : DecodeError) → DrawsStep (step_of_run held rest) (Err e) left
    → DrawsStep (step_of_mode held rest Horizontal) (Err e) left
first_run_fails held rest left e draws = after_fails (λ pen. run_then held.settings.strict held.settings.columns pen Turn.next)
    (step_of_run held rest) e left (λ p stops. after_kept (stopping_at left.front) _ (run_keeps (stays_kept
    (stopping_at left.front) (later_change left.front) held.settings.strict held.settings.columns) p stops)) draws

-- Between two steps of a line: the line from the pen on is the whole line; nothing but the front and the colour of the
-- context has changed.
pub record IsDrawnSoFar (step : Pen → Step) (before now : Context) (begun at : BitsAt) : Type 0 where
  pub line : drawn_by step (pen_of now.held (here at)) ≡ drawn_by step (start (here begun))
  pub held : now.held ≡ redrawn before.held now.held.front now.held.color
  pub same_bits : at.bits ≡ begun.bits
  pub counts : before.ticks ≤ now.ticks

module _ (line strict : Line) (row : Result (Row × Bits) DecodeError) (old new : Held)
    (held : new ≡ redrawn old new.front new.color) (rest : Bits) where
  -- an allocation fails only if the line, or what is repaired of it, paints a black pixel
  wants_rest : HasBlack (front_of line) → TakesOneRow line strict row old new (Err OutOfMemory) rest
  wants_rest black = record { taken = tt; fault = λ f. absurd f; held = held; memory = λ k. black; not_refused = λ k. cc }

  pub unread_row_wants_memory : DrawsLine line (Err OutOfMemory) new.front rest
      → TakesOneRow line strict row old new (Err OutOfMemory) rest
  unread_row_wants_memory draws = wants_rest (memory_has_black line new.front rest draws)

  -- a line that isn't read, and whose fault is the row's
  pub is_unread : (e : DecodeError) → ((fault : DecodeError) → line ≡ Line.broken new.front fault → row ≡ Err fault)
      → DrawsLine line (Err e) new.front rest → TakesOneRow line strict row old new (Err e) rest
  is_unread e fails = grind (arith, common_steps, by_kind, unread_row_wants_memory)

-- ---- A line of Group 3 that isn't repaired

module _ (line strict : Line) (start : Bits) (old new : Held) (held : new ≡ redrawn old new.front new.color) (rest : Bits) where
  abbrev row : Result (Row × Bits) DecodeError
  row = row_of_line old.settings old.has_eols start line

  -- the result of a repair that failed with an error
  pub isnt_repaired : (e answer : DecodeError) → DrawsLine line (Err e) new.front rest → (IsRepairable new e
      → answer ≡ OutOfMemory) → (IsRepairable new e → ◌≡◌ {A = Result (Unit {0}) DecodeError} (Err answer) (Err OutOfMemory)
      → RepairStoresChange new) → ((IsRepairable new e → ⊥) → ◌≡◌ {A = Result (Unit {0}) DecodeError} (Err answer) (Err e))
      → TakesOneRow line strict row old new (Err answer) rest
  isnt_repaired e answer draws only_memory memory otherwise = by_strict (old.settings.strict || not old.has_eols) refl
    where
      same_eols : new.has_eols ≡ old.has_eols
      same_eols = ap (λ (h : Held). h.has_eols) held

      itself : (e : DecodeError) → DrawsLine line (Err e) new.front rest
          → ((fault : DecodeError) → line ≡ Line.broken new.front fault → row ≡ Err fault) → ◌≡◌
          {A = Result (Unit {0}) DecodeError} (Err answer) (Err e) → TakesOneRow line strict row old new (Err answer) rest
      itself e draws fails is = grind (arith, common_steps, is_unread line strict row old new held rest e fails draws)

      stores : line ≡ Line.broken new.front e → IsRepairable new e → TakesOneRow line strict row old new (Err answer) rest
      stores is repairable = grind (arith, common_steps, last_black, wants_rest)

      repairs : (e : DecodeError) → IsFault e → (old.settings.strict || not old.has_eols) ≡ false → IsRepairable new e
      repairs e fault is = grind (arith, common_steps, or_parts, same_eols, not-false)

      broken : (e : DecodeError) → DrawsLine line (Err e) new.front rest → IsFault e → line ≡ Line.broken new.front e
      broken e draws fault = at_fault_kind (kind_of e) _ _ _ fault draws

      lenient : (e : DecodeError) → DrawsLine line (Err e) new.front rest → (old.settings.strict || not old.has_eols) ≡ false
          → (IsRepairable new e → TakesOneRow line strict row old new (Err answer) rest) → ((IsRepairable new e → ⊥)
          → ◌≡◌ {A = Result (Unit {0}) DecodeError} (Err answer) (Err e)) → TakesOneRow line strict row old new (Err answer) rest
      lenient e draws is one two = by_kind (λ e. DrawsLine line (Err e) new.front rest → (IsRepairable new e → TakesOneRow line
          strict row old new (Err answer) rest) → ((IsRepairable new e → ⊥) → ◌≡◌ {A = Result (Unit {0}) DecodeError} (Err answer)
          (Err e)) → TakesOneRow line strict row old new (Err answer) rest) (λ e fault draws one two. one (repairs e fault is))
          (λ draws one two. subst (λ (r : Result (Unit {0}) DecodeError). TakesOneRow line strict row old new r rest)
          (sym (two (λ r. r.fault))) (unread_row_wants_memory line strict row old new held rest draws))
          (λ draws one two. absurd draws) e draws one two

      by_strict : (b : Bool) → (old.settings.strict || not old.has_eols) ≡ b
          → TakesOneRow line strict row old new (Err answer) rest
      by_strict v0 is = grind (arith, common_steps, cond-true, or_from, not_from_true, same_eols, itself, stores, broken, lenient)

-- a line that isn't read says nothing of the bits that are left
pub draws_anywhere : (line : Line) (e : DecodeError) (front : Row) (rest other : Bits) → DrawsLine line (Err e) front rest
    → DrawsLine line (Err e) front other
draws_anywhere line e front rest other draws = draws

-- a fault of the data breaks the line, with the front that is left
pub line_breaks : (line : Line) (e : DecodeError) (front : Row) (rest : Bits) → IsFault e → DrawsLine line (Err e) front rest
    → line ≡ Line.broken front e
line_breaks line e front rest fault draws = at_fault_kind (kind_of e) _ _ _ fault draws
