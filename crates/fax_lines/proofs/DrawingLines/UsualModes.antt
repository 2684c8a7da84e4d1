-- Modes that are drawn by their changes alone.
use Rattle.fax_lines.proofs.Names.{common_steps}
use Rattle.fax_reading.proofs.PixelRows.ReferencePlaces.{opposite_twice}
use Rattle.fax_lines.proofs.Names.{◌≡◌, ℕ, suc, ◌+◌, ◌-◌, ◌*◌, ◌%◌, ◌<◌, ◌≤◌, ◌⊎◌, inl, inr, Bool, true, false, min, List, []}
use Rattle.fax_lines.proofs.Names.{◌∷◌}
use Rattle.fax_lines.proofs.Names.{◌++◌, length, replicate, get_or, Ok, refl, sym, ap, subst, ◌∙◌, arith, ℤ, pos, negsuc, ◌+ℤ◌}
use Rattle.fax_lines.proofs.Names.{ints, cases_lt, length-append, get_or_default_zero, Color, White, Black, Mode, Pass}
use Rattle.fax_lines.proofs.Names.{Horizontal, Vertical, Step, pen_of, words_from_2d, Bits, BitsAt, here, mode_codes, read_code}
use Rattle.fax_lines.proofs.Names.{Context, ArePassed, redrawn, Pen, start, draw_run, draw_mode, turn_following, words_after}
use Rattle.fax_lines.proofs.Names.{Turn, Row, AreChanges, pixels, is_black, opposite, paint, right_of, b1, b2, changes}
use Rattle.fax_lines.proofs.Names.{TurnsFrom, IsNear, IsB1, GoesOn2d, IsStroke, TwoRuns, AreTwoRunsHere, IsRunHere, pen_at}
use Rattle.fax_lines.proofs.Names.{moved, row_in, changes_in, AtHand, CanDraw, CodingLine, Stroke, Draws}
use Rattle.std.specs.Global.{Vec}
use Rattle.std.specs.Prelude.{vec_len, vec_capacity}
use Rattle.fax_lines.specs.declared.pen.RowPen.{RowPen}
use Rattle.fax_lines.specs.DrawnModes.{DrawsMode, DrawsNothing, DrawsOn, IsAtStroke, IsNextMode, KeepsRoom, StaysAsItIs, pen_here}
use Rattle.fax_reading.proofs.PixelRows.ReferencePlaces.{end_within}
use Rattle.fax_bits.proofs.Repetition.Repeated.{after_turn}
use Rattle.fax_reading.proofs.DrawingLines.CountedLines.{IsCountedSoFar, found_2d_from, found_after, found_2d_on, words_run}
use Rattle.fax_reading.proofs.DrawingLines.Drawings.{drawn_by, step_2d}
use Rattle.fax_reading.proofs.DrawingLines.DrawnLines.{IsDrawnSoFar, line_mode, place_ok}
use Rattle.fax_lines.proofs.DrawingLines.UsualStrokes.{next_lawful, paint_fits, pixels-on, length-pixels-on, pixels-pending}
use Rattle.fax_lines.proofs.DrawingLines.UsualStrokes.{wider_by_one}
use Rattle.fax_reading.proofs.PixelRows.B1ByParity.{turns_alike, turns_next, b1_of_front, rising, rising_to, near_within}
use Rattle.fax_reading.proofs.PixelRows.B1ByParity.{starts_b1, ends_at_b1, after_v0, after_vr, after_pass}
use Rattle.fax_reading.proofs.PixelRows.ChangesAndPixels.{length-pixels, turned_at, turned_at-even, AreChanges-wider}
use Rattle.fax_reading.proofs.PixelRows.ChangesAndPixels.{AreChanges-push}

-- ---- Drawing continues.
pub twice_2d : {strict : Bool} {columns : ℕ} {reference : Row} {a b c : Pen} {m n o p q r : ℕ} → GoesOn2d strict columns reference
    a b m n p q → GoesOn2d strict columns reference b c n o q r → GoesOn2d strict columns reference a c m o p r
twice_2d first second = record {
  line = second.line ∙ first.line;
  strictly = second.strictly ∙ first.strictly;
  counts = omega (arith, first.counts, second.counts);
  at_least = omega (arith, first.at_least, second.at_least);
  at_most = omega (arith, first.at_most, second.at_most);
  none = λ e. (let f = first.none e in let s = second.none f.1 in (s.0 ∙ f.0, s.1));
}

-- from one stroke to another, and on from there
pub draws_on : {line : CodingLine} {a b c : Stroke} {first second same last : RowPen} → Draws line a first b second
    → DrawsNothing second same → Draws line b same c last → Draws line a first c last
draws_on one none two =
    record { drawn = twice_2d one.drawn (rw (none.at, none.items, none.count) at two.drawn); reached = two.reached }

-- the room stays, and stays from there on
pub keeps_on : {first second last : RowPen} → KeepsRoom first second → KeepsRoom second last → KeepsRoom first last
keeps_on one two = record {
  same_bits = two.same_bits ∙ one.same_bits;
  capacity = two.capacity ∙ one.capacity;
  count = omega (arith, one.count, two.count);
}

-- and in the row's room
pub goes_on : {line : CodingLine} {a b c : Stroke} {first second same last : RowPen} → DrawsOn line a first b second
    → DrawsNothing second same → KeepsRoom second same → Draws line b same c last → KeepsRoom same last
    → DrawsOn line a first c last
goes_on one none stays two kept =
    record { drawn = draws_on one.drawn none two; kept = keeps_on one.kept (keeps_on stays kept) }

-- a window is filled
pub filled : (pen : RowPen) {window : AtHand} → window.at ≡ pen.window.at
    → DrawsNothing pen (record pen { window = window }) × KeepsRoom pen (record pen { window = window })
filled pen at = (
  record { at = at; items = refl; count = refl },
  record { same_bits = ap (λ (b : BitsAt). b.bits) at; capacity = refl; count = omega arith },
)

-- and drawing goes on
pub goes_on_filled : {line : CodingLine} {a b c : Stroke} {first last pen : RowPen} {window : AtHand}
    → DrawsOn line a first b pen → window.at ≡ pen.window.at → Draws line b (record pen { window = window }) c last
    → KeepsRoom (record pen { window = window }) last → DrawsOn line a first c last
goes_on_filled {pen = pen} one at two kept = goes_on one (filled pen at).0 (filled pen at).1 two kept

-- and so it does after a call that draws nothing
pub goes_on_after : {line : CodingLine} {a b c : Stroke} {first last same : RowPen} (pen : RowPen) {window : AtHand}
    → DrawsOn line a first b pen → window.at ≡ pen.window.at
    → StaysAsItIs (record pen { window = window }) same → KeepsRoom (record pen { window = window }) same
    → Draws line b same c last → KeepsRoom same last → DrawsOn line a first c last
goes_on_after pen one at left stays two kept =
    goes_on one (record { at = ap (λ (w : AtHand). w.at) left.0 ∙ at; items = left.1; count = left.2 })
    (keeps_on (filled pen at).1 stays) two kept

-- what is drawn is of the changes alone, and not of their room
pub same_row_drawn : {line : CodingLine} {a b : Stroke} {first second : RowPen} {even : Vec ℕ} → Draws line a first b second
    → even.items ≡ second.row.items → Draws line a first b (record second { row = even })
same_row_drawn drawn items = record { drawn = rw items drawn.drawn; reached = rw items drawn.reached }

-- what a mode draws, from its parts
pub draws_mode : {line : CodingLine} {stroke next : Stroke} {before after : RowPen} → GoesOn2d line.strict line.columns
    (row_in line.columns line.places.now) (pen_here stroke before) (pen_here next after) before.ticks after.ticks
    (stroke.index - 1) (next.index - 1) → IsAtStroke line next after → before.window.at.place < after.window.at.place
    → vec_len after.row + after.window.left ≤ vec_capacity after.row → DrawsMode line stroke before next after
draws_mode drawn reached onward room =
    record { drawn = record { drawn = drawn; reached = reached }; onward = onward; room = room }

-- a stroke with its colour by another name
pub recolored : {color : Color} (stroke : Stroke) (P : Stroke → Type 0) → stroke.color ≡ color → P stroke
    → P (record stroke { color = color })
recolored stroke P e p = subst (λ (c : Color). P (record stroke { color = c })) e p

-- drawing goes on from a stroke with its colour by another name
pub goes_on_in : {line : CodingLine} {a next : Stroke} {first second last : RowPen} {color : Color} (now : Stroke)
    → now.color ≡ color → DrawsOn line a first now second → DrawsOn line (record now { color = color }) second next last
    → DrawsOn line a first next last
goes_on_in {line} {a} {next} {first} {second} now e one two =
    goes_on_filled {pen = second} {window = second.window} (recolored now (λ (s : Stroke). DrawsOn line a first s second) e one)
    refl two.drawn two.kept

-- a mode that is read and drawn
mode_on : {strict : Bool} {columns : ℕ} {reference : Row} (pen next : Pen) {mode : Mode} {rest : Bits} (words : ℕ)
    {ticks now passed later : ℕ} → length pen.front < columns → read_code mode_codes pen.rest ≡ Ok (mode, rest)
    → ((s : Bool) → (draw_mode s columns reference (record pen { rest = rest }) mode).turn ≡ Turn.next next)
    → length (draw_mode strict columns reference (record pen { rest = rest }) mode).words ≡ words → ticks + 1 + words ≤ now
    → now + passed ≤ ticks + 4 + 4 * words + later → GoesOn2d strict columns reference pen next ticks now passed later
mode_on {strict} {columns} {reference} pen next {mode} {rest} words open_row reads draws counted least most =
    let line = λ (s : Bool). line_mode s columns reference pen mode rest open_row reads
    ∙ ap (after_turn (drawn_by (step_2d s columns reference))) (draws s) in
    let found = found_2d_on strict columns reference pen mode rest open_row reads in
    let on = ap (λ (s : Step). length (found_after (found_2d_from strict columns reference) s)) (draws strict) in
    record {
      line = sym (line strict);
      strictly = sym (line true);
      counts = omega (arith, least);
      at_least = omega (arith, found, on, counted, least);
      at_most = omega (arith, found, on, counted, most);
      none = λ zero. absurd (omega (arith, found, zero));
    }

-- ---- Painting up to a position of the row, in the colour of its end.
colored_end : (row : List ℕ) (color : Color) → TurnsFrom (length row) color → turned_at false row ≡ is_black color
colored_end row White even = turned_at-even false row ∙ rw even refl
colored_end row Black odd = turned_at-even false row ∙ rw odd refl

paint_on : (strict : Bool) (columns painted place : ℕ) (row : List ℕ) (color : Color) (n : ℕ) → AreChanges (suc painted) row
    → TurnsFrom (length row) color → painted ≤ place → place ≤ columns → n ≡ place - painted
    → paint strict columns (pixels painted row) color n ≡ Ok (pixels place row)
paint_on strict columns painted place row color n lawful colored forward within is =
    let front : Row = pixels painted row in
    let len : length front ≡ painted = length-pixels-on painted row lawful in
    let fits : (n ≤ columns - length front) ⊎ (strict ≡ false) = inl (omega (arith, len, is)) in
    let all : min n (columns - length front) ≡ place - painted = omega (arith, len, is) in
    let sum : painted + (place - painted) ≡ place = omega arith in
    let on : pixels place row ≡ front ++ replicate (place - painted) (turned_at false row)
    = ap (λ (m : ℕ). pixels m row) (sym sum) ∙ pixels-on painted (place - painted) row lawful in
    paint_fits strict columns front color n fits ∙ ap (λ (m : ℕ). Ok (front ++ replicate m (is_black color))) all
    ∙ ap (λ (c : Bool). Ok (front ++ replicate (place - painted) c)) (sym (colored_end row color colored)) ∙ ap Ok (sym on)

-- a run that is read and painted
run_draws : (strict : Bool) (columns painted : ℕ) {place run : ℕ} (row : List ℕ) {color : Color} {at : BitsAt} {width words : ℕ}
    → AreChanges (suc painted) row → TurnsFrom (length row) color → place ≡ painted + run → place ≤ columns
    → IsRunHere color at run width words → ((draw_run strict columns (pen_at painted row color at)).turn ≡ Turn.next (pen_at place
    row (opposite color) (moved width at))) × (length (draw_run strict columns (pen_at painted row color at)).words ≡ words)
run_draws strict columns painted {place} {run} row {color} {at} lawful colored reach within there =
    let paints : paint strict columns (pixels painted row) color run ≡ Ok (pixels place row) =
    paint_on strict columns painted place row color run lawful colored (omega (arith, reach)) within (omega (arith, reach)) in
    (rw (there.read, paints) refl, ap length (words_run strict columns (pen_at painted row color at)) ∙ there.found)

none_yet : (row : List ℕ) → AreChanges 1 row → length row % 2 ≡ 0 → row ≡ []
none_yet [] lawful even = refl
none_yet (p ∷ []) lawful even = absurd (omega (arith, even))
none_yet (p ∷ q ∷ row) lawful even = absurd (omega (arith, lawful.2.0, lawful.2.1))

white_at_first : (index : ℕ) (color : Color) (row : List ℕ) → index ≡ 0 → TurnsFrom index color → TurnsFrom (length row) color
    → length row % 2 ≡ 0
white_at_first index White row e at colored = colored
white_at_first index Black row e at colored = absurd (omega (arith, at, e))

-- the number of changes, with one more
one_turn : (row : List ℕ) (place : ℕ) (color : Color) → TurnsFrom (length row) color
    → TurnsFrom (length (row ++ place ∷ [])) (opposite color)
one_turn row place White even = omega (arith, even, length-append row (place ∷ []))
one_turn row place Black odd = omega (arith, odd, length-append row (place ∷ []))

module _ {columns : ℕ} {places : List ℕ} {painted index : ℕ} {color : Color} {row : List ℕ} (ascend : AreChanges columns places)
    (open_row : painted < columns) (stroke : IsStroke columns places painted index color row) where
  lawful : AreChanges (suc painted) row
  lawful = wider_by_one painted row stroke.lawful

  len : length (pixels painted row) ≡ painted
  len = length-pixels-on painted row lawful

  open_front : length (pixels painted row) < columns
  open_front = omega (arith, len, open_row)

  changes_here : (b1 (pixels columns places) (right_of (pixels painted row)) color ≡ get_or places index columns)
      × (b2 (pixels columns places) (right_of (pixels painted row)) color ≡ get_or places (index + 1) columns)
  changes_here = b1_of_front columns places ascend (pixels painted row) painted index color len open_row (stroke.at open_row)

  -- b1 is not left of a0
  pub b1_onward : painted ≤ get_or places index columns
  b1_onward = grind (arith, common_steps, cases_lt)

  pub b1_within : get_or places index columns ≤ columns
  b1_within = end_within columns places ascend index

  -- nor b2
  b2_onward : painted ≤ get_or places (index + 1) columns
  b2_onward = omega (arith, b1_onward, rising columns places ascend index (index + 1) (omega arith))

  pub b2_within : get_or places (index + 1) columns ≤ columns
  b2_within = end_within columns places ascend (index + 1)

  -- a vertical mode
  pub vertical_on : {strict : Bool} (at : BitsAt)
      {place : ℕ} (later : ℕ) {k : ℤ} (width : ℕ) {ticks now : ℕ} → place ≤ 4294967295 → read_code mode_codes (here at)
      ≡ Ok (Vertical k, here (moved width at)) → pos (get_or places index columns) +ℤ k ≡ pos place → painted ≤ place → place
      ≤ columns → ticks + 1 ≤ now → now + (index - 1) ≤ ticks + 4 + (later - 1) → GoesOn2d strict columns (pixels columns places)
      (pen_at painted row color at) (pen_at place row (opposite color) (moved width at)) ticks now (index - 1) (later - 1)
  vertical_on {strict} at {place} later {k} width {ticks} {now} fits reads named forward within least most =
      let front : Row = pixels painted row in
      let pen : Pen = record { front = front; color = color; rest = here (moved width at) } in
      let above : length front ≤ place = omega (arith, len, forward) in
      let is : pos (b1 (pixels columns places) (right_of front) color) +ℤ k ≡ pos place =
      ap (λ (n : ℕ). pos n +ℤ k) changes_here.0 ∙ named in
      let placed = place_ok (length front) place (pos (b1 (pixels columns places) (right_of front) color) +ℤ k) is
      (omega (arith, within, fits)) above in
      let paints : (s : Bool) → paint s columns front color (place - length front) ≡ Ok
      (pixels place row) = λ s. paint_on s columns
      painted place row color (place - length front) lawful (stroke.colored open_row) forward within (omega (arith, len)) in
      mode_on (pen_at painted row color at) (pen_at place row (opposite color) (moved width at)) 0 open_front reads
      (λ s. rw (placed, paints s) refl) (rw (placed, paints strict) refl) (omega (arith, least)) (omega (arith, most))

  -- pass mode
  pub pass_on : {strict : Bool} (at : BitsAt) (later width : ℕ)
      {ticks now : ℕ} → read_code mode_codes (here at) ≡ Ok (Pass, here (moved width at)) → ticks + 1 ≤ now → now
      + (index - 1) ≤ ticks + 4 + (later - 1) → GoesOn2d strict columns (pixels columns places) (pen_at painted row color at)
      (pen_at (get_or places (index + 1) columns) row color (moved width at)) ticks now (index - 1) (later - 1)
  pass_on {strict} at later width {ticks} {now} reads least most =
      let front : Row = pixels painted row in
      let place : ℕ = get_or places (index + 1) columns in
      let named : b2 (pixels columns places) (right_of front) color - length front ≡ place - painted =
      omega (arith, changes_here.1, len) in
      let paints : (s : Bool) → paint s columns front color (b2 (pixels columns places) (right_of front) color - length front)
      ≡ Ok (pixels place row) =
      λ s. paint_on s columns painted place row color _ lawful (stroke.colored open_row) b2_onward b2_within named in
      mode_on (pen_at painted row color at) (pen_at place row color (moved width at))
      0 open_front reads (λ s. rw (paints s) refl) (rw (paints strict) refl) (omega (arith, least)) (omega (arith, most))

  -- ---- The row that is reached.

  -- the row is full
  pub full_stroke : {new_color : Color} → IsStroke columns places columns index new_color row
  full_stroke = record {
    within = omega arith;
    near = stroke.near;
    lawful = AreChanges-wider (painted + 1) (columns + 1) row (omega (arith, open_row)) stroke.lawful;
    colored = λ lt. absurd (omega arith);
    at = λ lt. absurd (omega arith);
    whole = λ le. AreChanges-wider (painted + 1) columns row (omega (arith, open_row)) stroke.lawful;
  }

  -- a change at b1 is right of the last one
  pub b1_is_next : get_or places index columns < columns → AreChanges (get_or places index columns) row
  b1_is_next below = elim (cases_lt painted (get_or places index columns)) [
    | inl lt ↦ AreChanges-wider (painted + 1) (get_or places index columns) row (omega arith) stroke.lawful
    | inr ge ↦
        let at = stroke.at open_row in
        let none : painted ≡ 0 =
        elim (cases_lt 0 painted) [ inl some ↦ absurd (omega (arith, at.right some, ge)) | inr le ↦ omega arith ] in
        let first : index ≡ 0 = elim (cases_lt 0 index) [
          | inl some ↦ absurd (omega (arith, rising_to columns places ascend 0 index some below, ge, none))
          | inr le ↦ omega arith
        ] in
        let empty : row ≡ [] =
        none_yet row (rw none at stroke.lawful) (white_at_first index color row first at.turns (stroke.colored open_row)) in
        rw empty tt
  ]

  -- the row is turned at a position
  pub turned_stroke : {place next : ℕ} {new : List ℕ} → place < columns → AreChanges place row → new ≡ row ++ place ∷ []
      → IsB1 columns places place next (opposite color) → IsStroke columns places place next (opposite color) new
  turned_stroke {place} {next} inside lawful_there is at =
      rw is (record {
        within = omega (arith, inside);
        near = near_within columns places ascend place next inside at.near;
        lawful = AreChanges-push place 1 row (omega arith) lawful_there;
        colored = λ lt. one_turn row place color (stroke.colored open_row);
        at = λ lt. at;
        whole = λ le. absurd (omega (arith, le, inside));
      })

  pub v0_stroke : {new : List ℕ} {new_color : Color} → get_or places index columns < columns → new ≡ row ++ get_or places index
      columns ∷ [] → new_color ≡ opposite color → IsStroke columns places (get_or places index columns) (index + 1) new_color new
  v0_stroke below is turns =
      rw turns (turned_stroke below (b1_is_next below) is
      (after_v0 columns places ascend painted index color (stroke.at open_row) below))

  -- the position of VR
  pub right_near : (more : ℕ) → 0 < more → IsNear columns places (get_or places index columns + more) (index + 1)
  right_near more some = (after_vr columns places ascend painted index color (stroke.at open_row) more some).1

  pub right_stroke : {place next : ℕ} (more : ℕ) {new : List ℕ} {new_color : Color} → place ≡ get_or places index columns + more
      → 0 < more → place < columns → new ≡ row ++ place ∷ [] → new_color ≡ opposite color → next % 2 ≡ (index + 1) % 2
      → IsNear columns places place next → place < get_or places next columns → IsStroke columns places place next new_color new
  right_stroke {place} {next} more named some inside is turns parity near right =
      let there : AreChanges place row =
      AreChanges-wider (painted + 1) place row (omega (arith, b1_onward, named, some)) stroke.lawful in
      let colored : TurnsFrom next (opposite color) =
      turns_alike next (index + 1) (opposite color) parity (turns_next index color (stroke.at open_row).turns) in
      rw turns (turned_stroke inside there is (ends_at_b1 columns places ascend place next (opposite color) colored near right))

  -- that of VL
  pub left_stroke : {place next : ℕ} {new : List ℕ} {new_color : Color} → painted < place
      → place < columns → new ≡ row ++ place ∷ [] → new_color ≡ opposite color → IsB1 columns places place next (opposite color)
      → IsStroke columns places place next new_color new
  left_stroke {place} right inside is turns at =
      let there : AreChanges place row = AreChanges-wider (painted + 1) place row (omega (arith, right)) stroke.lawful in
      rw turns (turned_stroke inside there is at)

  -- that of VL at the row's left edge
  no_index : painted ≡ 0 → color ≡ White → index ≡ 0
  no_index none white = grind (arith, common_steps, cases_lt)

  pub edge_stroke : {new : List ℕ} {new_color : Color} → painted ≡ 0 → color ≡ White → new ≡ row ++ painted ∷ []
      → new_color ≡ opposite color → IsStroke columns places painted (index + 1) new_color new
  edge_stroke none white is turns = grind (arith, common_steps, turns_next, no_index, none_yet, turned_stroke)

  -- that of pass mode
  pub pass_stroke : get_or places (index + 1) columns < columns
      → IsStroke columns places (get_or places (index + 1) columns) (index + 2) color row
  pass_stroke below =
      let at = after_pass columns places ascend painted index color (stroke.at open_row) below in
      record {
        within = omega (arith, below);
        near = near_within columns places ascend (get_or places (index + 1) columns) (index + 2) below at.near;
        lawful =
            AreChanges-wider (painted + 1) (get_or places (index + 1) columns + 1) row (omega (arith, b2_onward)) stroke.lawful;
        colored = λ lt. stroke.colored open_row;
        at = λ lt. at;
        whole = λ le. absurd (omega (arith, le, below));
      }

  -- those of two runs
  first_lawful : (run : ℕ) → (0 < run) ⊎ (row ≡ []) → AreChanges (painted + run) row
  first_lawful run next = next_lawful painted run row stroke.lawful next

  horizontal_by : {strict : Bool}
      (at : BitsAt) (later : ℕ) {run width words run2 width2 words2 ticks now : ℕ} → read_code mode_codes (here at) ≡ Ok
      (Horizontal, here (moved 3 at)) → IsRunHere color (moved 3 at) run width words
      → IsRunHere (opposite color) (moved width (moved 3 at)) run2 width2 words2 → (0 < run) ⊎ (row ≡ [])
      → painted + run + run2 ≤ columns → ticks + 1 + (words + words2) ≤ now → now + (index - 1) ≤ ticks + 4 + 4 * (words + words2)
      + (later - 1) → GoesOn2d strict columns (pixels columns places) (pen_at painted row color at) (pen_at (painted + run + run2)
      (row ++ (painted + run) ∷ []) color (moved width2 (moved width (moved 3 at)))) ticks now (index - 1) (later - 1)
  horizontal_by {strict} at later {run} {width} {words} {run2} {width2} {words2} reads one_here two_here some within least most =
      let reference : Row = pixels columns places in
      let between : ℕ = painted + run in
      let place : ℕ = painted + run + run2 in
      let one : List ℕ = row ++ between ∷ [] in
      let after : Bool → Pen → Step = λ s pen. (draw_run s columns pen).turn in
      let colored : TurnsFrom (length row) color = stroke.colored open_row in
      let last : Pen = pen_at place one color (moved width2 (moved width (moved 3 at))) in
      let middle : Pen = pen_at between row (opposite color) (moved width (moved 3 at)) in
      let first = λ (s : Bool). run_draws s columns painted row lawful colored refl (omega (arith, within)) one_here in
      let lawful_one : AreChanges (suc between) one = AreChanges-wider
      (between + 1) (suc between) one (omega arith) (AreChanges-push between 1 row (omega arith) (first_lawful run some)) in
      let second = λ (s : Bool). run_draws s columns between one lawful_one
      (one_turn row between color colored) refl within two_here in
      let turn2 : (s : Bool) → after s middle ≡ Turn.next last = λ s. subst (λ (front : Row).
      after s (record { front = front; color = opposite color; rest = here (moved width (moved 3 at)) }) ≡ Turn.next last)
      (pixels-pending between row) (subst (λ (c : Color). after s (pen_at between one (opposite color) (moved width
      (moved 3 at)))
      ≡ Turn.next (pen_at place one c (moved width2 (moved width (moved 3 at))))) (opposite_twice color) (second s).0) in
      let words_second : length (draw_run strict columns middle).words ≡ words2 = grind (arith, common_steps, pixels-pending) in
      let pen : Pen = pen_at painted row color (moved 3 at) in
      let first_words : List Bits = (draw_run strict columns pen).words in
      let turns : (s : Bool) → (draw_mode s columns reference pen Horizontal).turn ≡ Turn.next last =
      λ s. ap (λ (t : Step). turn_following t (after s)) (first s).0 ∙ turn2 s in
      let counted : length (draw_mode strict columns reference pen Horizontal).words ≡ words + words2 =
      ap (λ (s : Step). length (first_words ++ words_after s (λ p. (draw_run strict columns p).words))) (first strict).0
      ∙ omega (arith, length-append first_words (draw_run strict columns middle).words, (first strict).1, words_second) in
      mode_on (pen_at painted row color at) last (words + words2) open_front reads turns counted least most

  pub horizontal_on : {strict : Bool} (at : BitsAt) (later : ℕ) {runs : TwoRuns} {ticks now : ℕ}
      → read_code mode_codes (here at) ≡ Ok (Horizontal, here (moved 3 at)) → AreTwoRunsHere color (moved 3 at) runs
      → (0 < runs.first) ⊎ (row ≡ []) → painted + runs.first + runs.second ≤ columns → ticks + 1 + runs.words ≤ now
      → now + (index - 1) ≤ ticks + 4 + 4 * runs.words + (later - 1) → GoesOn2d strict columns (pixels columns places)
      (pen_at painted row color at) (pen_at (painted + runs.first + runs.second) (row ++ (painted + runs.first) ∷ []) color
      (moved runs.width (moved 3 at))) ticks now (index - 1) (later - 1)
  horizontal_on at later {runs} reads two some within least most =
      let sum : at.place + 3 + runs.width ≡ at.place + 3 + two.width + two.width2 = omega (arith, two.bits) in
      rw sum (horizontal_by at later reads two.first two.second some within (omega (arith, least, two.count))
      (omega (arith, most, two.count)))

  pub first_stroke : (run run2 : ℕ) {new : List ℕ} → (0 < run) ⊎ (row ≡ []) → 0 < run2 → painted + run + run2 ≡ columns
      → new ≡ row ++ (painted + run) ∷ [] → IsStroke columns places columns index color new
  first_stroke run run2 next some end is =
      let there : AreChanges columns (row ++ (painted + run) ∷ []) =
      rw end at (AreChanges-push (painted + run) run2 row some (first_lawful run next)) in
      rw is (record {
        within = omega arith;
        near = stroke.near;
        lawful = AreChanges-wider columns (columns + 1) (row ++ (painted + run) ∷ []) (omega arith) there;
        colored = λ lt. absurd (omega arith);
        at = λ lt. absurd (omega arith);
        whole = λ le. there;
      })

  pub horizontal_stroke : (run run2 : ℕ) {next : ℕ} {between new : List ℕ}
      → (0 < run) ⊎ (row ≡ []) → 0 < run2 → painted + run + run2 < columns → between ≡ row ++ (painted + run) ∷ []
      → new ≡ between ++ (painted + run + run2) ∷ [] → next % 2 ≡ index % 2 → IsNear columns places (painted + run + run2) next
      → painted + run + run2 < get_or places next columns → IsStroke columns places (painted + run + run2) next color new
  horizontal_stroke run run2 {next} is_next some inside first second parity near right =
      let place : ℕ = painted + run + run2 in
      let one : List ℕ = row ++ (painted + run) ∷ [] in
      let there : AreChanges place one = AreChanges-push (painted + run) run2 row some (first_lawful run is_next) in
      let colored : TurnsFrom next color = turns_alike next index color parity (stroke.at open_row).turns in
      let turned_twice : TurnsFrom (length (one ++ place ∷ [])) color =
      subst (λ (c : Color). TurnsFrom (length (one ++ place ∷ [])) c) (opposite_twice color)
      (one_turn one place (opposite color) (one_turn row (painted + run) color (stroke.colored open_row))) in
      rw (second, first) (record {
        within = omega (arith, inside);
        near = near_within columns places ascend place next inside near;
        lawful = AreChanges-push place 1 one (omega arith) there;
        colored = λ lt. turned_twice;
        at = λ lt. ends_at_b1 columns places ascend place next color colored near right;
        whole = λ le. absurd (omega (arith, le, inside));
      })

-- a vertical mode of a line
pub draws_vertical : {line : CodingLine} {stroke next : Stroke} {before after : RowPen} {k : ℤ} {width : ℕ}
    → CanDraw line stroke before → next.painted ≤ 4294967295 → IsNextMode (Vertical k) width before.window
    → after.window.at ≡ moved width before.window.at → next.color ≡ opposite stroke.color
    → pixels next.painted after.row.items ≡ pixels next.painted before.row.items
    → pos (get_or (changes_in line.places.now) stroke.index line.columns) +ℤ k ≡ pos next.painted
    → stroke.painted ≤ next.painted → before.ticks + 1 ≤ after.ticks
    → after.ticks + (stroke.index - 1) ≤ before.ticks + 4 + (next.index - 1) → IsAtStroke line next after
    → vec_len after.row + after.window.left ≤ vec_capacity after.row → DrawsMode line stroke before next after
draws_vertical {next = next} {before = before} {width = width} can fits mode moved turned same named forward least most
    reached room =
    draws_mode (rw (moved, turned, same) (vertical_on can.ended.lawful can.inside can.reached before.window.at next.index width
    fits mode.read named forward reached.within least most)) reached (rw moved (omega (arith, mode.some))) room

pub named_right : (b1 place more : ℕ) → place ≡ b1 + more → pos b1 +ℤ pos more ≡ pos place
named_right b1 place more e = ap (λ (n : ℕ). pos n) (sym e)

pub named_left : (b1 place less : ℕ) → place + less ≡ b1 → 0 < less → pos b1 +ℤ negsuc (less - 1) ≡ pos place
named_left b1 place less e some = omega (arith, ints, e, some)

-- ---- A line's start, and what is left when drawing by usual modes ends.
pub start_stroke : (columns : ℕ) (places : List ℕ) → AreChanges columns places → IsStroke columns places 0 0 White []
start_stroke columns places ascend = grind (arith, common_steps, starts_b1, lawful)

pub empty_row : (painted : ℕ) (row : List ℕ) → AreChanges painted row → pixels painted row ≡ [] → row ≡ []
empty_row painted [] lawful none = refl
empty_row painted (p ∷ row) lawful none = absurd (omega (arith, lawful.1, length-pixels painted (p ∷ row) lawful, ap length none))

pub none_painted_yet : (painted : ℕ) (row : List ℕ) → AreChanges painted row → pixels painted row ≡ [] → painted ≡ 0
none_painted_yet painted row lawful none = omega (arith, length-pixels painted row lawful, ap length none)

-- the changes before the one before b1 are passed
pub are_passed : {columns : ℕ} {places : List ℕ} {place index : ℕ} {color : Color} {row : List ℕ} → 0 < columns
    → AreChanges columns places → IsStroke columns places place index color row → ArePassed places place (index - 1)
are_passed {columns} {places} {place} {index} some ascend stroke = record {
  none = λ zero. (elim (cases_lt 1 index) [
    | inl lt ↦ absurd (omega (arith, zero, ((stroke.at (omega (arith, zero, some))).near.left 0 (omega (arith, lt))).0))
    | inr ge ↦ omega (arith, ge)
  ]);
  within = omega (arith, stroke.near);
  left = λ k lt. (elim (cases_lt place columns) [
    | inl open_row ↦ omega (
      arith,
      ((stroke.at open_row).near.left k (omega arith)).1,
      get_or_default_zero places k columns (omega (arith, stroke.near)),
    )
    | inr full ↦
        omega (arith, end_within columns places ascend k, get_or_default_zero places k columns (omega (arith, stroke.near)))
  ]);
}

-- a line that is begun like this
pub begun_2d : (before new : Context) (at next : BitsAt) → GoesOn2d before.held.settings.strict before.held.settings.columns
    before.held.reference (start (here at)) (pen_of new.held (here next)) before.ticks new.ticks 0 new.passed → new.held ≡ redrawn
    before.held new.held.front new.held.color → next.bits ≡ at.bits → new.passed ≤ length (changes before.held.reference)
    → IsDrawnSoFar (step_2d before.held.settings.strict before.held.settings.columns before.held.reference) before new at next
    × IsCountedSoFar (length (changes before.held.reference)) before.ticks new.ticks new.passed
    (length (words_from_2d before.held (here at))) (length
    (found_2d_from before.held.settings.strict before.held.settings.columns before.held.reference (pen_of new.held (here next))))
begun_2d before new at next goes held same within = grind (arith, common_steps)

-- a white line under a white row: V0 alone
pub white_line : (strict : Bool) (columns : ℕ) (at : BitsAt) (ticks now : ℕ) → 0 < columns
    → columns ≤ 4294967295 → read_code mode_codes (here at) ≡ Ok (Vertical (pos 0), here (moved 1 at)) → now ≡ ticks + 2
    → GoesOn2d strict columns (pixels columns []) (pen_at 0 [] White at) (pen_at columns [] Black (moved 1 at)) ticks now 0 0
white_line strict columns at ticks now some fits reads counts =
    vertical_on tt some (start_stroke columns [] tt) at 0 1 fits reads (named_right columns columns 0 (omega arith)) (omega arith)
    (omega arith) (omega (arith, counts)) (omega (arith, counts))
