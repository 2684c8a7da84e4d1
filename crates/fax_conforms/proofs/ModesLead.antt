-- A mode that is read leads from one position of a line to another, where it is valid.
use Rattle.hayro_ccitt.proofs.Names.{◌≡◌, ℕ, suc, ◌+◌, ◌-◌, ◌<◌, ◌≤◌, Bool, not, ◌++◌, length, take, replicate}
use Rattle.hayro_ccitt.proofs.Names.{Ok, refl, ap, sym, subst, ◌∙◌, arith, inl, inr, cases_lt, false≢true, pos, ◌+ℤ◌, ℤ}
use Rattle.hayro_ccitt.proofs.Names.{length-append, length-replicate, append-nil, Color, White, Mode, Pass, Horizontal}
use Rattle.hayro_ccitt.proofs.Names.{Vertical, Bits, Row, is_black, opposite, pixel, pixel_before, a1, a2, b1, b2}
use Rattle.hayro_ccitt.proofs.Names.{run_from, read_code, mode_codes, common_steps}
use Rattle.hayro_ccitt.proofs.PixelRows.ChangePlaces.{a1_next, a2_next, a2_least, b2_above, pixels_same, at_change}
use Rattle.hayro_ccitt.proofs.PixelRows.ReferencePlaces.{opposite_twice}
use Rattle.fax_conforms.specs.Standing.{Spot, GoesOnFrom, StepsStand, StepsAfter, LineFrom, ModeFrom, Leads, Never}
use Rattle.fax_conforms.proofs.PaintedPixels.{IsRunTo, run_before, run_unchanged, next_is, painted_up_to, goes_back}
use Rattle.fax_conforms.proofs.SpelledRuns.{same_run}
use Rattle.fax_conforms.proofs.StandingSteps.{mode_of_steps, steps_of_mode}

-- painted up to a position, and then in a colour
abbrev pub painted_on : Spot → ℕ → Color → Spot
painted_on at place color = record {
  front = at.front ++ replicate (place - length at.front) (is_black at.color);
  from = suc place;
  color = color;
}

pub other_pixel : (color : Color) → is_black (opposite color) ≡ not (is_black color)
other_pixel color = grind (arith, common_steps)

up_to : (p : ℕ) (row : Row) → take (suc p - 1) row ≡ take p row
up_to p row = let e : suc p - 1 ≡ p = omega arith in ap (λ (n : ℕ). take n row) e

-- the pixels up to a1
run_to_a1 : (row : Row) (at : Spot) → at.from ≤ length row → GoesOnFrom row at
    → IsRunTo row at.from (a1 row at.from) (is_black at.color)
run_to_a1 row at inside goes =
    let same = pixels_same row at.from (a1 row at.from) (is_black at.color) (goes.color inside) (a1_next row at.from).before in
    record {
      same = λ q le lt. same q (omega arith) lt;
      first = λ e. sym (goes.color inside) ∙ ap (pixel_before row) e;
    }

-- the pixel at a1
turned_at_a1 : (row : Row) (at : Spot) → at.from ≤ length row → GoesOnFrom row at → a1 row at.from < length row
    → pixel row (a1 row at.from) ≡ is_black (opposite at.color)
turned_at_a1 row at inside goes lt =
    let one = a1_next row at.from in
    at_change row (a1 row at.from) at.color (one.change lt)
    (run_before row at.from (a1 row at.from) (is_black at.color) (run_to_a1 row at inside goes) (a1 row at.from)
    (one.above inside) (omega arith))

-- a row that goes on after a1
goes_on_after : (row : Row) (at : Spot) → at.from ≤ length row → length at.front ≡ at.from - 1 → GoesOnFrom row at
    → GoesOnFrom row (painted_on at (a1 row at.from) (opposite at.color))
goes_on_after row at inside len goes =
    let one = a1_next row at.from in
    record {
      front = painted_up_to row at (a1 row at.from) goes inside len (one.above inside) one.within one.before
          ∙ sym (up_to (a1 row at.from) row);
      color = λ le. turned_at_a1 row at inside goes (omega arith);
    }

-- the positions that may be painted up to, and from which a1 is found again
pub record IsA1 (row : Row) (at : Spot) (place : ℕ) : Type 0 where
  pub goes : GoesOnFrom row at
  pub is : a1 row at.from ≡ place

a1_again : (row : Row) (at : Spot) (place : ℕ) → length at.front ≡ at.from - 1 → (at.from ≡ 0 → at.color ≡ White)
    → at.from ≤ place → place ≤ length row → GoesOnFrom row (painted_on at place (opposite at.color)) → IsA1 row at place
a1_again row at place len start above within goes =
    let back = goes_back row at place len start above within (goes.front ∙ up_to place row) in
    record {
      goes = back.goes;
      is = next_is row at.from place (a1 row at.from) (is_black at.color) (a1_next row at.from) above within back.run
          (λ lt. goes.color (omega arith) ∙ other_pixel at.color);
    }

-- a2 is the a1 after a1
a2_is_a1 : (row : Row) (from : ℕ) → a2 row from ≡ a1 row (suc (a1 row from))
a2_is_a1 row from = refl

same_place : (a b : ℕ) → pos a ≡ pos b → a ≡ b
same_place a b e = cc

module _ (columns : ℕ) (reference : Row) (at : Spot) (small : columns ≤ 4294967295) (ref_len : length reference ≡ columns)
    (len : length at.front ≡ at.from - 1) (inside : at.from ≤ columns) (start : at.from ≡ 0 → at.color ≡ White) where
  -- ---- The mode here.
  pub mode_leads : (mode : Mode) (here after : Bits) → read_code mode_codes here ≡ Ok (mode, after)
      → Leads columns (LineFrom reference at here) (ModeFrom reference at mode after)
  mode_leads mode here after read row rest row_len = (to, back)
    where
      back : ModeFrom reference at mode after row rest → LineFrom reference at here row rest
      back (goes, steps) =
          (goes, steps_of_mode reference row at.from at.color here after rest mode (omega (arith, row_len, inside)) read steps)

      to : LineFrom reference at here row rest → ModeFrom reference at mode after row rest
      to (goes, steps) =
          let has = mode_of_steps reference row at.from at.color here rest (omega (arith, row_len, inside))
          (omega (arith, row_len, small)) steps in
          let pair : ◌≡◌ {A = Mode × Bits} (has.mode, has.after) (mode, after) = cc in
          (goes, subst (λ (p : Mode × Bits). StepsAfter reference row at.from at.color p.0 p.1 rest) pair has.steps)

  -- ---- Pass.
  pub pass_leads : (here : Bits) (to : ℕ) → b2 reference at.from at.color ≡ to → to < columns
      → Leads columns (ModeFrom reference at Pass here) (LineFrom reference (painted_on at to at.color) here)
  pass_leads here to is lt row rest row_len = (on, back)
    where
      c : Bool
      c = is_black at.color

      above : at.from ≤ to
      above = let b = b2_above reference at.from at.color (omega (arith, is, lt, ref_len)) in omega (arith, b.0, b.1, is)

      on : ModeFrom reference at Pass here row rest → LineFrom reference (painted_on at to at.color) here row rest
      on (goes, (left, steps)) =
          let one = a1_next row at.from in
          let run = run_to_a1 row at (omega (arith, row_len, inside)) goes in
          let left2 : to < a1 row at.from = omega (arith, left, is) in (
            record {
              front = painted_up_to row at to goes (omega (arith, row_len, inside)) len above (omega (arith, row_len, lt))
                  (λ q ge l. one.before q ge (omega arith)) ∙ sym (up_to to row);
              color = λ le. run.same to (omega (arith, above)) left2;
            },
            rw is at steps,
          )

      back : LineFrom reference (painted_on at to at.color) here row rest → ModeFrom reference at Pass here row rest
      back (goes, steps) =
          let one = a1_next row at.from in
          let b = goes_back row at to len start above (omega (arith, row_len, lt)) (goes.front ∙ up_to to row) in
          let longer : IsRunTo row at.from (suc to) c = record {
            same = λ q le l. elim (cases_lt q to) [
              | inl under ↦ b.run.same q le under
              | inr over ↦ let e : q ≡ to = omega arith in rw e (goes.color (omega (arith, row_len, lt)))
            ];
            first = b.run.first;
          } in
          let left : b2 reference at.from at.color < a1 row at.from = elim (cases_lt to (a1 row at.from)) [
            | inl l ↦ omega (arith, is, l)
            | inr ge ↦ absurd (false≢true (sym (run_unchanged row at.from (suc to) c longer (a1 row at.from)
                (one.above (omega (arith, row_len, inside))) (omega (arith, ge))) ∙ one.change (omega (arith, row_len, ge, lt))))
          ] in
          (b.goes, (left, rw is steps))

  pub pass_within : (here : Bits) → columns ≤ b2 reference at.from at.color → Never columns (ModeFrom reference at Pass here)
  pass_within here le row rest row_len (goes, (left, steps)) =
      let within : a1 row at.from ≤ length row = (a1_next row at.from).within in
      absurd (omega (arith, within, le, left, row_len))

  -- ---- Vertical.
  pub vertical_leads : (here : Bits) (k : ℤ) (place : ℕ) → pos (b1 reference at.from at.color) +ℤ k ≡ pos place → at.from ≤ place
      → place ≤ columns → Leads columns (ModeFrom reference at (Vertical k) here)
      (LineFrom reference (painted_on at place (opposite at.color)) here)
  vertical_leads here k place is above within row rest row_len = (on, back)
    where
      on : ModeFrom reference at (Vertical k) here row rest → LineFrom reference (painted_on at place
          (opposite at.color)) here row rest
      on (goes, (exact, steps)) =
          let e : a1 row at.from ≡ place = same_place (a1 row at.from) place (exact ∙ is) in
          let after = goes_on_after row at (omega (arith, row_len, inside)) len goes in
          (rw e at after, rw e at steps)

      back : LineFrom reference (painted_on at place (opposite at.color)) here row rest
          → ModeFrom reference at (Vertical k) here row rest
      back (goes, steps) =
          let again = a1_again row at place len start above (omega (arith, row_len, within)) goes in
          (again.goes, (ap pos again.is ∙ sym is, rw again.is steps))

  -- ---- Horizontal.
  -- the runs of a valid horizontal mode
  pub record HasRuns (here : Bits) : Type 0 where
    pub one : ℕ
    pub two : ℕ
    pub middle : Bits
    pub after : Bits
    pub read1 : run_from at.color (0, here) ≡ Ok (one, middle)
    pub read2 : run_from (opposite at.color) (0, middle) ≡ Ok (two, after)
    pub above : at.from ≤ length at.front + one
    pub within1 : length at.front + one ≤ columns
    pub within2 : length at.front + one + two ≤ columns
    pub some : length at.front + one < columns → 0 < two

  pub horizontal_runs : (here : Bits) (row : Row) (rest : Bits) → length row ≡ columns
      → ModeFrom reference at Horizontal here row rest
      → HasRuns here
  horizontal_runs here row rest row_len (goes, (middle, after, read1, read2, steps)) =
      let one = a1_next row at.from in
      let two = a2_next row at.from in
      let p : ℕ = a1 row at.from in
      let r : ℕ = a2 row at.from in
      let above1 : at.from ≤ p = one.above (omega (arith, row_len, inside)) in
      let within1 : p ≤ length row = one.within in
      let within2 : r ≤ length row = two.within in
      let above2 : p ≤ r = a2_least row at.from in
      record {
        one = p - (at.from - 1);
        two = r - p;
        middle = middle;
        after = after;
        read1 = read1;
        read2 = read2;
        above = omega (arith, above1, len);
        within1 = omega (arith, above1, within1, len, row_len);
        within2 = omega (arith, above1, within2, above2, len, row_len);
        some = λ lt. let over : suc p ≤ r = two.above (omega (arith, lt, len, above1, row_len)) in omega (arith, over);
      }

  module _ (here middle after : Bits) (one two p r : ℕ) (read1 : run_from at.color (0, here) ≡ Ok (one, middle))
      (read2 : run_from (opposite at.color) (0, middle) ≡ Ok (two, after)) (to_p : p ≡ length at.front + one)
      (to_r : r ≡ p + two)
      (above : at.from ≤ p) (within : r ≤ columns) (some : p < columns → 0 < two) where
    -- between the two runs
    abbrev between_runs : Spot
    between_runs = painted_on at p (opposite at.color)

    -- after them
    abbrev after_runs : Spot
    after_runs = painted_on between_runs r at.color

    len_between : length between_runs.front ≡ p
    len_between = length-append at.front (replicate (p - length at.front) (is_black at.color))
        ∙ omega (arith, length-replicate (p - length at.front) (is_black at.color), to_p)

    color_following : painted_on between_runs r (opposite between_runs.color) ≡ after_runs
    color_following = ap (λ (c : Color). painted_on between_runs r c) (opposite_twice at.color)

    -- at the row's end the second run is empty
    nothing_more : columns ≤ p → (row : Row) → between_runs.front ++ replicate (r - length between_runs.front)
        (is_black between_runs.color) ≡ between_runs.front
    nothing_more le row =
        let none : r - length between_runs.front ≡ 0 = omega (arith, len_between, to_r, within, le) in
        ap (λ (n : ℕ). between_runs.front ++ replicate n (is_black between_runs.color)) none ∙ append-nil between_runs.front

    r_at_end : columns ≤ p → r ≡ p
    r_at_end le = omega (arith, to_r, within, le)

    module _ (row : Row) (rest : Bits) (row_len : length row ≡ columns) where
      -- from where the row goes on at a0
      runs_on : GoesOnFrom row at → a1 row at.from ≡ p → a2 row at.from ≡ r → GoesOnFrom row after_runs
      runs_on goes is1 is2 =
          let between : GoesOnFrom row between_runs = subst
          (λ (n : ℕ). GoesOnFrom row (painted_on at n (opposite at.color))) is1
          (goes_on_after row at (omega (arith, row_len, inside)) len goes) in
          elim (cases_lt p columns) [
            | inl lt ↦
                let on = goes_on_after row between_runs (omega (arith, row_len, lt)) (omega (arith, len_between)) between in
                let next : a1 row (suc p) ≡ r = ap (λ (n : ℕ). a1 row (suc n)) (sym is1) ∙ sym (a2_is_a1 row at.from) ∙ is2 in
                subst (GoesOnFrom row) color_following (rw next at on)
            | inr ge ↦ record {
              front = nothing_more ge row ∙ between.front ∙ up_to p row ∙ ap (λ (n : ℕ). take n row) (sym (r_at_end ge))
                  ∙ sym (up_to r row);
              color = λ le. absurd (omega (arith, le, row_len, ge, r_at_end ge));
            }
          ]

      -- from where it goes on after the runs
      runs_back : GoesOnFrom row after_runs → GoesOnFrom row at × (a1 row at.from ≡ p) × (a2 row at.from ≡ r)
      runs_back goes = elim (cases_lt p columns) [
        | inl lt ↦
            let second = a1_again row between_runs r (omega (arith, len_between)) (λ e. absurd (omega arith))
            (omega (arith, to_r, some lt)) (omega (arith, row_len, within)) (subst (GoesOnFrom row) (sym color_following) goes) in
            let first = a1_again row at p len start above (omega (arith, row_len, lt)) second.goes in
            (first.goes, first.is, a2_is_a1 row at.from ∙ ap (λ (n : ℕ). a1 row (suc n)) first.is ∙ second.is)
        | inr ge ↦
            let between : GoesOnFrom row between_runs = record {
              front = sym (nothing_more ge row) ∙ goes.front ∙ up_to r row ∙ ap (λ (n : ℕ). take n row) (r_at_end ge)
                  ∙ sym (up_to p row);
              color = λ le. absurd (omega (arith, le, row_len, ge));
            } in
            let first = a1_again row at p len start above (omega (arith, row_len, within, to_r)) between in
            let least : a1 row at.from ≤ a2 row at.from = a2_least row at.from in
            let most : a2 row at.from ≤ length row = (a2_next row at.from).within in
            (first.goes, first.is, omega (arith, least, most, first.is, row_len, ge, r_at_end ge, within))
      ]

      horizontal_on : ModeFrom reference at Horizontal here row rest → LineFrom reference after_runs after row rest
      horizontal_on (goes, (middle2, after2, first, second, steps)) =
          let same1 = same_run (a1 row at.from - (at.from - 1)) one middle2 middle (sym first ∙ read1) in
          let second2 : run_from (opposite at.color) (0, middle) ≡ Ok (a2 row at.from - a1 row at.from, after2) =
          subst (λ (x : Bits). run_from (opposite at.color) (0, x) ≡ Ok
          (a2 row at.from - a1 row at.from, after2)) same1.1 second in
          let same2 = same_run (a2 row at.from - a1 row at.from) two after2 after (sym second2 ∙ read2) in
          let right : at.from ≤ a1 row at.from = (a1_next row at.from).above (omega (arith, row_len, inside)) in
          let least : a1 row at.from ≤ a2 row at.from = a2_least row at.from in
          let is1 : a1 row at.from ≡ p = omega (arith, same1.0, right, len, to_p) in
          let is2 : a2 row at.from ≡ r = omega (arith, same2.0, least, is1, to_r) in (
            runs_on goes is1 is2,
            subst (λ (x : Bits). StepsStand reference row (suc r) at.color x rest) same2.1
                (subst (λ (n : ℕ). StepsStand reference row (suc n) at.color after2 rest) is2 steps),
          )

      horizontal_back : LineFrom reference after_runs after row rest → ModeFrom reference at Horizontal here row rest
      horizontal_back (goes, steps) =
          let is = runs_back goes in
          let count1 : one ≡ a1 row at.from - (at.from - 1) = omega (arith, is.1, to_p, len) in
          let count2 : two ≡ a2 row at.from - a1 row at.from = omega (arith, is.1, is.2, to_r) in (
            is.0,
            (
              middle,
              after,
              read1 ∙ ap (λ (n : ℕ). Ok (n, middle)) count1,
              read2 ∙ ap (λ (n : ℕ). Ok (n, after)) count2,
              subst (λ (n : ℕ). StepsStand reference row (suc n) at.color after rest) (sym is.2) steps,
            ),
          )

    pub horizontal_leads : Leads columns (ModeFrom reference at Horizontal here) (LineFrom reference after_runs after)
    horizontal_leads row rest row_len = (horizontal_on row rest row_len, horizontal_back row rest row_len)
