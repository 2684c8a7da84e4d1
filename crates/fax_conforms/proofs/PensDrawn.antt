-- What a pen has drawn, and where it is.
use Rattle.hayro_ccitt.proofs.Names.{◌≡◌, ℕ, zero, suc, ◌-◌, ◌<◌, ◌≤◌, Bool, true, false, List, length, replicate}
use Rattle.hayro_ccitt.proofs.Names.{refl, ap, sym, subst, ◌∙◌, arith, length-replicate, Color, White, Black, Bits}
use Rattle.hayro_ccitt.proofs.Names.{Row, opposite, right_of, b1, b2, right_of_painted, pos}
use Rattle.hayro_ccitt.proofs.Names.{◌+ℤ◌, ℤ, Pass}
use Rattle.hayro_ccitt.proofs.Names.{Vertical, pixels, AreChanges, cond}
use Rattle.hayro_ccitt.proofs.PixelRows.ChangePlaces.{b2_right, b2_above}
use Rattle.hayro_ccitt.proofs.PixelRows.ChangesAndPixels.{length-pixels}
use Rattle.fax_conforms.specs.declared.lines.Pen.{Pen}
use Rattle.fax_conforms.specs.Standing.{Spot, Leads, LineFrom, ModeFrom, spot_of, from_of, IsDrawn, IsAbove, DrawsOn}
use Rattle.fax_conforms.specs.Standing.{IsPainted}
use Rattle.fax_conforms.proofs.ModesLead.{painted_on, pass_leads, vertical_leads}

-- ---- The position right of a0.
before_from : (begun : Bool) (painted : ℕ) → (begun ≡ false → painted ≡ 0) → painted ≡ cond begun (suc painted) 0 - 1
before_from true painted start = omega arith
before_from false painted start = omega (arith, start refl)

from_one : (begun : Bool) (painted : ℕ) → cond begun (suc painted) 0 ≡ 1 → (begun ≡ true) × (painted ≡ 0)
from_one true painted e = (refl, omega arith)
from_one false painted e = absurd (omega arith)

from_none : (begun : Bool) (painted : ℕ) → cond begun (suc painted) 0 ≡ 0 → begun ≡ false
from_none true painted e = absurd (omega arith)
from_none false painted e = refl

from_few : (begun : Bool) (painted : ℕ) → cond begun (suc painted) 0 ≤ suc painted
from_few true painted = omega arith
from_few false painted = omega arith

right_of_white : (painted : ℕ) → right_of (replicate painted false) ≡ right_of_painted painted
right_of_white zero = refl
right_of_white (suc n) = ap (λ (m : ℕ). suc (suc m)) (length-replicate n false)

-- b1 and b2 are the same, wherever the position is given by the pixels painted
module _ (reference : Row) (pen : Pen) (black : pen.begun ≡ true → pen.painted ≡ 0 → pen.color ≡ Black)
    (start : pen.begun ≡ false → pen.painted ≡ 0) where
  abbrev front : Row
  front = replicate pen.painted false

  front_len : length front ≡ from_of pen - 1
  front_len = length-replicate pen.painted false ∙ before_from pen.begun pen.painted start

  first_black : from_of pen ≡ 1 → pen.color ≡ Black
  first_black e = let one = from_one pen.begun pen.painted e in black one.0 one.1

  pub b2_same : b2 reference (from_of pen) pen.color ≡ b2 reference (right_of_painted pen.painted) pen.color
  b2_same = sym (b2_right reference front (from_of pen) pen.color front_len first_black)
      ∙ ap (λ (n : ℕ). b2 reference n pen.color) (right_of_white pen.painted)

-- ---- What is painted.
-- a spot after more pixels
pub spot_painted : (pen next : Pen) (places new : List ℕ) (place : ℕ) → AreChanges pen.painted places
    → IsPainted pen next places new place → spot_of next new ≡ painted_on (spot_of pen places) place pen.color
spot_painted pen next places new place lawful is =
    let len : length (pixels pen.painted places) ≡ pen.painted = length-pixels pen.painted places lawful in
    let from : from_of next ≡ suc next.painted = ap (λ (b : Bool). cond b (suc next.painted) 0) is.begun in
    rw (← is.painted, len, from, is.pixels_are, is.color) refl

-- and with the other colour
pub spot_turned : (pen next : Pen) (places new : List ℕ) (place : ℕ) → AreChanges pen.painted places
    → IsPainted pen next places new place
    → spot_of (record next { color = opposite next.color }) new ≡ painted_on (spot_of pen places) place (opposite pen.color)
spot_turned pen next places new place lawful is =
    ap (λ (s : Spot). record s { color = opposite s.color }) (spot_painted pen next places new place lawful is)

-- more of the reference row is passed
pub above_on : (columns : ℕ) (pen next : Pen) (reference : List ℕ) → IsAbove columns pen reference → pen.painted ≤ next.painted
    → next.passed ≡ pen.passed → IsAbove columns next reference
above_on columns pen next reference above le same =
    let p = above.passed in
    record {
      lawful = above.lawful;
      passed = rw same (record {
        none = λ e. p.none (omega arith);
        within = p.within;
        left = λ k lt. omega (arith, p.left k lt, le);
      });
    }

module _ (columns : ℕ) (pen : Pen) (places : List ℕ) (small : columns ≤ 4294967295) (drawn : IsDrawn columns pen places)
    (open_end : pen.painted < columns) where
  abbrev at : Spot
  at = spot_of pen places

  pub len_front : length (pixels pen.painted places) ≡ pen.painted
  len_front = length-pixels pen.painted places drawn.lawful

  pub from_is : pen.painted ≡ from_of pen - 1
  from_is = before_from pen.begun pen.painted (λ e. (drawn.start e).0)

  pub len : length at.front ≡ from_of pen - 1
  len = len_front ∙ from_is

  pub inside : from_of pen ≤ columns
  inside = omega (arith, from_few pen.begun pen.painted, open_end)

  pub white : from_of pen ≡ 0 → pen.color ≡ White
  white e = (drawn.start (from_none pen.begun pen.painted e)).1

  -- what is drawn on: up to a position that isn't the row's first one, or in black from there on
  module _ (next : Pen) (new : List ℕ) (place : ℕ) (is : IsPainted pen next places new place) where
    pub drawn_to : (q : ℕ) (color : Color) → place ≤ columns → (place ≡ 0 → color ≡ Black)
        → IsDrawn columns (record next { passed = q; color = color }) new
    drawn_to q color within black = record {
      lawful = is.lawful;
      within = omega (arith, is.painted, within);
      start = λ e. absurd (let f : false ≡ true = sym e ∙ is.begun in cc);
      black = λ e none. black (sym is.painted ∙ none);
    }

    pub onward_to : from_of pen ≤ place → from_of pen < from_of next
    onward_to above =
        let from : from_of next ≡ suc next.painted = ap (λ (b : Bool). cond b (suc next.painted) 0) is.begun in
        omega (arith, from, is.painted, above)

  module _ (reference : List ℕ) (above : IsAbove columns pen reference) where
    abbrev above_row : Row
    above_row = pixels columns reference

    len_above : length above_row ≡ columns
    len_above = length-pixels columns reference above.lawful

    -- ---- Pass.
    module _ (to : ℕ) (to_is : b2 above_row (from_of pen) pen.color ≡ to) (lt : to < columns) where
      right_of_b1 : (from_of pen ≤ to) × (0 < to)
      right_of_b1 =
          let b = b2_above above_row (from_of pen) pen.color (omega (arith, to_is, lt, len_above)) in
          (omega (arith, b.0, b.1, to_is), omega (arith, b.1, to_is))

      pub pass_right : pen.painted ≤ to
      pass_right = omega (arith, right_of_b1.0, from_is)

      module _ (next : Pen) (new : List ℕ) (is : IsPainted pen next places new to) where
        pub pass_on : (q : ℕ) → IsAbove columns (record pen { passed = q }) reference
            → DrawsOn columns reference pen (record next { passed = q }) new
        pass_on q more = record {
          drawn = drawn_to next new to is q next.color (omega (arith, lt)) (λ e. absurd (omega (arith, right_of_b1.1, e)));
          above = above_on columns (record pen { passed = q }) (record next { passed = q }) reference more
              (omega (arith, pass_right, is.painted)) refl;
          onward = onward_to next new to is right_of_b1.0;
        }

        pub pass_drawn : (here : Bits) → Leads columns (ModeFrom above_row at Pass here) (LineFrom above_row
            (spot_of next new) here)
        pass_drawn here = subst (λ (s : Spot). Leads columns (ModeFrom above_row at Pass here) (LineFrom above_row s here))
            (sym (spot_painted pen next places new to drawn.lawful is))
            (pass_leads columns above_row at small len_above len inside white here to to_is lt)

    -- ---- Vertical.
    module _ (k : ℤ) (place : ℕ) (is_at : pos (b1 above_row (from_of pen) pen.color) +ℤ k ≡ pos place) where
      module _ (right : from_of pen ≤ place) (within : place ≤ columns) (next : Pen) (new : List ℕ)
          (is : IsPainted pen next places new place) where
        pub vertical_drawn : (here : Bits) → Leads columns (ModeFrom above_row at (Vertical k) here)
            (LineFrom above_row (spot_of (record next { color = opposite next.color }) new) here)
        vertical_drawn here = subst (λ (s : Spot). Leads columns (ModeFrom above_row at (Vertical k) here)
            (LineFrom above_row s here))
            (sym (spot_turned pen next places new place drawn.lawful is))
            (vertical_leads columns above_row at small len_above len inside white here k place is_at right within)
