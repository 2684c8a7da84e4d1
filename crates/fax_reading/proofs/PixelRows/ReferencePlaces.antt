-- b1 and b2 among the changes that a reference row is made of.
use Rattle.fax_reading.proofs.Names.{opposite, ◌≡◌, ℕ, zero, suc, ◌+◌, ◌-◌, ◌%◌, ◌<◌, ◌≤◌, ◌⊎◌, ◌↔◌, Bool, true, false, not, ◌&&◌}
use Rattle.fax_reading.proofs.Names.{ltb, leb, List, [], ◌∷◌, length, get_or, replicate, refl, sym, ap, ◌∙◌, arith, inl, inr, beq}
use Rattle.fax_reading.proofs.Names.{and-false, filter, lt-ltb, le-leb, le-ltb, lt-leb, false≢true, cases_lt, cases_eq, cond-true}
use Rattle.fax_reading.proofs.Names.{cond-false, length-replicate, get_or-replicate, get_or_append_left, get_or-append_right}
use Rattle.fax_reading.proofs.Names.{get_or_past, get_or_default_zero, Color, White, Row, AscendFrom, AreChanges, pixels_from}
use Rattle.fax_reading.proofs.Names.{pixels, pixel, pixel_before, is_change, is_black, right_of, least_below, b1, b2}
use Rattle.fax_reading.proofs.Names.{right_of_painted, passed_changes, common_steps}
use Rattle.fax_reading.proofs.PixelRows.ChangePlaces.{IsLeast, is_least, b2_above}
use Rattle.std.specs.Bool.{IsTrue}
use Rattle.fax_reading.proofs.PixelRows.{RowChanges.same_beq, ChangesAndPixels.length-pixels}

-- there is one least position
least_unique : (bound : ℕ) (test : ℕ → Bool) (p q : ℕ) → IsLeast 0 bound test p → IsLeast 0 bound test q → p ≡ q
least_unique bound test p q u v = grind (arith, common_steps, cases_lt, false≢true)

-- ---- The colour after this number of changes.
-- a colour that is turned this often
abbrev pub turned : ℕ → Bool → Bool
turned zero color = color
turned (suc n) color = turned n (not color)

-- to turn first is to turn last
pub turned-not : (n : ℕ) (color : Bool) → turned n (not color) ≡ not (turned n color)
turned-not zero color = refl
turned-not (suc n) color = turned-not n (not color)

-- an even number of changes keeps the colour, and an odd one turns it
pub turned_by_parity : (n : ℕ) → (n % 2 ≡ 0 → turned n false ≡ false) × (n % 2 ≡ 1 → turned n false ≡ true)
turned_by_parity zero = (λ e. refl, λ e. absurd (omega arith))
turned_by_parity (suc n) = grind (arith, common_steps, turned_by_parity n, turned-not n false)

-- ---- Where a position is among changes.
-- the first j of the changes, and no others, are left of a position
pub record IsSplit (places : List ℕ) (p j : ℕ) : Type 0 where
  pub within : j ≤ length places
  pub before : (k : ℕ) → k < j → get_or places k 0 < p
  pub here : j < length places → p ≤ get_or places j 0

-- each position is somewhere among them
split_of : (places : List ℕ) (p : ℕ) → (j : ℕ) × IsSplit places p j
split_of [] p = (0, record { within = omega arith; before = λ k lt. absurd (omega arith); here = λ lt. absurd (omega arith) })
split_of (place ∷ places) p = elim (cases_lt place p) [
  | inl lt ↦ (let rest = split_of places p in (suc rest.0, split_later place places p rest.0 lt rest.1))
  | inr ge ↦ (0, record { within = omega arith; before = λ k l. absurd (omega arith); here = λ l. ge })
]
  where
    split_later : (place : ℕ) (places : List ℕ) (p j : ℕ) → place < p → IsSplit places p j → IsSplit (place ∷ places) p (suc j)
    split_later place places p j lt split = grind (arith, common_steps)

-- ---- Ascending positions.
-- ascending positions are from the first one on, and below the width
ascend_bounds : (first width : ℕ) (places : List ℕ) → AscendFrom first width places
    → (j : ℕ) → j < length places → (first ≤ get_or places j 0) × (get_or places j 0 < width)
ascend_bounds first width [] ascend j lt = absurd (omega arith)
ascend_bounds first width (place ∷ places) ascend zero lt = (ascend.0, ascend.1)
ascend_bounds first width (place ∷ places) ascend (suc j) lt =
    grind (arith, common_steps, ascend_bounds (suc place) width places ascend.2 j (omega arith))

-- and of two of them the later one is greater
ascend_order : (first width : ℕ) (places : List ℕ) → AscendFrom first width places
    → (j k : ℕ) → j < k → k < length places → get_or places j 0 < get_or places k 0
ascend_order first width [] ascend j k lt l = absurd (omega arith)
ascend_order first width (place ∷ places) ascend j zero lt l = absurd (omega arith)
ascend_order first width (place ∷ places) ascend zero (suc k) lt l = grind (arith, common_steps, ascend_bounds)
ascend_order first width (place ∷ places) ascend (suc j) (suc k) lt l =
    ascend_order (suc place) width places ascend.2 j k (omega arith) (omega arith)

-- ---- The pixels between ascending positions.
-- a pixel has the colour that follows from the changes up to it
pixels_from-pixel : (place first : ℕ) (color : Bool) (width : ℕ) (places : List ℕ) (p j : ℕ)
    → AscendFrom first width places → place ≤ first → place ≤ p → p < width → IsSplit places (suc p) j
    → get_or (pixels_from place color width places) (p - place) false ≡ turned j color
pixels_from-pixel place first color width [] p zero ascend le lep lt split = grind (arith, common_steps, get_or-replicate)
pixels_from-pixel place first color width [] p (suc j) ascend le lep lt split = absurd (omega (arith, split.within))
pixels_from-pixel place first color width (change ∷ places) p zero ascend le lep lt split =
    grind (arith, common_steps, get_or-replicate, get_or_append_left, length-replicate)
pixels_from-pixel place first color width (change ∷ places) p (suc j) ascend le lep lt split =
    let here : change < suc p = split.before 0 (omega arith) in
    let run : length (replicate (change - place) color) ≡ change - place = length-replicate (change - place) color in
    let within : suc j ≤ suc (length places) = split.within in
    let rest : IsSplit places (suc p) j =
    record { within = omega arith; before = λ k l. split.before (suc k) (omega arith); here = λ l. split.here (omega arith) } in
    let e : p - place - (change - place) ≡ p - change = omega arith in
    get_or-append_right (replicate (change - place) color) (pixels_from change (not color) width places) (change - place)
    (p - place) false run (omega arith) ∙ ap (λ (n : ℕ). get_or (pixels_from change (not color) width places) n false) e
    ∙ pixels_from-pixel change (suc change) (not color) width places p j ascend.2 (omega arith) (omega arith) lt rest

-- ---- The changing elements of a row of pixels.
pub opposite_twice : (color : Color) → opposite (opposite color) ≡ color
opposite_twice color = grind (arith, common_steps)

other_beq : (b : Bool) → beq b (not b) ≡ false
other_beq b = grind (arith, common_steps)

module _ (columns : ℕ) (places : List ℕ) (ascend : AreChanges columns places) where
  abbrev row : Row
  row = pixels columns places

  -- the change of an index, or the row's end where there is none
  abbrev change : ℕ → ℕ
  change index = get_or places index columns

  -- the tests of b1, and of b2 where b1 is given
  abbrev is_b1 : ℕ → Color → ℕ → Bool
  is_b1 from color p = leb from p && is_change row p && beq (pixel_before row p) (is_black color)

  abbrev is_right_of : ℕ → ℕ → Bool
  is_right_of left p = ltb left p && is_change row p

  -- the row has its width
  pub row_length : length row ≡ columns
  row_length = length-pixels columns places ascend

  -- a pixel is turned by the changes up to it
  pixel_is : (p j : ℕ) → p < columns → IsSplit places (suc p) j → pixel row p ≡ turned j false
  pixel_is p j lt split = let e : p - 0 ≡ p = omega arith in grind (arith, pixels_from-pixel)

  -- and the pixel before a position by those left of it
  before_is : (p j : ℕ) → p ≤ columns → IsSplit places p j → pixel_before row p ≡ turned j false
  before_is p j le split = grind (arith, pixel_is)

  pub order : (j k : ℕ) → j < k → k < length places → get_or places j 0 < get_or places k 0
  order = ascend_order 0 columns places ascend

  below : (j : ℕ) → j < length places → get_or places j 0 < columns
  below j lt = (ascend_bounds 0 columns places ascend j lt).1

  -- this many changes are left of each of them
  split_at : (j : ℕ) → j < length places → IsSplit places (get_or places j 0) j
  split_at j lt = record { within = omega arith; before = λ k l. order k j l lt; here = λ l. omega arith }

  -- each of the positions is a changing element
  change_there : (j : ℕ) → j < length places → is_change row (get_or places j 0) ≡ true
  change_there j lt = let p : ℕ = get_or places j 0 in
      let left : get_or places j 0 < columns = below j lt in
      let u = before_is p j (omega arith) (split_at j lt) in
      let v = pixel_is p (suc j) left (grind (arith, order, cases_eq)) ∙ turned-not j false in
      rw (u, v) (ap not (other_beq (turned j false)))

  -- no other position is
  change_none : (p j : ℕ) → p < columns → IsSplit places p j → (j < length places → p < get_or places j 0)
      → is_change row p ≡ false
  change_none p j lt split left =
      grind (arith, common_steps, before_is p j (omega arith) split, pixel_is p j lt, same_beq (turned j false))

  -- a position of the row is no change, or it is one of the positions
  change_or_none : (p j : ℕ) → p < columns → IsSplit places p j → (is_change row p ≡ false)
      ⊎ ((j < length places) × (get_or places j 0 ≡ p))
  change_or_none p j lt split = grind (arith, common_steps, cases_eq, cases_lt, change_none)

  -- the change of an index, or the row's end, is at most the row's end; left of it, it is in the list
  pub end_within : (j : ℕ) → change j ≤ columns
  end_within j = grind (arith, common_steps, below, cases_lt, get_or_default_zero, get_or_past)

  pub in_list_if_below : (j : ℕ) → change j < columns → j < length places
  in_list_if_below j lt = grind (arith, common_steps, cases_lt, get_or_past)

  -- the least place of a test that only changes pass is the change of an index, if that one passes and no lesser one does
  least_is : (test : ℕ → Bool) (index : ℕ) → ((p : ℕ) → is_change row p ≡ false → test p ≡ false) → (index < length places
      → test (get_or places index 0) ≡ true) → ((j : ℕ) → j < index → j < length places → test (get_or places j 0) ≡ false)
      → least_below (length row) test ≡ change index
  least_is test index none here earlier = least_unique (length row) test _ _ (is_least _ _) (record {
    above = omega arith;
    within = omega (arith, row_length, end_within index);
    before = λ p _ lt. before p lt;
    there = λ lt. let l = in_list_if_below index (omega (arith, row_length)) in
        rw (get_or_default_zero places index columns l) (here l);
  })
    where
      before : (p : ℕ) → p < change index → test p ≡ false
      before p lt = let split = split_of places p in
          elim (change_or_none p split.0 (omega (arith, end_within index)) split.1)
          [ inl e ↦ none p e | inr at ↦ grind (arith, cases_lt, cases_eq, get_or_default_zero, order) ]

  -- the next change after the one at an index is the one at the next index
  pub next_change : (index : ℕ) → least_below (length row) (is_right_of (change index)) ≡ change (suc index)
  next_change index = least_is (is_right_of (change index)) (suc index) (λ p e. rw e (and-false _))
      (λ lt. grind (arith, common_steps, change_there, get_or_default_zero, lt-ltb, order)) (λ j lt l. grind
      (arith, common_steps, le-ltb, below j l, in_list_if_below index, get_or_default_zero, order j index, cases_eq j index))

  -- a1 is the change of the first index right of a0
  pub a1_is : (from first : ℕ) → IsSplit places from first
      → least_below (length row) (λ p. leb from p && is_change row p) ≡ change first
  a1_is from first split = grind (arith, least_is, and-false, le-leb, change_there, lt-leb)

  -- b1 is the change of the first index right of a0, or of the one after it where the first turns the other way
  pub b1_is : (from first index : ℕ) (color : Color) → IsSplit places from first → turned index false ≡ is_black color
      → (index ≡ first) ⊎ ((index ≡ suc first) × (turned first false ≡ not (is_black color))) → b1 row from color ≡ change index
  b1_is from first index color split colored reach = least_is (is_b1 from color) index none there earlier
    where
      none : (p : ℕ) → is_change row p ≡ false → is_b1 from color p ≡ false
      none p e = grind (arith, common_steps, and-false)

      color_at : (j : ℕ) → j < length places → pixel_before row (get_or places j 0) ≡ turned j false
      color_at j lt = before_is (get_or places j 0) j (omega (arith, below j lt)) (split_at j lt)

      there : index < length places → is_b1 from color (get_or places index 0) ≡ true
      there lt = grind (arith, order first index, color_at index lt, le-leb, change_there index lt)

      -- a change that is left of it, and not left of a0, turns the other way
      earlier : (j : ℕ) → j < index → j < length places → is_b1 from color (get_or places j 0) ≡ false
      earlier j lt l = grind (arith, common_steps, reach, split.before j, color_at j l, lt-leb)

-- ---- The index of b1 as code finds it.
-- a0 is where the front ends
pub right_of-pixels : (painted : ℕ) (places : List ℕ) → AreChanges painted places
    → right_of (pixels painted places) ≡ right_of_painted painted
right_of-pixels painted places ascend = grind (arith, common_steps, row_length)

-- b2 is the change after b1
pub b2_after_b1 : (columns : ℕ) (places : List ℕ) (from index : ℕ) (color : Color) → AreChanges columns places
    → b1 (pixels columns places) from color ≡ get_or places index columns
    → b2 (pixels columns places) from color ≡ get_or places (index + 1) columns
b2_after_b1 columns places from index color ascend e =
    ap (λ (b : ℕ). least_below (length (pixels columns places)) (λ p. ltb b p && is_change (pixels columns places) p)) e
    ∙ next_change columns places ascend index
    ∙ ap (λ (n : ℕ). get_or places n columns) (let s : suc index ≡ index + 1 = omega arith in s)

turned_from_even : (n : ℕ) (even : Bool) → IsTrue even ↔ (n % 2 ≡ 0) → turned n false ≡ not even
turned_from_even n even h = grind (arith, common_steps, cases_eq, common_steps, false≢true, turned_by_parity)

pub not_not : (b : Bool) → not (not b) ≡ b
not_not b = grind (arith, common_steps)

module _ (columns : ℕ) (places : List ℕ) (from first : ℕ) (color : Color) (even white : Bool)
    (ascend : AreChanges columns places) (split : IsSplit places from first) (parity : IsTrue even ↔ (first % 2 ≡ 0))
    (whiteness : IsTrue white ↔ (color ≡ White)) where
  -- the first change right of a0 is b1, where it turns the colour to the other one
  pub b1_first : not (beq even white) ≡ false → b1 (pixels columns places) from color ≡ get_or places first columns
  b1_first same = let turns : turned first false ≡ is_black color = grind
      (arith, common_steps, turned_from_even) in
      b1_is columns places ascend from first first color split turns (inl refl)

  -- and else the next one is
  pub b1_second : not (beq even white) ≡ true → b1 (pixels columns places) from color ≡ get_or places (first + 1) columns
  b1_second other = let stays : turned first false ≡ not (is_black color) = grind
      (arith, common_steps, turned_from_even) in
      let turns : turned (suc first) false ≡ is_black color = turned-not first false ∙ ap not stays ∙ not_not (is_black color) in
      let next : first + 1 ≡ suc first = omega arith in
      rw next (b1_is columns places ascend from first (suc first) color split turns (inr (refl, stays)))

-- b2 is not left of where the front ends
pub b2_from_front : (reference front : Row) (color : Color) → length front ≤ length reference
    → length front ≤ b2 reference (right_of front) color
b2_from_front reference front color within = grind (arith, common_steps, b2_above, cases_lt)

-- as many changes of ascending ones are at most at a position as precede the split after it
split_count : (first width : ℕ) (places : List ℕ) (p j : ℕ) → AscendFrom first width places → IsSplit places (suc p) j
    → j ≡ length (filter (λ place. leb place p) places)
split_count first width [] p j ascend split = omega (arith, split.within)
split_count first width (place ∷ places) p zero ascend split = grind
    (arith, common_steps, ascend_bounds, cond-false, lt-leb, split_count (suc place) width places p 0 ascend.2)
split_count first width (place ∷ places) p (suc j) ascend split = let left : place < suc p = split.before 0 (omega arith) in
    let within : suc j ≤ suc (length places) = split.within in
    let rest : IsSplit places (suc p) j =
    record { within = omega arith; before = λ k l. split.before (suc k) (omega arith); here = λ l. split.here (omega arith) } in
    ap suc (split_count (suc place) width places p j ascend.2 rest) ∙ ap length (sym (cond-true (leb place p)
    (place ∷ filter (λ place. leb place p) places) (filter (λ place. leb place p) places) (le-leb place p (omega arith))))

-- the changes that are not right of a0 are those before the split there
pub split_passed : (columns : ℕ) (places : List ℕ) (painted j : ℕ) → AreChanges columns places
    → IsSplit places (right_of_painted painted) j → j ≡ passed_changes places painted
split_passed columns places zero zero ascend split = refl
split_passed columns places zero (suc j) ascend split = let none : get_or places 0 0 < 0 = split.before 0 (omega arith) in
    absurd (omega arith)
split_passed columns places (suc painted) j ascend split = split_count 0 columns places (suc painted) j ascend split
