-- The positions b1, b2, a1 and a2, and the pixels between changes.
use Rattle.fax_reading.proofs.Names.{◌≡◌, ℕ, zero, suc, ◌+◌, ◌-◌, ◌<◌, ◌≤◌, Bool, true, false, not, ◌&&◌, ltb, leb, [], ◌∷◌}
use Rattle.fax_reading.proofs.Names.{◌++◌, length, take, replicate, refl, ◌∙◌, arith, inl, inr, beq, range_with_len}
use Rattle.fax_reading.proofs.Names.{find, unwrap_or, ltb-true, leb-true, lt-ltb, le-leb, and_parts, and_cases, false≢true}
use Rattle.fax_reading.proofs.Names.{cases_lt, cases_eq, Color, Black, Row, is_black, opposite, pixel, pixel_before, is_change}
use Rattle.fax_reading.proofs.Names.{least_below, right_of, b1, b2, a1, a2, common_steps}

-- the least position from a start on that passes a test, or the bound
pub record IsLeast (from bound : ℕ) (test : ℕ → Bool) (p : ℕ) : Type 0 where
  pub above : from ≤ p
  pub within : p ≤ bound
  pub before : (q : ℕ) → from ≤ q → q < p → test q ≡ false
  pub there : p < bound → test p ≡ true

first : (test : ℕ → Bool) (from n bound : ℕ) → from + n ≡ bound
    → IsLeast from bound test (unwrap_or (find test (range_with_len from n)) bound)
first test from zero bound e = grind (arith, common_steps)
first test from (suc n) bound e = grind (arith, common_steps, first test (from + 1) n bound (omega arith))

-- the search finds the least position
pub is_least : (bound : ℕ) (test : ℕ → Bool) → IsLeast 0 bound test (least_below bound test)
is_least bound test = first test 0 bound bound (omega arith)

-- ---- a1 and a2
pub record IsNext (row : Row) (from p : ℕ) : Type 0 where
  pub above : from ≤ length row → from ≤ p
  pub within : p ≤ length row
  pub before : (q : ℕ) → from ≤ q → q < p → is_change row q ≡ false
  pub change : p < length row → is_change row p ≡ true

next_by : (row : Row) (from : ℕ) (test : ℕ → Bool) → ((p : ℕ) → test p ≡ true → from ≤ p) → ((p : ℕ) → from ≤ p → test p ≡ true)
    → IsNext row from (least_below (length row) (λ p. test p && is_change row p))
next_by row from test low high = grind (arith, common_steps, and_cases, and_parts, cases_lt, false≢true, is_least)

-- a1 is the next change
pub a1_next : (row : Row) (from : ℕ) → IsNext row from (a1 row from)
a1_next row from = next_by row from (leb from) (λ p e. leb-true from p e) (λ p le. le-leb from p le)

-- a2 is the next change after it
pub a2_next : (row : Row) (from : ℕ) → IsNext row (suc (a1 row from)) (a2 row from)
a2_next row from = next_by row (suc (a1 row from)) (ltb (a1 row from)) (λ p e. omega (arith, ltb-true (a1 row from) p e))
    (λ p le. lt-ltb (a1 row from) p (omega arith))

-- a2 is not left of a1
pub a2_least : (row : Row) (from : ℕ) → a1 row from ≤ a2 row from
a2_least row from = grind (arith, common_steps, a1_next, and_parts, cases_lt, is_least, ltb-true)

-- ---- b1 and b2
-- where b2 is inside the row, b1 is left of it, and right of a0
pub b2_above : (reference : Row) (from : ℕ) (color : Color) → b2 reference from color < length reference
    → (from ≤ b1 reference from color) × (b1 reference from color < b2 reference from color)
b2_above reference from color lt = grind (arith, common_steps, and_parts, is_least, leb-true, ltb-true)

-- no change of a row at its first pixel is from black
b1_black : (reference : Row) (p : ℕ) → (leb 0 p && is_change reference p && beq
    (pixel_before reference p) true) ≡ (leb 1 p && is_change reference p && beq (pixel_before reference p) true)
b1_black reference p = grind (arith, common_steps)

-- the position right of a0 that the pen has serves as well as a0's own
pub b1_right : (reference front : Row) (from : ℕ) (color : Color) → length front ≡ from - 1 → (from ≡ 1 → color ≡ Black)
    → b1 reference (right_of front) color ≡ b1 reference from color
b1_right reference front from color len first = grind (arith, common_steps, b1_black, first)

-- b2 of a front, by its position
pub b2_right : (reference front : Row) (from : ℕ) (color : Color) → length front ≡ from - 1 → (from ≡ 1 → color ≡ Black)
    → b2 reference (right_of front) color ≡ b2 reference from color
b2_right reference front from color len first = grind (arith, common_steps, b1_right, first)

-- ---- Pixels between changes.
same_by : (x y : Bool) → not (beq x y) ≡ false → y ≡ x
same_by x y e = grind (arith, common_steps)

-- up to the next change, the pixel to the left keeps its colour
pub before_same : (row : Row) (from p : ℕ) (c : Bool) → pixel_before row from ≡ c
    → ((q : ℕ) → from ≤ q → q < p → is_change row q ≡ false) → (q : ℕ) → from ≤ q → q ≤ p → pixel_before row q ≡ c
before_same row from p c e none zero le lt = let z : from ≡ 0 = omega arith in rw z at e
before_same row from p c e none (suc q) le lt = elim (cases_eq from (suc q)) [
  | inl same ↦ rw same at e
  | inr other ↦ grind (arith, before_same row from p c e none q (omega arith) (omega arith), same_by)
]

-- and so do the pixels, from the one left of the start on
pub pixels_same : (row : Row) (from p : ℕ) (c : Bool) → pixel_before row from ≡ c
    → ((q : ℕ) → from ≤ q → q < p → is_change row q ≡ false) → (q : ℕ) → from - 1 ≤ q → q < p → pixel row q ≡ c
pixels_same row from p c e none q le lt =
    elim (cases_lt q from) [ inl l ↦ let s : from ≡ suc q = omega arith in rw s at e | inr ge ↦ before_same_next ge ]
  where
    before_same_next : from ≤ q → pixel row q ≡ c
    before_same_next ge =
        same_by (pixel_before row q) (pixel row q) (none q ge lt) ∙ before_same row from p c e none q ge (omega arith)

-- at a change the colour turns
pub at_change : (row : Row) (p : ℕ) (color : Color) → is_change row p ≡ true → pixel_before row p ≡ is_black color
    → pixel row p ≡ is_black (opposite color)
at_change row p color change e = grind (arith, common_steps)

-- painting pixels of one colour
pub take_painted : (row : Row) (a n : ℕ) (c : Bool) → a + n ≤ length row → ((q : ℕ) → a ≤ q → q < a + n → pixel row q ≡ c)
    → take (a + n) row ≡ take a row ++ replicate n c
take_painted row zero zero c le same = refl
take_painted [] zero (suc n) c le same = absurd (omega arith)
take_painted (x ∷ row) zero (suc n) c le same = let s : 0 + suc n ≡ suc (0 + n) = omega arith in
    let head : x ≡ c = same 0 (omega arith) (omega arith) in
    let tail : take (0 + n) row ≡ replicate n c = take_painted row 0 n c (omega arith)
    (λ q ge lt. same (suc q) (omega arith) (omega arith)) in
    rw (s, head, tail) refl
take_painted [] (suc a) n c le same = absurd (omega arith)
take_painted (x ∷ row) (suc a) n c le same = let s : suc a + n ≡ suc (a + n) = omega arith in
    let tail : take (a + n) row ≡ take a row ++ replicate n c = take_painted row a n c (omega arith)
    (λ q ge lt. same (suc q) (omega arith) (omega arith)) in
    rw (s, tail) refl
