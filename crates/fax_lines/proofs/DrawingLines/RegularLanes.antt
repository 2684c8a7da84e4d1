-- Vectors of four numbers of 32 bits, lane by lane.
use Rattle.fax_lines.proofs.Names.{common_steps}
use Rattle.fax_lines.proofs.Names.{◌≡◌, ℕ, zero, suc, ◌+◌, ◌-◌, ◌/◌, ◌%◌, ◌<◌, ◌≤◌, ◌∙◌, List, [], ◌∷◌, ◌++◌, Bool, true, false}
use Rattle.fax_lines.proofs.Names.{cond, map, length, get_or, refl, sym, ap, arith, w32, cases_lt, pos}
use Rattle.fax_lines.proofs.Names.{eqb-true, ltb-true, get_or_default_zero, get_or-append_right, get_or-replicate, to_z}
use Rattle.std.proofs.Common.{◌^◌, ap₂, bit_and, SFits}
use Rattle.std.proofs.lemmas.Bool.{ltb-false}
use Rattle.std.proofs.lemmas.List.{get_or-map, get_or_append_left, length-map, map-id}
use Rattle.std.proofs.lemmas.Simd.{bit_mask_l, get_or-chunk, get_or-zip2, length-chunk, length-zip2, mask_l-lt, mask_l-mod}
use Rattle.std.proofs.lemmas.Simd.{Each1-from_get_or}
use Rattle.std.proofs.Math.Facts.{to_z_pos, to_z-neg}
use Rattle.std.specs.Int.Signed.{lt_z}
use lib.Lanes.{chunk, mask_l, pick_l, top, zip2, Each1}
use Rattle.fax_bits.specs.Bits.{bit_of}
use Rattle.fax_lines.specs.RegularModes.{AreSet, IsRegular}

-- whether a lane is less than another, where the bits of both are read as signed numbers
abbrev less : ℕ → ℕ → Bool
less a b = lt_z (to_z w32 a) (to_z w32 b)

-- a comparison of each two lanes: all bits are set where the first is less
abbrev compared : List ℕ → List ℕ → List ℕ
compared xs ys = zip2 (λ a b. cond (less a b) (2 ^ 32 - 1) 0) xs ys

-- the sum of two numbers, and their difference, as lanes have them
abbrev plus : ℕ → ℕ → ℕ
plus a b = (a + b) % 2 ^ 32

abbrev minus : ℕ → ℕ → ℕ
minus a b = (a + (2 ^ 32 - b)) % 2 ^ 32

-- the bits of a mask
abbrev mask_of : List ℕ → ℕ
mask_of xs = mask_l (map (top 31) xs) % 2 ^ 64

is_one : (b : Bool) → cond {A = ℕ} b 1 0 ≡ 1 → b ≡ true
is_one true e = refl
is_one false e = absurd (omega (arith, e))

-- a lane of a mask that says that two comparisons hold and a third doesn't
abbrev lane_of : Bool → Bool → Bool → ℕ
lane_of a b c =
    bit_and (bit_and (cond a (2 ^ 32 - 1) 0) (cond b (2 ^ 32 - 1) 0)) (2 ^ 32 - 1 - cond c (2 ^ 32 - 1) 0)

lane_set : (a b c : Bool) → top 31 (lane_of a b c) ≡ true → (a ≡ true) × (b ≡ true) × (c ≡ false)
lane_set true true false set = (refl, refl, refl)
lane_set true true true set = let never : false ≡ true = set in cc
lane_set true false c set = let never : false ≡ true = set in cc
lane_set false b c set = let never : false ≡ true = set in cc

-- a number with no sign, and what is greater than it
above : (a b : ℕ) → a < 2 ^ 31 → b < 2 ^ 32 → less a b ≡ true → (a < b) × (b < 2 ^ 31)
above a b small fits greater = grind (arith, common_steps, cases_lt, ltb-true, ap₂, to_z_pos, to_z-neg)

-- two numbers with no sign
above_small : (a b : ℕ) → a < 2 ^ 31 → b < 2 ^ 31 → less a b ≡ true → a < b
above_small a b small fits greater = ltb-true a b (sym (ap₂ lt_z (to_z_pos w32 small) (to_z_pos w32 fits)) ∙ greater)

below_small : (a b : ℕ) → a < 2 ^ 31 → b < 2 ^ 31 → less a b ≡ false → b ≤ a
below_small a b small fits not = ltb-false a b (sym (ap₂ lt_z (to_z_pos w32 small) (to_z_pos w32 fits)) ∙ not)

module _ (start reached next before : List ℕ) where
  -- which places are greater than a first number, less than a second, and no less than a third
  abbrev pub lanes : List ℕ
  lanes = zip2 bit_and (zip2 bit_and (compared start reached) (compared reached next))
      (map (λ a. 2 ^ 32 - 1 - a) (compared reached before))

  module _ (a : length start ≡ 4) (b : length reached ≡ 4) (c : length next ≡ 4) (d : length before ≡ 4) where
    length-first : length (compared start reached) ≡ 4
    length-first = length-zip2 _ start reached (a ∙ sym b) ∙ a

    length-second : length (compared reached next) ≡ 4
    length-second = length-zip2 _ reached next (b ∙ sym c) ∙ b

    length-third : length (compared reached before) ≡ 4
    length-third = length-zip2 _ reached before (b ∙ sym d) ∙ b

    length-opposite : length (map (λ (a : ℕ). 2 ^ 32 - 1 - a) (compared reached before)) ≡ 4
    length-opposite = length-map (compared reached before) (λ a. 2 ^ 32 - 1 - a) ∙ length-third

    length-both : length (zip2 bit_and (compared start reached) (compared reached next)) ≡ 4
    length-both = length-zip2 bit_and (compared start reached) (compared reached next) (length-first ∙ sym length-second)
        ∙ length-first

    length-lanes : length lanes ≡ 4
    length-lanes = grind (arith, common_steps, length-zip2, bit_and, compared, length-both, length-opposite)

    length-tops : length (map (top 31) lanes) ≡ 4
    length-tops = length-map lanes (top 31) ∙ length-lanes

    mask_whole : mask_of lanes ≡ mask_l (map (top 31) lanes)
    mask_whole = mask_l-mod (map (top 31) lanes) 64 (omega (arith, length-tops))

    pub mask_fits : mask_of lanes < 16
    mask_fits = omega (arith, mask_whole, mask_l-lt (map (top 31) lanes), ap (λ n. 2 ^ n) length-tops)

    lane_at : (k : ℕ) → k < 4 → get_or lanes k 0
        ≡ lane_of (less (get_or start k 0) (get_or reached k 0)) (less (get_or reached k 0) (get_or next k 0))
        (less (get_or reached k 0) (get_or before k 0))
    lane_at k lt =
        get_or-zip2 bit_and _ (map (λ a. 2 ^ 32 - 1 - a) (compared reached before)) k 0 0 0
        (omega (arith, length-both)) (omega (arith, length-opposite))
        ∙ ap₂ bit_and
        (get_or-zip2 bit_and (compared start reached) (compared reached next) k 0 0 0
        (omega (arith, length-first)) (omega (arith, length-second))
        ∙ ap₂ bit_and
        (get_or-zip2 _ start reached k 0 0 0 (omega (arith, a)) (omega (arith, b)))
        (get_or-zip2 _ reached next k 0 0 0 (omega (arith, b)) (omega (arith, c))))
        (get_or-map (λ a. 2 ^ 32 - 1 - a) (compared reached before) k 0 0 (omega (arith, length-third))
        ∙ ap (λ (n : ℕ). 2 ^ 32 - 1 - n) (get_or-zip2 _ reached before k 0 0 0 (omega (arith, b)) (omega (arith, d))))

    -- what holds where a bit of the mask is set
    pub where_set : (k : ℕ) → k < 4 → bit_of (mask_of lanes) k ≡ true
        → (less (get_or start k 0) (get_or reached k 0) ≡ true)
        × (less (get_or reached k 0) (get_or next k 0) ≡ true)
        × (less (get_or reached k 0) (get_or before k 0) ≡ false)
    where_set k lt set = lane_set _ _ _ (
        sym (ap (top 31) (lane_at k lt))
        ∙ sym (get_or-map (top 31) lanes k 0 false (omega (arith, length-lanes)))
        ∙ is_one _ (
        sym (bit_mask_l (map (top 31) lanes) k) ∙ sym (ap (λ n. n / 2 ^ k % 2) mask_whole) ∙ eqb-true _ 1 set))

-- four changes of a row fit signed numbers
pub changes_fit : (columns : ℕ) (places : List ℕ) → ((k : ℕ) → get_or places k columns ≤ columns) → columns + 3 < 2 ^ 31
    → (i : ℕ) → i + 4 ≤ length places → Each1 (λ a. SFits w32 (pos a)) (chunk i 4 places)
changes_fit columns places below fit i room = Each1-from_get_or (λ a. SFits w32 (pos a)) (chunk i 4 places) 0 (λ k lt. record {
  sfits =
      let near : k < 4 = omega (arith, lt, length-chunk i 4 places room) in
      omega (
        arith,
        get_or-chunk i 4 places k 0 near,
        get_or_default_zero places (i + k) columns (omega (arith, room)),
        below (i + k),
        fit,
      );
})

-- ---- four vertical modes
-- places from an index on, offsets, and how many pixels are painted
module _ (painted index : ℕ) (places offsets : List ℕ) where
  -- the places that four vertical modes lead to
  abbrev pub reached_from : List ℕ
  reached_from = zip2 minus
      (zip2 plus (chunk index 4 places) (map (λ a. a) (chunk 0 4 offsets))) (3 ∷ 3 ∷ 3 ∷ 3 ∷ [])

  -- the same as signed numbers
  abbrev pub signed_from : List ℕ
  signed_from = zip2 minus
      (zip2 plus (map (λ a. a) (chunk index 4 places)) (map (λ a. a) (chunk 0 4 offsets))) (3 ∷ 3 ∷ 3 ∷ 3 ∷ [])

  -- where each of them starts
  abbrev pub start_from : List ℕ
  start_from = pick_l 0 (signed_from ++ painted ∷ painted ∷ painted ∷ painted ∷ []) (4 ∷ 0 ∷ 1 ∷ 2 ∷ [])

  -- which of them are regular
  abbrev pub mask_from : ℕ
  mask_from = mask_of
      (lanes start_from signed_from (map (λ a. a) (chunk (index + 1) 4 places)) (map (λ a. a) (chunk (index - 1) 4 places)))

  signed_is : signed_from ≡ reached_from
  signed_is = ap (λ here. zip2 minus (zip2 plus here (map (λ a. a) (chunk 0 4 offsets))) (3 ∷ 3 ∷ 3 ∷ 3 ∷ []))
      (map-id (chunk index 4 places))

  module _ (within : (0 < index) × (index + 5 ≤ length places))
      (near : (4 ≤ length offsets) × ((k : ℕ) → k < 4 → get_or offsets k 3 ≤ 6)) where
    length-here : length (chunk index 4 places) ≡ 4
    length-here = length-chunk index 4 places (omega (arith, within.1))

    length-before : length (map (λ a. a) (chunk (index - 1) 4 places)) ≡ 4
    length-before = length-map (chunk (index - 1) 4 places) (λ a. a)
        ∙ length-chunk (index - 1) 4 places (omega (arith, within.1))

    length-next : length (map (λ a. a) (chunk (index + 1) 4 places)) ≡ 4
    length-next = length-map (chunk (index + 1) 4 places) (λ a. a)
        ∙ length-chunk (index + 1) 4 places (omega (arith, within.1))

    length-offsets : length (map (λ a. a) (chunk 0 4 offsets)) ≡ 4
    length-offsets = length-map (chunk 0 4 offsets) (λ a. a) ∙ length-chunk 0 4 offsets near.0

    length-sums : length (zip2 plus (chunk index 4 places) (map (λ a. a) (chunk 0 4 offsets))) ≡ 4
    length-sums = grind (arith, common_steps, length-zip2, plus, length-here, length-offsets)

    pub length-reached : length reached_from ≡ 4
    length-reached = length-zip2 minus _ (3 ∷ 3 ∷ 3 ∷ 3 ∷ []) length-sums ∙ length-sums

    length-signed : length signed_from ≡ 4
    length-signed = ap length signed_is ∙ length-reached

    pub mask_from_fits : mask_from < 16
    mask_from_fits = mask_fits start_from signed_from (map (λ a. a) (chunk (index + 1) 4 places))
        (map (λ a. a) (chunk (index - 1) 4 places)) refl length-signed length-next length-before

    -- the change at an index, and the offset
    change_here : (columns k : ℕ) → k < 4 → get_or (chunk index 4 places) k 0 ≡ get_or places (index + k) columns
    change_here columns k lt =
        get_or-chunk index 4 places k 0 lt ∙ sym (get_or_default_zero places (index + k) columns (omega (arith, within.1)))

    offset_here : (k : ℕ) → k < 4 → get_or (map (λ a. a) (chunk 0 4 offsets)) k 0 ≡ get_or offsets k 3
    offset_here k lt = grind (arith, common_steps, get_or-map, length-chunk, get_or-chunk, get_or_default_zero)

    reached_at : (columns k : ℕ) → k < 4
        → get_or reached_from k 0 ≡ minus (plus (get_or places (index + k) columns) (get_or offsets k 3)) 3
    reached_at columns k lt =
        get_or-zip2 minus _ (3 ∷ 3 ∷ 3 ∷ 3 ∷ []) k 0 0 0 (omega (arith, length-sums)) lt
        ∙ ap₂ minus
        (get_or-zip2 plus (chunk index 4 places) (map (λ a. a) (chunk 0 4 offsets)) k 0 0 0
        (omega (arith, length-here)) (omega (arith, length-offsets))
        ∙ ap₂ plus (change_here columns k lt) (offset_here k lt))
        (get_or-replicate 4 k 3 0 lt)

    -- a place that the row has, its end among them, is the change and its offset, less three
    pub reached_inside : (columns k : ℕ) → columns + 3 < 2 ^ 31 → get_or places (index + k) columns ≤ columns → k < 4
        → get_or reached_from k 0 ≤ columns
        → get_or places (index + k) columns + get_or offsets k 3 ≡ get_or reached_from k 0 + 3
    reached_inside columns k fit below lt inside = omega (arith, reached_at columns k lt, near.1 k lt)

    signed_at : (k : ℕ) → get_or signed_from k 0 ≡ get_or reached_from k 0
    signed_at k = ap (λ xs. get_or xs k 0) signed_is

    first_three : (k : ℕ) → k < 4
        → get_or (signed_from ++ painted ∷ painted ∷ painted ∷ painted ∷ []) k 0 ≡ get_or reached_from k 0
    first_three k lt = get_or_append_left signed_from _ 0 k (omega (arith, length-signed)) ∙ signed_at k

    -- the place where a mode starts is that to which the one before leads
    start_at : (k : ℕ) → k < 4 → get_or start_from k 0 ≡ get_or (painted ∷ reached_from) k 0
    start_at zero lt =
        get_or-append_right signed_from (painted ∷ painted ∷ painted ∷ painted ∷ []) 4 4 0 length-signed (omega arith)
    start_at (suc zero) lt = first_three 0 (omega arith)
    start_at (suc (suc zero)) lt = first_three 1 (omega arith)
    start_at (suc (suc (suc zero))) lt = first_three 2 (omega arith)
    start_at (suc (suc (suc (suc k)))) lt = absurd (omega (arith, lt))

    next_at : (columns k : ℕ) → k < 4
        → get_or (map (λ a. a) (chunk (index + 1) 4 places)) k 0 ≡ get_or places (index + k + 1) columns
    next_at columns k lt =
        let at : index + 1 + k ≡ index + k + 1 = omega arith in
        ap (λ xs. get_or xs k 0) (map-id (chunk (index + 1) 4 places))
        ∙ get_or-chunk (index + 1) 4 places k 0 lt ∙ ap (λ (i : ℕ). get_or places i 0) at
        ∙ sym (get_or_default_zero places (index + k + 1) columns (omega (arith, within.1)))

    before_at : (columns k : ℕ) → k < 4
        → get_or (map (λ a. a) (chunk (index - 1) 4 places)) k 0 ≡ get_or places (index + k - 1) columns
    before_at columns k lt =
        let at : index - 1 + k ≡ index + k - 1 = omega (arith, within.0) in
        ap (λ xs. get_or xs k 0) (map-id (chunk (index - 1) 4 places))
        ∙ get_or-chunk (index - 1) 4 places k 0 lt ∙ ap (λ (i : ℕ). get_or places i 0) at
        ∙ sym (get_or_default_zero places (index + k - 1) columns (omega (arith, within.1)))

    module _ (columns : ℕ) (below : (k : ℕ) → get_or places k columns ≤ columns)
        (fit : (painted ≤ columns) × (columns + 3 < 2 ^ 31)) where
      regular_lane : (k : ℕ) → k < 4 → bit_of mask_from k ≡ true → get_or (painted ∷ reached_from) k 0 ≤ columns
          → IsRegular columns places (get_or (painted ∷ reached_from) k 0) (index + k) (get_or reached_from k 0)
      regular_lane k lt set inside =
          let reached : ℕ = get_or reached_from k 0 in
          let holds = where_set start_from signed_from (map (λ a. a) (chunk (index + 1) 4 places))
          (map (λ a. a) (chunk (index - 1) 4 places)) refl length-signed length-next length-before k lt set in
          let start : ℕ = get_or (painted ∷ reached_from) k 0 in
          let right : (start < reached) × (reached < 2 ^ 31) = above start reached (omega (arith, inside, fit.1))
          (omega (arith, reached_at columns k lt)) (sym (ap₂ less (start_at k lt) (signed_at k)) ∙ holds.0) in
          record {
            right = right.0;
            left = above_small reached _ right.1 (omega (arith, below (index + k + 1), fit.1))
                (sym (ap₂ less (signed_at k) (next_at columns k lt)) ∙ holds.1);
            after = λ some. below_small reached _ right.1 (omega (arith, below (index + k - 1), fit.1))
                (sym (ap₂ less (signed_at k) (before_at columns k lt)) ∙ holds.2);
          }

      -- a mode is regular if its bit and those below it are set
      pub regular_at : (k : ℕ) → k < 4 → AreSet mask_from (k + 1)
          → IsRegular columns places (get_or (painted ∷ reached_from) k 0) (index + k) (get_or reached_from k 0)
      regular_at zero lt set = regular_lane zero lt (set zero (omega arith)) fit.0
      regular_at (suc k) lt set =
          let last = regular_at k (omega (arith, lt)) (λ j less. set j (omega (arith, less))) in
          regular_lane (suc k) lt (set (suc k) (omega arith)) (omega (arith, last.left, below (index + k + 1)))
