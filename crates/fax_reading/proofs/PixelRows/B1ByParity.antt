-- The index of b1, by its parity, and how it moves from mode to mode.
use Rattle.fax_reading.proofs.Names.{common_steps, ◌≡◌, ℕ, zero, suc, ◌+◌, ◌%◌, ◌<◌, ◌≤◌, ◌⊎◌, false, not, List, length}
use Rattle.fax_reading.proofs.Names.{get_or, refl, sym, ap, ◌∙◌, arith, inl, inr, cases_lt, cases_eq, get_or_past}
use Rattle.fax_reading.proofs.Names.{get_or_default_zero, Color, White, Row, AreChanges, pixels, is_black, opposite}
use Rattle.fax_reading.proofs.Names.{right_of, b1, b2, right_of_painted, TurnsFrom, IsNear, IsB1}
use Rattle.fax_reading.proofs.PixelRows.ReferencePlaces.{turned, turned-not, turned_by_parity, not_not, IsSplit}
use Rattle.fax_reading.proofs.PixelRows.ReferencePlaces.{order, end_within, in_list_if_below, b1_is, b2_after_b1}

-- ---- The colour that a change turns from.
pub turns_by : (index : ℕ) (color : Color) → TurnsFrom index color → turned index false ≡ is_black color
turns_by index color e = grind (arith, turned_by_parity)

-- one change less gives the other colour
pub turned_before : (k : ℕ) (color : Color) → turned (suc k) false ≡ is_black color → turned k false ≡ not (is_black color)
turned_before k color colored = sym (not_not (turned k false)) ∙ ap not (sym (turned-not k false) ∙ colored)

-- an index with the parity of the number of changes that are drawn
pub turns_alike : (index drawn : ℕ) (color : Color) → index % 2 ≡ drawn % 2 → TurnsFrom drawn color → TurnsFrom index color
turns_alike index drawn color same e = grind arith

-- the next change turns from the other colour, and the second next one from the same
pub turns_next : (index : ℕ) (color : Color) → TurnsFrom index color → TurnsFrom (index + 1) (opposite color)
turns_next index color e = grind arith

pub turns_second : (index : ℕ) (color : Color) → TurnsFrom index color → TurnsFrom (index + 2) color
turns_second index color e = grind arith

-- and so does the change before it
pub turns_before : (index : ℕ) (color : Color) → TurnsFrom (index + 1) color → TurnsFrom index (opposite color)
turns_before index color e = grind arith

-- where a0 is, by the length of the front
right_of_length : (front : Row) (painted : ℕ) → length front ≡ painted → right_of front ≡ right_of_painted painted
right_of_length front painted e = grind arith

module _ (columns : ℕ) (places : List ℕ) (ascend : AreChanges columns places) where
  -- ---- The changes, and the row's end after them, ascend.
  pub rising : (j k : ℕ) → j ≤ k → get_or places j columns ≤ get_or places k columns
  rising j k le = elim (cases_lt k (length places)) [
    | inl lt ↦ elim (cases_eq j k) [
      | inl same ↦ rw same (omega arith)
      | inr other ↦ omega (
        arith,
        get_or_default_zero places j columns (omega arith),
        get_or_default_zero places k columns lt,
        order columns places ascend j k (omega arith) lt,
      )
    ]
    | inr past ↦ omega (arith, get_or_past places k columns past, end_within columns places ascend j)
  ]

  -- strictly so where the first of two is a change
  rising_from : (j k : ℕ) → j < k → get_or places j columns < columns → get_or places j columns < get_or places k columns
  rising_from j k lt below = elim (cases_lt k (length places)) [
    | inl in_list ↦ omega (
      arith,
      get_or_default_zero places j columns (omega arith),
      get_or_default_zero places k columns in_list,
      order columns places ascend j k lt in_list,
    )
    | inr past ↦ omega (arith, get_or_past places k columns past)
  ]

  -- or where the second one is
  pub rising_to : (j k : ℕ) → j < k → get_or places k columns < columns → get_or places j columns < get_or places k columns
  rising_to j k lt below = grind (arith, rising, rising_from)

  -- it is the number of changes and one more at most
  pub near_within : (painted index : ℕ) → painted < columns → IsNear columns places painted index → index ≤ length places + 1
  near_within painted index inside near = grind (arith, common_steps, cases_lt, in_list_if_below)

  -- where its change is not right of a0, the second next index is one
  pub near_up : (painted index : ℕ) → 0 < painted → get_or places index columns ≤ painted
      → IsNear columns places painted (index + 2)
  near_up painted index some left = record { left = λ k l. (some, omega (arith, left, rising k index (omega arith))) }

  -- ---- b1 and b2.
  -- of the number of changes that are left of a0 or at it
  split_some : (painted j : ℕ) → 0 < painted → painted < columns → ((k : ℕ) → k < j → get_or places k columns ≤ painted)
      → painted < get_or places j columns → IsSplit places (right_of_painted painted) j
  split_some painted j some inside left right = grind (arith, get_or_default_zero, in_list_if_below)

  -- the number of changes that are not right of a0 is the index of b1, or the one before it, which turns from the other colour
  split_near : (painted index : ℕ) (color : Color) → painted < columns → turned index false ≡ is_black color
      → IsNear columns places painted index → (0 < painted → painted < get_or places index columns)
      → (0 < painted) ⊎ (painted ≤ 0) → (first : ℕ) × IsSplit places (right_of_painted painted) first
      × ((index ≡ first) ⊎ ((index ≡ suc first) × (turned first false ≡ not (is_black color))))
  split_near painted zero color inside colored near right (inl some) = grind (arith, split_some)
  split_near painted zero color inside colored near right (inr none) = (0, grind (arith, common_steps), inl refl)
  split_near painted (suc zero) color inside colored near right (inr none) = grind (arith, common_steps, turned_before)
  split_near painted (suc (suc k)) color inside colored near right (inr none) =
      absurd (omega (arith, none, (near.left 0 (omega arith)).0))
  split_near painted (suc k) color inside colored near right (inl some) = elim (cases_lt painted (get_or places k columns)) [
    | inl before ↦ grind (arith, common_steps, split_some painted k some inside, turned_before k color colored)
    | inr not_right ↦ (
      suc k,
      split_some painted (suc k) some inside (λ j l. omega (arith, not_right, rising j k (omega arith))) (right some),
      inl refl,
    )
  ]

  -- the index of b1 is that of b1, and the next one is that of b2
  pub b1_by_parity : (painted index : ℕ) (color : Color) → painted < columns → IsB1 columns places painted index color
      → b1 (pixels columns places) (right_of_painted painted) color ≡ get_or places index columns
  b1_by_parity painted index color inside at =
      let colored : turned index false ≡ is_black color = turns_by index color at.turns in
      let split = split_near painted index color inside colored at.near at.right (cases_lt 0 painted) in
      b1_is columns places ascend (right_of_painted painted) split.0 index color split.1 colored split.2

  -- the same of a front, which says where a0 is
  pub b1_of_front : (front : Row) (painted index : ℕ) (color : Color) → length front ≡ painted → painted < columns → IsB1
      columns places painted index color → (b1 (pixels columns places) (right_of front) color ≡ get_or places index columns)
      × (b2 (pixels columns places) (right_of front) color ≡ get_or places (index + 1) columns)
  b1_of_front front painted index color len inside at = grind (arith, common_steps, right_of_length, b1_by_parity, b2_after_b1)

  -- ---- Where b1 is after a mode.
  -- at a line's start
  pub starts_b1 : IsB1 columns places 0 0 White
  starts_b1 = record { turns = refl; near = record { left = λ k l. absurd (omega arith) }; right = λ l. absurd (omega arith) }

  -- the end of stepping by twos
  pub ends_at_b1 : (painted index : ℕ) (color : Color) → TurnsFrom index color → IsNear columns places painted index
      → painted < get_or places index columns → IsB1 columns places painted index color
  ends_at_b1 painted index color turns near right = record { turns = turns; near = near; right = λ some. right }

  module _ (painted index : ℕ) (color : Color) (at : IsB1 columns places painted index color) where
    -- V0: the next index
    pub after_v0 : get_or places index columns < columns
        → IsB1 columns places (get_or places index columns) (index + 1) (opposite color)
    after_v0 below = record {
      turns = turns_next index color at.turns;
      near = record { left = λ k l. (let lt = rising_to k index (omega arith) below in (omega (arith, lt), omega (arith, lt))) };
      right = λ some. rising_from index (index + 1) (omega arith) below;
    }

    -- VR: from the next index on
    pub after_vr : (more : ℕ) → 0 < more → TurnsFrom (index + 1) (opposite color)
        × IsNear columns places (get_or places index columns + more) (index + 1)
    after_vr more some = grind (arith, turns_next, rising)

    -- pass: the second next
    pub after_pass : get_or places (index + 1) columns < columns
        → IsB1 columns places (get_or places (index + 1) columns) (index + 2) color
    after_pass below = grind (arith, turns_second, rising_to, rising, rising_from)

  module _ (painted before : ℕ) (color : Color) (at : IsB1 columns places painted (before + 1) color) (place : ℕ)
      (right : painted < place) (left : place < get_or places (before + 1) columns) where
    -- the one after b1
    pub after_vl_on : get_or places before columns ≤ place → IsB1 columns places place (before + 2) (opposite color)
    after_vl_on is_left = grind (arith, turns_second, near_up, rising)
