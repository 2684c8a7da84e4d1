-- b1 is found in steps of two changes, and from near where it was.
use Rattle.fax_coding.proofs.Names.{◌≡◌, ℕ, zero, suc, ◌+◌, ◌-◌, ◌<◌, ◌≤◌, ◌%◌, ◌⊎◌, false, List, length, get_or, refl, sym}
use Rattle.fax_coding.proofs.Names.{ap, ◌∙◌, arith, inl, inr, cases_lt, get_or_default_zero, White, Black, AreChanges}
use Rattle.fax_coding.proofs.Names.{pixels, is_black, opposite, b1, IsSplit, turned, turned_before, turns_by}
use Rattle.fax_coding.proofs.Names.{in_list_if_below, b1_is, rising, turns_next, turns_second, turns_before, Place, IsNear}
use Rattle.fax_coding.proofs.Names.{color_after}

-- one change turns the colour, and two don't
pub even_or_odd : (n : ℕ) → (n % 2 ≡ 0) ⊎ (n % 2 ≡ 1)
even_or_odd n = elim (cases_lt (n % 2) 1) [ inl lt ↦ inl (omega arith) | inr ge ↦ inr (omega arith) ]

pub white_after : (n : ℕ) → n % 2 ≡ 0 → color_after n ≡ White
white_after n e = rw e refl

pub black_after : (n : ℕ) → n % 2 ≡ 1 → color_after n ≡ Black
black_after n e = rw e refl

pub color_next : (n : ℕ) → color_after (n + 1) ≡ opposite (color_after n)
color_next n = elim (even_or_odd n) [
  | inl even ↦ black_after (n + 1) (omega arith) ∙ ap opposite (sym (white_after n even))
  | inr odd ↦ white_after (n + 1) (omega arith) ∙ ap opposite (sym (black_after n odd))
]

pub color_second : (n : ℕ) → color_after (n + 2) ≡ color_after n
color_second n = elim (even_or_odd n) [
  | inl even ↦ white_after (n + 2) (omega arith) ∙ sym (white_after n even)
  | inr odd ↦ black_after (n + 2) (omega arith) ∙ sym (black_after n odd)
]

module _ (columns : ℕ) (places : List ℕ) (lawful : AreChanges columns places) (at : Place) (index : ℕ)
    (near : IsNear columns places at index) where
  -- the index is the number of changes and one more at most
  pub near_within : at.from ≤ columns → index ≤ length places + 1
  near_within inside = elim (cases_lt index 2) [
    | inl lt ↦ omega arith
    | inr ge ↦
        let left : get_or places (index - 2) columns < at.from = near.left (index - 2) (omega arith) in
        let in_list : index - 2 < length places = in_list_if_below columns places lawful (index - 2) (omega arith) in
        omega arith
  ]

  -- two further on, where its change is left of the position
  pub near_up : get_or places index columns < at.from → IsNear columns places at (index + 2)
  near_up left = record {
    turns = turns_second index at.color near.turns;
    left = λ k l. omega (arith, left, rising columns places lawful k index (omega arith));
  }

  -- it is that of b1 where its change isn't left of the position
  split_at : (j : ℕ) → at.from ≤ columns → ((k : ℕ) → k < j → get_or places k columns < at.from)
      → at.from ≤ get_or places j columns → IsSplit places at.from j
  split_at j inside left right = record {
    within = within j left;
    before = earlier;
    here = λ l. omega (arith, right, get_or_default_zero places j columns l);
  }
    where
      within : (n : ℕ) → ((k : ℕ) → k < n → get_or places k columns < at.from) → n ≤ length places
      within zero h = omega arith
      within (suc m) h = let lt : m < length places =
          in_list_if_below columns places lawful m (omega (arith, inside, h m (omega arith))) in omega arith

      earlier : (k : ℕ) → k < j → get_or places k 0 < at.from
      earlier k l = omega (
        arith,
        left k l,
        get_or_default_zero places k columns (in_list_if_below columns places lawful k (omega (arith, inside, left k l))),
      )

  pub b1_reached : at.from ≤ columns → at.from ≤ get_or places index columns
      → b1 (pixels columns places) at.from at.color ≡ get_or places index columns
  b1_reached inside right = by_number index (turns_by index at.color near.turns) near.left right
    where
      by_number : (i : ℕ) → turned i false ≡ is_black at.color → ((k : ℕ) → k + 2 ≤ i → get_or places k columns < at.from)
          → at.from ≤ get_or places i columns → b1 (pixels columns places) at.from at.color ≡ get_or places i columns
      by_number zero turns left here =
          b1_is columns places lawful at.from 0 0 at.color (split_at 0 inside (λ k l. absurd (omega arith)) here) turns (inl refl)
      by_number (suc i) turns left here = elim (cases_lt (get_or places i columns) at.from) [
        | inl lt ↦
            b1_is columns places lawful at.from (suc i) (suc i) at.color (split_at (suc i) inside
            (λ k l. omega (arith, lt, rising columns places lawful k i (omega arith))) here) turns (inl refl)
        | inr ge ↦
            b1_is columns places lawful at.from i (suc i) at.color (split_at i inside (λ k l. left k (omega arith)) ge) turns
            (inr (refl, turned_before i at.color turns))
      ]

  -- ---- Where b1 is sought after a mode.
  -- after pass, two further on
  pub near_pass : (b2 : ℕ) → b2 ≡ get_or places (index + 1) columns
      → IsNear columns places (record { from = b2 + 1; color = at.color }) (index + 2)
  near_pass b2 is = record {
    turns = turns_second index at.color near.turns;
    left = λ k l. omega (arith, is, rising columns places lawful k (index + 1) (omega arith));
  }

  -- after horizontal mode, from the same change on
  pub near_right : (from : ℕ) → at.from ≤ from → IsNear columns places (record { from = from; color = at.color }) index
  near_right from le = record { turns = near.turns; left = λ k l. omega (arith, le, near.left k l) }

  -- after vertical modes, from the next change on, where b1 or the change before it isn't right of a1
  pub near_next : (a1 : ℕ) → get_or places index columns ≤ a1
      → IsNear columns places (record { from = a1 + 1; color = opposite at.color }) (index + 1)
  near_next a1 le = record {
    turns = turns_next index at.color near.turns;
    left = λ k l. omega (arith, le, rising columns places lawful k index (omega arith));
  }

  -- or where the change before that of b1 isn't right of a1
  pub near_on : (before a1 : ℕ) → index ≡ before + 1 → get_or places before columns ≤ a1
      → IsNear columns places (record { from = a1 + 1; color = opposite at.color }) (index + 1)
  near_on before a1 is le = record {
    turns = turns_next index at.color near.turns;
    left = λ k l. omega (arith, le, is, rising columns places lawful k before (omega (arith, is)));
  }

  pub near_first : (a1 : ℕ) → index ≡ 0 → IsNear columns places (record { from = a1 + 1; color = opposite at.color }) 1
  near_first a1 first =
      let one : index + 1 ≡ 1 = omega arith in
      record { turns = rw (← one) (turns_next index at.color near.turns); left = λ k l. absurd (omega arith) }

  -- else from the change before it on
  pub near_back : (before a1 : ℕ) → index ≡ before + 1 → at.from ≤ a1
      → IsNear columns places (record { from = a1 + 1; color = opposite at.color }) before
  near_back before a1 is le = record {
    turns = turns_before before at.color (rw (← is) near.turns);
    left = λ k l. omega (arith, le, near.left k (omega arith));
  }
