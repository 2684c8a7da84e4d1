-- Vertical modes V0 that follow one another.
use Rattle.fax_coding.proofs.Names.{◌≡◌, ℕ, zero, suc, ◌+◌, ◌-◌, ◌<◌, ◌≤◌, true, List, [], ◌∷◌, ◌++◌, length, replicate}
use Rattle.fax_coding.proofs.Names.{get_or, refl, sym, ap, subst, ◌∙◌, arith, le-leb, Color}
use Rattle.fax_coding.proofs.Names.{Bits, Row, AreChanges, pixels, a1, b1, b2, length-pixels}
use Rattle.fax_coding.proofs.Names.{b2_after_b1, Place, word_of_mode, vertical_mode, is_near, place_after, chosen_mode}
use Rattle.fax_coding.proofs.Names.{chosen_from, AreAllLeft, IsNear, color_after, in_list_if_below}
use Rattle.fax_coding.proofs.Elements.{a1_found, left_of_next, next_is_right}
use Rattle.fax_words.proofs.RunsWritten.{left_of_end}
use Rattle.fax_coding.proofs.ModesWritten.{step_bits, vertical_bits, vertical_place}
use Rattle.fax_coding.proofs.StepsToB1.{b1_reached, color_next, near_next}
use Rattle.fax_coding.proofs.Names.{get_or_default}

-- an a1 below b1
near_below : (m n : ℕ) → n ≡ m → is_near m n ≡ true
near_below m n e = rw (le-leb n (m + 3) (omega (arith, e)), le-leb m (n + 3) (omega (arith, e))) refl

word_below : (m n : ℕ) → n ≡ m → word_of_mode (vertical_mode m n) ≡ true ∷ []
word_below m n e =
    let none : n - m ≡ 0 = omega (arith, e) in
    rw (le-leb m n (omega (arith, e)), none) refl

module _ (columns : ℕ) (reference changes : List ℕ) (lawful : AreChanges columns reference)
    (are : AreChanges columns changes) where
  abbrev above : Row
  above = pixels columns reference

  abbrev row : Row
  row = pixels columns changes

  abbrev at : ℕ → ℕ → Place
  at from next = record { from = from; color = color_after next }

  module _ (from next index : ℕ) (inside : from ≤ columns) (near : IsNear columns reference (at from next) index)
      (left : AreAllLeft changes from next) (more : next < length changes)
      (same : get_or changes next columns ≡ get_or reference index columns) where
    abbrev color : Color
    color = color_after next

    a : get_or changes next columns ≡ a1 row from
    a = sym (a1_found columns changes are from next left)

    here : from ≤ get_or reference index columns
    here = omega (arith, same, left.right more, get_or_default changes next 0 columns more)

    b : get_or reference index columns ≡ b1 above from color
    b = sym (b1_reached columns reference lawful (at from next) index near inside here)

    right : a1 row from ≤ b2 above from color
    right = omega (
      arith,
      a,
      same,
      b2_after_b1 columns reference from index color lawful (sym b),
      next_is_right 0 columns reference index (index + 1) refl lawful,
    )

    is_below : is_near (b1 above from color) (a1 row from) ≡ true
    is_below = near_below (b1 above from color) (a1 row from) (sym a ∙ same ∙ b)

    in_row : from ≤ length row
    in_row = omega (arith, inside, length-pixels columns changes are)

    moves : at (get_or changes next columns + 1) (next + 1) ≡ place_after above row (at from next)
        (chosen_mode above row (at from next))
    moves =
        let turned : Color → Place = λ k. record { from = suc (a1 row from); color = k } in
        let to : get_or changes next columns + 1 ≡ suc (a1 row from) = omega (arith, a) in
        ap (λ (n : ℕ). at n (next + 1)) to ∙ ap turned (color_next next)
        ∙ sym (vertical_place above row (at from next) in_row right is_below)

    one_below : chosen_from above row (at from next)
        ≡ true ∷ chosen_from above row (at (get_or changes next columns + 1) (next + 1))
    one_below =
        let after : Place = at (get_or changes next columns + 1) (next + 1) in
        step_bits columns reference changes lawful are (at from next) after inside moves
        ∙ ap (λ (bits : Bits). bits ++ chosen_from above row after)
        (vertical_bits above row (at from next) in_row right is_below
        ∙ word_below (b1 above from color) (a1 row from) (sym a ∙ same ∙ b))

    near_after : IsNear columns reference (at (get_or changes next columns + 1) (next + 1)) (index + 1)
    near_after = subst (λ (k : Color). IsNear columns reference (record { from = get_or changes next columns + 1; color = k })
        (index + 1)) (sym (color_next next)) (near_next columns reference lawful (at from next) index near
        (get_or changes next columns) (omega (arith, same)))

    left_after_one : AreAllLeft changes (get_or changes next columns + 1) (next + 1)
    left_after_one = left_of_next 0 columns changes next (next + 1) (get_or changes next columns) refl are refl
        (left_of_end 0 columns changes next are more)

  -- the line that is left after the changes from one on up to another, which are all below changes of the reference row
  pub record IsBelow (n from next last to reach : ℕ) : Type 0 where
    pub bits : chosen_from above row (at from next) ≡ replicate (suc n) true ++ chosen_from above row (at
        (get_or changes last columns + 1) to)
    pub near : IsNear columns reference (at (get_or changes last columns + 1) to) reach
    pub left : AreAllLeft changes (get_or changes last columns + 1) to

  -- where the first of them is
  first_below : (next index : ℕ) → next < length changes → index < length reference
      → get_or changes (next + 0) 0 ≡ get_or reference (index + 0) 0
      → get_or changes next columns ≡ get_or reference index columns
  first_below next index lt le same =
      let c : next + 0 ≡ next = omega arith in
      let r : index + 0 ≡ index = omega arith in
      get_or_default changes next columns 0 lt ∙ ap (λ (k : ℕ). get_or changes k 0) (sym c) ∙ same
      ∙ ap (λ (k : ℕ). get_or reference k 0) r ∙ get_or_default reference index 0 columns le

  pub all_below : (n from next index last to reach : ℕ) → last ≡ next + n → to ≡ next + n + 1 → reach ≡ index + n + 1
      → from ≤ columns → IsNear columns reference (at from next) index → AreAllLeft changes from next → to ≤ length changes
      → reach ≤ length reference → ((k : ℕ) → k < n + 1 → get_or changes (next + k) 0 ≡ get_or reference (index + k) 0)
      → IsBelow n from next last to reach
  all_below zero from next index last to reach e f g inside near left within reaches same =
      let l : last ≡ next = omega arith in
      let t : to ≡ next + 1 = omega arith in
      let r : reach ≡ index + 1 = omega arith in
      let more : next < length changes = omega arith in
      let first = first_below next index more (omega arith) (same 0 (omega arith)) in
      rw (l, t, r) (record {
        bits = one_below from next index inside near left more first;
        near = near_after from next index inside near left more first;
        left = left_after_one from next index inside near left more first;
      })
  all_below (suc m) from next index last to reach e f g inside near left within reaches same =
      let more : next < length changes = omega arith in
      let first = first_below next index more (omega arith) (same 0 (omega arith)) in
      let rest : IsBelow m (get_or changes next columns + 1) (next + 1) last to reach =
      all_below m (get_or changes next columns + 1) (next + 1) (index + 1) last to reach (omega arith) (omega arith)
      (omega arith)
      (omega (arith, left_of_end 0 columns changes next are more)) (near_after from next index inside near left more first)
      (left_after_one from next index inside near left more first) within reaches (λ k lt.
      let c : next + 1 + k ≡ next + (k + 1) = omega arith in
      let r : index + 1 + k ≡ index + (k + 1) = omega arith in
      rw (c, r) (same (k + 1) (omega arith))) in
      record {
        bits = one_below from next index inside near left more first ∙ ap (λ (b : Bits). true ∷ b) rest.bits;
        near = rest.near;
        left = rest.left;
      }

  -- b1 is a change of the reference row where a change is below it
  pub below_in_list : (next index start : ℕ) → next < length changes → get_or changes next 0 ≡ start
      → start ≡ get_or reference index columns → index < length reference
  below_in_list next index start lt same is = in_list_if_below columns reference lawful index (omega (
    arith,
    same,
    is,
    get_or_default changes next 0 columns lt,
    left_of_end 0 columns changes next are lt,
  ))
