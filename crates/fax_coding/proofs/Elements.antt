-- The changing elements as an encoder finds them, by how many changes are left of the position right of a0.
use Rattle.fax_coding.proofs.Names.{◌≡◌, ℕ, zero, suc, ◌+◌, ◌<◌, ◌≤◌, ltb, ◌&&◌, List, [], ◌∷◌, length, get_or, ap, ◌∙◌}
use Rattle.fax_coding.proofs.Names.{arith, AreChanges, AscendFrom, pixels, is_change, least_below, a1, a2, IsSplit, a1_is}
use Rattle.fax_coding.proofs.Names.{next_change, AreLeft, AreAllLeft}
use Rattle.fax_coding.proofs.Names.{get_or_default}

-- the changes that are left, and no others
pub split_of : (changes : List ℕ) (from left : ℕ) → AreAllLeft changes from left → IsSplit changes from left
split_of changes from left are = record { within = are.left.within; before = are.left.left; here = are.right }

-- further right the same changes are left
pub AreLeft-right : (changes : List ℕ) (from to left : ℕ) → from ≤ to → AreLeft changes from left → AreLeft changes to left
AreLeft-right changes from to left le are = record { within = are.within; left = λ k lt. omega (arith, are.left k lt) }

module _ (columns : ℕ) (changes : List ℕ) (lawful : AreChanges columns changes) (from left : ℕ)
    (are : AreAllLeft changes from left) where
  pub a1_found : a1 (pixels columns changes) from ≡ get_or changes left columns
  a1_found = a1_is columns changes lawful from left (split_of changes from left are)

  pub a2_found : a2 (pixels columns changes) from ≡ get_or changes (left + 1) columns
  a2_found =
      ap (λ (a : ℕ). least_below (length (pixels columns changes)) (λ p. ltb a p && is_change (pixels columns changes) p))
      a1_found ∙ next_change columns changes lawful left
      ∙ ap (λ (n : ℕ). get_or changes n columns) (let s : suc left ≡ left + 1 = omega arith in s)

-- a change is not left of the one before it, and the row's end is right of them all
pub next_is_right : (first width : ℕ) (places : List ℕ) (i j : ℕ) → j ≡ i + 1 → AscendFrom first width places
    → get_or places i width ≤ get_or places j width
next_is_right first width [] i j is ascend = omega arith
next_is_right first width (p ∷ []) zero j is ascend =
    let within : p < width = ascend.1 in
    let e : j ≡ 1 = omega arith in
    rw e (omega arith)
next_is_right first width (p ∷ q ∷ places) zero j is ascend =
    let right : suc p ≤ q = ascend.2.0 in
    let e : j ≡ 1 = omega arith in
    rw e (omega arith)
next_is_right first width (p ∷ places) (suc i) zero is ascend = absurd (omega arith)
next_is_right first width (p ∷ places) (suc i) (suc j) is ascend = next_is_right (suc p) width places i j (omega arith) ascend.2

-- right of a change the changes up to it are left, and no others
pub left_of_next : (first width : ℕ) (places : List ℕ) (i j place : ℕ) → j ≡ i + 1 → AscendFrom first width places
    → place ≡ get_or places i width → place < width → AreAllLeft places (place + 1) j
left_of_next first width [] i j place is ascend here lt = absurd (omega arith)
left_of_next first width (p ∷ places) i zero place is ascend here lt = absurd (omega arith)
left_of_next first width (p ∷ places) zero (suc (suc j)) place is ascend here lt = absurd (omega arith)
left_of_next first width (p ∷ []) zero (suc zero) place is ascend here lt =
    record { left = record { within = omega arith; left = λ k l. at_first k l }; right = λ l. absurd (omega arith) }
  where
    at_first : (k : ℕ) → k < 1 → get_or (p ∷ []) k 0 < place + 1
    at_first zero l = omega arith
    at_first (suc k) l = absurd (omega arith)
left_of_next first width (p ∷ q ∷ places) zero (suc zero) place is ascend here lt =
    let right : suc p ≤ q = ascend.2.0 in
    record { left = record { within = omega arith; left = λ k l. at_first k l }; right = λ l. omega arith }
  where
    at_first : (k : ℕ) → k < 1 → get_or (p ∷ q ∷ places) k 0 < place + 1
    at_first zero l = omega arith
    at_first (suc k) l = absurd (omega arith)
left_of_next first width (p ∷ []) (suc i) (suc j) place is ascend here lt = absurd (omega arith)
left_of_next first width (p ∷ q ∷ places) (suc i) (suc j) place is ascend here lt =
    let next : suc p ≤ q = ascend.2.0 in
    let after = left_of_next (suc p) width (q ∷ places) i j place (omega arith) ascend.2 here lt in
    one_more p q places place j (omega arith) next after
  where
    one_more : (p q : ℕ) (places : List ℕ) (place j : ℕ) → 0 < j → suc p ≤ q → AreAllLeft (q ∷ places) (place + 1) j
        → AreAllLeft (p ∷ q ∷ places) (place + 1) (suc j)
    one_more p q places place j some next after =
        let within : j ≤ length (q ∷ places) = after.left.within in
        record { left = record { within = omega arith; left = earlier }; right = λ l. after.right (omega arith) }
      where
        earlier : (k : ℕ) → k < suc j → get_or (p ∷ q ∷ places) k 0 < place + 1
        earlier zero l =
            let one : q < place + 1 = after.left.left 0 some in
            omega arith
        earlier (suc k) l = after.left.left k (omega arith)

-- further right, where the next change isn't passed
pub still_left : (columns : ℕ) (changes : List ℕ) (from to left : ℕ) → from ≤ to → AreAllLeft changes from left
    → to ≤ get_or changes left columns → AreAllLeft changes to left
still_left columns changes from to left le are right = record {
  left = AreLeft-right changes from to left le are.left;
  right = λ lt. (let same = get_or_default changes left columns 0 lt in omega (arith, same));
}
