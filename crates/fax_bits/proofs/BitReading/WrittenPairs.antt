-- The entries of pairs that are written out are those of the code lists.
use Rattle.fax_bits.proofs.Names.{◌≡◌, ℕ, zero, suc, ◌+◌, ◌<◌, Bool, true, ◌&&◌, eqb, List, []}
use Rattle.fax_bits.proofs.Names.{◌∷◌, length, get_or, refl, sym, ap, ◌∙◌, arith, and_parts, eqb-true}
use Rattle.fax_bits.proofs.Names.{Color, White, Black, WHITE_PAIRS, BLACK_PAIRS, low_bits, ArePairs, pair_entry}
use Rattle.fax_bits.specs.LookUps.{twelve_bits}

-- each of some entries, from an index on, is that of its bits
abbrev are_pairs : Color → List ℕ → ℕ → Bool
are_pairs color [] index = true
are_pairs color (entry ∷ entries) index = eqb (pair_entry color (low_bits 12 index)) entry && are_pairs color entries (suc index)

pairs_agree_at : (color : Color) (entries : List ℕ) (from index : ℕ) → are_pairs color entries from ≡ true
    → index < length entries → get_or entries index 0 ≡ pair_entry color (low_bits 12 (from + index))
pairs_agree_at color [] from index e lt = absurd (omega arith)
pairs_agree_at color (entry ∷ entries) from zero e lt =
    let both = and_parts (eqb (pair_entry color (low_bits 12 from)) entry) (are_pairs color entries (suc from)) e in
    let at : from + zero ≡ from = omega arith in
    rw at (sym (eqb-true (pair_entry color (low_bits 12 from)) entry both.0))
pairs_agree_at color (entry ∷ entries) from (suc index) e lt =
    let both = and_parts (eqb (pair_entry color (low_bits 12 from)) entry) (are_pairs color entries (suc from)) e in
    let at : from + suc index ≡ suc from + index = omega arith in
    rw at (pairs_agree_at color entries (suc from) index both.1 (omega arith))

twelve : (index : ℕ) → low_bits 12 index ≡ twelve_bits index
unfolding twelve_bits
twelve index = refl

pairs_agree : (color : Color) (entries : List ℕ) → length entries ≡ 4096 → are_pairs color entries 0 ≡ true
    → ArePairs color entries
pairs_agree color entries count all = record {
  count = count;
  each = λ index below. let same : 0 + index ≡ index = omega arith in
      rw same at (pairs_agree_at color entries 0 index all (omega (arith, count, below))) ∙ ap (λ here. pair_entry color here)
      (twelve index);
}

white_pairs_agree : are_pairs White WHITE_PAIRS 0 ≡ true
white_pairs_agree = refl

pub white_pairs_are : ArePairs White WHITE_PAIRS
white_pairs_are = pairs_agree White WHITE_PAIRS refl white_pairs_agree

black_pairs_agree : are_pairs Black BLACK_PAIRS 0 ≡ true
black_pairs_agree = refl

pub black_pairs_are : ArePairs Black BLACK_PAIRS
black_pairs_are = pairs_agree Black BLACK_PAIRS refl black_pairs_agree
