-- Masks of four bits, of which the lowest are of interest.
use Rattle.fax_lines.proofs.Names.{◌≡◌, ℕ, ◌+◌, ◌-◌, ◌*◌, ◌/◌, ◌%◌, ◌<◌, ◌≤◌, ◌∙◌, inl, inr, true}
use Rattle.fax_lines.proofs.Names.{refl, sym, ap, arith, cases_lt, eq-eqb, eqb}
use Rattle.std.proofs.Common.{◌^◌, bit_and, leb}
use Rattle.std.specs.Int.{trailing_ones, w64}
use Rattle.std.proofs.lemmas.Bool.{agree_below_at, eqb-true, le-leb, leb-true}
use Rattle.std.proofs.lemmas.Nat.Bits.{bit_at-trailing_ones}
use lib.Count.{count_trailing_zeros}
use Rattle.fax_lines.specs.RegularModes.{AreSet}

-- none of the lowest bits that are counted is clear just if as many are set, for each mask and count
none_clear : (mask count : ℕ) → mask < 16 → count ≤ 4
    → eqb (bit_and (15 - mask) (2 ^ count - 1)) 0 ≡ leb count (trailing_ones w64 mask)
unfolding count_trailing_zeros
none_clear mask count few le =
    let m : (5 * mask + count) / 5 ≡ mask = omega (arith, le) in
    let n : (5 * mask + count) % 5 ≡ count = omega (arith, le) in
    rw (m, n) at (agree_below_at (λ b. eqb (bit_and (15 - b / 5) (2 ^ (b % 5) - 1)) 0)
    (λ b. leb (b % 5) (trailing_ones w64 (b / 5))) 80 (5 * mask + count) refl (omega (arith, few, le)))

-- the bits below the lowest that isn't set
pub set_before_first : (mask : ℕ) → mask < 16 → AreSet mask (trailing_ones w64 mask)
set_before_first mask few k lt = eq-eqb _ 1 ((bit_at-trailing_ones w64 mask (omega (arith, few))).2 k lt)

-- only the lowest four bits of a number are of interest
lowest_only : (mask used : ℕ) → mask < 16 → used < 256 → bit_and (15 - mask) used ≡ bit_and (15 - mask) (used % 16)
lowest_only mask used few fits =
    let m : (256 * mask + used) / 256 ≡ mask = omega (arith, fits) in
    let n : (256 * mask + used) % 256 ≡ used = omega (arith, fits) in
    eqb-true _ _ (rw (m, n) at (agree_below_at
    (λ b. eqb (bit_and (15 - b / 256) (b % 256)) (bit_and (15 - b / 256) (b % 256 % 16))) (λ b. true) 4096
    (256 * mask + used) refl (omega (arith, few, fits))))

-- if none of the bits before the count is clear, they are set
pub set_before_count : (mask used count : ℕ) → mask < 16 → used < 256 → count ≤ 4 → used % 16 ≡ 2 ^ count - 1
    → bit_and (15 - mask) used ≡ 0 → AreSet mask count
set_before_count mask used count few fits le is none k lt =
    let clear : bit_and (15 - mask) (2 ^ count - 1) ≡ 0 = rw is at (sym (lowest_only mask used few fits) ∙ none) in
    let within : count ≤ trailing_ones w64 mask
    = leb-true count _ (sym (none_clear mask count few le) ∙ eq-eqb _ 0 clear) in
    set_before_first mask few k (omega (arith, lt, within))

-- it is before the count, if they aren't all set before the count
pub first_before_count : (mask used count : ℕ) → mask < 16 → used < 256 → count ≤ 4 → used % 16 ≡ 2 ^ count - 1
    → (bit_and (15 - mask) used ≡ 0 → ⊥) → trailing_ones w64 mask < count
first_before_count mask used count few fits le is some = elim (cases_lt (trailing_ones w64 mask) count) [
  | inl before ↦ before
  | inr after ↦
      absurd (some (lowest_only mask used few fits ∙ ap (bit_and (15 - mask)) is
      ∙ eqb-true _ 0 (none_clear mask count few le ∙ le-leb count _ after)))
]
