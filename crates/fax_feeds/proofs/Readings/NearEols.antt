-- What the next 32 bits say of an EOL, and of a one after it.
use Rattle.fax_bits.proofs.Names.{◌≡◌, ◌≢◌, ◌∙◌, ◌+◌, ◌-◌, ◌*◌, ◌/◌, ◌%◌, ◌^◌, ◌<◌, ◌≤◌, ℕ, suc, true, false, None, Some, ap, sym}
use Rattle.fax_bits.proofs.Names.{arith, inl, inr, cases_lt, common_steps, cond-false, cond-true, lt-leb, le-leb, drop, get_or}
use Rattle.fax_bits.proofs.Names.{get_or-drop, eqb, count_leading_zeros, count_trailing_zeros, bit_at, bit_at_above}
use Rattle.fax_bits.proofs.Names.{bit_at_cat_low, bit_at-trailing_zeros, shr-shr, BitsAt, here, bit_of, after_eol, holds_one}
use Rattle.fax_bits.proofs.BitReading.OnesLeft.{holds_one-run}
use Rattle.fax_bits.proofs.BitReading.PlainEols.{word_says}
use Rattle.fax_bits.proofs.BitReading.ZerosPassed.{HoldsNextBits, run_ahead}
use Rattle.std.specs.Int.{w32}

-- the last ten bits of a number are its bits
low_ten : (q z : ℕ) → z < 10 → bit_at q z ≡ bit_at (q % 1024) z
low_ten q z few =
    let whole : q ≡ (q / 1024) * 2 ^ 10 + q % 1024 = omega arith in
    ap (λ (n : ℕ). bit_at n z) whole ∙ bit_at_cat_low (q / 1024) 10 (q % 1024) z few

-- one of ten bits is a one
one_of_ten : (ten : ℕ) → ten < 1024 → ten ≢ 0 → (z : ℕ) × (z < 10) × (bit_at ten z ≡ 1)
one_of_ten ten small some =
    let z = count_trailing_zeros 32 ten in
    let lowest : (z < 32) × (bit_at ten z ≡ 1) = grind (arith, common_steps, bit_at-trailing_zeros w32 ten, cases_lt 0 ten) in
    let few : z < 10 = elim (cases_lt z 10) [
      | inl lt ↦ lt
      | inr ge ↦ absurd (let none = bit_at_above ten 10 z (omega (arith, small)) ge in omega (arith, none, lowest.1))
    ] in (z, few, lowest.1)

module _ (at : BitsAt) (w : ℕ) (small : w < 2 ^ 32) (held : HoldsNextBits w at) where
  -- a one is among the next eleven bits
  pub none_at_one : count_leading_zeros 32 w < 11 → (after_eol 0 (here at) ≡ None) × (holds_one (here at) ≡ true)
  none_at_one near = (
    (word_says at w small held (omega (arith, near))).0 ∙ cond-false _ _ _ (lt-leb 11 (count_leading_zeros 32 w) near),
    ap holds_one (run_ahead at w small held (omega (arith, near))) ∙ holds_one-run (count_leading_zeros 32 w) _,
  )

  -- an EOL is here
  pub eol_near : 11 ≤ count_leading_zeros 32 w → count_leading_zeros 32 w ≤ 20
      → after_eol 0 (here at) ≡ Some (drop (at.place + (count_leading_zeros 32 w + 1)) at.bits)
  eol_near enough few = (word_says at w small held (omega (arith, few))).0
      ∙ cond-true _ _ _ (le-leb 11 (count_leading_zeros 32 w) enough)

  -- after it and a bit, a one is among the next ten
  pub one_near : (zeros : ℕ) → zeros ≤ 20 → (w / 2 ^ (20 - zeros)) % 1024 ≢ 0
      → (k : ℕ) × (k < 10) × (get_or (drop (at.place + (zeros + 1)) at.bits) (suc k) false ≡ true)
  one_near zeros few some =
      let shift : ℕ = 20 - zeros in
      let found = one_of_ten ((w / 2 ^ shift) % 1024) (omega arith) some in
      let z = found.0 in
      let place : at.place + (zeros + 1) + suc (9 - z) ≡ at.place + (zeros + 11 - z) = omega (arith, found.1) in
      let down : shift + z ≡ 31 - (zeros + 11 - z) = omega (arith, found.1, few) in
      let bit : bit_of w (shift + z) ≡ true = sym (ap (λ (m : ℕ). eqb (m % 2) 1) (shr-shr w shift z))
      ∙ ap (λ (m : ℕ). eqb m 1) (low_ten (w / 2 ^ shift) z found.1 ∙ found.2) in (
        9 - z,
        omega arith,
        get_or-drop (at.place + (zeros + 1)) at.bits (suc (9 - z)) false ∙ ap (λ (n : ℕ). get_or at.bits n false) place
            ∙ sym (held (zeros + 11 - z) (omega (arith, found.1, few))) ∙ ap (bit_of w) (sym down) ∙ bit,
      )
