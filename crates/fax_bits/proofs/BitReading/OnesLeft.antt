-- Whether a one is left.
use Rattle.fax_bits.proofs.Names.{◌≡◌, ◌≢◌, ℕ, zero, suc, ◌^◌, ◌<◌, Bool, true, false, [], ◌∷◌, ◌++◌, drop, replicate, slice_get}
use Rattle.fax_bits.proofs.Names.{Some, refl, ap, ◌∙◌, arith, cases_lt, append-nil, count_leading_zeros, leading_length, Bits}
use Rattle.fax_bits.proofs.Names.{BitsAt, here, holds_one}
use Rattle.fax_bits.proofs.BitReading.{BitLists.drop_some, ZerosPassed.HoldsNextBits, ZerosPassed.run_ahead}

-- zeros and a one
pub holds_one-run : (n : ℕ) (rest : Bits) → holds_one (replicate n false ++ true ∷ rest) ≡ true
holds_one-run zero rest = refl
holds_one-run (suc n) rest = holds_one-run n rest

-- zeros alone
pub holds_one-zeros : (n : ℕ) → holds_one (replicate n false) ≡ false
holds_one-zeros zero = refl
holds_one-zeros (suc n) = holds_one-zeros n

-- a word of the next 32 bits that isn't zero
pub one_in_word : (at : BitsAt) (w : ℕ) → w < 2 ^ 32 → HoldsNextBits w at → w ≢ 0 → holds_one (here at) ≡ true
one_in_word at w small held some =
    let few : count_leading_zeros 32 w < 32 = grind (arith, cases_lt (count_leading_zeros 32 w) 32, leading_length 32 w small) in
    ap holds_one (run_ahead at w small held few) ∙ holds_one-run (count_leading_zeros 32 w) _

-- what zeros end: a one or the data
pub one_after : (first : Bits) (n : ℕ) (bits : Bits) (place : ℕ) (result : Bool) → first ≡ replicate n false ++ drop place bits
    → (result ≡ true → slice_get bits place ≡ Some true) → (result ≡ false → drop place bits ≡ []) → result ≡ holds_one first
one_after first n bits place result e one end = grind (arith, drop_some, holds_one-run, append-nil, holds_one-zeros)
