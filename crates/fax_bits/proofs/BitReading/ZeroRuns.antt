-- Zeros and EOLs that are counted a bit and an EOL at a time.
use Rattle.fax_bits.proofs.BitReading.ConsecutiveEols.{count_same, counts_plain}
use Rattle.fax_bits.proofs.Names.{◌≡◌, ℕ, zero, suc, ◌+◌, ◌-◌, ◌<◌, ◌≤◌, Bool, true, false, cond, leb, eqb, [], ◌∷◌, ◌++◌}
use Rattle.fax_bits.proofs.Names.{length, replicate, Option, Some, None, refl, ap, ◌∙◌, arith, slice_get, eqb-true, Bits}
use Rattle.fax_bits.proofs.Names.{BitsAt, here, leading_zeros, after_eol, eols, all_eols, looked, common_steps}
use Rattle.fax_bits.proofs.BitReading.BitLists.{drop_some}
use Rattle.fax_bits.proofs.BitReading.ConsecutiveEols.{after_eol_shorter, length-one_more, one_more-count}

pub leading_zeros-one : (n : ℕ) (bits : Bits) → leading_zeros (replicate n false ++ (true ∷ bits)) ≡ n
leading_zeros-one zero bits = refl
leading_zeros-one (suc n) bits = ap suc (leading_zeros-one n bits)

pub leading_zeros-replicate : (n : ℕ) → leading_zeros (replicate n false) ≡ n
leading_zeros-replicate zero = refl
leading_zeros-replicate (suc n) = ap suc (leading_zeros-replicate n)

-- what is examined if there are zeros and a one
pub looked_run : (k : ℕ) (rest : Bits) → looked (replicate k false ++ true ∷ rest) ≡ k + 1
looked_run zero rest = refl
looked_run (suc k) rest = omega (arith, looked_run k rest)

-- zeros and a one are an EOL if the zeros are enough
pub after_eol_run : (k : ℕ) (rest : Bits) → after_eol 0 (replicate k false ++ true ∷ rest) ≡ cond (leb 11 k) (Some rest) None
after_eol_run k rest = from 0 k ∙ let e : 0 + k ≡ k = omega arith in ap (λ (n : ℕ). cond (leb 11 n) (Some rest) None) e
  where
    from : (seen k : ℕ) → after_eol seen (replicate k false ++ true ∷ rest) ≡ cond (leb 11 (seen + k)) (Some rest) None
    from seen zero = let e : seen + 0 ≡ seen = omega arith in rw e refl
    from seen (suc k) = grind (arith, from (suc seen) k)

-- a count of zeros examines the bits of an EOL
pub looked_eol : (seen : ℕ) (here after : Bits) → after_eol seen here ≡ Some after → looked here + length after ≡ length here
looked_eol seen [] after e = absurd cc
looked_eol seen (false ∷ here) after e = omega (arith, looked_eol (suc seen) here after e)
looked_eol seen (true ∷ here) after e = grind (arith, common_steps)

-- the first of some EOLs
pub eols_one : (most : ℕ) (here after : Bits) → after_eol 0 here ≡ Some after → 0 < most
    → eols most here ≡ (suc (eols (most - 1) after).0, (eols (most - 1) after).1)
eols_one most here after e lt = grind (arith, common_steps)

-- an EOL more, and those after it
pub eols_stepped : (max count : ℕ) (start now after : Bits)
    → eols max start ≡ (count + (eols (max - count) now).0, (eols (max - count) now).1) → after_eol 0 now ≡ Some after
    → count < max → eols max start ≡ (count + 1 + (eols (max - (count + 1)) after).0, (eols (max - (count + 1)) after).1)
eols_stepped max count start now after e h lt = grind (arith, eols_one (max - count) now after h (omega arith))

-- an EOL has at least one bit
pub eols_fewer : (most : ℕ) (here : Bits) → (eols most here).0 + length (eols most here).1 ≤ length here
eols_fewer zero here = omega arith
eols_fewer (suc most) here = by_after_eol (λ rest. eols_fewer most rest) (after_eol 0 here) refl
  where
    by_after_eol : ((rest : Bits) → (eols most rest).0 + length (eols most rest).1 ≤ length rest) → (o : Option Bits)
        → after_eol 0 here ≡ o → (eols (suc most) here).0 + length (eols (suc most) here).1 ≤ length here
    by_after_eol on o e = grind (arith, common_steps, after_eol_shorter, length-one_more, one_more-count)

-- if at least as many EOLs as bits are looked for, all are
pub eols_enough : (most : ℕ) (here : Bits) → length here ≤ most → eols most here ≡ all_eols here
eols_enough most here le = count_same counts_plain most (length here) here le (omega arith)

-- if more EOLs than bits are looked for, the bits after the last are examined
pub eols_look_on : (most : ℕ) (here rest : Bits) (count : ℕ) → length here < most → eols most here ≡ (count, rest)
    → cond (eqb count most) 0 (looked rest) ≡ looked rest
eols_look_on most here rest count lt e = grind (arith, common_steps, eols_fewer, eqb-true)

-- ---- A bit read.
-- a bit at the position is the first here
pub here_next : (old new : BitsAt) (bit : Bool) → slice_get old.bits old.place ≡ Some bit
    → new ≡ record old { place = old.place + 1 } → here old ≡ bit ∷ here new
here_next old new bit h e = rw e (drop_some old.bits old.place bit h)
