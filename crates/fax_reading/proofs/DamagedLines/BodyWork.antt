-- What the tests of a body look at.
use Rattle.fax_reading.proofs.Names.{◌≡◌, ℕ, zero, suc, ◌+◌, ◌-◌, ◌*◌, ◌≤◌, List, [], ◌∷◌, length, drop, Option}
use Rattle.fax_reading.proofs.Names.{Some, None, refl, sym, ap, ◌∙◌, arith, none-some, length-drop, drop-drop, Bits, after_eol}
use Rattle.fax_reading.proofs.Names.{next_eol, looked, common_steps}
use Rattle.fax_bits.proofs.BitReading.{SoughtEols.next_eol-here, ConsecutiveEols.next_eol_found}

-- further on no fewer bits are looked at but for those between
looked_further : (k : ℕ) (here : Bits) → looked here ≤ k + looked (drop k here)
looked_further zero here = omega arith
looked_further (suc k) [] = omega arith
looked_further (suc k) (bit ∷ here) = grind (arith, common_steps, looked_further k here)

-- what a count of zeros looks at before a place, by what one looks at there
pub looked_between : (bits : Bits) (from to : ℕ) → from ≤ to → looked (drop from bits) ≤ (to - from) + looked (drop to bits)
looked_between bits from to order =
    grind (arith, common_steps, drop-drop (to - from) from bits, looked_further (to - from) (drop from bits))

-- where an EOL stands at a place, the next one stands there or before it
eol_ahead : (k : ℕ) (here after : Bits) → after_eol 0 (drop k here) ≡ Some after → (found : Bits) × (next_eol here ≡ Some found)
    × (length (drop k here) ≤ length found)
eol_ahead zero here after eol = (here, next_eol-here here after eol, omega arith)
eol_ahead (suc k) [] after eol = absurd (none-some after eol)
eol_ahead (suc k) (bit ∷ here) after eol = by_after_eol (eol_ahead k here after eol) (after_eol 0 (bit ∷ here)) refl
  where
    by_after_eol : (found : Bits) × (next_eol here ≡ Some found) × (length (drop k here) ≤ length found)
        → (o : Option Bits) → after_eol 0 (bit ∷ here) ≡ o → (found : Bits) × (next_eol (bit ∷ here) ≡ Some found)
        × (length (drop k here) ≤ length found)
    by_after_eol more None is = (more.0, rw (next_eol, is) more.1, more.2)
    by_after_eol more (Some rest) is = (bit ∷ here, next_eol-here (bit ∷ here) rest is, omega (arith, length-drop k here))

module _ (bits after : Bits) (from to : ℕ) (order : from ≤ to) (within : to ≤ length bits)
    (eol : after_eol 0 (drop to bits) ≡ Some after) where
  ahead : (found : Bits) × (next_eol (drop from bits) ≡ Some found) × (length (drop to bits) ≤ length found)
  ahead = grind (arith, common_steps, drop-drop (to - from) from bits, eol_ahead (to - from) (drop from bits) after)

  -- one is found
  pub eol_after_body : next_eol (drop from bits) ≡ None → ⊥
  eol_after_body none = none-some ahead.0 (sym none ∙ ahead.1)

  -- what is counted until it is found, and again while it is read
  pub sought_work : (place before sought read : ℕ) → place ≤ length bits → next_eol (drop from bits) ≡ Some (drop place bits)
      → sought + length (drop place bits) ≡ before + length (drop from bits) + looked (drop place bits)
      → read ≡ sought + looked (drop place bits) → (before ≤ read) × (read ≤ before + 2 * (to - from) + 2 * looked (drop to bits))
  sought_work place before sought read inside next passed again = let both : ◌≡◌ {A = Option Bits} (Some ahead.0)
      (Some (drop place bits)) = sym ahead.1 ∙ next in
      let same : ahead.0 ≡ drop place bits = cc in
      let near : place ≤ to = omega
      (arith, ahead.2, ap length same, length-drop place bits, length-drop to bits, inside, within) in
      grind
      (arith, common_steps, looked_between bits place to near, length-drop place bits, length-drop from bits, next_eol_found)

-- the same bound, for the same words and the same count before
pub same_bound : (now before same : ℕ) (words known : List Bits) → same ≡ before → known ≡ words → now ≤ same + length known + 1
    → now ≤ before + length words + 1
same_bound now before same words known from is most = omega (arith, from, ap length is, most)

-- what is looked at before a body and in it
pub tests_looked : (bits : Bits) (from to : ℕ) → from ≤ to
    → looked (drop (from - 12) bits) + looked (drop from bits) ≤ 2 * (to - from) + 2 * looked (drop to bits) + 12
tests_looked bits from to order =
    omega (arith, looked_between bits (from - 12) from (omega arith), looked_between bits from to order)
