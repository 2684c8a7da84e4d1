-- EOLs with tags between them, read one after another, and what is examined.
use Rattle.fax_bits.proofs.Names.{◌≡◌, ℕ, suc, ◌+◌, ◌-◌, ◌*◌, ◌<◌, ◌≤◌, length, Some, None, arith, Bits, after_eol, eols}
use Rattle.fax_bits.proofs.Names.{past_tag, eols_with_tags, looked, looked_at_tag, common_steps}
use Rattle.fax_bits.proofs.BitReading.{ZeroRuns.looked_eol, ConsecutiveEols.eols_with_tags-some}

-- one EOL is read if there is one
pub one_eol_read : (here after : Bits) (count : ℕ) → eols 1 here ≡ (count, after)
    → (0 < count → (after_eol 0 here ≡ Some after) × (count ≡ 1)) × (count ≡ 0 → (after_eol 0 here ≡ None) × (after ≡ here))
one_eol_read here after count e = grind (arith, common_steps)

-- an EOL more and its tag, and those after it
pub tagged_stepped : (max count : ℕ) (start now after rest : Bits)
    → eols_with_tags max start ≡ (count + (eols_with_tags (max - count) now).0, (eols_with_tags (max - count) now).1)
    → after_eol 0 now ≡ Some after → rest ≡ past_tag after → count < max → eols_with_tags max start
    ≡ (count + 1 + (eols_with_tags (max - (count + 1)) rest).0, (eols_with_tags (max - (count + 1)) rest).1)
tagged_stepped max count start now after rest e h is lt = let more : ℕ × Bits = eols_with_tags (max - (count + 1)) rest in
    let n : max - count ≡ suc (max - (count + 1)) = omega arith in
    grind (arith, common_steps, eols_with_tags-some)

-- the bits from here on that may have been examined before: those of an EOL after its tag, or those of a tag
abbrev pub looked_before : Bits → ℕ
looked_before here = elim (after_eol 0 here) [ None ↦ looked_at_tag here | Some rest ↦ looked here ]

-- a tag is examined, and perhaps the EOL after it
tag_looks : (here : Bits) → (length here ≤ looked_at_tag here + length (past_tag here)) × (length (past_tag here) ≤ length here)
    × (looked_at_tag here + 2 * length (past_tag here) ≤ 2 * length here + looked_before (past_tag here))
tag_looks here = grind (arith, common_steps)

-- what an EOL and its tag count: each bit that is consumed, and at most twice
pub tagged_looks : (here after rest : Bits) (ticks ticks1 ticks2 most : ℕ) → after_eol 0 here ≡ Some after → rest ≡ past_tag after
    → ticks1 + length after ≡ ticks + length here → ticks2 ≡ ticks1 + looked_at_tag after
    → (ticks + length here ≤ ticks2 + length rest) × (length rest < length here)
    × (ticks + 2 * length here ≤ most + looked_before here → ticks2 + 2 * length rest ≤ most + looked_before rest)
tagged_looks here after rest ticks ticks1 ticks2 most eol is first second = grind (arith, common_steps, looked_eol, tag_looks)
