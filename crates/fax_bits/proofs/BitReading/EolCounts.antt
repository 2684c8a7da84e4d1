-- What counting EOLs leaves, in the terms of the reader's calls.
use Rattle.fax_bits.proofs.Names.{◌≡◌, ◌≤◌, ℕ, length, ap, subst, Bits, eols, all_eols}
use Rattle.fax_bits.proofs.BitReading.ConsecutiveEols.{count_shorter, counts_plain}

-- no more bits are left than there were
pub eols_leave : (most count : ℕ) (here rest : Bits) → eols most here ≡ (count, rest) → length rest ≤ length here
eols_leave most count here rest is = let P : ℕ → Type 0 = λ n. n ≤ length here in
    subst P (ap (λ (found : ℕ × Bits). length found.1) is) (count_shorter counts_plain most here)

pub all_eols_leave : (count : ℕ) (here rest : Bits) → all_eols here ≡ (count, rest) → length rest ≤ length here
all_eols_leave count here rest is = eols_leave (length here) count here rest is
