-- The highest bits of a word that contains the bits from here on.
use Rattle.fax_bits.proofs.Names.{◌≡◌, ℕ, zero, suc, ◌+◌, ◌-◌, ◌/◌, ◌^◌, ◌<◌, ◌≤◌, false, [], ◌∷◌, get_or, refl, sym, ap, ◌∙◌}
use Rattle.fax_bits.proofs.Names.{arith, get_or-drop, shr-shr, Bits, BitsAt, bit_of, low_bits}
use Rattle.fax_bits.proofs.Names.{here, padded}
use Rattle.fax_bits.specs.LookUps.{index_bits, seven_bits, twelve_bits}
use Rattle.fax_bits.specs.ModeGroups.{ten_bits}

-- the low bits of a number, if they are the first ones here
pub low_bits-padded : (n x : ℕ) (here : Bits) → ((k : ℕ) → k < n → bit_of x (n - 1 - k) ≡ get_or here k false)
    → low_bits n x ≡ padded n here
low_bits-padded zero x here h = refl
low_bits-padded (suc n) x [] h = let first : suc n - 1 - 0 ≡ n = omega arith in
    let bit : bit_of x n ≡ false = ap (bit_of x) (sym first) ∙ h 0 (omega arith) in
    let on = low_bits-padded n x [] (λ k lt. let e : n - 1 - k ≡ suc n - 1 - suc k = omega arith in
    ap (bit_of x) e ∙ h (suc k) (omega arith)) in
    cc
low_bits-padded (suc n) x (b ∷ here) h = let first : suc n - 1 - 0 ≡ n = omega arith in
    let bit : bit_of x n ≡ b = ap (bit_of x) (sym first) ∙ h 0 (omega arith) in
    let on = low_bits-padded n x here (λ k lt. let e : n - 1 - k ≡ suc n - 1 - suc k = omega arith in
    ap (bit_of x) e ∙ h (suc k) (omega arith)) in
    cc

-- the highest n bits of a word that contains the next ones
pub highest_bits : (wide : ℕ) (at : BitsAt) (word n : ℕ) → n ≤ wide → ((k : ℕ) → k < n
    → bit_of word (wide - 1 - k) ≡ get_or at.bits (at.place + k) false) → low_bits n (word / 2 ^ (wide - n)) ≡ padded n (here at)
highest_bits wide at word n le h = grind (arith, low_bits-padded, get_or-drop, shr-shr)

-- of what is peeked
pub peeked_index : (at : BitsAt) (word n : ℕ) → n ≤ 32 → ((k : ℕ) → k < 32
    → bit_of word (31 - k) ≡ get_or at.bits (at.place + k) false) → index_bits n (word / 2 ^ (32 - n)) ≡ padded n (here at)
unfolding index_bits
peeked_index at word n le h = highest_bits 32 at word n le (λ k lt. h k (omega (arith, le, lt)))

pub peeked_seven : (at : BitsAt) (word : ℕ) → ((k : ℕ) → k < 32 → bit_of word (31 - k) ≡ get_or at.bits (at.place + k) false)
    → seven_bits (word / 33554432) ≡ padded 7 (here at)
unfolding seven_bits
peeked_seven at word h = highest_bits 32 at word 7 (omega arith) (λ k lt. h k (omega arith))

-- of a window that contains them
pub first_index : (at : BitsAt) (word n : ℕ) → n ≤ 64 → ((k : ℕ) → k < n
    → bit_of word (63 - k) ≡ get_or at.bits (at.place + k) false) → index_bits n (word / 2 ^ (64 - n)) ≡ padded n (here at)
unfolding index_bits
first_index at word n le h = highest_bits 64 at word n le h

pub first_seven : (at : BitsAt) (word : ℕ) → ((k : ℕ) → k < 7 → bit_of word (63 - k) ≡ get_or at.bits (at.place + k) false)
    → seven_bits (word / 144115188075855872) ≡ padded 7 (here at)
unfolding seven_bits
first_seven at word h = highest_bits 64 at word 7 (omega arith) h

pub first_twelve : (at : BitsAt) (word : ℕ) → ((k : ℕ) → k < 12 → bit_of word (63 - k) ≡ get_or at.bits (at.place + k) false)
    → twelve_bits (word / 4503599627370496) ≡ padded 12 (here at)
unfolding twelve_bits
first_twelve at word h = highest_bits 64 at word 12 (omega arith) h

pub first_ten : (at : BitsAt) (word : ℕ) → ((k : ℕ) → k < 10 → bit_of word (63 - k) ≡ get_or at.bits (at.place + k) false)
    → ten_bits (word / 18014398509481984) ≡ padded 10 (here at)
unfolding ten_bits
first_ten at word h = highest_bits 64 at word 10 (omega arith) h
