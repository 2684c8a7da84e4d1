-- Bits that are put together, and lists with another element.
use Rattle.std.proofs.Common.{arith, ◌≡◌, ℕ, suc, ◌+◌, ◌-◌, ◌*◌, ◌/◌, ◌%◌, ◌^◌, ◌<◌, ◌≤◌, ◌≢◌, List, length, get_or, set}
use Rattle.std.proofs.Common.{sym, ap, ◌∙◌, subst, inl, inr}
use Rattle.std.specs.Prelude.{bit_or, nat_eq}
use Rattle.std.proofs.Math.Nat.{div-div-eq-div-mul, pow-le-pow_right, pow-suc}
use Rattle.std.proofs.lemmas.Bool.{cases_eq, cases_lt}
use Rattle.std.proofs.lemmas.List.{get_or-set_same, get_or-set_other}
use Rattle.std.proofs.lemmas.Nat.{or_shifted}
use Rattle.fax_bits.specs.Bits.{bit_of}

-- a bit behind others
pub pushed : (bits b i : ℕ) → i < 8 → bits < 2 ^ i → b < 2 → bit_or (bits * 2 % 256) b ≡ 2 * bits + b
pushed bits b i few fits bit =
    let most : 2 ^ i ≤ 2 ^ 7 = pow-le-pow_right {n = 2} (omega arith) {i = i} {j = 7} (omega (arith, few)) in
    let small : bits * 2 % 256 ≡ bits * 2 ^ 1 = omega (arith, fits, most) in
    let sum : bits * 2 ^ 1 + b ≡ 2 * bits + b = omega arith in
    ap (λ (n : ℕ). bit_or n b) small ∙ or_shifted bits 1 b (omega (arith, bit)) ∙ sum

pushed_last : (bits b : ℕ) → b < 2 → bit_of (2 * bits + b) 0 ≡ nat_eq b 1
pushed_last bits b bit = let rest : (2 * bits + b) / 2 ^ 0 % 2 ≡ b = omega (arith, bit) in ap (λ (n : ℕ). nat_eq n 1) rest

pushed_before : (bits b k : ℕ) → b < 2 → bit_of (2 * bits + b) (suc k) ≡ bit_of bits k
pushed_before bits b k bit =
    let half : (2 * bits + b) / 2 ≡ bits = omega (arith, bit) in
    let power : 2 ^ suc k ≡ 2 * 2 ^ k = pow-suc 2 k ∙ omega arith in
    ap (λ (n : ℕ). nat_eq ((2 * bits + b) / n % 2) 1) power
    ∙ ap (λ (n : ℕ). nat_eq (n % 2) 1) (sym (div-div-eq-div-mul (2 * bits + b) 2 (2 ^ k)))
    ∙ ap (λ (n : ℕ). bit_of n k) half

-- the bits of some bytes, and of one more
pub one_bit_more : (list : List ℕ) (start s i bits b : ℕ) → i < 8 → bits < 2 ^ i → b < 2
    → nat_eq b 1 ≡ bit_of (get_or list (start + i) 0) s
    → ((k : ℕ) → k < i → bit_of bits (i - suc k) ≡ bit_of (get_or list (start + k) 0) s)
    → (k : ℕ) → k < i + 1 → bit_of (bit_or (bits * 2 % 256) b) (i + 1 - suc k) ≡ bit_of (get_or list (start + k) 0) s
one_bit_more list start s i bits b few fits bit is before k lt =
    ap (λ (n : ℕ). bit_of n (i + 1 - suc k)) (pushed bits b i few fits bit) ∙ elim (cases_lt k i) [
      | inl earlier ↦
          let place : i + 1 - suc k ≡ suc (i - suc k) = omega (arith, earlier) in
          ap (bit_of (2 * bits + b)) place ∙ pushed_before bits b (i - suc k) bit ∙ before k earlier
      | inr from ↦
          let same : k ≡ i = omega (arith, from, lt) in
          let place : i + 1 - suc k ≡ 0 = omega (arith, same) in
          ap (bit_of (2 * bits + b)) place ∙ pushed_last bits b bit ∙ is
          ∙ ap (λ (n : ℕ). bit_of (get_or list (start + n) 0) s) (sym same)
    ]

pub fits_more : (bits b i : ℕ) → i < 8 → bits < 2 ^ i → b < 2 → bit_or (bits * 2 % 256) b < 2 ^ (i + 1)
fits_more bits b i few fits bit =
    let next : 2 ^ (i + 1) ≡ 2 * 2 ^ i = ap (λ (n : ℕ). 2 ^ n) (omega arith) ∙ pow-suc 2 i ∙ omega arith in
    omega (arith, pushed bits b i few fits bit, next, fits, bit)

-- what holds of the first elements, and of one more
pub one_more_set : (P : ℕ → ℕ → Type 0) (list : List ℕ) (i v : ℕ) → i < length list → P i v
    → ((k : ℕ) → k < i → P k (get_or list k 0)) → (k : ℕ) → k < i + 1 → P k (get_or (set list i v) k 0)
one_more_set P list i v within here before k lt = elim (cases_eq k i) [
  | inl same ↦ subst (λ (n : ℕ). P n (get_or (set list i v) n 0)) (sym same)
      (subst (P i) (sym (get_or-set_same list i v 0 within)) here)
  | inr other ↦ subst (P k) (sym (get_or-set_other list i k v 0 other)) (before k (omega (arith, lt, other)))
]

-- the bits of eight bytes are one
pub one_byte_more : (bits bytes : List ℕ) (index byte s : ℕ) → index < length bits
    → ((i : ℕ) → i < 8 → bit_of byte (7 - i) ≡ bit_of (get_or bytes (8 * index + i) 0) s)
    → ((k : ℕ) → k < 8 * index → bit_of (get_or bits (k / 8) 0) (7 - k % 8) ≡ bit_of (get_or bytes k 0) s)
    → (k : ℕ) → k < 8 * (index + 1) → bit_of (get_or (set bits index byte) (k / 8) 0) (7 - k % 8) ≡ bit_of (get_or bytes k 0) s
one_byte_more bits bytes index byte s within here before k lt = elim (cases_lt k (8 * index)) [
  | inl earlier ↦
      let other : k / 8 ≢ index = λ e. absurd (omega (arith, e, earlier)) in
      ap (λ (n : ℕ). bit_of n (7 - k % 8)) (get_or-set_other bits index (k / 8) byte 0 other) ∙ before k earlier
  | inr from ↦
      let same : k / 8 ≡ index = omega (arith, from, lt) in
      let whole : 8 * index + k % 8 ≡ k = omega (arith, same) in
      ap (λ (n : ℕ). bit_of (get_or (set bits index byte) n 0) (7 - k % 8)) same
      ∙ ap (λ (n : ℕ). bit_of n (7 - k % 8)) (get_or-set_same bits index byte 0 within)
      ∙ here (k % 8) (omega arith) ∙ ap (λ (n : ℕ). bit_of (get_or bytes n 0) s) whole
]
