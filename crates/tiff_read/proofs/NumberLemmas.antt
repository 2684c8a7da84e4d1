-- The number of some bytes, one after another.
use Rattle.std.proofs.Common.{arith, ◌≡◌, ◌<◌, ◌≤◌, ◌+◌, ◌*◌, ◌^◌, ℕ, suc, List, get_or, length, drop, ap, add-one, refl}
use Rattle.std.proofs.Common.{drop-cons}
use Rattle.std.proofs.lemmas.List.{drop_all}
use Rattle.std.proofs.Math.Nat.{pow-le-pow_right, pow-suc}
use Rattle.tiff_read.specs.Numbers.{high_first, low_first}

-- The first byte counts after those before it.
pub high_first-step : (n i d : ℕ) (bytes : List ℕ) → i < length bytes → d ≡ get_or bytes i 0
    → high_first (n * 256 + d) (drop (i + 1) bytes) ≡ high_first n (drop i bytes)
high_first-step n i d bytes within byte =
    let same : n * 256 + d ≡ 256 * n + get_or bytes i 0 = omega (arith, byte) in
    rw (add-one i, drop-cons bytes i 0 within) (ap (λ (m : ℕ). high_first m (drop (suc i) bytes)) same)

-- The first byte counts less than those after it.
pub low_first-step : (n i d : ℕ) (bytes : List ℕ) → i < length bytes → d ≡ get_or bytes i 0
    → n ≡ low_first (drop (suc i) bytes) → n * 256 + d ≡ low_first (drop i bytes)
low_first-step n i d bytes within byte rest = rw (drop-cons bytes i 0 within) (omega (arith, byte, rest))

-- A number of seven bytes leaves room for another byte.
pub room_for_byte : (n i : ℕ) → i < 8 → n < 256 ^ i → n * 256 + 255 < 2 ^ 64
room_for_byte n i few less =
    let most : 256 ^ i ≤ 256 ^ 7 = pow-le-pow_right {n = 256} (omega arith) {i = i} {j = 7} (omega (arith, few)) in
    omega (arith, less, most)

-- A number of some bytes and another byte.
pub one_byte_more : (n i d : ℕ) → n < 256 ^ i → d < 256 → n * 256 + d < 256 ^ suc i
one_byte_more n i d less byte = rw (pow-suc 256 i) (omega (arith, less, byte))

-- After the last byte nothing counts any more.
pub high_first-end : (n i : ℕ) (bytes : List ℕ) → length bytes ≤ i → n ≡ high_first n (drop i bytes)
high_first-end n i bytes past = rw (drop_all i bytes past) refl
