-- Bytes and their bits: those of a word, and of bytes in parts.
use Rattle.fax_words.proofs.Names.{length-bits_of, low_bits-append, Bits, bits_of, bits_of_byte, low_bits, HighestFirst, List, []}
use Rattle.fax_words.proofs.Names.{ap, arith, drop, length, refl, suc, sym, take, zero, ℕ, ◌%◌, ◌*◌, ◌++◌, ◌+◌, ◌/◌, ◌^◌, ◌∙◌}
use Rattle.fax_words.proofs.Names.{◌∷◌, ◌≡◌, ◌≤◌, flat_map-append, length-take, take-append-drop, to_be_bytes, w64}
use Rattle.fax_words.proofs.WrittenBits.{low_bits_mod}
use Rattle.std.proofs.Math.Seq.{drop-nil, take-nil}

-- ---- the bytes of a word
-- one byte of a number, before the bytes below it
byte_before : (k n byte : ℕ) (bytes : List ℕ) → byte ≡ (n / 2 ^ k) % 256 → bits_of bytes ≡ low_bits k n
    → bits_of (byte ∷ bytes) ≡ low_bits (8 + k) n
byte_before k n byte bytes is e =
    ap (λ (b : Bits). bits_of_byte HighestFirst byte ++ b) e ∙ ap (λ (b : Bits). b ++ low_bits k n)
    (ap (low_bits 8) is ∙ low_bits_mod 8 8 (n / 2 ^ k) (omega arith)) ∙ sym (low_bits-append 8 k n)

pub bits_of_word : (n : ℕ) → bits_of (to_be_bytes w64 n) ≡ low_bits 64 n
bits_of_word n =
    let lowest : n % 256 ≡ (n / 2 ^ 0) % 256 = omega arith in
    let one = byte_before 0 n (n % 256) [] lowest refl in
    let two = byte_before 8 n (n / 2 ^ 8 % 256) (n % 256 ∷ []) refl one in
    let three = byte_before 16 n (n / 2 ^ 16 % 256) (n / 2 ^ 8 % 256 ∷ n % 256 ∷ []) refl two in
    let four = byte_before 24 n (n / 2 ^ 24 % 256) (n / 2 ^ 16 % 256 ∷ n / 2 ^ 8 % 256 ∷ n % 256 ∷ []) refl three in
    let five =
    byte_before 32 n (n / 2 ^ 32 % 256) (n / 2 ^ 24 % 256 ∷ n / 2 ^ 16 % 256 ∷ n / 2 ^ 8 % 256 ∷ n % 256 ∷ []) refl four in
    let six = byte_before 40 n (n / 2 ^ 40 % 256)
    (n / 2 ^ 32 % 256 ∷ n / 2 ^ 24 % 256 ∷ n / 2 ^ 16 % 256 ∷ n / 2 ^ 8 % 256 ∷ n % 256 ∷ []) refl five in
    let seven = byte_before 48 n (n / 2 ^ 48 % 256)
    (n / 2 ^ 40 % 256 ∷ n / 2 ^ 32 % 256 ∷ n / 2 ^ 24 % 256 ∷ n / 2 ^ 16 % 256 ∷ n / 2 ^ 8 % 256 ∷ n % 256 ∷ []) refl six in
    byte_before 56 n (n / 2 ^ 56 % 256) (n / 2 ^ 48 % 256 ∷ n / 2 ^ 40 % 256 ∷ n / 2 ^ 32 % 256 ∷ n / 2 ^ 24 % 256
    ∷ n / 2 ^ 16 % 256 ∷ n / 2 ^ 8 % 256 ∷ n % 256 ∷ []) refl seven

-- the first bytes are the first bits
pub bits_of-take : (k : ℕ) (bytes : List ℕ) → bits_of (take k bytes) ≡ take (8 * k) (bits_of bytes)
bits_of-take zero bytes = refl
bits_of-take (suc k) [] = sym (take-nil (8 * suc k))
bits_of-take (suc k) (byte ∷ bytes) =
    let n : 8 * suc k ≡ suc (suc (suc (suc (suc (suc (suc (suc (8 * k)))))))) = omega arith in
    ap (λ (b : Bits). bits_of_byte HighestFirst byte ++ b) (bits_of-take k bytes)
    ∙ sym (ap (λ (m : ℕ). take m (bits_of (byte ∷ bytes))) n)

pub bits_of-drop : (k : ℕ) (bytes : List ℕ) → bits_of (drop k bytes) ≡ drop (8 * k) (bits_of bytes)
bits_of-drop zero bytes = refl
bits_of-drop (suc k) [] = sym (drop-nil (8 * suc k))
bits_of-drop (suc k) (byte ∷ bytes) =
    let n : 8 * suc k ≡ suc (suc (suc (suc (suc (suc (suc (suc (8 * k)))))))) = omega arith in
    bits_of-drop k bytes ∙ sym (ap (λ (m : ℕ). drop m (bits_of (byte ∷ bytes))) n)

-- ---- bytes in parts
-- bytes in two parts
pub bits_of-parts : (n : ℕ) (bytes : List ℕ) → bits_of bytes ≡ bits_of (take n bytes) ++ bits_of (drop n bytes)
bits_of-parts n bytes =
    sym (ap bits_of (take-append-drop n bytes)) ∙ flat_map-append (bits_of_byte HighestFirst) (take n bytes) (drop n bytes)

-- the bits of the first bytes
pub length-first : (n : ℕ) (bytes : List ℕ) → n ≤ length bytes → length (bits_of (take n bytes)) ≡ 8 * n
length-first n bytes within = omega (arith, length-bits_of (take n bytes), length-take n bytes)

-- two lists whose prefixes have the same length
pub front_same : {A : Type 0} (a b c d : List A) → a ++ b ≡ c ++ d → length a ≡ length c → b ≡ d
front_same [] b [] d e len = e
front_same [] b (y ∷ c) d e len = absurd (omega arith)
front_same (x ∷ a) b [] d e len = absurd (omega arith)
front_same (x ∷ a) b (y ∷ c) d e len =
    let rest : a ++ b ≡ c ++ d = cc in
    let shorter : length a ≡ length c = omega arith in
    front_same a b c d rest shorter
