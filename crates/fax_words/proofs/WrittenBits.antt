-- Bits of numbers one after another.
use Rattle.fax_words.proofs.Names.{◌≡◌, ℕ, zero, suc, ◌+◌, ◌-◌, ◌*◌, ◌/◌, ◌%◌, ◌^◌, ◌<◌, ◌≤◌, false, List, [], ◌∷◌, ◌++◌, length}
use Rattle.fax_words.proofs.Names.{replicate, eqb, refl, sym, ap, ◌∙◌, arith, append_assoc, or_zero_r, bit_or}
use Rattle.fax_words.proofs.Names.{mul-mod_left, flat_map-append, append-nil, length-append, mod-pow-add, shl-shr, shl_whole}
use Rattle.fax_words.proofs.Names.{or_shifted, pow-add, mul-add-lt, bit_at_above}
use Rattle.fax_words.proofs.Names.{padding, filled_up, length-bits_of, length-low_bits, HighestFirst, Bits, bit_of, bits_of}
use Rattle.fax_words.proofs.Names.{bits_of_byte, low_bits, low_bits-append, low_bits_below}
use Rattle.fax_bits.proofs.BitReading.WordRanges.{low_bits_joined}
use Rattle.std.proofs.lemmas.Nat.{pow_pos}

divided : (n d : ℕ) → 0 < d → n / d * d + n % d ≡ n
divided n d lt = omega arith

-- the low bits of a number and of its remainder
pub low_bits_mod : (width k n : ℕ) → width ≤ k → low_bits width (n % 2 ^ k) ≡ low_bits width n
low_bits_mod width k n le =
    sym (low_bits_below width (n / 2 ^ k) k (n % 2 ^ k) le) ∙ ap (low_bits width) (divided n (2 ^ k) (pow_pos k))

byte_is_low_bits : (n : ℕ) → bits_of_byte HighestFirst n ≡ low_bits 8 n
byte_is_low_bits n = refl

-- one byte more
pub bits_of-push : (bytes : List ℕ) (byte : ℕ) → bits_of (bytes ++ byte ∷ []) ≡ bits_of bytes ++ low_bits 8 byte
bits_of-push bytes byte = flat_map-append (bits_of_byte HighestFirst) bytes (byte ∷ [])
    ∙ ap (λ (b : Bits). bits_of bytes ++ b) (append-nil (bits_of_byte HighestFirst byte) ∙ byte_is_low_bits byte)

-- the highest eight of some bits go to the bytes
pub push_byte : (bytes : List ℕ) (count left n byte : ℕ) → count ≡ 8 + left → byte ≡ (n / 2 ^ left) % 256
    → bits_of (bytes ++ byte ∷ []) ++ low_bits left n ≡ bits_of bytes ++ low_bits count n
push_byte bytes count left n byte split is =
    let eight : low_bits 8 byte ≡ low_bits 8 (n / 2 ^ left) =
    ap (low_bits 8) is ∙ low_bits_mod 8 8 (n / 2 ^ left) (omega arith) in
    ap (λ (b : Bits). b ++ low_bits left n) (bits_of-push bytes byte ∙ ap (λ (b : Bits). bits_of bytes ++ b) eight)
    ∙ append_assoc (bits_of bytes) (low_bits 8 (n / 2 ^ left)) (low_bits left n)
    ∙ ap (λ (b : Bits). bits_of bytes ++ b) (sym (low_bits-append 8 left n) ∙ ap (λ (m : ℕ). low_bits m n) (sym split))

-- ---- words one after another, in 64 bits
-- what is shifted out is lost
shifted_up : (a j k : ℕ) → a * 2 ^ k % 2 ^ (j + k) ≡ a % 2 ^ j * 2 ^ k
shifted_up a j k =
    mod-pow-add (a * 2 ^ k) j k ∙ ap (λ (m : ℕ). m % 2 ^ j * 2 ^ k + a * 2 ^ k % 2 ^ k) (shl-shr a k) ∙ ap (λ (m : ℕ).
    a % 2 ^ j * 2 ^ k + m) (mul-mod_left a (2 ^ k)) ∙ (let e : a % 2 ^ j * 2 ^ k + 0 ≡ a % 2 ^ j * 2 ^ k = omega arith in e)

-- a word is put after the pending bits
pub put_after : (waiting count width word bits : ℕ) → count + width ≤ 64 → word < 2 ^ width → bits
    ≡ bit_or (waiting * 2 ^ width % 2 ^ 64) word → low_bits (count + width) bits ≡ low_bits count waiting ++ low_bits width word
put_after waiting count width word bits room fits is =
    let above : ℕ = 64 - width in
    let sum : above + width ≡ 64 = omega arith in
    let kept : waiting * 2 ^ width % 2 ^ 64 ≡ waiting % 2 ^ above * 2 ^ width
    = ap (λ (m : ℕ). waiting * 2 ^ width % 2 ^ m) (sym sum) ∙ shifted_up waiting above width in
    ap (low_bits (count + width)) (is ∙ ap (λ (n : ℕ). bit_or n word) kept ∙ or_shifted (waiting % 2 ^ above) width word fits)
    ∙ low_bits_joined count width (waiting % 2 ^ above) word fits
    ∙ ap (λ (b : Bits). b ++ low_bits width word) (low_bits_mod count above waiting (omega arith))

-- no bit of 0 is a one
pub zero_bits : (n : ℕ) → low_bits n 0 ≡ replicate n false
zero_bits zero = refl
zero_bits (suc n) =
    let none : bit_of 0 n ≡ false = ap (λ (b : ℕ). eqb b 1) (bit_at_above 0 0 n (omega arith) (omega arith)) in
    let rest = zero_bits n in
    cc

-- a word is added to the pending bits, for which there is room
pub put_more : (old : List ℕ) (waiting room width word bits : ℕ) → width < room
    → room ≤ 64 → word < 2 ^ width → bits ≡ bit_or (waiting * 2 ^ width % 2 ^ 64) word
    → bits_of old ++ low_bits (64 - (room - width)) bits ≡ (bits_of old ++ low_bits (64 - room) waiting) ++ low_bits width word
put_more old waiting room width word bits lt le fits is =
    let n : 64 - (room - width) ≡ (64 - room) + width = omega arith in
    ap (λ (m : ℕ). bits_of old ++ low_bits m bits) n
    ∙ ap (λ (b : Bits). bits_of old ++ b) (put_after waiting (64 - room) width word bits (omega arith) fits is)
    ∙ sym (append_assoc (bits_of old) (low_bits (64 - room) waiting) (low_bits width word))

-- ---- Zeros up to a whole byte.
pub length-written : (bytes : List ℕ) (count waiting : ℕ)
    → length (bits_of bytes ++ low_bits count waiting) ≡ 8 * length bytes + count
length-written bytes count waiting =
    omega (arith, length-append (bits_of bytes) (low_bits count waiting), length-bits_of bytes, length-low_bits count waiting)

-- as many zeros as are missing
pub missing : (bytes : List ℕ) (room waiting : ℕ) → room ≤ 64
    → low_bits (room % 8) 0 ≡ padding (length (bits_of bytes ++ low_bits (64 - room) waiting))
missing bytes room waiting le = zero_bits (room % 8) ∙ ap (λ (n : ℕ). replicate n false) (let e : room % 8 ≡ (8 - length
    (bits_of bytes ++ low_bits (64 - room) waiting) % 8) % 8 = omega (arith, length-written bytes (64 - room) waiting) in e)

-- whole bytes are taken from the pending bits and the zeros after them
pub finished : (old new : List ℕ) (waiting room left shifted : ℕ) → room ≤ 64 → shifted ≡ waiting * 2 ^ (room % 8) % 2 ^ 64
    → left < 8 → left % 8 ≡ ((64 - room) + room % 8) % 8 → bits_of new ++ low_bits left shifted ≡ bits_of old
    ++ low_bits ((64 - room) + room % 8) shifted → bits_of new ≡ filled_up (bits_of old ++ low_bits (64 - room) waiting)
finished old new waiting room left shifted le is few same e =
    let none : left ≡ 0 = omega arith in
    let fits : 0 < 2 ^ (room % 8) = pow_pos (room % 8) in
    let shift : shifted ≡ bit_or (waiting * 2 ^ (room % 8) % 2 ^ 64) 0 =
    is ∙ sym (or_zero_r (waiting * 2 ^ (room % 8) % 2 ^ 64)) in
    sym (append-nil (bits_of new)) ∙ ap (λ (m : ℕ). bits_of new ++ low_bits m shifted) (sym none) ∙ e
    ∙ ap (λ (b : Bits). bits_of old ++ b) (put_after waiting (64 - room) (room % 8) 0 shifted (omega arith) fits shift)
    ∙ sym (append_assoc (bits_of old) (low_bits (64 - room) waiting) (low_bits (room % 8) 0))
    ∙ ap (λ (b : Bits). (bits_of old ++ low_bits (64 - room) waiting) ++ b) (missing old room waiting le)

-- two words one after another, in 64 bits
pub two_words : (a m b n bits : ℕ) → m + n ≤ 64 → a < 2 ^ m → b < 2 ^ n → bits ≡ bit_or (a * 2 ^ n % 2 ^ 64) b
    → bits ≡ a * 2 ^ n + b
two_words a m b n bits short a-fits b-fits is =
    is ∙ ap (λ (k : ℕ). bit_or k b) (shl_whole a m n 64 a-fits short) ∙ or_shifted a n b b-fits

pub two_words_fit : (a m b n bits : ℕ) → m + n ≤ 64 → a < 2 ^ m → b < 2 ^ n → bits ≡ bit_or (a * 2 ^ n % 2 ^ 64) b
    → bits < 2 ^ (m + n)
two_words_fit a m b n bits short a-fits b-fits is =
    omega (
      arith,
      two_words a m b n bits short a-fits b-fits is,
      mul-add-lt a (2 ^ n) b (2 ^ m) a-fits b-fits,
      pow-add 2 n m,
      ap (λ (k : ℕ). 2 ^ k) (let e : m + n ≡ n + m = omega arith in e),
    )

pub two_words_bits : (a m b n bits : ℕ) → m + n ≤ 64 → a < 2 ^ m → b < 2 ^ n → bits ≡ bit_or (a * 2 ^ n % 2 ^ 64) b
    → low_bits (m + n) bits ≡ low_bits m a ++ low_bits n b
two_words_bits a m b n bits short a-fits b-fits is =
    ap (low_bits (m + n)) (two_words a m b n bits short a-fits b-fits is) ∙ low_bits_joined m n a b b-fits
