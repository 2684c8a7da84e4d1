-- Words of pixels, and where their colour turns.
use Rattle.fax_bitmap.proofs.Names.{◌≡◌, ℕ, zero, suc, ◌+◌, ◌-◌, ◌*◌, ◌/◌, ◌%◌, ◌^◌, ◌<◌, ◌≤◌, Bool, true, false, not, eqb, List}
use Rattle.fax_bitmap.proofs.Names.{[], ◌∷◌, ◌++◌, get_or, map, take, replicate, refl, sym, ap, ◌∙◌, arith, inl, inr, beq}
use Rattle.fax_bitmap.proofs.Names.{count_leading_zeros, range_with_len, bit_at, from_be_bytes, w64, bit_and, bit_or, bit_xor}
use Rattle.fax_bitmap.proofs.Names.{cases_lt, get_or_past, get_or-map-range_with_len, be_bytes_8, or_shifted, pow_mono, and-not}
use Rattle.fax_bitmap.proofs.Names.{and_comm, and_pow}
use Rattle.fax_bitmap.proofs.Names.{leading_top, leading_length, one_shl, bit_at_xor, bit_at-lt, bit_at-suc, bit_at_above}
use Rattle.fax_bitmap.proofs.Names.{bit_at_cat_low, bit_at_cat_high, pow-suc, Bits, bit_of, bits_of, low_bits, Row, last_pixel}
use Rattle.fax_bitmap.proofs.Names.{one_times, some_number, changes_from, differences, ones_from, append-nil, low_bits_below}
use Rattle.fax_words.proofs.WordBytes.{bits_of_word}
use Rattle.std.proofs.lemmas.Nat.{pow_pos}

-- ---- the word of eight bytes
-- the first eight bytes, and zeros past the end
abbrev pub eight : List ℕ → List ℕ
eight bytes = map (λ i. get_or bytes i 0) (range_with_len 0 8)

eight_fit : (bytes : List ℕ) → ((i : ℕ) → get_or bytes i 0 < 256) → (i : ℕ) → get_or (eight bytes) i 0 < 256
eight_fit bytes fits i = elim (cases_lt i 8) [
  | inl lt ↦ rw (get_or-map-range_with_len (λ i. get_or bytes i 0) 0 8 i i 0 lt (omega arith)) (fits i)
  | inr ge ↦ rw (get_or_past (eight bytes) i 0 ge) (omega arith)
]

-- their bits
bits_of-eight : (bytes : List ℕ) → bits_of (eight bytes) ≡ take 64 (bits_of bytes ++ replicate 64 false)
bits_of-eight [] = refl
bits_of-eight (a ∷ []) = refl
bits_of-eight (a ∷ b ∷ []) = refl
bits_of-eight (a ∷ b ∷ c ∷ []) = refl
bits_of-eight (a ∷ b ∷ c ∷ d ∷ []) = refl
bits_of-eight (a ∷ b ∷ c ∷ d ∷ e ∷ []) = refl
bits_of-eight (a ∷ b ∷ c ∷ d ∷ e ∷ f ∷ []) = refl
bits_of-eight (a ∷ b ∷ c ∷ d ∷ e ∷ f ∷ g ∷ []) = refl
bits_of-eight (a ∷ b ∷ c ∷ d ∷ e ∷ f ∷ g ∷ h ∷ bytes) = refl

pub word_of_bytes : (bytes : List ℕ) (word : ℕ) → ((i : ℕ) → get_or bytes i 0 < 256) → word ≡ from_be_bytes w64 (eight bytes)
    → low_bits 64 word ≡ take 64 (bits_of bytes ++ replicate 64 false)
word_of_bytes bytes word fits is =
    sym (bits_of_word word) ∙ ap bits_of (be_bytes_8 (eight bytes) word refl (eight_fit bytes fits) is) ∙ bits_of-eight bytes

-- ---- where the colour turns
-- two bits that differ
differ : (a b : ℕ) → a < 2 → b < 2 → eqb ((a + b) % 2) 1 ≡ not (beq (eqb b 1) (eqb a 1))
differ zero zero m n = refl
differ zero (suc zero) m n = refl
differ (suc zero) zero m n = refl
differ (suc zero) (suc zero) m n = refl
differ zero (suc (suc b)) m n = absurd (omega arith)
differ (suc zero) (suc (suc b)) m n = absurd (omega arith)
differ (suc (suc a)) b m n = absurd (omega arith)

differs_at : (word left k : ℕ) → bit_of (bit_xor word left) k ≡ not (beq (bit_of left k) (bit_of word k))
differs_at word left k = ap (λ (b : ℕ). eqb b 1) (bit_at_xor word left k)
    ∙ differ (bit_at word k) (bit_at left k) (bit_at-lt word k) (bit_at-lt left k)

-- a word beside the same pixels one position to the right
differences_of : (n word left : ℕ) → ((k : ℕ) → k < n → bit_of left k ≡ bit_of word (suc k))
    → low_bits (suc n) (bit_xor word left) ≡ differences (bit_of left n) (low_bits (suc n) word)
differences_of zero word left shifted = ap (λ (b : Bool). b ∷ []) (differs_at word left 0)
differences_of (suc n) word left shifted =
    let one : bit_of (bit_xor word left) (suc n) ≡ not (beq (bit_of left (suc n)) (bit_of word (suc n))) =
    differs_at word left (suc n) in
    let before : bit_of left n ≡ bit_of word (suc n) = shifted n (omega arith) in
    let rest : low_bits (suc n) (bit_xor word left) ≡ differences (bit_of word (suc n)) (low_bits (suc n) word) = differences_of n
    word left (λ k lt. shifted k (omega arith)) ∙ ap (λ (b : Bool). differences b (low_bits (suc n) word)) before in
    cc

-- the last pixel of the word before is the highest bit
module _ (before word : ℕ) (small : word < 2 ^ 64) where
  abbrev left : ℕ
  left = before % 2 * 2 ^ 63 + word / 2

  shifted : bit_or (before * 2 ^ 63 % 2 ^ 64) (word / 2) ≡ left
  shifted =
      let top : before * 2 ^ 63 % 2 ^ 64 ≡ before % 2 * 2 ^ 63 = omega arith in
      ap (λ (n : ℕ). bit_or n (word / 2)) top ∙ or_shifted (before % 2) 63 (word / 2) (omega arith)

  at_top : bit_of left 63 ≡ bit_of before 0
  at_top =
      let low : (before % 2) / 2 ^ 0 % 2 ≡ before / 2 ^ 0 % 2 = omega arith in
      ap (λ (b : ℕ). eqb b 1) (bit_at_cat_high (before % 2) 63 (word / 2) 63 (omega arith) (omega arith) ∙ low)

  below : (k : ℕ) → k < 63 → bit_of left k ≡ bit_of word (suc k)
  below k lt = ap (λ (b : ℕ). eqb b 1) (bit_at_cat_low (before % 2) 63 (word / 2) k lt ∙ sym (bit_at-suc word k))

  pub turns_of : low_bits 64 (bit_xor word (bit_or (before * 2 ^ 63 % 2 ^ 64) (word / 2))) ≡ differences (bit_of before 0)
      (low_bits 64 word)
  turns_of =
      ap (λ (n : ℕ). low_bits 64 (bit_xor word n)) shifted ∙ differences_of 63 word left below
      ∙ ap (λ (b : Bool). differences b (low_bits 64 word)) at_top

-- ---- the ones of a word
-- zeros are above a number
zeros_above : (z j n : ℕ) → n < 2 ^ j → low_bits (z + j) n ≡ replicate z false ++ low_bits j n
zeros_above zero j n lt = let e : zero + j ≡ j = omega arith in ap (λ (m : ℕ). low_bits m n) e
zeros_above (suc z) j n lt =
    let e : suc z + j ≡ suc (z + j) = omega arith in
    let none : bit_of n (z + j) ≡ false = ap (λ (b : ℕ). eqb b 1) (bit_at_above n j (z + j) lt (omega arith)) in
    let rest = zeros_above z j n lt in
    ap (λ (m : ℕ). low_bits m n) e
    ∙ (let both : bit_of n (z + j) ∷ low_bits (z + j) n ≡ false ∷ (replicate z false ++ low_bits j n) = cc in both)

-- no ones among zeros
pub ones-zeros : (first n : ℕ) → ones_from first (replicate n false) ≡ []
ones-zeros first zero = refl
ones-zeros first (suc n) = ones-zeros (suc first) n

-- none in a word of zeros
pub ones-none : (first count word : ℕ) → word ≡ 0 → ones_from first (take count (low_bits 64 word)) ≡ []
ones-none first count word none = ap (λ (n : ℕ). ones_from first (take count (low_bits 64 n))) none ∙ among first count 64
  where
    among : (start m n : ℕ) → ones_from start (take m (replicate n false)) ≡ []
    among start zero n = refl
    among start (suc m) zero = refl
    among start (suc m) (suc n) = among (suc start) m n

take_zeros : (count z : ℕ) (rest : Bits) → count ≤ z → take count (replicate z false ++ rest) ≡ replicate count false
take_zeros zero z rest le = refl
take_zeros (suc count) zero rest le = absurd (omega arith)
take_zeros (suc count) (suc z) rest le = ap (λ (b : Bits). false ∷ b) (take_zeros count z rest (omega arith))

-- all are found, if none is left
pub all_found : (found rest whole : List ℕ) → found ++ rest ≡ whole → rest ≡ [] → found ≡ whole
all_found found rest whole e none = sym (append-nil found) ∙ ap (λ (l : List ℕ). found ++ l) (sym none) ∙ e

-- the first one is found after zeros
first_one : (first count z : ℕ) (rest : Bits) → z < count → ones_from first (take count (replicate z false ++ true ∷ rest))
    ≡ (first + z) ∷ ones_from first (take count (replicate (suc z) false ++ rest))
first_one first zero z rest lt = absurd (omega arith)
first_one first (suc count) zero rest lt = let e : first + zero ≡ first = omega arith in
    ap (λ (n : ℕ). n ∷ ones_from (suc first) (take count rest)) (sym e)
first_one first (suc count) (suc z) rest lt =
    let e : suc first + z ≡ first + suc z = omega arith in
    first_one (suc first) count z rest (omega arith)
    ∙ ap (λ (n : ℕ). n ∷ ones_from (suc first) (take count (replicate (suc z) false ++ rest))) e

-- the highest one of a word, at a distance from its top, is removed
module _ (word ahead count : ℕ) (small : word < 2 ^ 64) (is : ahead ≡ count_leading_zeros 64 word) where
  -- where there is none among the first bits
  pub no_ones : (first : ℕ) → count ≤ ahead → ones_from first (take count (low_bits 64 word)) ≡ []
  no_ones first le =
      let top = leading_length 64 word small in
      let e : 64 ≡ ahead + top.0 = omega (arith, top.1) in
      ap (λ (m : ℕ). ones_from first (take count (low_bits m word))) e
      ∙ ap (λ (b : Bits). ones_from first (take count b)) (zeros_above ahead top.0 word top.2)
      ∙ ap (ones_from first) (take_zeros count ahead (low_bits top.0 word) le) ∙ ones-zeros first count

  -- where there is one
  pub one_taken : (first rest : ℕ) → ahead < count → count ≤ 64 → rest ≡ word - 1 * 2 ^ (63 - ahead) % 2 ^ 64
      → ones_from first (take count (low_bits 64 word)) ≡ (first + ahead) ∷ ones_from first (take count (low_bits 64 rest))
  one_taken first rest lt few less =
      let top = leading_top 64 word (some_number 64 word small (omega (arith, is))) small in
      let j : ℕ = top.0 in
      let at : 63 - ahead ≡ j = omega (arith, top.1) in
      let one : 1 * 2 ^ (63 - ahead) % 2 ^ 64 ≡ 2 ^ j =
      ap (λ (n : ℕ). 1 * 2 ^ n % 2 ^ 64) at ∙ one_shl j 64 (omega (arith, top.1)) in
      let twice : 2 ^ suc j ≡ 2 ^ j * 2 = pow-suc 2 j in
      let small' : rest < 2 ^ j = omega (arith, top.2, top.3) in
      let whole : word ≡ 1 * 2 ^ j + rest = omega (arith, top.2) in
      let long : 64 ≡ ahead + suc j = omega (arith, top.1) in
      let long' : 64 ≡ suc ahead + j = omega (arith, top.1) in
      let bit : bit_of word j ≡ true = ap (λ (b : ℕ). eqb (b % 2) 1) (one_times word j top.2 top.3) in
      let low : low_bits j word ≡ low_bits j rest = ap (low_bits j) whole ∙ low_bits_below j 1 j rest (omega arith) in
      let here : low_bits (suc j) word ≡ true ∷ low_bits j rest = cc in
      let before : low_bits 64 word ≡ replicate ahead false ++ true ∷ low_bits j rest = ap (λ (m : ℕ). low_bits m word) long
      ∙ zeros_above ahead (suc j) word top.3 ∙ ap (λ (b : Bits). replicate ahead false ++ b) here in
      let after : low_bits 64 rest ≡ replicate (suc ahead) false ++ low_bits j rest
      = ap (λ (m : ℕ). low_bits m rest) long' ∙ zeros_above (suc ahead) j rest small' in
      ap (λ (b : Bits). ones_from first (take count b)) before ∙ first_one first count ahead (low_bits j rest) lt
      ∙ ap (λ (b : Bits). (first + ahead) ∷ ones_from first (take count b)) (sym after)

  -- which is cleared
  pub one_cleared : ahead < 64 → bit_and (2 ^ 64 - 1 - 1 * 2 ^ (63 - ahead) % 2 ^ 64) word ≡ word - 1 * 2 ^ (63 - ahead) % 2 ^ 64
  one_cleared lt =
      let top = leading_top 64 word (some_number 64 word small (omega (arith, is))) small in
      let j : ℕ = top.0 in
      let at : 63 - ahead ≡ j = omega (arith, top.1) in
      let one : 1 * 2 ^ (63 - ahead) % 2 ^ 64 ≡ 2 ^ j =
      ap (λ (n : ℕ). 1 * 2 ^ n % 2 ^ 64) at ∙ one_shl j 64 (omega (arith, top.1)) in
      let set : bit_at word j ≡ 1 = ap (λ (n : ℕ). n % 2) (one_times word j top.2 top.3) in
      let alone : bit_and (2 ^ j) word ≡ 2 ^ j = and_comm (2 ^ j) word ∙ and_pow word j
      ∙ ap (λ (n : ℕ). n * 2 ^ j) set ∙ (let e : 1 * 2 ^ j ≡ 2 ^ j = omega arith in e) in
      let same : bit_and (1 * 2 ^ (63 - ahead) % 2 ^ 64) word ≡ 2 ^ j = ap (λ (n : ℕ). bit_and n word) one ∙ alone in
      omega (arith, and-not 64 (1 * 2 ^ (63 - ahead) % 2 ^ 64) word (omega arith) small, same, one, top.2)

  pub one_less : ahead < 64 → bit_and (2 ^ 64 - 1 - 1 * 2 ^ (63 - ahead) % 2 ^ 64) word < word
  one_less lt =
      let top = leading_top 64 word (some_number 64 word small (omega (arith, is))) small in
      let j : ℕ = top.0 in
      let at : 63 - ahead ≡ j = omega (arith, top.1) in
      let one : 1 * 2 ^ (63 - ahead) % 2 ^ 64 ≡ 2 ^ j =
      ap (λ (n : ℕ). 1 * 2 ^ n % 2 ^ 64) at ∙ one_shl j 64 (omega (arith, top.1)) in
      omega (arith, one_cleared lt, one, pow_pos j, top.2)

  -- what is left needs one place fewer
  pub room_left : (room : ℕ) → ahead < 64 → word < 2 ^ room
      → bit_and (2 ^ 64 - 1 - 1 * 2 ^ (63 - ahead) % 2 ^ 64) word < 2 ^ (room - 1)
  room_left room lt fits =
      let top = leading_top 64 word (some_number 64 word small (omega (arith, is))) small in
      let j : ℕ = top.0 in
      let at : 63 - ahead ≡ j = omega (arith, top.1) in
      let one : 1 * 2 ^ (63 - ahead) % 2 ^ 64 ≡ 2 ^ j =
      ap (λ (n : ℕ). 1 * 2 ^ n % 2 ^ 64) at ∙ one_shl j 64 (omega (arith, top.1)) in
      let twice : 2 ^ suc j ≡ 2 ^ j * 2 = pow-suc 2 j in
      let below : bit_and (2 ^ 64 - 1 - 1 * 2 ^ (63 - ahead) % 2 ^ 64) word < 2 ^ j =
      omega (arith, one_cleared lt, one, top.2, top.3, twice) in
      elim (cases_lt j room) [
        | inl under ↦ let le : j ≤ room - 1 = omega arith in omega (arith, below, pow_mono le)
        | inr over ↦ let le : room ≤ j = omega arith in absurd (omega (arith, fits, top.2, pow_mono le))
      ]

-- a number that isn't 0 needs room
pub some_room : (n room : ℕ) → 0 < n → n < 2 ^ room → 0 < room
some_room n zero some fits = absurd (omega arith)
some_room n (suc room) some fits = omega arith

-- ---- changes
-- the changes of a row are the ones among its differences
pub changes-ones : (place : ℕ) (before : Bool) (row : Row)
    → changes_from place before row ≡ ones_from place (differences before row)
changes-ones place before [] = refl
changes-ones place true (true ∷ row) = changes-ones (suc place) true row
changes-ones place true (false ∷ row) = ap (λ (l : List ℕ). place ∷ l) (changes-ones (suc place) false row)
changes-ones place false (true ∷ row) = ap (λ (l : List ℕ). place ∷ l) (changes-ones (suc place) true row)
changes-ones place false (false ∷ row) = changes-ones (suc place) false row

-- the first of them
pub differences-take : (n : ℕ) (before : Bool) (row : Row) → take n (differences before row) ≡ differences before (take n row)
differences-take zero before row = refl
differences-take (suc n) before [] = refl
differences-take (suc n) before (pixel ∷ row) = ap (λ (b : Bits). not (beq before pixel) ∷ b) (differences-take n pixel row)

-- the last pixel of a word
pub last_of_word : (n word : ℕ) (before : Bool) → last_pixel before (low_bits (suc n) word) ≡ bit_of word 0
last_of_word zero word before = refl
last_of_word (suc n) word before = last_of_word n word (bit_of word (suc n))
