-- Bits that are compared with a word of eight bytes as they stand.
use Rattle.fax_bits.proofs.Names.{◌≡◌, ℕ, suc, zero, ◌+◌, ◌-◌, ◌*◌, ◌/◌, ◌%◌, ◌^◌, ◌<◌, ◌≤◌, ◌++◌, ◌∷◌, eqb, false, true, List}
use Rattle.fax_bits.proofs.Names.{[], get_or, drop, length, refl, sym, ap, ◌∙◌, arith, eqb-true, drop-drop, length-drop}
use Rattle.fax_bits.proofs.Names.{get_or-take, get_or_past, length-take, take}
use Rattle.fax_bits.proofs.Names.{get_or-drop, append-nil, bit_and, bit_at-lt, BitOrder, HighestFirst, LowestFirst, Bits, BitsAt}
use Rattle.fax_bits.proofs.Names.{bit_of, bits_in, from_be_bytes, w64, here, low_bits, min, moved, padded}
use Rattle.fax_bits.proofs.BitReading.PeekedBits.{low_bits-padded}
use Rattle.fax_bits.proofs.BitReading.WindowWords.{IsBytes, bit_at-shr, get_or-bits_in, shifted_bit, word_bit}
use Rattle.fax_bits.proofs.CodeWords.LooksAhead.{length-padded, stands_in_padded}
use Rattle.fax_bits.specs.Window.{ArePlaced, HoldsNext, PassesPlaced, WordsAt, position_of}
use Rattle.fax_bits.specs.declared.bit_reader.PlacedBits.{PlacedBits}
use Rattle.std.proofs.lemmas.Nat.Bits.{bit_at_and, bit_at_ones}
use Rattle.std.specs.Int.{to_be_bytes}

-- ---- A word of eight bytes whose lowest bit is the first

abbrev turned_round : List ℕ → List ℕ
turned_round bytes = get_or bytes 7 0 ∷ get_or bytes 6 0 ∷ get_or bytes 5 0 ∷ get_or bytes 4 0 ∷ get_or bytes 3 0 ∷ get_or bytes 2
    0 ∷ get_or bytes 1 0 ∷ get_or bytes 0 0 ∷ []

round_at : (bytes : List ℕ) (k : ℕ) → k < 8 → get_or (turned_round bytes) (7 - k) 0 ≡ get_or bytes k 0
round_at bytes k h = grind arith

round_fits : (bytes : List ℕ) → IsBytes bytes → IsBytes (turned_round bytes)
round_fits bytes fits zero = fits 7
round_fits bytes fits (suc zero) = fits 6
round_fits bytes fits (suc (suc zero)) = fits 5
round_fits bytes fits (suc (suc (suc zero))) = fits 4
round_fits bytes fits (suc (suc (suc (suc zero)))) = fits 3
round_fits bytes fits (suc (suc (suc (suc (suc zero))))) = fits 2
round_fits bytes fits (suc (suc (suc (suc (suc (suc zero)))))) = fits 1
round_fits bytes fits (suc (suc (suc (suc (suc (suc (suc zero))))))) = fits 0
round_fits bytes fits (suc (suc (suc (suc (suc (suc (suc (suc k)))))))) = omega arith

-- its bits from the lowest on are the first ones
pub low_word_bit : (bytes : List ℕ) (k : ℕ) → IsBytes bytes → k < 64
    → bit_of (from_be_bytes w64 (turned_round bytes)) k ≡ get_or (bits_in LowestFirst bytes) k false
low_word_bit bytes k fits h = let back : k ≡ 63 - (63 - k) = omega arith in
    let byte : (63 - k) / 8 ≡ 7 - k / 8 = omega arith in
    let bit : 7 - (63 - k) % 8 ≡ k % 8 = omega arith in
    ap (bit_of (from_be_bytes w64 (turned_round bytes))) back ∙ word_bit (turned_round bytes) (63 - k) (round_fits bytes fits)
    (omega arith) ∙ get_or-bits_in HighestFirst (turned_round bytes) (63 - k) ∙ ap
    (λ (i : ℕ). bit_of (get_or (turned_round bytes) i 0) (7 - (63 - k) % 8)) byte ∙ ap (λ (b : ℕ). bit_of b (7 - (63 - k) % 8))
    (round_at bytes (k / 8) (omega arith)) ∙ ap (bit_of (get_or bytes (k / 8) 0)) bit ∙ sym (get_or-bits_in LowestFirst bytes k)

-- bytes at the front of some are bytes
front_fits : (bytes : List ℕ) (count : ℕ) → IsBytes bytes → IsBytes (take count bytes)
front_fits bytes count fits i = grind (arith, get_or-take, get_or_past, length-take, fits)

-- the same, of the first eight of some bytes
pub low_front_bit : (bytes : List ℕ) (k : ℕ) → IsBytes bytes → k < 64
    → bit_of (from_be_bytes w64 (turned_round (take 8 bytes))) k ≡ get_or (bits_in LowestFirst bytes) k false
low_front_bit bytes k fits h = low_word_bit (take 8 bytes) k (front_fits bytes 8 fits) h ∙ get_or-bits_in LowestFirst
    (take 8 bytes) k ∙ ap (λ (b : ℕ). bit_of b (k % 8)) (get_or-take 8 bytes (k / 8) 0 (omega arith)) ∙ sym
    (get_or-bits_in LowestFirst bytes k)

-- the bytes of a word whose bytes were turned are the word from its lowest bit on
pub turned_low : (bytes : List ℕ) (top turned k : ℕ) → IsBytes bytes → k < 64 → from_be_bytes w64 bytes ≡ turned
    → ((j : ℕ) → j < 64 → bit_of turned j ≡ bit_of top (8 * (j / 8) + (7 - j % 8)))
    → get_or (bits_in LowestFirst bytes) k false ≡ bit_of top (63 - k)
turned_low bytes top turned k fits h same turns = let place : ℕ = 8 * (k / 8) + (7 - k % 8) in
    let byte : place / 8 ≡ k / 8 = omega arith in
    let bit : 7 - place % 8 ≡ k % 8 = omega arith in
    let to : 8 * ((63 - place) / 8) + (7 - (63 - place) % 8) ≡ 63 - k = omega arith in
    grind (arith, get_or-bits_in, word_bit)

-- the bytes of a word
pub bytes_of_word : (word : ℕ) → IsBytes (to_be_bytes w64 word)
bytes_of_word word zero = omega arith
bytes_of_word word (suc zero) = omega arith
bytes_of_word word (suc (suc zero)) = omega arith
bytes_of_word word (suc (suc (suc zero))) = omega arith
bytes_of_word word (suc (suc (suc (suc zero)))) = omega arith
bytes_of_word word (suc (suc (suc (suc (suc zero))))) = omega arith
bytes_of_word word (suc (suc (suc (suc (suc (suc zero)))))) = omega arith
bytes_of_word word (suc (suc (suc (suc (suc (suc (suc zero))))))) = omega arith
bytes_of_word word (suc (suc (suc (suc (suc (suc (suc (suc k)))))))) = omega arith

-- ---- Where bits are placed

-- a word of ones
ones_bit : (i : ℕ) → i < 64 → bit_of (2 ^ 64 - 1) i ≡ true
ones_bit i h = ap (λ (v : ℕ). eqb v 1) (bit_at_ones 64 i h)

pub placed_high : (count bits : ℕ) → 0 < count → count ≤ 57 → ArePlaced HighestFirst count bits
    (record { count = count; mask = (2 ^ 64 - 1) * 2 ^ (64 - count) % 2 ^ 64; word = bits * 2 ^ (64 - count) % 2 ^ 64 })
placed_high count bits some few = grind (arith, shifted_bit, ones_bit)

pub placed_low : (count bits word : ℕ) → 0 < count → count ≤ 57
    → ((k : ℕ) → k < 64 → bit_of word k ≡ bit_of (bits * 2 ^ (64 - count) % 2 ^ 64) (63 - k))
    → ArePlaced LowestFirst count bits (record { count = count; mask = (2 ^ 64 - 1) / 2 ^ (64 - count); word = word })
placed_low count bits word some few is = record {
  count_is = refl;
  few = few;
  masked = grind (arith, bit_at-shr, ones_bit);
  there = λ k h. grind (arith, shifted_bit) steps 200000;
}

-- ---- What is compared

-- where the next bits are those of a word that is moved to the offset, and these are placed bits, those are the next ones
module _ (order : BitOrder) (at : BitsAt) (word count bits : ℕ) (placed : PlacedBits) (next : (k : ℕ) → k < 57
    → bit_of word (position_of order k) ≡ get_or at.bits (at.place + k) false) (are : ArePlaced order count bits placed)
    (same : bit_and word placed.mask ≡ placed.word) (room : at.place + count ≤ length at.bits) where
  each : (k : ℕ) → k < count → bit_of bits (count - 1 - k) ≡ get_or (here at) k false
  each k h = grind (arith, eqb-true, min, bit_at-lt, bit_at_and, get_or-drop)

  pub placed_there : here at ≡ low_bits count bits ++ here (moved count at)
  placed_there = let shown : low_bits count bits ≡ padded count (here at) = low_bits-padded count bits (here at) each in
      let long : length (padded count (here at)) ≡ count = length-padded count (here at) in
      let left = length-drop at.place at.bits in
      stands_in_padded count (here at) (padded count (here at)) [] (sym (append-nil (padded count (here at))))
      (omega (arith, long, left, room)) ∙ ap (λ (n : ℕ). padded count (here at) ++ drop n (here at)) long
      ∙ ap (λ (b : Bits). padded count (here at) ++ b) (drop-drop count at.place at.bits)
      ∙ ap (λ (b : Bits). b ++ here (moved count at)) (sym shown)

-- so placed bits that are equal are passed
pub placed_passed : (words : WordsAt) (word : ℕ) (placed : PlacedBits) (next : BitsAt) → HoldsNext words word
    → bit_and word placed.mask ≡ placed.word → next ≡ moved placed.count words.at → PassesPlaced placed words next
placed_passed words word placed next holds same is count bits are =
    grind (arith, placed_there words.order words.at word count bits placed holds.bits are same)
