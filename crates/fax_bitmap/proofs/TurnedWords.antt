-- Words of pixels that are turned apart, and joined at last.
use lib.Bits.{xor_zero_r}
use Rattle.fax_bitmap.proofs.Names.{cases_lt, inl, inr, ◌/◌, ◌==◌}
use Rattle.fax_bitmap.proofs.Names.{◌≡◌, ℕ, zero, suc, ◌+◌, ◌-◌, ◌*◌, ◌%◌, ◌^◌, ◌<◌, ◌≤◌, Bool, true, false, not, List, []}
use Rattle.fax_bitmap.proofs.Names.{◌∷◌, ◌++◌, length, get_or, map, set, replicate, refl, sym, ap, ◌∙◌, arith, append_assoc}
use Rattle.fax_bitmap.proofs.Names.{bit_xor, Bits, bit_of, low_bits, length-append, length-low_bits, length-replicate, map-append}
use Rattle.fax_bitmap.proofs.Names.{replicate-append-replicate, AscendFrom, pixels_from, length-map}
use Rattle.fax_bitmap.proofs.Names.{drop, drop_all, drop_more, joined_pixels, turned_after, turned_at_all, turned_from}
use Rattle.fax_bitmap.proofs.Names.{ONES_BEFORE, ONES_FROM, agree_below_at, eqb, eqb-true}
use Rattle.fax_bitmap.proofs.Names.{append-nil, bits_of, length-bits_of, length-drop, length-take, put_mid, take, take-append-add}
use Rattle.fax_bitmap.proofs.Names.{take-append-le, take-append_seam}
use Rattle.fax_bitmap.proofs.Names.{get_or-drop, plain_pixels, take-add, take-append-drop}
use Rattle.fax_bitmap.proofs.BlackRuns.{bits_of-put_mid}
use Rattle.fax_words.proofs.WordBytes.{bits_of-take}
use Rattle.fax_bitmap.proofs.PaintedWords.{kept_at, turned_bit_at}
use Rattle.fax_words.proofs.RunsWritten.{left_of_end}
use Rattle.fax_bitmap.proofs.Names.{AreChanges, get_or_default, ◌/◌, ◌*◌, ◌<◌}
use Rattle.fax_reading.proofs.PixelRows.ChangesAndPixels.{turned_at, turned_at-even}

-- ---- the table of ones
is_entry : ℕ → Bool
is_entry k = eqb (get_or ONES_FROM k 0) (2 ^ (64 - k) - 1)

pub ones_at : (k : ℕ) → k < 64 → get_or ONES_FROM k 0 ≡ 2 ^ (64 - k) - 1
unfolding is_entry
ones_at k lt = eqb-true _ _ (agree_below_at is_entry (λ b. true) 64 k refl lt)

-- each word of the shorter table is ones, and then zeros
pub ones_before_at : (k : ℕ) → k < 8
    → low_bits 64 (get_or ONES_BEFORE k 0) ≡ replicate (64 - k) true ++ replicate k false
ones_before_at zero lt = refl
ones_before_at (suc zero) lt = refl
ones_before_at (suc (suc zero)) lt = refl
ones_before_at (suc (suc (suc zero))) lt = refl
ones_before_at (suc (suc (suc (suc zero)))) lt = refl
ones_before_at (suc (suc (suc (suc (suc zero))))) lt = refl
ones_before_at (suc (suc (suc (suc (suc (suc zero)))))) lt = refl
ones_before_at (suc (suc (suc (suc (suc (suc (suc zero))))))) lt = refl
ones_before_at (suc (suc (suc (suc (suc (suc (suc (suc k)))))))) lt = absurd (omega (arith, lt))

-- ---- turning pixels
after_turned : (color pixel : Bool) → turned_after (not color) pixel ≡ not (turned_after color pixel)
unfolding turned_after
after_turned true true = refl
after_turned true false = refl
after_turned false true = refl
after_turned false false = refl

pub after_black : (pixel : Bool) → turned_after true pixel ≡ not pixel
unfolding turned_after
after_black pixel = refl

pub after_white : (pixel : Bool) → turned_after false pixel ≡ pixel
unfolding turned_after
after_white pixel = refl

turned_pixel : (color pixel : Bool) → turned_after color (not pixel) ≡ not (turned_after color pixel)
unfolding turned_after
turned_pixel true pixel = refl
turned_pixel false pixel = refl

-- all pixels of a word after the other colour
all_after_turned : (color : Bool) (bits : Bits) → map (turned_after (not color)) bits ≡ map not (map (turned_after color) bits)
all_after_turned color [] = refl
all_after_turned color (bit ∷ bits) =
    let one = after_turned color bit in
    let more = all_after_turned color bits in
    cc

-- all pixels after white
pub all_after_white : (bits : Bits) → map (turned_after false) bits ≡ bits
unfolding turned_after
all_after_white [] = refl
all_after_white (bit ∷ bits) = ap (λ (b : Bits). bit ∷ b) (all_after_white bits)

-- all pixels after black
pub all_after_black : (bits : Bits) → map (turned_after true) bits ≡ map not bits
unfolding turned_after
all_after_black [] = refl
all_after_black (bit ∷ bits) = ap (λ (b : Bits). not bit ∷ b) (all_after_black bits)

-- the pixels after pixels are turned from a position on
turned_after_part : (front bits : Bits) (k n : ℕ) → k ≡ length front + n
    → turned_from k (front ++ bits) ≡ front ++ turned_from n bits
unfolding turned_from
turned_after_part [] bits k n is = ap (λ (m : ℕ). turned_from m bits) (let same : k ≡ n = omega arith in same)
turned_after_part (bit ∷ front) bits zero n is = absurd (omega arith)
turned_after_part (bit ∷ front) bits (suc k) n is = ap (λ (b : Bits). bit ∷ b) (turned_after_part front bits k n (omega arith))

-- from a position of the first part on, the part and all after it are turned
turned_in_part : (color : Bool) (p : ℕ) (bits rest : Bits) → p ≤ length bits
    → turned_from p (map (turned_after color) bits ++ rest) ≡ map (turned_after color) (turned_from p bits) ++ map not rest
unfolding turned_from
turned_in_part color zero [] rest le = refl
turned_in_part color zero (bit ∷ bits) rest le =
    let one = turned_pixel color bit in
    let more = turned_in_part color zero bits rest (omega arith) in
    cc
turned_in_part color (suc p) [] rest le = absurd (omega arith)
turned_in_part color (suc p) (bit ∷ bits) rest le =
    ap (λ (b : Bits). turned_after color bit ∷ b) (turned_in_part color p bits rest (omega arith))

-- all of the last bits of a number are turned
pub all_low_bits : (k m n : ℕ) → k ≤ m → low_bits k (bit_xor n (2 ^ m - 1)) ≡ map not (low_bits k n)
all_low_bits zero m n le = refl
all_low_bits (suc k) m n le =
    let one = turned_bit_at m n k (omega arith) in
    let more = all_low_bits k m n (omega arith) in
    cc

-- those from one on are turned
turned_low_bits : (p n total : ℕ) → p ≤ total
    → low_bits total (bit_xor n (2 ^ (total - p) - 1)) ≡ turned_from p (low_bits total n)
unfolding turned_from
turned_low_bits zero n total le = all_low_bits total (total - 0) n (omega arith)
turned_low_bits (suc p) n zero le = absurd (omega arith)
turned_low_bits (suc p) n (suc total) le =
    let same : suc total - suc p ≡ total - p = omega arith in
    ap (λ (m : ℕ). low_bits (suc total) (bit_xor n (2 ^ m - 1))) same
    ∙ ap (λ (b : Bool). b ∷ low_bits total (bit_xor n (2 ^ (total - p) - 1))) (kept_at (total - p) n total (omega arith))
    ∙ ap (λ (b : Bits). bit_of n total ∷ b) (turned_low_bits p n total (omega arith))

-- a word of one colour turns a word after that colour
pub pixels_after : (black : Bool) (color word : ℕ) → color ≡ plain_pixels black
    → (low_bits 64 (bit_xor word color) ≡ map (turned_after black) (low_bits 64 word))
    × (bit_of (bit_xor word color) 0 ≡ turned_after black (bit_of word 0))
pixels_after true color word is = (
  ap (λ (m : ℕ). low_bits 64 (bit_xor word m)) is ∙ all_low_bits 64 64 word (omega arith)
      ∙ sym (all_after_black (low_bits 64 word)),
  ap (λ (m : ℕ). bit_of (bit_xor word m) 0) is ∙ turned_bit_at 64 word 0 (omega arith) ∙ sym (after_black (bit_of word 0)),
)
pixels_after false color word is =
    let same : bit_xor word color ≡ word = ap (bit_xor word) is ∙ xor_zero_r word in (
      ap (low_bits 64) same ∙ sym (all_after_white (low_bits 64 word)),
      ap (λ (m : ℕ). bit_of m 0) same ∙ sym (after_white (bit_of word 0)),
    )

-- the colour of a word's last pixel
pub color_of_last : (word color : ℕ) → color ≡ word % 2 * (2 ^ 64 - 1)
    → (color ≡ plain_pixels (bit_of color 0)) × (bit_of color 0 ≡ bit_of word 0)
color_of_last word color is = elim (cases_lt 0 (word % 2)) [
  | inl odd ↦
      let one : word % 2 ≡ 1 = omega arith in
      let all : color ≡ 2 ^ 64 - 1 = is ∙ ap (λ (n : ℕ). n * (2 ^ 64 - 1)) one in
      let last : bit_of color 0 ≡ true = ap (λ (n : ℕ). bit_of n 0) all in
      let word_last : bit_of word 0 ≡ true = ap (λ (n : ℕ). n == 1) (let e : word / 2 ^ 0 % 2 ≡ 1 = omega arith in e) in
      (all ∙ ap plain_pixels (sym last), last ∙ sym word_last)
  | inr even ↦
      let none : word % 2 ≡ 0 = omega arith in
      let all : color ≡ 0 = is ∙ ap (λ (n : ℕ). n * (2 ^ 64 - 1)) none in
      let last : bit_of color 0 ≡ false = ap (λ (n : ℕ). bit_of n 0) all in
      let word_last : bit_of word 0 ≡ false = ap (λ (n : ℕ). n == 1) (let e : word / 2 ^ 0 % 2 ≡ 0 = omega arith in e) in
      (all ∙ ap plain_pixels (sym last), last ∙ sym word_last)
]

-- ---- joined words
joined_after_turned : (color : Bool) (words : List ℕ) → joined_pixels (not color) words ≡ map not (joined_pixels color words)
unfolding joined_pixels
joined_after_turned color [] = refl
joined_after_turned color (word ∷ words) =
    let last : Bool = turned_after color (bit_of word 0) in
    ap (λ (b : Bool). map (turned_after (not color)) (low_bits 64 word) ++ joined_pixels b words)
    (after_turned color (bit_of word 0))
    ∙ ap (λ (b : Bits). map (turned_after (not color)) (low_bits 64 word) ++ b) (joined_after_turned last words)
    ∙ ap (λ (b : Bits). b ++ map not (joined_pixels last words)) (all_after_turned color (low_bits 64 word))
    ∙ sym (map-append not (map (turned_after color) (low_bits 64 word)) (joined_pixels last words))

-- a word more
pub joined_more : (color : Bool) (words : List ℕ) (i word : ℕ) → i < length words
    → low_bits 64 word ≡ map (turned_after color) (low_bits 64 (get_or words i 0))
    → bit_of word 0 ≡ turned_after color (bit_of (get_or words i 0) 0)
    → joined_pixels color (drop i words) ≡ low_bits 64 word ++ joined_pixels (bit_of word 0) (drop (i + 1) words)
unfolding joined_pixels
joined_more color words i word lt pixels last =
    ap (joined_pixels color) (drop_more words i 0 lt)
    ∙ ap (λ (b : Bits). b ++ joined_pixels (turned_after color (bit_of (get_or words i 0) 0)) (drop (i + 1) words)) (sym pixels)
    ∙ ap (λ (b : Bool). low_bits 64 word ++ joined_pixels b (drop (i + 1) words)) (sym last)

-- words of zeros
pub joined_zeros : (n : ℕ) → joined_pixels false (replicate n 0) ≡ replicate (64 * n) false
unfolding joined_pixels turned_after
joined_zeros zero = refl
joined_zeros (suc n) =
    let sum : 64 + 64 * n ≡ 64 * suc n = omega arith in
    ap (λ (b : Bits). replicate 64 false ++ b) (joined_zeros n) ∙ replicate-append-replicate 64 (64 * n) false
    ∙ ap (λ (k : ℕ). replicate k false) sum

-- a word is turned from a position on
pub word_turned : (color : Bool) (i r mask : ℕ) (words : List ℕ) → i < length words → r < 64 → mask ≡ 2 ^ (64 - r) - 1
    → joined_pixels color (set words i (bit_xor (get_or words i 0) mask)) ≡ turned_from (64 * i + r) (joined_pixels color words)
unfolding joined_pixels
word_turned color i r mask [] lt below is = absurd (omega arith)
word_turned color zero r mask (word ∷ words) lt below is =
    let last : Bool = turned_after color (bit_of word 0) in
    let new : ℕ = bit_xor word (2 ^ (64 - r) - 1) in
    let turned : turned_after color (bit_of new 0) ≡ not last =
    ap (turned_after color) (turned_bit_at (64 - r) word 0 (omega arith)) ∙ turned_pixel color (bit_of word 0) in
    let place : r ≡ 64 * 0 + r = omega arith in
    ap (λ (m : ℕ). map (turned_after color) (low_bits 64 (bit_xor word m))
    ++ joined_pixels (turned_after color (bit_of (bit_xor word m) 0)) words) is
    ∙ ap (λ (b : Bool). map (turned_after color) (low_bits 64 new) ++ joined_pixels b words) turned
    ∙ ap (λ (b : Bits). map (turned_after color) (low_bits 64 new) ++ b) (joined_after_turned last words)
    ∙ ap (λ (b : Bits). map (turned_after color) b ++ map not (joined_pixels last words))
    (turned_low_bits r word 64 (omega arith))
    ∙ sym (turned_in_part color r (low_bits 64 word) (joined_pixels last words) (omega (arith, length-low_bits 64 word)))
    ∙ ap (λ (k : ℕ). turned_from k (map (turned_after color) (low_bits 64 word) ++ joined_pixels last words)) place
word_turned color (suc i) r mask (word ∷ words) lt below is =
    let last : Bool = turned_after color (bit_of word 0) in
    let front : Bits = map (turned_after color) (low_bits 64 word) in
    let place : 64 * suc i + r ≡ length front + (64 * i + r) =
    omega (arith, length-map (low_bits 64 word) (turned_after color), length-low_bits 64 word) in
    ap (λ (b : Bits). front ++ b) (word_turned last i r mask words (omega arith) below is)
    ∙ sym (turned_after_part front (joined_pixels last words) (64 * suc i + r) (64 * i + r) place)

-- ---- the pixels of a row
all_turned : (n : ℕ) (color : Bool) → map not (replicate n color) ≡ replicate n (not color)
all_turned zero color = refl
all_turned (suc n) color = ap (λ (b : Bits). not color ∷ b) (all_turned n color)

-- pixels of a colour are turned from a position on
pub plain_turned : (front : Bits) (n : ℕ) (color : Bool)
    → turned_from (length front) (front ++ replicate n color) ≡ front ++ replicate n (not color)
unfolding turned_from
plain_turned [] n color = all_turned n color
plain_turned (bit ∷ front) n color = ap (λ (b : Bits). bit ∷ b) (plain_turned front n color)

-- the colour after so many changes
pub odd_ends_black : (places : List ℕ) → length places % 2 ≡ 1 → turned_at false places ≡ true
odd_ends_black places odd = turned_at-even false places ∙ rw odd refl

pub even_ends_white : (places : List ℕ) → length places % 2 ≡ 0 → turned_at false places ≡ false
even_ends_white places even = turned_at-even false places ∙ rw even refl

-- one position more
pub one_turned : (places : List ℕ) (i : ℕ) (bits : Bits) → i < length places
    → turned_at_all (drop i places) bits ≡ turned_at_all (drop (i + 1) places) (turned_from (get_or places i 0) bits)
unfolding turned_at_all
one_turned places i bits lt = ap (λ (l : List ℕ). turned_at_all l bits) (drop_more places i 0 lt)

-- no position is left
pub all_places_turned : (places : List ℕ) (i : ℕ) (bits : Bits) → length places ≤ i → turned_at_all (drop i places) bits ≡ bits
unfolding turned_at_all
all_places_turned places i bits all = ap (λ (l : List ℕ). turned_at_all l bits) (drop_all i places all)

-- ---- the order of the positions
-- from two positions on, pixels are turned in either order
turned_twice : (p q : ℕ) (bits : Bits) → turned_from p (turned_from q bits) ≡ turned_from q (turned_from p bits)
unfolding turned_from
turned_twice zero zero bits = refl
turned_twice zero (suc q) [] = refl
turned_twice zero (suc q) (bit ∷ bits) = ap (λ (b : Bits). not bit ∷ b) (turned_twice zero q bits)
turned_twice (suc p) zero [] = refl
turned_twice (suc p) zero (bit ∷ bits) = ap (λ (b : Bits). not bit ∷ b) (turned_twice p zero bits)
turned_twice (suc p) (suc q) [] = refl
turned_twice (suc p) (suc q) (bit ∷ bits) = ap (λ (b : Bits). bit ∷ b) (turned_twice p q bits)

-- a position that is first may be last
turned_last : (places : List ℕ) (p : ℕ) (bits : Bits)
    → turned_at_all places (turned_from p bits) ≡ turned_from p (turned_at_all places bits)
unfolding turned_at_all
turned_last [] p bits = refl
turned_last (q ∷ places) p bits = ap (turned_at_all places) (turned_twice q p bits) ∙ turned_last places p (turned_from q bits)

-- positions, and then others
turned_in_turn : (places more : List ℕ) (bits : Bits)
    → turned_at_all (places ++ more) bits ≡ turned_at_all more (turned_at_all places bits)
unfolding turned_at_all
turned_in_turn [] more bits = refl
turned_in_turn (p ∷ places) more bits = turned_in_turn places more (turned_from p bits)

-- the positions from one on, as many
abbrev part_of : List ℕ → ℕ → ℕ → List ℕ
part_of places from count = take count (drop from places)

-- one position more of them
one_of_part : (places : List ℕ) (from count : ℕ) (bits : Bits) → from + count < length places
    → turned_at_all (part_of places from (count + 1)) bits
    ≡ turned_from (get_or places (from + count) 0) (turned_at_all (part_of places from count) bits)
unfolding turned_at_all
one_of_part places from count bits lt =
    let rest : List ℕ = drop from places in
    let place : ℕ = get_or places (from + count) 0 in
    let there : count < length rest = omega (arith, length-drop from places) in
    let next : drop count rest ≡ place ∷ drop (count + 1) rest =
    drop_more rest count 0 there ∙ ap (λ (n : ℕ). n ∷ drop (count + 1) rest) (get_or-drop from places count 0) in
    ap (λ (l : List ℕ). turned_at_all l bits) (take-add count 1 rest ∙ ap (λ (l : List ℕ). take count rest ++ take 1 l) next)
    ∙ turned_in_turn (take count rest) (place ∷ []) bits

-- the pixels of words of which as many of each quarter are turned
abbrev pub quarters_turned : ℕ → ℕ → List ℕ → Bits → Bits
quarters_turned part count places bits =
    turned_at_all (part_of places (3 * part) count) (turned_at_all (part_of places (2 * part) count)
    (turned_at_all (part_of places part count) (turned_at_all (part_of places 0 count) bits)))

-- none so far
pub no_quarters : (part : ℕ) (places : List ℕ) (bits : Bits) → quarters_turned part 0 places bits ≡ bits
unfolding turned_at_all
no_quarters part places bits = refl

-- one more of each quarter
pub one_of_each : (part count : ℕ) (places : List ℕ) (bits : Bits) → 4 * part ≤ length places → count < part
    → quarters_turned part (count + 1) places bits
    ≡ turned_from (get_or places (3 * part + count) 0) (turned_from (get_or places (2 * part + count) 0)
    (turned_from (get_or places (part + count) 0) (turned_from (get_or places count 0) (quarters_turned part count places bits))))
one_of_each part count places bits within lt =
    let a : ℕ = get_or places count 0 in
    let b : ℕ = get_or places (part + count) 0 in
    let c : ℕ = get_or places (2 * part + count) 0 in
    let d : ℕ = get_or places (3 * part + count) 0 in
    let second : List ℕ = part_of places part count in
    let third : List ℕ = part_of places (2 * part) count in
    let fourth : List ℕ = part_of places (3 * part) count in
    let one : Bits = turned_at_all (part_of places 0 count) bits in
    let two : Bits = turned_at_all second one in
    let three : Bits = turned_at_all third two in
    let first_more : turned_at_all (part_of places 0 (count + 1)) bits ≡ turned_from a one =
    one_of_part places 0 count bits (omega arith)
    ∙ ap (λ (n : ℕ). turned_from (get_or places n 0) one) (let same : 0 + count ≡ count = omega arith in same) in
    let second_more : turned_at_all (part_of places part (count + 1)) (turned_from a one) ≡ turned_from b (turned_from a two) =
    one_of_part places part count (turned_from a one) (omega arith) ∙ ap (turned_from b) (turned_last second a one) in
    let third_more : turned_at_all (part_of places (2 * part) (count + 1)) (turned_from b (turned_from a two))
    ≡ turned_from c (turned_from b (turned_from a three)) =
    one_of_part places (2 * part) count (turned_from b (turned_from a two)) (omega arith)
    ∙ ap (turned_from c) (turned_last third b (turned_from a two) ∙ ap (turned_from b) (turned_last third a two)) in
    let fourth_more : turned_at_all (part_of places (3 * part) (count + 1)) (turned_from c (turned_from b (turned_from a three)))
    ≡ turned_from d (turned_from c (turned_from b (turned_from a (turned_at_all fourth three)))) =
    one_of_part places (3 * part) count (turned_from c (turned_from b (turned_from a three))) (omega arith)
    ∙ ap (turned_from d) (turned_last fourth c (turned_from b (turned_from a three)) ∙ ap (turned_from c)
    (turned_last fourth b (turned_from a three) ∙ ap (turned_from b) (turned_last fourth a three))) in
    ap (λ (b : Bits). turned_at_all (part_of places (3 * part) (count + 1))
    (turned_at_all (part_of places (2 * part) (count + 1)) (turned_at_all (part_of places part (count + 1)) b))) first_more
    ∙ ap (λ (b : Bits). turned_at_all (part_of places (3 * part) (count + 1))
    (turned_at_all (part_of places (2 * part) (count + 1)) b)) second_more
    ∙ ap (turned_at_all (part_of places (3 * part) (count + 1))) third_more ∙ fourth_more

-- as many positions, and then those of a part
part_more : (places : List ℕ) (from count to : ℕ) (bits : Bits) → from + count ≡ to
    → turned_at_all (part_of places from count) (turned_at_all (take from places) bits) ≡ turned_at_all (take to places) bits
part_more places from count to bits sum =
    sym (turned_in_turn (take from places) (part_of places from count) bits)
    ∙ ap (λ (l : List ℕ). turned_at_all l bits) (sym (take-add from count places) ∙ ap (λ (n : ℕ). take n places) sum)

-- all of each quarter, and then the rest
pub all_quarters : (part : ℕ) (places : List ℕ) (bits : Bits)
    → turned_at_all (drop (4 * part) places) (quarters_turned part part places bits) ≡ turned_at_all places bits
all_quarters part places bits =
    let rest : List ℕ = drop (4 * part) places in
    ap (λ (b : Bits). turned_at_all rest (turned_at_all (part_of places (3 * part) part)
    (turned_at_all (part_of places (2 * part) part) b))) (part_more places part part (2 * part) bits (omega arith))
    ∙ ap (λ (b : Bits). turned_at_all rest (turned_at_all (part_of places (3 * part) part) b))
    (part_more places (2 * part) part (3 * part) bits (omega arith))
    ∙ ap (turned_at_all rest) (part_more places (3 * part) part (4 * part) bits (omega arith))
    ∙ sym (turned_in_turn (take (4 * part) places) rest bits)
    ∙ ap (λ (l : List ℕ). turned_at_all l bits) (take-append-drop (4 * part) places)

-- a change is in a word of the row
pub change_inside : (columns : ℕ) (places : List ℕ) (i : ℕ) {words before : ℕ} → i < length places → AreChanges columns places
    → words ≡ before → columns < 64 * before → get_or places i 0 / 64 < words
change_inside columns places i lt lawful same room =
    omega (arith, left_of_end 0 columns places i lawful lt, get_or_default places i 0 columns lt, same, room)

-- turned at its changes, a row of one colour is the row, and goes on in its last colour
pub turned_is_row : (front : Bits) (place from columns total : ℕ) (color : Bool) (places : List ℕ) → length front ≡ place
    → place ≤ from → place ≤ columns → columns ≤ total → AscendFrom from columns places
    → turned_at_all places (front ++ replicate (total - place) color)
    ≡ front ++ (pixels_from place color columns places ++ replicate (total - columns) (turned_at color places))
unfolding turned_at_all
turned_is_row front place from columns total color [] long le within fits ascend =
    let sum : total - place ≡ (columns - place) + (total - columns) = omega arith in
    ap (λ (b : Bits). front ++ b) (ap (λ (n : ℕ). replicate n color) sum
    ∙ sym (replicate-append-replicate (columns - place) (total - columns) color))
turned_is_row front place from columns total color (p ∷ places) long le within fits ascend =
    let right : from ≤ p = ascend.0 in
    let below : p < columns = ascend.1 in
    let part : Bits = replicate (p - place) color in
    let here : length (front ++ part) ≡ p =
    omega (arith, length-append front part, length-replicate (p - place) color) in
    let sum : total - place ≡ (p - place) + (total - p) = omega arith in
    let split : front ++ replicate (total - place) color ≡ (front ++ part) ++ replicate (total - p) color =
    ap (λ (n : ℕ). front ++ replicate n color) sum
    ∙ ap (λ (b : Bits). front ++ b) (sym (replicate-append-replicate (p - place) (total - p) color))
    ∙ sym (append_assoc front part (replicate (total - p) color)) in
    let turned : turned_from p (front ++ replicate (total - place) color)
    ≡ (front ++ part) ++ replicate (total - p) (not color) =
    ap (turned_from p) split ∙ ap (λ (n : ℕ). turned_from n ((front ++ part) ++ replicate (total - p) color)) (sym here)
    ∙ plain_turned (front ++ part) (total - p) color in
    let rest : Bits = pixels_from p (not color) columns places in
    let last : Bits = replicate (total - columns) (turned_at (not color) places) in
    let all : (front ++ part) ++ (rest ++ last) ≡ front ++ ((part ++ rest) ++ last) = simp append_assoc refl in
    ap (turned_at_all places) turned
    ∙ turned_is_row (front ++ part) p (suc p) columns total (not color) places here (omega arith) (omega arith) fits ascend.2
    ∙ all

-- ---- writing the words
-- one word more is written
pub word_joined : (at word : ℕ) (color color' : Bool) (row row' words : List ℕ) (whole : Bits) → 8 * at + 8 ≤ length row
    → at < length words → low_bits 64 word ≡ map (turned_after color) (low_bits 64 (get_or words at 0))
    → bit_of word 0 ≡ turned_after color (bit_of (get_or words at 0) 0) → color' ≡ bit_of word 0
    → bits_of row' ≡ bits_of (take (8 * at) row) ++ (low_bits 64 word ++ bits_of (drop (8 * at + 8) row))
    → bits_of (take (8 * at) row) ++ joined_pixels color (drop at words) ≡ whole
    → bits_of (take (8 * (at + 1)) row') ++ joined_pixels color' (drop (at + 1) words) ≡ whole
word_joined at word color color' row row' words whole within lt pixels last ends written left =
    let before : Bits = bits_of (take (8 * at) row) in
    let front : Bits = before ++ low_bits 64 word in
    let rest : Bits = bits_of (drop (8 * at + 8) row) in
    let long : 8 * (8 * (at + 1)) ≡ length front = omega (
      arith,
      length-append before (low_bits 64 word),
      length-low_bits 64 word,
      length-bits_of (take (8 * at) row),
      length-take (8 * at) row,
    ) in
    let now : bits_of (take (8 * (at + 1)) row') ≡ front = bits_of-take (8 * (at + 1)) row'
    ∙ ap (take (8 * (8 * (at + 1)))) (written ∙ sym (append_assoc before (low_bits 64 word) rest))
    ∙ ap (λ (n : ℕ). take n (front ++ rest)) long ∙ take-append_seam front rest in
    ap (λ (b : Bits). b ++ joined_pixels color' (drop (at + 1) words)) now
    ∙ ap (λ (b : Bool). front ++ joined_pixels b (drop (at + 1) words)) ends
    ∙ append_assoc before (low_bits 64 word) (joined_pixels (bit_of word 0) (drop (at + 1) words))
    ∙ ap (λ (b : Bits). before ++ b) (sym (joined_more color words at word lt pixels last)) ∙ left

-- the last bytes are written
pub last_joined : (at word : ℕ) (color : Bool) (row part words : List ℕ) (whole : Bits) → 8 * at ≤ length row
    → length row < 8 * at + 8 → at < length words
    → low_bits 64 word ≡ map (turned_after color) (low_bits 64 (get_or words at 0))
    → bit_of word 0 ≡ turned_after color (bit_of (get_or words at 0) 0)
    → bits_of part ≡ take (8 * length (take (length row - 8 * at) (drop (8 * at) row))) (low_bits 64 word)
    → bits_of (take (8 * at) row) ++ joined_pixels color (drop at words) ≡ whole
    → bits_of (put_mid (8 * at) (length row - 8 * at) row part) ≡ take (8 * length row) whole
last_joined at word color row part words whole within few lt pixels last written left =
    let count : ℕ = length row - 8 * at in
    let before : Bits = bits_of (take (8 * at) row) in
    let rest : Bits = joined_pixels (bit_of word 0) (drop (at + 1) words) in
    let none : drop (8 * at + count) row ≡ [] = drop_all (8 * at + count) row (omega arith) in
    let there : length (take count (drop (8 * at) row)) ≡ count =
    omega (arith, length-take count (drop (8 * at) row), length-drop (8 * at) row) in
    let long : 8 * length row ≡ length before + 8 * count =
    omega (arith, length-bits_of (take (8 * at) row), length-take (8 * at) row) in
    let below : 8 * count ≤ length (low_bits 64 word) = omega (arith, length-low_bits 64 word) in
    bits_of-put_mid (8 * at) count row part
    ∙ ap (λ (l : List ℕ). before ++ (bits_of part ++ bits_of l)) none
    ∙ ap (λ (b : Bits). before ++ b) (append-nil (bits_of part) ∙ written
    ∙ ap (λ (n : ℕ). take (8 * n) (low_bits 64 word)) there
    ∙ sym (take-append-le (8 * count) (low_bits 64 word) rest below))
    ∙ sym (take-append-add before (low_bits 64 word ++ rest) (8 * count))
    ∙ ap (λ (b : Bits). take (length before + 8 * count) (before ++ b)) (sym (joined_more color words at word lt pixels last))
    ∙ ap (take (length before + 8 * count)) left ∙ ap (λ (n : ℕ). take n whole) (sym long)
