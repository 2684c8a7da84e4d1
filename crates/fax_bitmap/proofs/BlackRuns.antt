-- A white row that is painted by its black runs: what is painted, and white pixels after it.
use Rattle.fax_bitmap.proofs.Names.{◌≡◌, ℕ, ◌+◌, ◌-◌, ◌*◌, ◌/◌, ◌^◌, ◌<◌, ◌≤◌, true, false, List, []}
use Rattle.fax_bitmap.proofs.Names.{◌++◌, length, get_or, take, drop, replicate, refl, sym, ap, ◌∙◌, arith, append_assoc}
use Rattle.fax_bitmap.proofs.Names.{flat_map-append, length-append, length-replicate, length-drop, drop_all, bit_xor}
use Rattle.fax_bitmap.proofs.Names.{replicate-append-replicate, take-replicate, drop-replicate, take-append-add}
use Rattle.fax_bitmap.proofs.Names.{drop-append-add, drop-drop}
use Rattle.fax_bitmap.proofs.Names.{take-append-le, drop-append-le, take-append-drop, put_mid, HighestFirst, Bits}
use Rattle.fax_bitmap.proofs.Names.{bits_of}
use Rattle.fax_bitmap.proofs.Names.{AreChanges, bits_of_byte, filled_up, length-pixels, low_bits, AscendFrom, pixels, pixels_from}
use Rattle.fax_bitmap.proofs.Names.{TurnsBlack, then_white, White, agree_below_at, eqb, eqb-true, Bool}
use Rattle.std.proofs.lemmas.Nat.Bits.{ones_xor_high_mask}
use lib.Bits.{xor_assoc, xor_self, xor_zero_l}
use Rattle.fax_bitmap.proofs.PaintedRows.{bits_of_plain}
use Rattle.fax_words.proofs.WordBytes.{bits_of-parts}
use Rattle.std.proofs.lemmas.List.{drop_at, take_at}
use Rattle.std.proofs.lemmas.Bool.{cases_lt}
use Rattle.std.proofs.Common.{inl, inr}
use Rattle.fax_bitmap.proofs.Names.{◌%◌}
use Rattle.fax_words.proofs.WordBytes.{bits_of-take, bits_of-drop}
use Rattle.fax_bitmap.proofs.PaintedWords.{turned_following}
use Rattle.fax_words.proofs.RunsWritten.{next_is, next_right, next_within, next_ascends, one_part}

-- ---- the black pixels of a word
-- whether a number of ones are left of a word's end, and then so many zeros left of them: one test for each pair
is_black_part : ℕ → Bool
is_black_part k =
    eqb ((2 ^ 64 - 1) * 2 ^ (63 - k % 64) % 2 ^ 64 / 2 ^ (k / 64)) (2 ^ (64 - k / 64) - 2 ^ (64 - (k / 64 + (k % 64 + 1))))

-- ones that are moved to the left and to the right
pub moved_ones : (from to : ℕ) → from < to → to ≤ 64
    → (2 ^ 64 - 1) * 2 ^ (64 - (to - from)) % 2 ^ 64 / 2 ^ from ≡ 2 ^ (64 - from) - 2 ^ (64 - to)
unfolding is_black_part
moved_ones from to lt le =
    let k : ℕ = 64 * from + (to - from - 1) in
    let row : k / 64 ≡ from = omega arith in
    let column : k % 64 ≡ to - from - 1 = omega arith in
    let left : 63 - (to - from - 1) ≡ 64 - (to - from) = omega arith in
    let right : 64 - (from + (to - from - 1 + 1)) ≡ 64 - to = omega arith in
    let all = eqb-true _ _ (agree_below_at is_black_part (λ n. true) 4096 k refl (omega arith)) in
    rw (← left, ← right) (rw (row, column) at all)

-- they turn the pixels from the one offset on, and back those from the other on
pub turned_between : (word from to : ℕ) → from ≤ to
    → bit_xor word (2 ^ (64 - from) - 2 ^ (64 - to)) ≡ bit_xor (bit_xor word (2 ^ (64 - from) - 1)) (2 ^ (64 - to) - 1)
turned_between word from to le =
    let ones : ℕ = 2 ^ (64 - from) - 1 in
    let black : ℕ = 2 ^ (64 - from) - 2 ^ (64 - to) in
    sym (ap (bit_xor (bit_xor word ones)) (sym (ones_xor_high_mask (64 - from) (64 - to) (omega arith)))
    ∙ xor_assoc word ones (bit_xor ones black) ∙ ap (bit_xor word) (sym (xor_assoc ones ones black)
    ∙ ap (λ (n : ℕ). bit_xor n black) (xor_self ones) ∙ xor_zero_l black))

-- ---- a part of the row is painted
-- the bits of a row with a part written
pub bits_of-put_mid : (start count : ℕ) (row part : List ℕ) → bits_of (put_mid start count row part)
    ≡ bits_of (take start row) ++ (bits_of part ++ bits_of (drop (start + count) row))
bits_of-put_mid start count row part =
    flat_map-append (bits_of_byte HighestFirst) (take start row) (part ++ drop count (drop start row))
    ∙ ap (λ (b : Bits). bits_of (take start row) ++ b) (flat_map-append (bits_of_byte HighestFirst) part
    (drop count (drop start row)) ∙ ap (λ (l : List ℕ). bits_of part ++ bits_of l) (drop-drop count start row))

-- the pixels of a word of a row of zeros
pub white_word : (start : ℕ) (row : List ℕ) → row ≡ replicate (length row) 0
    → low_bits 64 0 ≡ take 64 (bits_of (drop start row) ++ replicate 64 false)
white_word start row zeros =
    let bytes : ℕ = length row - start in
    let rest : drop start row ≡ replicate bytes 0 = ap (drop start) zeros ∙ drop-replicate start (length row) 0 in
    sym (ap (λ (b : Bits). take 64 (b ++ replicate 64 false)) (ap bits_of rest ∙ bits_of_plain 0 bytes false refl)
    ∙ ap (take 64) (replicate-append-replicate (8 * bytes) 64 false) ∙ take-replicate 64 (8 * bytes + 64) false (omega arith))

-- black pixels after black ones
pub black_more : (front : Bits) (a b : ℕ) → (front ++ replicate a true) ++ replicate b true ≡ front ++ replicate (a + b) true
black_more front a b = append_assoc front (replicate a true) (replicate b true)
    ∙ ap (λ (l : Bits). front ++ l) (replicate-append-replicate a b true)

-- and after these more
pub black_three : (front : Bits) (a b c n : ℕ) → a + b + c ≡ n
    → ((front ++ replicate a true) ++ replicate b true) ++ replicate c true ≡ front ++ replicate n true
black_three front a b c n sum = ap (λ (l : Bits). l ++ replicate c true) (black_more front a b) ∙ black_more front (a + b) c
    ∙ ap (λ (k : ℕ). front ++ replicate k true) sum

-- how many pixels they are together
pub longer : (front : Bits) (n : ℕ) → length (front ++ replicate n true) ≡ length front + n
longer front n = length-append front (replicate n true) ∙ ap (λ (k : ℕ). length front + k) (length-replicate n true)

-- bytes are written over a part, with the last pixels before, black ones and white ones
pub part_painted : (start count black : ℕ) (row row' : List ℕ) (front part : Bits) → start + count ≤ length row
    → 8 * start ≤ length front → length front + black ≤ 8 * (start + count) → bits_of row ≡ then_white front (length row)
    → part ≡ (drop (8 * start) front ++ replicate black true) ++ replicate (8 * (start + count) - (length front + black)) false
    → bits_of row' ≡ bits_of (take start row) ++ (part ++ bits_of (drop (start + count) row))
    → bits_of row' ≡ then_white (front ++ replicate black true) (length row)
part_painted start count black row row' front part within over under white is written =
    let n : ℕ = 8 * length row - length front in
    let seam : ℕ = 8 * (start + count) - length front in
    let before : Bits = take (8 * start) front in
    let inside : Bits = drop (8 * start) front in
    let more : ℕ = 8 * (start + count) - (length front + black) in
    let first : bits_of (take start row) ≡ before = bits_of-take start row ∙ ap (take (8 * start)) white
    ∙ take-append-le (8 * start) front (replicate n false) over in
    let sum : 8 * (start + count) ≡ length front + seam = omega arith in
    let last : bits_of (drop (start + count) row) ≡ replicate (n - seam) false = bits_of-drop (start + count) row
    ∙ ap (drop (8 * (start + count))) white ∙ ap (λ (k : ℕ). drop k (front ++ replicate n false)) sum
    ∙ drop-append-add front (replicate n false) seam ∙ drop-replicate seam n false in
    let long : length (front ++ replicate black true) ≡ length front + black =
    longer front black in
    let left : more + (n - seam) ≡ 8 * length row - length (front ++ replicate black true) = omega arith in
    let whites : replicate more false ++ replicate (n - seam) false
    ≡ replicate (8 * length row - length (front ++ replicate black true)) false
    = replicate-append-replicate more (n - seam) false ∙ ap (λ (k : ℕ). replicate k false) left in
    let black_bits : Bits = replicate black true in
    let back : Bits = replicate more false ++ replicate (n - seam) false in
    let all : before ++ (((inside ++ black_bits) ++ replicate more false) ++ replicate (n - seam) false)
    ≡ (before ++ inside) ++ (black_bits ++ back) = simp append_assoc refl in
    written ∙ ap (λ (b : Bits). b ++ (part ++ bits_of (drop (start + count) row))) first
    ∙ ap (λ (b : Bits). before ++ (b ++ bits_of (drop (start + count) row))) is
    ∙ ap (λ (b : Bits). before ++ (((inside ++ black_bits) ++ replicate more false) ++ b)) last ∙ all
    ∙ ap (λ (b : Bits). b ++ (black_bits ++ back)) (take-append-drop (8 * start) front)
    ∙ ap (λ (b : Bits). front ++ (black_bits ++ b)) whites
    ∙ sym (append_assoc front black_bits (replicate (8 * length row - length (front ++ black_bits)) false))

-- a word is painted between two offsets
pub word_painted : (start from to : ℕ) (row row' : List ℕ) (word new : ℕ) (front : Bits) → start + 8 ≤ length row → from ≤ to
    → to ≤ 64 → length front ≡ 8 * start + from → bits_of row ≡ then_white front (length row)
    → low_bits 64 word ≡ take 64 (bits_of (drop start row) ++ replicate 64 false)
    → new ≡ bit_xor (bit_xor word (2 ^ (64 - from) - 1)) (2 ^ (64 - to) - 1)
    → bits_of row' ≡ bits_of (take start row) ++ (low_bits 64 new ++ bits_of (drop (start + 8) row))
    → bits_of row' ≡ then_white (front ++ replicate (to - from) true) (length row)
word_painted start from to row row' word new front within ascend below long white is new_is written =
    let n : ℕ = 8 * length row - length front in
    let inside : Bits = drop (8 * start) front in
    let few : length inside ≡ from = omega (arith, length-drop (8 * start) front) in
    let there : bits_of (drop start row) ≡ inside ++ replicate n false = bits_of-drop start row ∙ ap (drop (8 * start)) white
    ∙ drop-append-le (8 * start) front (replicate n false) (omega arith) in
    let whole : 64 ≡ length inside + (64 - from) = omega arith in
    let old : low_bits 64 word ≡ inside ++ replicate (64 - from) false = is
    ∙ ap (λ (b : Bits). take 64 (b ++ replicate 64 false)) there
    ∙ ap (take 64) (append_assoc inside (replicate n false) (replicate 64 false)
    ∙ ap (λ (b : Bits). inside ++ b) (replicate-append-replicate n 64 false))
    ∙ ap (λ (k : ℕ). take k (inside ++ replicate (n + 64) false)) whole
    ∙ take-append-add inside (replicate (n + 64) false) (64 - from)
    ∙ ap (λ (b : Bits). inside ++ b) (take-replicate (64 - from) (n + 64) false (omega arith)) in
    let one : ℕ = bit_xor word (2 ^ (64 - from) - 1) in
    let turned : low_bits 64 one ≡ inside ++ replicate (64 - from) true =
    turned_following inside (64 - from) word 64 false (omega arith) old in
    let split : (to - from) + (64 - to) ≡ 64 - from = omega arith in
    let both : low_bits 64 one ≡ (inside ++ replicate (to - from) true) ++ replicate (64 - to) true = turned
    ∙ ap (λ (k : ℕ). inside ++ replicate k true) (sym split) ∙ sym (black_more inside (to - from) (64 - to)) in
    let sum : 64 ≡ length (inside ++ replicate (to - from) true) + (64 - to) =
    omega (arith, longer inside (to - from)) in
    let back : low_bits 64 new ≡ (inside ++ replicate (to - from) true) ++ replicate (64 - to) false =
    ap (low_bits 64) new_is ∙ turned_following (inside ++ replicate (to - from) true) (64 - to) one 64 true sum both in
    let left : 64 - to ≡ 8 * (start + 8) - (length front + (to - from)) = omega arith in
    part_painted start 8 (to - from) row row' front (low_bits 64 new) within (omega arith) (omega arith) white
    (back ∙ ap (λ (k : ℕ). (inside ++ replicate (to - from) true) ++ replicate k false) left) written

-- bytes are painted whatever they held
pub bytes_painted : (from count : ℕ) (row : List ℕ)
    → bits_of (put_mid from count row (replicate count 255))
    ≡ bits_of (take from row) ++ (replicate (8 * count) true ++ bits_of (drop (from + count) row))
bytes_painted from count row = bits_of-put_mid from count row (replicate count 255)
    ∙ ap (λ (b : Bits). bits_of (take from row) ++ (b ++ bits_of (drop (from + count) row))) (bits_of_plain 255 count true refl)

-- black pixels in three parts, and white ones in two
black_then_white : (front : Bits) (p q s z r n m : ℕ) → p + q + s ≡ n → z + r ≡ m
    → (front ++ replicate p true) ++ (replicate q true ++ ((replicate s true ++ replicate z false) ++ replicate r false))
    ≡ (front ++ replicate n true) ++ replicate m false
black_then_white front p q s z r n m black white =
    let all : (front ++ replicate p true) ++ (replicate q true ++ ((replicate s true ++ replicate z false) ++ replicate r false))
    ≡ (((front ++ replicate p true) ++ replicate q true) ++ replicate s true) ++ (replicate z false ++ replicate r false) =
    simp append_assoc refl in
    all ∙ ap (λ (b : Bits). b ++ (replicate z false ++ replicate r false)) (black_three front p q s n black)
    ∙ ap (λ (b : Bits). (front ++ replicate n true) ++ b)
    (replicate-append-replicate z r false ∙ ap (λ (k : ℕ). replicate k false) white)

-- A black run is painted by its first word, its last one, and the bytes between them, if there are any.
module _ (from to last zeros : ℕ) (row row1 row2 row3 : List ℕ) (front : Bits) (far : from / 8 * 8 + 64 < to)
    (end : last + 8 ≡ (to + 7) / 8) (left : zeros + to ≡ 8 * last + 64) (within : to ≤ 8 * length row)
    (long : length front ≡ from) (same1 : length row1 ≡ length row) (same2 : length row2 ≡ length row1)
    (one : bits_of row1 ≡ then_white (front ++ replicate (64 - from % 8) true) (length row))
    (two : bits_of row2 ≡ bits_of (take last row1)
    ++ ((replicate (64 - zeros) true ++ replicate zeros false) ++ bits_of (drop (last + 8) row1)))
    (three : bits_of row3 ≡ bits_of (take (from / 8 + 8) row2) ++ (replicate (8 * (last - (from / 8 + 8))) true
    ++ bits_of (drop (from / 8 + 8 + (last - (from / 8 + 8))) row2))) where
  abbrev first_black : Bits
  first_black = front ++ replicate (64 - from % 8) true

  abbrev next : ℕ
  next = from / 8 + 8

  abbrev end_word : Bits
  end_word = replicate (64 - zeros) true ++ replicate zeros false

  abbrev whites : ℕ
  whites = 8 * length row - length first_black

  first_long : length first_black ≡ 8 * next
  first_long = omega (arith, longer front (64 - from % 8), long)

  -- the last word begins after the first
  apart : next ≤ last → bits_of row3 ≡ then_white (front ++ replicate (to - from) true) (length row)
  apart le =
      let k : ℕ = last - next in
      let before : bits_of (take last row1) ≡ first_black ++ replicate (8 * k) false =
      bits_of-take last row1 ∙ ap (take (8 * last)) one
      ∙ ap (λ (m : ℕ). take m (first_black ++ replicate whites false)) (omega (arith, first_long, le))
      ∙ take-append-add first_black (replicate whites false) (8 * k)
      ∙ ap (λ (b : Bits). first_black ++ b) (take-replicate (8 * k) whites false (omega (arith, first_long, le, end, within))) in
      let r : ℕ = whites - (8 * k + 64) in
      let after : bits_of (drop (last + 8) row1) ≡ replicate r false =
      bits_of-drop (last + 8) row1 ∙ ap (drop (8 * (last + 8))) one
      ∙ ap (λ (m : ℕ). drop m (first_black ++ replicate whites false)) (omega (arith, first_long, le))
      ∙ drop-append-add first_black (replicate whites false) (8 * k + 64) ∙ drop-replicate (8 * k + 64) whites false in
      let front_bits : Bits = first_black ++ replicate (8 * k) false in
      let written : bits_of row2 ≡ front_bits ++ (end_word ++ replicate r false) =
      two ∙ ap (λ (b : Bits). b ++ (end_word ++ bits_of (drop (last + 8) row1))) before
      ∙ ap (λ (b : Bits). front_bits ++ (end_word ++ b)) after in
      let long_front : length front_bits ≡ 8 * last =
      omega (arith, length-append first_black (replicate (8 * k) false), length-replicate (8 * k) false, first_long, le) in
      let head : bits_of (take next row2) ≡ first_black = bits_of-take next row2 ∙ ap (take (8 * next)) (written
      ∙ append_assoc first_black (replicate (8 * k) false) (end_word ++ replicate r false))
      ∙ take_at first_black (replicate (8 * k) false ++ (end_word ++ replicate r false)) (8 * next) first_long in
      let there : next + k ≡ last = omega (arith, le) in
      let tail : bits_of (drop (next + k) row2) ≡ end_word ++ replicate r false =
      ap (λ (m : ℕ). bits_of (drop m row2)) there ∙ bits_of-drop last row2 ∙ ap (drop (8 * last)) written
      ∙ drop_at front_bits (end_word ++ replicate r false) (8 * last) long_front in
      let sum : (64 - from % 8) + 8 * k + (64 - zeros) ≡ to - from = omega (arith, le, left, end, far) in
      let black : length (front ++ replicate (to - from) true) ≡ length front + (to - from) = longer front (to - from) in
      let rest : zeros + r ≡ 8 * length row - length (front ++ replicate (to - from) true) =
      omega (arith, first_long, le, left, end, far, within, black, long) in
      three ∙ ap (λ (b : Bits). b ++ (replicate (8 * k) true ++ bits_of (drop (next + k) row2))) head
      ∙ ap (λ (b : Bits). first_black ++ (replicate (8 * k) true ++ b)) tail
      ∙ black_then_white front (64 - from % 8) (8 * k) (64 - zeros) zeros r (to - from)
      (8 * length row - length (front ++ replicate (to - from) true)) sum rest

  -- and within it
  together : last < next → bits_of row3 ≡ then_white (front ++ replicate (to - from) true) (length row)
  together lt =
      let none : last - next ≡ 0 = omega (arith, lt) in
      let here : next + 0 ≡ next = omega arith in
      let all : bits_of row3 ≡ bits_of row2 = three
      ∙ ap (λ (m : ℕ). bits_of (take next row2) ++ (replicate (8 * m) true ++ bits_of (drop (next + m) row2))) none
      ∙ ap (λ (m : ℕ). bits_of (take next row2) ++ bits_of (drop m row2)) here ∙ sym (bits_of-parts next row2) in
      let more : ℕ = to - 8 * next in
      let begun : ℕ = 8 * last - from in
      let left_black : ℕ = (64 - from % 8) - begun in
      let inside : drop (8 * last) first_black ≡ replicate left_black true =
      ap (λ (m : ℕ). drop m first_black) (omega (arith, long, far, end))
      ∙ drop-append-add front (replicate (64 - from % 8) true) begun ∙ drop-replicate begun (64 - from % 8) true in
      let sum : left_black + more ≡ 64 - zeros = omega (arith, lt, left, far, end) in
      let zeros_are : zeros ≡ 8 * (last + 8) - (length first_black + more) = omega (arith, first_long, left, far, end) in
      let part : end_word
      ≡ (drop (8 * last) first_black ++ replicate more true) ++ replicate (8 * (last + 8) - (length first_black + more)) false
      = ap (λ (m : ℕ). replicate (64 - zeros) true ++ replicate m false) zeros_are
      ∙ ap (λ (b : Bits). b ++ replicate (8 * (last + 8) - (length first_black + more)) false)
      (ap (λ (m : ℕ). replicate m true) (sym sum) ∙ sym (replicate-append-replicate left_black more true)
      ∙ ap (λ (b : Bits). b ++ replicate more true) (sym inside)) in
      let painted : bits_of row2 ≡ then_white (first_black ++ replicate more true) (length row1) =
      part_painted last 8 more row1 row2 first_black end_word (omega (arith, same1, within, end)) (omega (arith, first_long, lt))
      (omega (arith, first_long, left, far)) (one ∙ ap (then_white first_black) (sym same1)) part two in
      let whole : (64 - from % 8) + more ≡ to - from = omega (arith, far) in
      all ∙ painted ∙ ap (then_white (first_black ++ replicate more true)) same1
      ∙ ap (λ (b : Bits). then_white b (length row)) (black_more front (64 - from % 8) more
      ∙ ap (λ (m : ℕ). front ++ replicate m true) whole)

  pub long_painted : bits_of row3 ≡ then_white (front ++ replicate (to - from) true) (length row)
  long_painted = elim (cases_lt last next) [
    | inl lt ↦ together lt
    | inr le ↦ apart le
  ]

-- ---- what is left to paint
-- A row is painted up to a position, and white from there on; this many changes are done, an even number.
pub record AreBlack (columns : ℕ) (changes : List ℕ) (done : ℕ) (row : List ℕ) : Type 0 where
  pub place : ℕ
  pub front : Bits
  pub within : place ≤ columns
  pub ascend : AscendFrom place columns (drop done changes)
  pub long : length front ≡ place
  pub left : front ++ pixels_from place false columns (drop done changes) ≡ pixels columns changes
  pub painted : bits_of row ≡ then_white front (length row)

-- white pixels are white pixels before white ones
white_more : (front : Bits) (n bytes : ℕ) → length front + n ≤ 8 * bytes
    → then_white front bytes ≡ then_white (front ++ replicate n false) bytes
white_more front n bytes within =
    let long : length (front ++ replicate n false) ≡ length front + n =
    length-append front (replicate n false) ∙ ap (λ (k : ℕ). length front + k) (length-replicate n false) in
    let rest : ℕ = 8 * bytes - length (front ++ replicate n false) in
    let sum : n + rest ≡ 8 * bytes - length front = omega arith in
    sym (append_assoc front (replicate n false) (replicate rest false) ∙ ap (λ (b : Bits). front ++ b)
    (replicate-append-replicate n rest false ∙ ap (λ (k : ℕ). replicate k false) sum))

module _ (columns : ℕ) (changes : List ℕ) (done : ℕ) (row row' : List ℕ) (lt : done < length changes)
    (room : columns ≤ 8 * length row) (is : AreBlack columns changes done row) where
  abbrev first : ℕ
  first = get_or changes done 0

  abbrev front_to : Bits
  front_to = is.front ++ replicate (first - is.place) false

  pub first_within : first ≤ columns
  first_within = next_within columns is.place done White changes lt is.ascend

  first_right : is.place ≤ first
  first_right = next_right columns is.place done White changes lt is.ascend

  first_ascends : AscendFrom first columns (drop (done + 1) changes)
  first_ascends = next_ascends columns is.place done White changes lt is.ascend

  long_to : length front_to ≡ first
  long_to = omega (
    arith,
    first_right,
    is.long,
    length-append is.front (replicate (first - is.place) false),
    length-replicate (first - is.place) false,
  )

  white_to : bits_of row ≡ then_white front_to (length row)
  white_to = is.painted
      ∙ white_more is.front (first - is.place) (length row) (omega (arith, is.long, first_within, first_right, room))

  left_to : front_to ++ pixels_from first true columns (drop (done + 1) changes) ≡ pixels columns changes
  left_to = one_part front_to is.front (pixels_from is.place false columns (drop done changes))
      (replicate (first - is.place) false) (pixels_from first true columns (drop (done + 1) changes)) (pixels columns changes)
      is.left (ap (pixels_from is.place false columns) (next_is columns is.place done White changes lt is.ascend)) refl

  -- a black run that a change ends
  pub run_painted : done + 1 < length changes → length row' ≡ length row → TurnsBlack first (get_or changes (done + 1) 0) row row'
      → AreBlack columns changes (done + 2) row'
  run_painted more same turns =
      let second : ℕ = get_or changes (done + 1) 0 in
      let black : Bits = replicate (second - first) true in
      let right : first ≤ second = next_right columns first (done + 1) White changes more first_ascends in
      let two : (done + 1) + 1 ≡ done + 2 = omega arith in
      let next : AscendFrom second columns (drop ((done + 1) + 1) changes) =
      next_ascends columns first (done + 1) White changes more first_ascends in
      record {
        place = second;
        front = front_to ++ black;
        within = next_within columns first (done + 1) White changes more first_ascends;
        ascend = rw (← two) next;
        long = omega (arith, longer front_to (second - first), long_to, right);
        left = one_part (front_to ++ black) front_to (pixels_from first true columns (drop (done + 1) changes)) black
            (pixels_from second false columns (drop (done + 2) changes)) (pixels columns changes) left_to
            (ap (pixels_from first true columns) (next_is columns first (done + 1) White changes more first_ascends)
            ∙ ap (λ (n : ℕ). black ++ pixels_from second false columns (drop n changes)) two) refl;
        painted = turns front_to long_to white_to ∙ ap (then_white (front_to ++ black)) (sym same);
      }

  -- a black run that the row's end ends
  pub last_painted : length changes ≤ done + 1 → TurnsBlack first columns row row'
      → bits_of row' ≡ then_white (pixels columns changes) (length row)
  last_painted all turns =
      let none : drop (done + 1) changes ≡ [] = drop_all (done + 1) changes all in
      turns front_to long_to white_to ∙ ap (λ (b : Bits). then_white b (length row))
      (sym (ap (λ (l : List ℕ). front_to ++ pixels_from first true columns l) none) ∙ left_to)

-- a row that ends white
pub no_run_left : (columns : ℕ) (changes : List ℕ) (done : ℕ) (row : List ℕ) → length changes ≤ done → columns ≤ 8 * length row
    → AreBlack columns changes done row → bits_of row ≡ then_white (pixels columns changes) (length row)
no_run_left columns changes done row all room is =
    let none : drop done changes ≡ [] = drop_all done changes all in
    let within = is.within in
    let long = is.long in
    is.painted ∙ white_more is.front (columns - is.place) (length row) (omega arith)
    ∙ ap (λ (b : Bits). then_white b (length row))
    (sym (ap (λ (l : List ℕ). is.front ++ pixels_from is.place false columns l) none) ∙ is.left)

-- nothing of a row of zeros is painted
pub none_painted : (columns : ℕ) (changes row : List ℕ) → AreChanges columns changes → row ≡ replicate (length row) 0
    → AreBlack columns changes 0 row
none_painted columns changes row lawful zeros =
    let all : 8 * length row ≡ 8 * length row - 0 = omega arith in
    record {
      place = 0;
      front = [];
      within = omega arith;
      ascend = lawful;
      long = refl;
      left = refl;
      painted = ap bits_of zeros ∙ bits_of_plain 0 (length row) false refl ∙ ap (λ (n : ℕ). replicate n false) all;
    }

-- all is painted, and the white pixels after it fill the row up
pub all_painted_is_filled : (columns : ℕ) (changes row row' : List ℕ) → AreChanges columns changes
    → length row ≡ (columns + 7) / 8 → bits_of row' ≡ then_white (pixels columns changes) (length row)
    → bits_of row' ≡ filled_up (pixels columns changes)
all_painted_is_filled columns changes row row' lawful room is =
    is ∙ ap (λ (n : ℕ). pixels columns changes ++ replicate n false) (omega (arith, length-pixels columns changes lawful))
