-- Rows of packed pixels, scanned a word at a time.
use Rattle.fax_bitmap.proofs.Names.{◌≡◌, ℕ, suc, ◌+◌, ◌-◌, ◌*◌, ◌/◌, ◌<◌, ◌≤◌, Bool, true, false, not, List, []}
use Rattle.fax_bitmap.proofs.Names.{◌∷◌, ◌++◌}
use Rattle.fax_bitmap.proofs.Names.{length, take, drop, replicate, refl, sym, ap, subst, ◌∙◌, arith, append_assoc, take_all, map}
use Rattle.fax_bitmap.proofs.Names.{add-one, flat_map-append, append-nil, length-append, length-take, length-drop}
use Rattle.fax_bitmap.proofs.Names.{length-replicate, take-append-drop, take-append-le, take_rest, map-append}
use Rattle.fax_bitmap.proofs.Names.{replicate-append-replicate, All-push, div-eq-sub-div, div-eq_of_lt}
use Rattle.fax_bitmap.proofs.Names.{take-add, take-append-add, take-append_seam, HighestFirst, Bits, bit_of, bits_of}
use Rattle.fax_bitmap.proofs.Names.{bits_of_byte, low_bits, Row, AreChanges, last_pixel, changes, pixels, length-bits_of}
use Rattle.fax_bitmap.proofs.Names.{length-low_bits, last_pixel-same, changes-recursive, pixels-changes, AreChanges-changes}
use Rattle.fax_bitmap.proofs.Names.{changes_from, changes_from-append, changes_from-same, rows_of}
use Rattle.fax_bitmap.proofs.Names.{bytes_of_row, in_black, length-map, rows_shown, shown, AreRows, differences}
use Rattle.fax_bitmap.proofs.Names.{ones_from}
use mir.Val.{bool_byte}
use Rattle.fax_bitmap.proofs.ScannedWords.{changes-ones, differences-take, last_of_word}
use Rattle.fax_words.proofs.WordBytes.{bits_of-parts, length-first}

-- a whole word of pixels is scanned, and more follow
module _ (start n before word ones : ℕ) (rest : List ℕ) (some : 64 ≤ n)
    (room : bytes_of_row n ≤ length rest) (word-is : low_bits 64 word ≡ take 64 (bits_of rest ++ replicate 64 false))
    (ones-are : low_bits 64 ones ≡ differences (bit_of before 0) (low_bits 64 word)) where
  abbrev here : Bits
  here = bits_of (take 8 rest)

  abbrev following : Bits
  following = bits_of (drop 8 rest)

  long : length here ≡ 64
  long = length-first 8 rest (omega arith)

  word_here : low_bits 64 word ≡ here
  word_here =
      let e : 64 ≡ length here + 0 = omega (arith, long) in
      word-is ∙ ap (λ (b : Bits). take 64 (b ++ replicate 64 false)) (bits_of-parts 8 rest) ∙ ap (take 64)
      (append_assoc here following (replicate 64 false)) ∙ ap (λ (m : ℕ). take m (here ++ (following ++ replicate 64 false))) e
      ∙ take-append-add here (following ++ replicate 64 false) 0 ∙ append-nil here

  pub word_scanned : changes_from start (bit_of before 0) (take n (bits_of rest))
      ≡ ones_from start (take 64 (low_bits 64 ones)) ++ changes_from (start + 64) (bit_of word 0) (take (n - 64) following)
  word_scanned =
      let e : n ≡ length here + (n - 64) = omega (arith, long) in
      let row : take n (bits_of rest) ≡ here ++ take (n - 64) following
      = ap (take n) (bits_of-parts 8 rest) ∙ ap (λ (m : ℕ). take m (here ++ following)) e
      ∙ take-append-add here following (n - 64) in
      let whole : take 64 (low_bits 64 ones) ≡ low_bits 64 ones =
      take_all 64 (low_bits 64 ones) (omega (arith, length-low_bits 64 ones)) in
      let first : changes_from start (bit_of before 0) here ≡ ones_from start (take 64 (low_bits 64 ones)) =
      changes-ones start (bit_of before 0) here ∙ ap (λ (b : Bits). ones_from start (differences (bit_of before 0) b))
      (sym word_here) ∙ ap (ones_from start) (sym ones-are ∙ sym whole) in
      let last : last_pixel (bit_of before 0) here ≡ bit_of word 0 =
      ap (last_pixel (bit_of before 0)) (sym word_here) ∙ last_of_word 63 word (bit_of before 0) in
      ap (changes_from start (bit_of before 0)) row
      ∙ changes_from-append start (bit_of before 0) here (take (n - 64) following)
      ∙ ap (λ (l : List ℕ). l
      ++ changes_from (start + length here) (last_pixel (bit_of before 0) here) (take (n - 64) following)) first
      ∙ ap (λ (m : ℕ). ones_from start (take 64 (low_bits 64 ones))
      ++ changes_from (start + m) (last_pixel (bit_of before 0) here) (take (n - 64) following)) long
      ∙ ap (λ (b : Bool). ones_from start (take 64 (low_bits 64 ones))
      ++ changes_from (start + 64) b (take (n - 64) following)) last

-- words of one colour, and one more
pub plain_more : (count word : ℕ) (color : Bool) (bytes following : List ℕ) → 8 * count + 8 ≤ length bytes
    → following ≡ drop (8 * count) bytes → low_bits 64 word ≡ take 64 (bits_of following ++ replicate 64 false)
    → low_bits 64 word ≡ replicate 64 color → bits_of (take (8 * count) bytes) ≡ replicate (64 * count) color
    → bits_of (take (8 * (count + 1)) bytes) ≡ replicate (64 * (count + 1)) color
plain_more count word color bytes following room is word-is plain before =
    let n : ℕ = 8 * count in
    let first : List ℕ = take 8 (drop n bytes) in
    let parts : take (n + 8) bytes ≡ take n bytes ++ first = take-add n 8 bytes in
    let sum : 8 * (count + 1) ≡ n + 8 = omega arith in
    let more : 64 * count + 64 ≡ 64 * (count + 1) = omega arith in
    let long : length (bits_of first) ≡ 64 = length-first 8 (drop n bytes) (omega (arith, length-drop n bytes)) in
    let rest : Bits = bits_of (drop 8 (drop n bytes)) in
    let here : bits_of first ≡ low_bits 64 word =
    sym (word-is ∙ ap (λ (l : List ℕ). take 64 (bits_of l ++ replicate 64 false)) is
    ∙ ap (λ (b : Bits). take 64 (b ++ replicate 64 false)) (bits_of-parts 8 (drop n bytes)) ∙ ap (take 64) (append_assoc
    (bits_of first) rest (replicate 64 false)) ∙ ap (λ (m : ℕ). take m (bits_of first ++ (rest ++ replicate 64 false))) (sym long)
    ∙ take-append_seam (bits_of first) (rest ++ replicate 64 false)) in
    ap (λ (m : ℕ). bits_of (take m bytes)) sum ∙ ap bits_of parts ∙ flat_map-append (bits_of_byte HighestFirst) (take n bytes)
    first ∙ ap (λ (b : Bits). b ++ bits_of first) before ∙ ap (λ (b : Bits). replicate (64 * count) color ++ b) (here ∙ plain)
    ∙ replicate-append-replicate (64 * count) 64 color ∙ ap (λ (m : ℕ). replicate m color) more

-- bytes of one colour after bytes of that colour
pub plain_both : (m n k : ℕ) (color : Bool) (bytes following : List ℕ) → k ≡ m + n → following ≡ drop m bytes
    → bits_of (take m bytes) ≡ replicate (8 * m) color → bits_of (take n following) ≡ replicate (8 * n) color
    → bits_of (take k bytes) ≡ replicate (8 * k) color
plain_both m n k color bytes following sum is front back =
    let more : 8 * m + 8 * n ≡ 8 * k = omega arith in
    ap (λ (j : ℕ). bits_of (take j bytes)) sum ∙ ap bits_of (take-add m n bytes) ∙ flat_map-append (bits_of_byte HighestFirst)
    (take m bytes) (take n (drop m bytes)) ∙ ap (λ (b : Bits). b ++ bits_of (take n (drop m bytes))) front
    ∙ ap (λ (b : Bits). replicate (8 * m) color ++ b) (ap (λ (l : List ℕ). bits_of (take n l)) (sym is) ∙ back)
    ∙ replicate-append-replicate (8 * m) (8 * n) color ∙ ap (λ (j : ℕ). replicate j color) more

-- and so are more words of it
pub plain_words : (count more : ℕ) (color : Bool) (bytes following : List ℕ) → following ≡ drop (8 * count) bytes
    → bits_of (take (8 * count) bytes) ≡ replicate (64 * count) color
    → bits_of (take (8 * more) following) ≡ replicate (8 * (8 * more)) color
    → bits_of (take (8 * (count + more)) bytes) ≡ replicate (64 * (count + more)) color
plain_words count more color bytes following is front back =
    let before : 64 * count ≡ 8 * (8 * count) = omega arith in
    let sum : 8 * (count + more) ≡ 8 * count + 8 * more = omega arith in
    let after : 8 * (8 * (count + more)) ≡ 64 * (count + more) = omega arith in
    plain_both (8 * count) (8 * more) (8 * (count + more)) color bytes following sum is
    (front ∙ ap (λ (n : ℕ). replicate n color) before) back ∙ ap (λ (n : ℕ). replicate n color) after

-- a word of one colour
pub plain_word_there : (word : ℕ) (color : Bool) (bytes : List ℕ) → 8 ≤ length bytes → low_bits 64 word ≡ take 64
    (bits_of bytes ++ replicate 64 false) → low_bits 64 word ≡ replicate 64 color → bits_of (take 8 bytes) ≡ replicate 64 color
plain_word_there word color bytes room is plain = plain_more 0 word color bytes bytes (omega arith) refl is plain refl

-- words of the colour before them change nothing
pub plain_scanned : (start n before words : ℕ) (color : Bool) (rest : List ℕ) → color ≡ bit_of before 0
    → 64 * words ≤ n → 8 * words ≤ length rest → bits_of (take (8 * words) rest) ≡ replicate (64 * words) color
    → changes_from start (bit_of before 0) (take n (bits_of rest)) ≡ changes_from (start + 64 * words) (bit_of before 0)
    (take (n - 64 * words) (bits_of (drop (8 * words) rest)))
plain_scanned start n before words color rest is within room plain =
    let m : ℕ = 64 * words in
    let b : Bool = bit_of before 0 in
    let front : Row = replicate m b in
    let following : Bits = bits_of (drop (8 * words) rest) in
    let long : length front ≡ m = length-replicate m b in
    let split : n ≡ length front + (n - m) = omega arith in
    let row : take n (bits_of rest) ≡ front ++ take (n - m) following =
    ap (take n) (bits_of-parts (8 * words) rest ∙ ap (λ (x : Bits). x ++ following) (plain ∙ ap (replicate m) is))
    ∙ ap (λ (k : ℕ). take k (front ++ following)) split ∙ take-append-add front following (n - m) in
    ap (changes_from start b) row ∙ changes_from-append start b front (take (n - m) following)
    ∙ ap (λ (l : List ℕ). l ++ changes_from (start + length front) (last_pixel b front) (take (n - m) following))
    (changes_from-same start m b) ∙ ap (λ (k : ℕ). changes_from (start + k) (last_pixel b front) (take (n - m) following)) long
    ∙ ap (λ (c : Bool). changes_from (start + m) c (take (n - m) following)) (last_pixel-same m b)

-- fewer pixels than a word has are left
pub last_scanned : (start n before word ones : ℕ) (rest : List ℕ) → n < 64 → bytes_of_row n ≤ length rest → low_bits 64 word
    ≡ take 64 (bits_of rest ++ replicate 64 false) → low_bits 64 ones ≡ differences (bit_of before 0) (low_bits 64 word)
    → changes_from start (bit_of before 0) (take n (bits_of rest)) ≡ ones_from start (take n (low_bits 64 ones))
last_scanned start n before word ones rest few room word-is ones-are =
    let whole : Bits = bits_of rest ++ replicate 64 false in
    let enough : 64 ≤ length whole =
    omega (arith, length-append (bits_of rest) (replicate 64 false), length-replicate 64 false) in
    let inside : n ≤ length (bits_of rest) = omega (arith, length-bits_of rest) in
    let reached : n ≤ length (take 64 whole) = omega (arith, length-take 64 whole) in
    let word_front : take n (low_bits 64 word) ≡ take n (bits_of rest) =
    ap (take n) word-is ∙ sym (take-append-le n (take 64 whole) (drop 64 whole) reached) ∙ ap (take n) (take-append-drop 64 whole)
    ∙ take-append-le n (bits_of rest) (replicate 64 false) inside in
    changes-ones start (bit_of before 0) (take n (bits_of rest))
    ∙ ap (λ (b : Row). ones_from start (differences (bit_of before 0) b)) (sym word_front)
    ∙ ap (ones_from start) (sym (differences-take n (bit_of before 0) (low_bits 64 word)) ∙ ap (take n) (sym ones-are))

-- inverted pixels change where the pixels do
changes-inverted : (place : ℕ) (before : Bool) (row : Row)
    → changes_from place (not before) row ≡ changes_from place before (map not row)
changes-inverted place before [] = refl
changes-inverted place true (true ∷ row) = ap (λ (l : List ℕ). place ∷ l) (changes-inverted (suc place) false row)
changes-inverted place true (false ∷ row) = changes-inverted (suc place) true row
changes-inverted place false (true ∷ row) = changes-inverted (suc place) false row
changes-inverted place false (false ∷ row) = ap (λ (l : List ℕ). place ∷ l) (changes-inverted (suc place) true row)

-- a row before it is scanned
unscanned_in : (black_is_0 : Bool) (row : Row) → changes_from 0 black_is_0 row ≡ changes (in_black black_is_0 row)
unscanned_in true row = changes-inverted 0 false row ∙ sym (changes-recursive (map not row))
unscanned_in false row = sym (changes-recursive row)

last_bit : (black_is_0 : Bool) → bit_of (bool_byte black_is_0) 0 ≡ black_is_0
last_bit true = refl
last_bit false = refl

pub unscanned : (columns : ℕ) (row : List ℕ) (black_is_0 : Bool) (before : ℕ) → before ≡ bool_byte black_is_0
    → changes_from 0 (bit_of before 0) (take (columns - 0) (bits_of row))
    ≡ changes (in_black black_is_0 (take columns (bits_of row)))
unscanned columns row black_is_0 before is =
    let e : columns - 0 ≡ columns = omega arith in
    ap (λ (n : ℕ). changes_from 0 (bit_of before 0) (take n (bits_of row))) e
    ∙ ap (λ (b : Bool). changes_from 0 b (take columns (bits_of row))) (ap (λ (n : ℕ). bit_of n 0) is ∙ last_bit black_is_0)
    ∙ unscanned_in black_is_0 (take columns (bits_of row))

-- ---- the rows of a bitmap
pub length-row : (columns : ℕ) (bytes : List ℕ) → bytes_of_row columns ≤ length bytes
    → length (take columns (bits_of bytes)) ≡ columns
length-row columns bytes within = omega (arith, length-take columns (bits_of bytes), length-bits_of bytes)

pub length-row_in : (black_is_0 : Bool) (columns : ℕ) (bytes : List ℕ) → bytes_of_row columns ≤ length bytes
    → length (in_black black_is_0 (take columns (bits_of bytes))) ≡ columns
length-row_in true columns bytes within = length-map (take columns (bits_of bytes)) not ∙ length-row columns bytes within
length-row_in false columns bytes within = length-row columns bytes within

-- a whole row stands before those below it
pub shown-row : (columns : ℕ) (bytes : List ℕ) → 0 < bytes_of_row columns → bytes_of_row columns ≤ length bytes
    → shown columns bytes ≡ take columns (bits_of bytes) ∷ shown columns (drop (bytes_of_row columns) bytes)
shown-row columns bytes some within =
    let w : ℕ = bytes_of_row columns in
    let more : length bytes / w ≡ suc (length (drop w bytes) / w)
    = div-eq-sub-div some within ∙ add-one _ ∙ ap (λ (n : ℕ). suc (n / w)) (sym (length-drop w bytes)) in
    ap (λ (n : ℕ). rows_shown columns n bytes) more

-- and less than a row is none
pub shown-none : (columns : ℕ) (bytes : List ℕ) → length bytes < bytes_of_row columns → shown columns bytes ≡ []
shown-none columns bytes few = ap (λ (n : ℕ). rows_shown columns n bytes) (div-eq_of_lt few)

-- the changes of a row of that width represent it
pub pixels_of_row : (columns : ℕ) (row : Row) → length row ≡ columns → pixels columns (changes row) ≡ row
pixels_of_row columns row long = ap (λ (n : ℕ). pixels n (changes row)) (sym long) ∙ pixels-changes row

pub lawful_row : (columns : ℕ) (row : Row) → length row ≡ columns → AreChanges columns (changes row)
lawful_row columns row long = subst (λ (n : ℕ). AreChanges n (changes row)) long (AreChanges-changes row)

-- the rows that were found, those below them, and one more
pub one_more : {X : Type 0} (list_of : X → List ℕ) (columns : ℕ) (items items' : List X) (item : X) (row : Row)
    (below below' all : List Row) → items' ≡ items ++ item ∷ [] → pixels columns (list_of item) ≡ row → below ≡ row ∷ below'
    → rows_of columns (map list_of items) ++ below ≡ all → rows_of columns (map list_of items') ++ below' ≡ all
one_more list_of columns items items' item row below below' all more is split found =
    let lists : map list_of items' ≡ map list_of items ++ list_of item ∷ [] =
    ap (map list_of) more ∙ map-append list_of items (item ∷ []) in
    let rows : rows_of columns (map list_of items') ≡ rows_of columns (map list_of items) ++ row ∷ []
    = ap (rows_of columns) lists ∙ map-append (pixels columns) (map list_of items) (list_of item ∷ [])
    ∙ ap (λ (r : Row). rows_of columns (map list_of items) ++ r ∷ []) is in
    ap (λ (l : List Row). l ++ below') rows ∙ append_assoc (rows_of columns (map list_of items)) (row ∷ []) below'
    ∙ ap (λ (l : List Row). rows_of columns (map list_of items) ++ l) (sym split) ∙ found

pub lawful_more : {X : Type 0} (list_of : X → List ℕ) (columns : ℕ) (items items' : List X) (item : X) → items' ≡ items ++ item
    ∷ [] → AreChanges columns (list_of item) → AreRows columns (map list_of items) → AreRows columns (map list_of items')
lawful_more list_of columns items items' item more here before =
    let lists : map list_of items' ≡ map list_of items ++ list_of item ∷ [] =
    ap (map list_of) more ∙ map-append list_of items (item ∷ []) in
    subst (AreRows columns) (sym lists) (All-push (AreChanges columns) (map list_of items) (list_of item) before here)

-- a row, and those below it
pub rows_below : (columns width : ℕ) (rest below : List ℕ) → 0 < columns → width ≡ bytes_of_row columns → width ≤ length rest →
    below ≡ take (length rest - width) (drop width rest) → shown columns rest ≡ take columns (bits_of rest) ∷ shown columns below
rows_below columns width rest below some w le is =
    let same : below ≡ drop (bytes_of_row columns) rest = is ∙ take_rest rest width ∙ ap (λ (n : ℕ). drop n rest) w in
    shown-row columns rest (omega arith) (omega arith)
    ∙ ap (λ (l : List ℕ). take columns (bits_of rest) ∷ shown columns l) (sym same)
