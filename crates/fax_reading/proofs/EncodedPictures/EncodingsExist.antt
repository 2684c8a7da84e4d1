-- Every picture has encodings.
use Rattle.fax_reading.proofs.Names.{reverse, ◌≡◌, ℕ, zero, suc, ◌+◌, ◌-◌, ◌*◌, ◌/◌, ◌%◌, ◌^◌, ◌<◌, ◌≤◌, Bool, true, false, cond}
use Rattle.fax_reading.proofs.Names.{eqb, List, [], ◌∷◌, ◌++◌, length, replicate, Option, Some, None, is_some, refl, sym, ap}
use Rattle.fax_reading.proofs.Names.{subst, ◌∙◌, arith, ◌⊎◌, inl, inr, All, agree_below_at, eqb-true, false≢true, cases_lt}
use Rattle.fax_reading.proofs.Names.{All-head, All-tail, All-cons, length-reverse, reverse-reverse, length-append}
use Rattle.fax_reading.proofs.Names.{length-replicate, bit_at_cat_high, Color, White, Black, BitOrder, HighestFirst, LowestFirst}
use Rattle.fax_reading.proofs.Names.{Bits, bits_of_byte, bits_in, low_bits, Code, Has, Row, is_black, opposite, a1, a2}
use Rattle.fax_reading.proofs.Names.{codes_of, Spells, EncodesLine1D, EncodesLine2D, EncodesLine, padding, EncodesRows, eol}
use Rattle.fax_reading.proofs.Names.{EncodesRowsWithEols, tag_of, ClosesWithEols, EveryPictureHasAnEncoding}
use Rattle.fax_reading.proofs.Names.{BytesBeginWithAnyBits, Group4, Group3_1D, Group3_2D, EncodingMode, common_steps}
use Rattle.fax_bits.proofs.BitReading.WordRanges.{low_bits_below, same_bit}
use Rattle.fax_reading.proofs.PixelRows.ChangePlaces.{a1_next, a2_next, a2_least}

-- ---- Runs.
-- the word of a list for a length
abbrev word_for : List (Code ℕ) → ℕ → Option Bits
word_for [] n = None
word_for (c ∷ list) n = cond (eqb c.value n) (Some c.word) (word_for list n)

word_for_has : (list : List (Code ℕ)) (n : ℕ) (word : Bits) → word_for list n ≡ Some word → Has list n word
word_for_has [] n word e = absurd cc
word_for_has (c ∷ list) n word e = grind (arith, word_for_has list n word, eqb-true)

some_word : (list : List (Code ℕ)) (n : ℕ) → is_some (word_for list n) ≡ true → (word : Bits) × Has list n word
some_word list n e = by_word_for (word_for list n) refl
  where
    by_word_for : (found : Option Bits) → word_for list n ≡ found → (word : Bits) × Has list n word
    by_word_for None is = absurd (false≢true (ap is_some (sym is) ∙ e))
    by_word_for (Some word) is = (word, word_for_has list n word is)

-- each length below 64 has a terminating word, and 64 a make-up word
terminating_word : (color : Color) (n : ℕ) → n < 64 → (word : Bits) × Has (codes_of color) n word
terminating_word White n lt =
    some_word (codes_of White) n (agree_below_at (λ m. is_some (word_for (codes_of White) m)) (λ m. true) 64 n refl lt)
terminating_word Black n lt =
    some_word (codes_of Black) n (agree_below_at (λ m. is_some (word_for (codes_of Black) m)) (λ m. true) 64 n refl lt)

makeup_word : (color : Color) → (word : Bits) × Has (codes_of color) 64 word
makeup_word color = grind (arith, common_steps, some_word)

run_has_words : (color : Color) (times n : ℕ) → n < 64 → (bits : Bits) × Spells color (64 * times + n) bits
run_has_words color zero n lt = let word = terminating_word color n lt in (
  word.0,
  subst (λ (m : ℕ). Spells color m word.0) (let e : n ≡ 64 * zero + n = omega arith in e) (Spells.terminating n word.0 word.1 lt),
)
run_has_words color (suc times) n lt = let rest = run_has_words color times n lt in let word = makeup_word color in (
  word.0 ++ rest.0,
  subst (λ (m : ℕ). Spells color m (word.0 ++ rest.0)) (let e : 64 + (64 * times + n) ≡ 64 * suc times + n = omega arith in
      e) (Spells.makeup 64 word.0 word.1 (omega arith) rest.1),
)

-- a run of any length is spelled by make-up words of 64 and a terminating word
pub every_run_spelled : (color : Color) (n : ℕ) → (bits : Bits) × Spells color n bits
every_run_spelled color n = grind (arith, common_steps, run_has_words color (n / 64) (n % 64) (omega arith))

-- ---- One-dimensional lines.
pixel_or : (color : Color) (pixel : Bool) → (pixel ≡ is_black color) ⊎ (pixel ≡ is_black (opposite color))
pixel_or color pixel = grind (arith, common_steps)

replicate-push : (n : ℕ) (pixel : Bool) (row : Row) → replicate n pixel ++ (pixel ∷ row) ≡ replicate (suc n) pixel ++ row
replicate-push zero pixel row = refl
replicate-push (suc n) pixel row = ap (λ (r : Row). pixel ∷ r) (replicate-push n pixel row)

-- a row that begins with some pixels of a colour
line_1d_exists : (color : Color) (n : ℕ) (row : Row) → 0 < n + length row → (bits : Bits)
    × EncodesLine1D color (replicate n (is_black color) ++ row) bits
line_1d_exists color n [] some = let run = every_run_spelled color n in
    (run.0 ++ [], EncodesLine1D.run n run.0 run.1 some (λ rest e. absurd cc) EncodesLine1D.over)
line_1d_exists color n (pixel ∷ row) some = elim (pixel_or color pixel) [
  | inl same ↦ grind (arith, line_1d_exists color (suc n) row (omega arith), replicate-push)
  | inr other ↦ let run = every_run_spelled color n in
      let next = line_1d_exists (opposite color) 1 row (omega arith) in
      let is : is_black (opposite color) ∷ row ≡ pixel ∷ row = ap (λ (p : Bool). p ∷ row) (sym other) in (
        run.0 ++ next.0,
        EncodesLine1D.run n run.0 run.1 some
            (λ rest e. (grind (arith, common_steps))) (subst (λ (r : Row). EncodesLine1D (opposite color) r next.0) is next.1),
      )
]

-- ---- Two-dimensional lines, by horizontal modes alone.
line_2d_over : (reference row : Row) (from : ℕ) (color : Color) → from ≡ suc (length row) → (bits : Bits)
    × EncodesLine2D reference row from color bits
line_2d_over reference row from color e =
    ([], subst (λ (n : ℕ). EncodesLine2D reference row n color []) (sym e) EncodesLine2D.over)

line_2d_exists : (turns : ℕ) (reference row : Row) (from : ℕ) (color : Color) → from ≤ suc (length row)
    → suc (length row) ≤ from + turns → (bits : Bits) × EncodesLine2D reference row from color bits
line_2d_exists zero reference row from color le enough = line_2d_over reference row from color (omega arith)
line_2d_exists (suc turns) reference row from color le enough = elim (cases_lt (length row) from) [
  | inl past ↦ line_2d_over reference row from color (omega arith)
  | inr inside ↦
      let word : Bits = false ∷ false ∷ true ∷ [] in
      let above = (a1_next row from).above inside in
      let within = (a2_next row from).within in
      let least = a2_least row from in
      let first = every_run_spelled color (a1 row from - (from - 1)) in
      let second = every_run_spelled (opposite color) (a2 row from - a1 row from) in
      let rest = line_2d_exists turns reference row (suc (a2 row from)) color (omega arith) (omega arith) in (
        word ++ (first.0 ++ (second.0 ++ rest.0)),
        EncodesLine2D.horizontal from word inside (inr (inl (refl, refl))) first.1 second.1 rest.1,
      )
]

white_line_exists : (row : Row) → 0 < length row → (bits : Bits) × EncodesLine1D White row bits
white_line_exists row some = line_1d_exists White 0 row (omega arith)

line_exists : (encoding : EncodingMode) (reference row : Row) → 0 < length row → (bits : Bits)
    × EncodesLine encoding reference row bits
line_exists Group4 reference row some = line_2d_exists (suc (length row)) reference row 0 White (omega arith) (omega arith)
line_exists Group3_1D reference row some = white_line_exists row some
line_exists Group3_2D reference row some = let line = white_line_exists row some in (true ∷ line.0, (line.0, inl (refl, line.1)))

-- ---- Pictures.
module _ (columns : ℕ) (wide : 0 < columns) where
  rows_exist : (encoding : EncodingMode) (aligned : Bool) (reference : Row) (rows : List Row)
      → All (λ row. length row ≡ columns) rows → (bits : Bits) × EncodesRows encoding aligned reference rows bits
  rows_exist encoding aligned reference [] widths = ([], refl)
  rows_exist encoding aligned reference (row ∷ rows) widths =
      let width : length row ≡ columns = All-head (λ row. length row ≡ columns) row rows widths in
      let line = line_exists encoding reference row (omega arith) in
      let next = rows_exist encoding aligned row rows (All-tail (λ row. length row ≡ columns) row rows widths) in
      (line.0 ++ (cond aligned (padding (length line.0)) []) ++ next.0, (line.0, next.0, line.1, next.1, refl))

  lines_exist : (encoding : EncodingMode) (reference : Row) (rows : List Row) → All (λ row. length row ≡ columns) rows
      → (bits : Bits) × EncodesRowsWithEols encoding reference rows bits
  lines_exist encoding reference [] widths = ([], refl)
  lines_exist encoding reference (row ∷ rows) widths =
      let width : length row ≡ columns = All-head (λ row. length row ≡ columns) row rows widths in
      let line = line_exists encoding reference row (omega arith) in
      let next = lines_exist encoding row rows (All-tail (λ row. length row ≡ columns) row rows widths) in
      (eol 0 ++ line.0 ++ next.0, (0, line.0, next.0, line.1, next.1, refl))

closing_exists : (encoding : EncodingMode) (n : ℕ) → (bits : Bits) × ClosesWithEols encoding n bits
closing_exists encoding zero = ([], refl)
closing_exists encoding (suc n) = let next = closing_exists encoding n in
    (eol 0 ++ tag_of encoding ++ next.0, (0, next.0, next.1, refl))

-- the law
pub every_picture_has_an_encoding : EveryPictureHasAnEncoding
every_picture_has_an_encoding columns rows is = (
  λ aligned. let body = rows_exist columns is.0 Group4 aligned (replicate columns false) rows is.1 in
      (body.0 ++ eol 0 ++ eol 0, (body.0, is, body.1, refl)),
  λ encoding some. let lines = lines_exist columns is.0 encoding (replicate columns false) rows is.1 in
      let closing = closing_exists encoding 6 in
      (lines.0 ++ closing.0, (lines.0, closing.0, some, is, lines.1, closing.1, refl)),
  λ encoding aligned. rows_exist columns is.0 encoding aligned (replicate columns false) rows is.1,
)

-- ---- Bytes.
abbrev digit : Bool → ℕ
digit true = 1
digit false = 0

-- the number that bits write
value : Bits → ℕ
value [] = 0
value (bit ∷ bits) = digit bit * 2 ^ length bits + value bits

-- it has no more bits
value_below : (bits : Bits) → value bits < 2 ^ length bits
unfolding value
value_below [] = omega arith
value_below (bit ∷ bits) = grind (arith, common_steps, value_below bits)

-- the bits of the number that bits write
low_bits_value : (bits : Bits) → low_bits (length bits) (value bits) ≡ bits
unfolding value
low_bits_value [] = refl
low_bits_value (bit ∷ bits) =
    grind (arith, common_steps, bit_at_cat_high, low_bits_below, same_bit, value, value_below, low_bits_value bits)

-- the first n of them
cut_front : (n : ℕ) (bits : Bits) → n ≤ length bits → (front rest : Bits) × (bits ≡ front ++ rest) × (length front ≡ n)
cut_front zero bits le = ([], bits, refl, refl)
cut_front (suc n) [] le = absurd (omega arith)
cut_front (suc n) (bit ∷ bits) le = let f = cut_front n bits (omega arith) in
    (bit ∷ f.0, f.1, ap (λ (b : Bits). bit ∷ b) f.2, ap suc f.3)

-- these bits, the highest first
abbrev highest_first : BitOrder → Bits → Bits
highest_first HighestFirst front = front
highest_first LowestFirst front = reverse front

-- the byte whose bits these are
byte_of : (order : BitOrder) (front : Bits) → length front ≡ 8 → bits_of_byte order (value (highest_first order front)) ≡ front
byte_of HighestFirst front eight = subst (λ (n : ℕ). low_bits n (value front) ≡ front) eight (low_bits_value front)
byte_of LowestFirst front eight = let back : Bits = reverse front in
    grind (arith, common_steps, length-reverse front, low_bits_value back, reverse-reverse front)

-- one byte more
bits_more : (order : BitOrder) (front rest bits : Bits) (byte : ℕ) (bytes : List ℕ) → bits_of_byte order byte ≡ front
    → bits_in order bytes ≡ rest → bits ≡ front ++ rest → bits_in order (byte ∷ bytes) ≡ bits
bits_more order front rest bits byte bytes one more is = grind (arith, common_steps)

bytes_of : (order : BitOrder) (n : ℕ) (bits : Bits) → length bits ≡ 8 * n → (bytes : List ℕ) × All (λ byte. byte < 256) bytes
    × (bits_in order bytes ≡ bits)
bytes_of order zero [] e = ([], (λ k d lt. absurd (omega arith)), refl)
bytes_of order zero (bit ∷ bits) e = absurd (omega arith)
bytes_of order (suc n) bits e =
    let f = cut_front 8 bits (omega (arith, e)) in
    let on = bytes_of order n f.1 (omega (arith, e, ap length f.2, length-append f.0 f.1, f.3)) in
    let first : Bits = highest_first order f.0 in
    let small : value first < 256 = grind (arith, common_steps, value_below) in (
      value first ∷ on.0,
      All-cons (λ byte. byte < 256) (value first) on.0 small on.1,
      bits_more order f.0 f.1 bits (value first) on.0 (byte_of order f.0 f.3) on.2 f.2,
    )

-- the law
pub bytes_begin_with_any_bits : BytesBeginWithAnyBits
bytes_begin_with_any_bits order bits = let missing : ℕ = 7 - (length bits + 7) % 8 in
    let more : Bits = replicate missing false in
    let whole = bytes_of order ((length bits + 7) / 8) (bits ++ more)
    (omega (arith, length-append bits more, length-replicate missing false)) in
    (whole.0, whole.1, (more, whole.2))
