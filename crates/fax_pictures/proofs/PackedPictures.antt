-- Bytes of packed rows are pictures.
use Rattle.fax_encode.proofs.Names.{◌≡◌, ℕ, zero, suc, ◌+◌, ◌-◌, ◌*◌, ◌/◌, ◌%◌, ◌<◌, ◌≤◌, false, List, []}
use Rattle.fax_encode.proofs.Names.{◌∷◌, ◌++◌, length, take, drop}
use Rattle.fax_encode.proofs.Names.{replicate, refl, sym, ap, ◌∙◌, arith, All-head, All-tail, All-nil, All-cons}
use Rattle.fax_encode.proofs.Names.{length-append, length-drop, length-replicate, length-take, flat_map-append}
use Rattle.fax_encode.proofs.Names.{replicate-append-replicate, get_or}
use Rattle.std.proofs.lemmas.List.{drop-drop, take-take}
use Rattle.fax_encode.proofs.Names.{take-append-drop, take-append_seam, drop-append_seam, length-bits_of, Bits, bits_of, Row}
use Rattle.fax_encode.proofs.Names.{filled_up, packed, rows_shown, shown, bytes_of_row}
use Rattle.fax_encode.proofs.PaintedRows.{bits_of_plain}
use Rattle.fax_encode.proofs.WordBytes.{bits_of-take, bits_of-drop}
use Rattle.fax_encode.proofs.ScannedRows.{length-row, shown-row, shown-none}
use Rattle.fax_encode.proofs.PackedRows.{packed_is_shown}
use Rattle.fax_encode.proofs.Names.{map, rows_of, pixels, HighestFirst, bits_of_byte}
use Rattle.fax_pictures.proofs.LaidLists.{take-laid_over}
use Rattle.fax_reading.specs.Rows.{HaveWidth, white_row}
use Rattle.fax_reading.specs.Encodings.{padding}
use Rattle.std.proofs.lemmas.List.Elements.{All-append, All-drop, All-take}
use Rattle.std.proofs.Math.Nat.{div-mul-le_self, mul-div_cancel, mul-le-mul_right}
use Rattle.fax_pictures.specs.Pictures.{ArePacked, HasRoom, laid_over, with_row_at}

-- ---- rows of a width

-- a row up to a whole byte
length-filled : (columns : ℕ) (row : Row) → length row ≡ columns → length (filled_up row) ≡ 8 * bytes_of_row columns
length-filled columns row wide =
    omega (arith, length-append row (padding (length row)), length-replicate ((8 - length row % 8) % 8) false, wide)

-- and so all rows
length-packed : (columns : ℕ) (rows : List Row) → HaveWidth columns rows
    → length (packed rows) ≡ 8 * (length rows * bytes_of_row columns)
length-packed columns [] wide = omega arith
length-packed columns (row ∷ rows) wide =
    let w : ℕ = bytes_of_row columns in
    let sum : suc (length rows) * w ≡ w + length rows * w = omega arith in
    omega (
      arith,
      length-append (filled_up row) (packed rows),
      sum,
      length-filled columns row (All-head (λ row. length row ≡ columns) row rows wide),
      length-packed columns rows (All-tail (λ row. length row ≡ columns) row rows wide),
    )

-- what bytes of packed rows show
pub held : (columns n : ℕ) (rows : List Row) (bytes : List ℕ) → HasRoom columns n → length rows ≡ n → HaveWidth columns rows
    → bits_of bytes ≡ packed rows → ArePacked columns n bytes × (shown columns bytes ≡ rows)
held columns n rows bytes room count wide e =
    let same : shown columns bytes ≡ rows = packed_is_shown columns rows bytes (room.0, wide) e in
    let all : length rows * bytes_of_row columns ≡ n * bytes_of_row columns = ap (λ (k : ℕ). k * bytes_of_row columns) count in (
      record {
        room = room;
        size = omega (arith, ap length e, length-bits_of bytes, length-packed columns rows wide, all);
        bits = e ∙ ap packed (sym same);
      },
      same,
    )

-- the rows that are shown are as many as there are
rows_listed : (columns n : ℕ) (bytes : List ℕ) → length (rows_shown columns n bytes) ≡ n
rows_listed columns zero bytes = refl
rows_listed columns (suc n) bytes = ap suc (rows_listed columns n (drop (bytes_of_row columns) bytes))

pub rows_counted : (columns n : ℕ) (bytes : List ℕ) → ArePacked columns n bytes → length (shown columns bytes) ≡ n
rows_counted columns n bytes are =
    let some : 0 < columns = are.room.0 in
    rows_listed columns (length bytes / bytes_of_row columns) bytes ∙ ap (λ (k : ℕ). k / bytes_of_row columns) are.size
    ∙ mul-div_cancel n (omega arith)

-- and wide
rows_listed_wide : (columns n : ℕ) (bytes : List ℕ) → n * bytes_of_row columns ≤ length bytes
    → HaveWidth columns (rows_shown columns n bytes)
rows_listed_wide columns zero bytes room = All-nil (λ row. length row ≡ columns)
rows_listed_wide columns (suc n) bytes room =
    let w : ℕ = bytes_of_row columns in
    let sum : suc n * w ≡ n * w + w = omega arith in
    All-cons (λ row. length row ≡ columns) _ (rows_shown columns n (drop w bytes)) (length-row columns bytes (omega arith))
    (rows_listed_wide columns n (drop w bytes) (omega (arith, length-drop w bytes)))

pub rows_wide : (columns n : ℕ) (bytes : List ℕ) → ArePacked columns n bytes → HaveWidth columns (shown columns bytes)
rows_wide columns n bytes are = rows_listed_wide columns (length bytes / bytes_of_row columns) bytes
    (div-mul-le_self (length bytes) (bytes_of_row columns))

-- ---- white pictures

white_filled : (columns : ℕ) → filled_up (white_row columns) ≡ replicate (8 * bytes_of_row columns) false
white_filled columns =
    let long : length (white_row columns) ≡ columns = length-replicate columns false in
    let sum : columns + (8 - columns % 8) % 8 ≡ 8 * bytes_of_row columns = omega arith in
    ap (λ (n : ℕ). replicate columns false ++ padding n) long
    ∙ replicate-append-replicate columns ((8 - columns % 8) % 8) false ∙ ap (λ (n : ℕ). replicate n false) sum

white_rows : (columns n : ℕ) → packed (replicate n (white_row columns)) ≡ replicate (8 * (n * bytes_of_row columns)) false
white_rows columns zero = let none : 8 * (zero * bytes_of_row columns) ≡ 0 = omega arith in rw none refl
white_rows columns (suc n) =
    let w : ℕ = bytes_of_row columns in
    let sum : 8 * w + 8 * (n * w) ≡ 8 * (suc n * w) = omega arith in
    ap (λ (b : Bits). b ++ packed (replicate n (white_row columns))) (white_filled columns)
    ∙ ap (λ (b : Bits). replicate (8 * w) false ++ b) (white_rows columns n)
    ∙ replicate-append-replicate (8 * w) (8 * (n * w)) false ∙ ap (λ (k : ℕ). replicate k false) sum

all_white : (columns n : ℕ) → HaveWidth columns (replicate n (white_row columns))
all_white columns zero = All-nil (λ row. length row ≡ columns)
all_white columns (suc n) = All-cons (λ row. length row ≡ columns) (white_row columns) (replicate n (white_row columns))
    (length-replicate columns false) (all_white columns n)

-- bytes that are zero
pub white_is_held : (columns n : ℕ) → HasRoom columns n → ArePacked columns n (replicate (n * bytes_of_row columns) 0)
    × (shown columns (replicate (n * bytes_of_row columns) 0) ≡ replicate n (white_row columns))
white_is_held columns n room =
    held columns n (replicate n (white_row columns)) (replicate (n * bytes_of_row columns) 0) room
    (length-replicate n (white_row columns)) (all_white columns n)
    (bits_of_plain 0 (n * bytes_of_row columns) false refl ∙ sym (white_rows columns n))

-- ---- a row in place of another

-- bytes are cut where rows are
rows_cut : (columns k : ℕ) (rows : List Row) (bytes : List ℕ) → HaveWidth columns rows → k ≤ length rows
    → bits_of bytes ≡ packed rows
    → (bits_of (take (k * bytes_of_row columns) bytes) ≡ packed (take k rows))
    × (bits_of (drop (k * bytes_of_row columns) bytes) ≡ packed (drop k rows))
rows_cut columns k rows bytes wide within e =
    let s : ℕ = k * bytes_of_row columns in
    let front : List Row = take k rows in
    let back : List Row = drop k rows in
    let parts : bits_of bytes ≡ packed front ++ packed back =
    e ∙ ap packed (sym (take-append-drop k rows)) ∙ flat_map-append filled_up front back in
    let count : length front ≡ k = omega (arith, length-take k rows) in
    let long : length (packed front) ≡ 8 * s =
    length-packed columns front (All-take (λ row. length row ≡ columns) k rows wide)
    ∙ ap (λ (n : ℕ). 8 * (n * bytes_of_row columns)) count in (
      bits_of-take s bytes ∙ ap (take (8 * s)) parts ∙ ap (λ (n : ℕ). take n (packed front ++ packed back)) (sym long)
          ∙ take-append_seam (packed front) (packed back),
      bits_of-drop s bytes ∙ ap (drop (8 * s)) parts ∙ ap (λ (n : ℕ). drop n (packed front ++ packed back)) (sym long)
          ∙ drop-append_seam (packed front) (packed back),
    )

-- a row is written over another
pub row_is_held : (columns n k : ℕ) (row : Row) (bytes new : List ℕ) → ArePacked columns n bytes → k < n → length row ≡ columns
    → bits_of new ≡ bits_of (take (k * bytes_of_row columns) bytes)
    ++ (filled_up row ++ bits_of (drop (k * bytes_of_row columns + bytes_of_row columns) bytes))
    → ArePacked columns n new × (shown columns new ≡ with_row_at k row (shown columns bytes))
row_is_held columns n k row bytes new are lt long painted =
    let w : ℕ = bytes_of_row columns in
    let rows : List Row = shown columns bytes in
    let count : length rows ≡ n = rows_counted columns n bytes are in
    let wide : HaveWidth columns rows = rows_wide columns n bytes are in
    let next : k * w + w ≡ suc k * w = omega arith in
    let front = (rows_cut columns k rows bytes wide (omega (arith, lt, count)) are.bits).0 in
    let back = (rows_cut columns (suc k) rows bytes wide (omega (arith, lt, count)) are.bits).1 in
    let bits : bits_of new ≡ packed (with_row_at k row rows) =
    painted
    ∙ ap (λ (b : Bits). b ++ (filled_up row ++ bits_of (drop (k * w + w) bytes))) front
    ∙ ap (λ (m : ℕ). packed (take k rows) ++ (filled_up row ++ bits_of (drop m bytes))) next
    ∙ ap (λ (b : Bits). packed (take k rows) ++ (filled_up row ++ b)) back
    ∙ sym (flat_map-append filled_up (take k rows) (row ∷ drop (suc k) rows)) in
    let all : HaveWidth columns (with_row_at k row rows) =
    All-append (λ row. length row ≡ columns) (take k rows) (row ∷ drop (suc k) rows)
    (All-take (λ row. length row ≡ columns) k rows wide)
    (All-cons (λ row. length row ≡ columns) row (drop (suc k) rows) long
    (All-drop (λ row. length row ≡ columns) (suc k) rows wide)) in
    let as_many : length (with_row_at k row rows) ≡ n =
    omega (
      arith,
      length-append (take k rows) (row ∷ drop (suc k) rows),
      length-take k rows,
      length-drop (suc k) rows,
      lt,
      count,
    ) in
    held columns n (with_row_at k row rows) new are.room as_many all bits

-- ---- one row

-- the bytes of a row show its pixels
pub row_in_bytes : (columns n k : ℕ) (bytes : List ℕ) → k < n
    → take columns (bits_of (take (bytes_of_row columns) (drop (k * bytes_of_row columns) bytes)))
    ≡ get_or (rows_shown columns n bytes) k []
row_in_bytes columns zero k bytes lt = absurd (omega (arith, lt))
row_in_bytes columns (suc n) zero bytes lt =
    let w : ℕ = bytes_of_row columns in
    let none : 0 * w ≡ 0 = omega arith in
    let wide : columns ≤ 8 * w = omega arith in
    ap (λ (j : ℕ). take columns (bits_of (take w (drop j bytes)))) none
    ∙ ap (take columns) (bits_of-take w bytes) ∙ take-take columns (8 * w) (bits_of bytes) wide
row_in_bytes columns (suc n) (suc k) bytes lt =
    let w : ℕ = bytes_of_row columns in
    let sum : suc k * w ≡ w + k * w = omega arith in
    ap (λ (j : ℕ). take columns (bits_of (take w (drop j bytes)))) sum
    ∙ ap (λ (l : List ℕ). take columns (bits_of (take w l))) (sym (drop-drop (k * w) w bytes))
    ∙ row_in_bytes columns n k (drop w bytes) (omega (arith, lt))

-- a row lies within the bytes
pub inside_bytes : (index rows width columns : ℕ) (bytes : List ℕ) → index < rows → width ≡ bytes_of_row columns
    → length bytes ≡ rows * bytes_of_row columns → index * width + bytes_of_row columns ≤ length bytes
inside_bytes index rows width columns bytes lt is size =
    let w : ℕ = bytes_of_row columns in
    let more : suc index * w ≤ rows * w = mul-le-mul_right w (omega (arith, lt)) in
    let next : suc index * w ≡ index * w + w = omega arith in
    let same : index * width ≡ index * w = ap (λ (k : ℕ). index * k) is in
    omega (arith, more, next, same, size)

-- the bytes at a row's place are as many as a row has, and show its pixels
pub row_of_picture : (columns rows index width : ℕ) (bytes part : List ℕ) → ArePacked columns rows bytes
    → index < length (shown columns bytes) → width ≡ bytes_of_row columns → part ≡ take width (drop (index * width) bytes)
    → (length part ≡ bytes_of_row columns) × (take columns (bits_of part) ≡ get_or (shown columns bytes) index [])
row_of_picture columns rows index width bytes part are lt is e =
    let w : ℕ = bytes_of_row columns in
    let below : index < rows = omega (arith, lt, rows_counted columns rows bytes are) in
    let among : index < length bytes / w = omega (arith, lt, rows_listed columns (length bytes / w) bytes) in
    let there : index * width + w ≤ length bytes = inside_bytes index rows width columns bytes below is are.size in
    let here : part ≡ take w (drop (index * w) bytes) = e ∙ ap (λ (n : ℕ). take n (drop (index * n) bytes)) is in
    let same : index * width ≡ index * w = ap (λ (n : ℕ). index * n) is in (
      omega (arith, ap length here, length-take w (drop (index * w) bytes), length-drop (index * w) bytes, there, same),
      ap (λ (l : List ℕ). take columns (bits_of l)) here ∙ row_in_bytes columns (length bytes / w) index bytes among,
    )

-- ---- bytes over bytes
bits_of-append : (one two : List ℕ) → bits_of (one ++ two) ≡ bits_of one ++ bits_of two
bits_of-append one two = flat_map-append (bits_of_byte HighestFirst) one two

laid_bits : (start : ℕ) (part line : List ℕ)
    → bits_of (laid_over start part line) ≡ laid_over (8 * start) (bits_of part) (bits_of line)
laid_bits start part line =
    let middle : List ℕ = take (length line - start) part in
    let back : List ℕ = drop (start + length part) line in
    let room : 8 * (length line - start) ≡ length (bits_of line) - 8 * start = omega (arith, length-bits_of line) in
    let after : 8 * (start + length part) ≡ 8 * start + length (bits_of part) = omega (arith, length-bits_of part) in
    bits_of-append (take start line) (middle ++ back)
    ∙ ap (λ (b : Bits). b ++ bits_of (middle ++ back)) (bits_of-take start line)
    ∙ ap (λ (b : Bits). take (8 * start) (bits_of line) ++ b) (bits_of-append middle back
    ∙ ap (λ (b : Bits). b ++ bits_of back) (bits_of-take (length line - start) part
    ∙ ap (λ (n : ℕ). take n (bits_of part)) room)
    ∙ ap (λ (b : Bits). take (length (bits_of line) - 8 * start) (bits_of part) ++ b)
    (bits_of-drop (start + length part) line ∙ ap (λ (n : ℕ). drop n (bits_of line)) after))

-- bytes over those of a row
pub laid_row : (columns left : ℕ) (part line old : List ℕ) (row : Row) → left % 8 ≡ 0 → length old ≡ bytes_of_row columns
    → line ≡ laid_over (left / 8) part old → take columns (bits_of old) ≡ row
    → take columns (bits_of line) ≡ laid_over left (bits_of part) row
laid_row columns left part line old row whole size is shows =
    let eights : 8 * (left / 8) ≡ left = omega (arith, whole) in
    let wide : columns ≤ length (bits_of old) = omega (arith, length-bits_of old, size) in
    ap (λ (l : List ℕ). take columns (bits_of l)) is ∙ ap (take columns) (laid_bits (left / 8) part old)
    ∙ ap (λ (n : ℕ). take columns (laid_over n (bits_of part) (bits_of old))) eights
    ∙ take-laid_over columns left (bits_of part) (bits_of old) wide ∙ ap (laid_over left (bits_of part)) shows

length_of_map : {V W : Type 0} (f : V → W) (list : List V) → length (map f list) ≡ length list
length_of_map f [] = refl
length_of_map f (x ∷ list) = ap suc (length_of_map f list)

-- the only list of changes of a row
pub only_row : {V : Type 0} (items : V → List ℕ) (columns : ℕ) (front : List V) (last : V) (row : Row)
    → rows_of columns (map items (front ++ last ∷ [])) ≡ row ∷ [] → pixels columns (items last) ≡ row
only_row items columns [] last row e = ap (λ (l : List Row). get_or l 0 []) e
only_row {V} items columns (one ∷ front) last row e =
    let lists : List (List ℕ) = map items (front ++ last ∷ []) in
    absurd (omega (
      arith,
      ap length e,
      length_of_map (pixels columns) lists,
      length_of_map items (front ++ last ∷ []),
      length-append front (last ∷ []),
    ))

-- the bytes of one row show that row
pub one_row : (columns : ℕ) (row : List ℕ) → 0 < columns → length row ≡ bytes_of_row columns
    → shown columns row ≡ take columns (bits_of row) ∷ []
one_row columns row some size =
    let w : ℕ = bytes_of_row columns in
    shown-row columns row (omega arith) (omega (arith, size)) ∙ ap (λ (l : List Row). take columns (bits_of row) ∷ l)
    (shown-none columns (drop w row) (omega (arith, length-drop w row, size)))

-- the next row that is laid
pub next_part : (width : ℕ) (rest : List ℕ) → 0 < width → width ≤ length rest
    → shown (8 * width) rest ≡ bits_of (take width rest) ∷ shown (8 * width) (drop width rest)
next_part width rest some within =
    let w : bytes_of_row (8 * width) ≡ width = omega arith in
    let first : take (8 * width) (bits_of rest) ≡ bits_of (take width rest) = sym (bits_of-take width rest) in
    shown-row (8 * width) rest (omega (arith, w)) (omega (arith, w))
    ∙ ap (λ (r : Row). r ∷ shown (8 * width) (drop (bytes_of_row (8 * width)) rest)) first
    ∙ ap (λ (n : ℕ). bits_of (take width rest) ∷ shown (8 * width) (drop n rest)) w

pub no_part : (width : ℕ) (rest : List ℕ) → length rest < width → shown (8 * width) rest ≡ []
no_part width rest few = shown-none (8 * width) rest (omega (arith, few))
