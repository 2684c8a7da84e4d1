-- The white rows at the start of a bitmap.
use Rattle.fax_bitmap.proofs.Names.{◌≡◌, ℕ, zero, suc, ◌+◌, ◌*◌, ◌<◌, ◌≤◌, false, List, [], ◌∷◌, ◌++◌, length, get_or}
use Rattle.fax_bitmap.proofs.Names.{replicate, take, drop, sym, ap, ◌∙◌, arith, append-nil, length-replicate, length-drop}
use Rattle.fax_bitmap.proofs.Names.{take-append-le, take-replicate, take-add, drop-drop, flat_map-append}
use Rattle.fax_bitmap.proofs.Names.{replicate-append-replicate, HighestFirst, Bits, Row, bits_of, bits_of_byte, white_row}
use Rattle.fax_bitmap.proofs.Names.{bytes_of_row, shown, take_all, length-take}
use Rattle.fax_words.proofs.CutBits.{first_bytes}
use Rattle.fax_bitmap.proofs.ScannedRows.{shown-row}
use Rattle.fax_words.proofs.WordBytes.{bits_of-parts}
use Rattle.fax_words.proofs.WordBytes.{front_same, length-first}

-- the first bits of white bytes
white_first : (k n : ℕ) (bytes : List ℕ) → k ≤ 8 * n → n ≤ length bytes → bits_of (take n bytes) ≡ replicate (8 * n) false
    → take k (bits_of bytes) ≡ replicate k false
white_first k n bytes few within white =
    let front : Bits = bits_of (take n bytes) in
    let reached : k ≤ length front = omega (arith, few, length-first n bytes within) in
    ap (take k) (bits_of-parts n bytes) ∙ take-append-le k front (bits_of (drop n bytes)) reached
    ∙ ap (take k) white ∙ take-replicate k (8 * n) false few

-- fewer white bytes
pub white_less : (m n : ℕ) (bytes : List ℕ) → m ≤ n → n ≤ length bytes → bits_of (take n bytes) ≡ replicate (8 * n) false
    → bits_of (take m bytes) ≡ replicate (8 * m) false
white_less m n bytes few within white =
    first_bytes bytes m [] (omega arith) ∙ ap (take (8 * m)) (append-nil (bits_of bytes))
    ∙ white_first (8 * m) n bytes (omega arith) within white

-- one more
pub white_byte : (n : ℕ) (bytes : List ℕ) → n < length bytes → get_or bytes n 0 ≡ 0
    → bits_of (take 1 (drop n bytes)) ≡ replicate (8 * 1) false
white_byte n [] within is = absurd (omega arith)
white_byte zero (b ∷ bytes) within is = ap (λ (byte : ℕ). bits_of (byte ∷ [])) is
white_byte (suc n) (b ∷ bytes) within is = white_byte n bytes (omega arith) is

-- and those below it
white_rest : (width n : ℕ) (bytes : List ℕ) → width + n ≤ length bytes → bits_of (take (width + n) bytes)
    ≡ replicate (8 * (width + n)) false → bits_of (take n (drop width bytes)) ≡ replicate (8 * n) false
white_rest width n bytes within white =
    let sum : 8 * (width + n) ≡ 8 * width + 8 * n = omega arith in
    let both : bits_of (take width bytes) ++ bits_of (take n (drop width bytes)) ≡ replicate (8 * width) false
    ++ replicate (8 * n) false =
    sym (flat_map-append (bits_of_byte HighestFirst) (take width bytes) (take n (drop width bytes)))
    ∙ ap bits_of (sym (take-add width n bytes)) ∙ white ∙ ap (λ (m : ℕ). replicate m false) sum
    ∙ sym (replicate-append-replicate (8 * width) (8 * n) false) in
    front_same (bits_of (take width bytes)) (bits_of (take n (drop width bytes))) (replicate (8 * width) false)
    (replicate (8 * n) false) both
    (length-first width bytes (omega arith) ∙ sym (length-replicate (8 * width) false))

pub white_shown : (columns width n : ℕ) (bytes below : List ℕ) → 0 < columns → width ≡ bytes_of_row columns
    → n * width ≤ length bytes → bits_of (take (n * width) bytes) ≡ replicate (8 * (n * width)) false
    → below ≡ drop (n * width) bytes → shown columns bytes ≡ replicate n (white_row columns) ++ shown columns below
white_shown columns width zero bytes below some w within white is =
    let none : 0 * width ≡ 0 = omega arith in
    ap (shown columns) (sym (is ∙ ap (λ (m : ℕ). drop m bytes) none))
white_shown columns width (suc n) bytes below some w within white is =
    let sum : suc n * width ≡ width + n * width = omega arith in
    let fit : width + n * width ≤ length bytes = omega (arith, within) in
    let zeros : bits_of (take (width + n * width) bytes) ≡ replicate (8 * (width + n * width)) false =
    ap (λ (m : ℕ). bits_of (take m bytes)) (sym sum) ∙ white ∙ ap (λ (m : ℕ). replicate (8 * m) false) sum in
    let rest : List ℕ = drop width bytes in
    let after : below ≡ drop (n * width) rest =
    is ∙ ap (λ (m : ℕ). drop m bytes) sum ∙ sym (drop-drop (n * width) width bytes) in
    let more = white_shown columns width n rest below some w (omega (arith, length-drop width bytes))
    (white_rest width (n * width) bytes fit zeros) after in
    shown-row columns bytes (omega arith) (omega arith)
    ∙ ap (λ (r : Row). r ∷ shown columns (drop (bytes_of_row columns) bytes))
    (white_first columns (width + n * width) bytes (omega (arith, w)) fit zeros)
    ∙ ap (λ (m : ℕ). white_row columns ∷ shown columns (drop m bytes)) (sym w)
    ∙ ap (λ (l : List Row). white_row columns ∷ l) more

-- one white row
pub white_bytes_row : (columns width count : ℕ) (bytes front : List ℕ) → front ≡ take width bytes → bytes_of_row columns ≤ width
    → count ≡ width → width ≤ length bytes → bits_of (take count front) ≡ replicate (8 * count) false
    → take columns (bits_of bytes) ≡ white_row columns
white_bytes_row columns width count bytes front is some all within white =
    let whole : take count front ≡ take width bytes =
    ap (take count) is ∙ take_all count (take width bytes) (omega (arith, all, length-take width bytes)) in
    let same : bits_of (take width bytes) ≡ replicate (8 * width) false =
    ap bits_of (sym whole) ∙ white ∙ ap (λ (n : ℕ). replicate (8 * n) false) all in
    white_first columns width bytes (omega (arith, some)) within same
