-- How a TIFF file writes its numbers (TIFF 6.0, section 2, and BigTIFF).
use Rattle.std.specs.Prelude.{ℕ, ◌+◌, ◌*◌, ◌≡◌, Bool, ◌||◌, nat_eq, nat_le, List, [], ◌∷◌, ◌++◌, length, slice_range, codes}
use Rattle.std.specs.Prelude.{Option, None, Some, if◌then◌else◌}
use Rattle.std.specs.List.{starts_with}
use Rattle.tiff_read.specs.declared.form.Form.{Form}

-- whether the first byte of a number counts most: the file begins with MM, and not with II
abbrev pub is_big_endian : List ℕ → Bool
is_big_endian bytes = starts_with nat_eq bytes (codes "MM")

-- whether it is a BigTIFF file, whose version is 43
abbrev pub is_big_tiff : List ℕ → Bool
is_big_tiff bytes = starts_with nat_eq bytes (codes "II+" ++ 0 ∷ []) || starts_with nat_eq bytes (codes "MM" ++ 0 ∷ codes "+")

-- whether the bytes begin as a TIFF file does: the order of bytes, and 42 as a number of two bytes; or as a BigTIFF file does
abbrev pub is_tiff : List ℕ → Bool
is_tiff bytes = is_big_tiff bytes
    || (starts_with nat_eq bytes (codes "II*" ++ 0 ∷ []) || starts_with nat_eq bytes (codes "MM" ++ 0 ∷ codes "*"))

-- The form is that of a file of these bytes.
abbrev pub IsFormOf : List ℕ → Form → Type 0
IsFormOf bytes form = (form.is_big_endian ≡ is_big_endian bytes) × (form.is_big_tiff ≡ is_big_tiff bytes)

-- how many bytes an offset has, and the number of an entry's values
abbrev pub offset_bytes : Bool → ℕ
offset_bytes is_big = if is_big then 8 else 4

-- how many bytes a directory's number of entries has
abbrev pub count_bytes : Bool → ℕ
count_bytes is_big = if is_big then 8 else 2

-- how many bytes an entry has: a tag and a type of two each, how many values, and these or their offset
abbrev pub entry_bytes : Bool → ℕ
entry_bytes is_big = if is_big then 20 else 12

-- the number of some bytes of which the first counts least
abbrev pub low_first : List ℕ → ℕ
low_first [] = 0
low_first (b ∷ bytes) = 256 * low_first bytes + b

-- the number of some bytes of which the first counts most, after others with the number n
abbrev pub high_first : ℕ → List ℕ → ℕ
high_first n [] = n
high_first n (b ∷ bytes) = high_first (256 * n + b) bytes

-- the number of some bytes
abbrev pub number_of : Bool → List ℕ → ℕ
number_of is_big bytes = if is_big then high_first 0 bytes else low_first bytes

-- the number of so many bytes at an offset of a file, if it has them
abbrev pub number_at : List ℕ → ℕ → ℕ → Option ℕ
number_at bytes offset count =
    if nat_le (offset + count) (length bytes)
    then Some (number_of (is_big_endian bytes) (slice_range bytes offset (offset + count)))
    else None
