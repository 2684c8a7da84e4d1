-- Packed rows: bitmaps of one bit a pixel.
use Rattle.std.specs.Prelude.{◌≡◌, ℕ, zero, suc, ◌+◌, ◌/◌, Bool, true, false, not, List, [], ◌∷◌, ◌++◌, length, map, take, drop}
use Rattle.std.specs.Prelude.{flat_map, replicate}
use Rattle.fax_bits.specs.Bits.{Bits, bits_of, low_bits}
use Rattle.fax_reading.specs.Rows.{Row, pixels}
use Rattle.fax_words.specs.Chosen.{filled_up}

-- the bits of packed rows: each row's pixels from the left, 1 for black, and zeros up to a whole byte
abbrev pub packed : List Row → Bits
packed rows = flat_map filled_up rows

-- packed rows, and after them the row that turns at these positions
abbrev pub with_packed_row : ℕ → Bits → List ℕ → Bits
with_packed_row columns bits places = bits ++ filled_up (pixels columns places)

-- bytes are the packed row that turns at these positions
abbrev pub IsPackedRow : ℕ → List ℕ → List ℕ → Type 0
IsPackedRow columns places bytes = bits_of bytes ≡ filled_up (pixels columns places)

-- a word is the first 64 pixels of bytes, the leftmost in the highest bit, and white ones if there are fewer
abbrev pub AreFirstPixels : List ℕ → ℕ → Type 0
AreFirstPixels bytes word = low_bits 64 word ≡ take 64 (bits_of bytes ++ replicate 64 false)

-- bits in which 0 stands for black, if it does: those in which 1 does, inverted
abbrev pub in_black : Bool → Bits → Bits
in_black true bits = map not bits
in_black false bits = bits

-- how many bytes a row occupies
abbrev pub bytes_of_row : ℕ → ℕ
bytes_of_row columns = (columns + 7) / 8

-- the first n rows that bytes show: of each row its pixels, without the bits that fill its last byte
abbrev pub rows_shown : ℕ → ℕ → List ℕ → List Row
rows_shown columns zero bytes = []
rows_shown columns (suc n) bytes = take columns (bits_of bytes) ∷ rows_shown columns n (drop (bytes_of_row columns) bytes)

-- the picture that a bitmap shows: all of its whole rows
abbrev pub shown : ℕ → List ℕ → List Row
shown columns bitmap = rows_shown columns (length bitmap / bytes_of_row columns) bitmap

-- the bytes of the rows that a sink accepted, the width of its rows, and whether it has refused a row
pub record Bitmap : Type 0 where
  pub bytes : List ℕ
  pub columns : ℕ
  pub has_refused : Bool
