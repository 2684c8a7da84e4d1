-- Pictures in memory.
use Rattle.std.specs.Prelude.{◌≡◌, ◌⊎◌, ℕ, suc, ◌+◌, ◌-◌, ◌*◌, ◌<◌, ◌≤◌, not, List, [], ◌∷◌, ◌++◌, length, take, drop, map}
use Rattle.std.specs.Prelude.{codes, get_or}
use Rattle.fax_bits.specs.Bits.{bits_of}
use Rattle.fax_reading.specs.Rows.{Row}
use Rattle.fax_encode.specs.Packed.{bytes_of_row, packed, shown}
use Rattle.fax_pictures.specs.declared.error.PictureError.{PictureError}
use Rattle.fax_pictures.specs.declared.error.PictureError.TheVariants.{Size, OutOfMemory}

-- a picture: its rows from the top, each of as many pixels as it has columns
pub record Picture : Type 0 where
  pub columns : ℕ
  pub rows : List Row

-- how many bytes a picture may have
abbrev pub most_bytes : ℕ
most_bytes = 1073741824

-- the size of a picture that there can be: it has columns, and its rows take at most so many bytes
abbrev pub HasRoom : ℕ → ℕ → Type 0
HasRoom columns rows = (0 < columns) × (rows * bytes_of_row columns ≤ most_bytes)

-- bytes are the packed rows of a picture of this size, with zeros after the last pixel of each
pub record ArePacked (columns rows : ℕ) (bytes : List ℕ) : Type 0 where
  pub room : HasRoom columns rows
  pub size : length bytes ≡ rows * bytes_of_row columns
  pub bits : bits_of bytes ≡ packed (shown columns bytes)

-- the rows of a picture, of which the one at an index is another
abbrev pub with_row_at : ℕ → Row → List Row → List Row
with_row_at index row rows = take index rows ++ (row ∷ drop (suc index) rows)

-- a picture with black and white exchanged
abbrev pub inverted : Picture → Picture
inverted picture = record picture { rows = map (map not) picture.rows }

-- auxiliary: the elements of a list over those of another from an index on, as far as the other reaches
abbrev pub laid_over : {A : Type 0} → ℕ → List A → List A → List A
laid_over left part row = take left row ++ (take (length row - left) part ++ drop (left + length part) row)

-- Rows lie over a picture from a column and a row on, as far as it reaches, and the rest of the picture is as it was.
pub record LieOver (left top : ℕ) (part : List Row) (old new : Picture) : Type 0 where
  pub size : (new.columns ≡ old.columns) × (length new.rows ≡ length old.rows)
  pub over : (k : ℕ) → k < length part → top + k < length old.rows
      → get_or new.rows (top + k) [] ≡ laid_over left (get_or part k []) (get_or old.rows (top + k) [])
  pub others : (y : ℕ) → (y < top) ⊎ (top + length part ≤ y) → get_or new.rows y [] ≡ get_or old.rows y []

-- the text of an error
abbrev pub text_of : PictureError → List ℕ
text_of Size = codes "no columns, or more than 1 GiB"
text_of OutOfMemory = codes "out of memory"
