-- Pictures turned as TIFF's Orientation says: where the first row and the first column of the data are shown (TIFF 6.0,
-- section 8).
use Rattle.std.specs.Prelude.{ℕ, ◌+◌, ◌-◌, ◌≡◌, ◌<◌, ◌≤◌, Bool, ◌&&◌, ◌||◌, ◌==◌, [], length, map, get_or, nat_lt, if◌then◌else◌}
use Rattle.std.specs.List.{range_with_len}
use Rattle.fax_reading.specs.Rows.{Row, pixel}
use Rattle.fax_pictures.specs.Pictures.{Picture}

-- Whether the first row of the data is shown as a column: with 5 to 8.
abbrev pub is_across : ℕ → Bool
is_across orientation = nat_lt 4 orientation && nat_lt orientation 9

-- Whether the first column of the data is shown last: on the right side with 2 and 3, at the bottom with 7 and 8.
abbrev pub is_column_last : ℕ → Bool
is_column_last orientation = (orientation == 2 || orientation == 3) || (orientation == 7 || orientation == 8)

-- Whether the first row of the data is shown last: at the bottom with 3 and 4, on the right side with 6 and 7.
abbrev pub is_row_last : ℕ → Bool
is_row_last orientation = (orientation == 3 || orientation == 4) || (orientation == 6 || orientation == 7)

-- auxiliary: an index among so many, counted from the last one if that comes first
abbrev pub counted : Bool → ℕ → ℕ → ℕ
counted is_last count index = if is_last then count - 1 - index else index

-- the column of the data whose pixels are shown in a column and a row
abbrev pub column_shown : ℕ → Picture → ℕ → ℕ → ℕ
column_shown orientation picture x y =
    counted (is_column_last orientation) picture.columns (if is_across orientation then y else x)

-- the row of the data whose pixels are shown in a column and a row
abbrev pub row_shown : ℕ → Picture → ℕ → ℕ → ℕ
row_shown orientation picture x y =
    counted (is_row_last orientation) (length picture.rows) (if is_across orientation then x else y)

-- how many columns are shown
abbrev pub columns_turned : ℕ → Picture → ℕ
columns_turned orientation picture = if is_across orientation then length picture.rows else picture.columns

-- how many rows are shown
abbrev pub rows_turned : ℕ → Picture → ℕ
rows_turned orientation picture = if is_across orientation then picture.columns else length picture.rows

-- the pixel that is shown in a column and a row
abbrev pub pixel_shown : ℕ → Picture → ℕ → ℕ → Bool
pixel_shown orientation picture x y =
    pixel (get_or picture.rows (row_shown orientation picture x y) []) (column_shown orientation picture x y)

-- a row that is shown
abbrev pub turned_row : ℕ → Picture → ℕ → Row
turned_row orientation picture y =
    map (λ x. pixel_shown orientation picture x y) (range_with_len 0 (columns_turned orientation picture))

-- the picture that is shown
abbrev pub turned : ℕ → Picture → Picture
turned orientation picture = record {
  columns = columns_turned orientation picture;
  rows = map (turned_row orientation picture) (range_with_len 0 (rows_turned orientation picture));
}

-- A picture has the size of the one that is shown.
pub record HasSizeTurned (orientation : ℕ) (source made : Picture) : Type 0 where
  pub columns : made.columns ≡ columns_turned orientation source
  pub count : length made.rows ≡ rows_turned orientation source
  pub wide : (y : ℕ) → y < rows_turned orientation source → length (get_or made.rows y []) ≡ columns_turned orientation source

-- The pixel in a column and a row is the one that is shown there.
abbrev pub IsShownAt : ℕ → Picture → Picture → ℕ → ℕ → Type 0
IsShownAt orientation source made x y = pixel (get_or made.rows y []) x ≡ pixel_shown orientation source x y

-- The pixels of some columns and rows are shown, and those that were remain so.
pub record Shows (orientation : ℕ) (source old new : Picture) (Here : ℕ → ℕ → Type 0) : Type 0 where
  pub size : HasSizeTurned orientation source new
  pub kept : (x y : ℕ) → x < columns_turned orientation source → y < rows_turned orientation source
      → IsShownAt orientation source old x y → IsShownAt orientation source new x y
  pub shown : (x y : ℕ) → x < columns_turned orientation source → y < rows_turned orientation source
      → Here x y → IsShownAt orientation source new x y

-- A column is one of 512 from one on.
abbrev pub IsInBlock : ℕ → ℕ → Type 0
IsInBlock left x = (left ≤ x) × (x < left + 512)
