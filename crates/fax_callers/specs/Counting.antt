-- Counting black pixels.
use Rattle.std.specs.Prelude.{ℕ, List, Bool, true, false, min}
use Rattle.std.specs.List.{sum_by}
use Rattle.hayro_ccitt.specs.Rows.{Row}

-- a pixel's number: 1 for black, 0 for white
abbrev pub number_of_pixel : Bool → ℕ
number_of_pixel true = 1
number_of_pixel false = 0

-- the number of the black pixels of a row
abbrev pub black_in_row : Row → ℕ
black_in_row row = sum_by number_of_pixel row

-- the number of the black pixels of some rows
abbrev pub black_in : List Row → ℕ
black_in rows = sum_by black_in_row rows

-- a number, saturated at the greatest value of 64 bits
abbrev pub in_64_bits : ℕ → ℕ
in_64_bits n = min n 18446744073709551615

-- the width of the rows, and the number of black pixels so far
pub record Tally : Type 0 where
  pub columns : ℕ
  pub black : ℕ
