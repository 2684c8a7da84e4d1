-- A line as the coding procedure writes it, of a kind that is given (T.4, 4.1 and 4.2; T.6, 2.2).
use Rattle.std.specs.Prelude.{◌≡◌, ◌≢◌, ℕ, ◌<◌, Bool, not, [], ◌∷◌, ◌++◌, length, slice_get, take, if◌then◌else◌}
use Rattle.fax_bits.specs.declared.settings.EncodingMode.{EncodingMode}
use Rattle.fax_bits.specs.declared.settings.EncodingMode.TheVariants.{Group4, Group3_1D, Group3_2D}
use Rattle.fax_bits.specs.Bits.{Bits}
use Rattle.fax_reading.specs.Encodings.{padding}
use Rattle.fax_reading.specs.Rows.{Row}
use Rattle.fax_encode.specs.Chosen.{chosen_line_1d, chosen_line_2d}

-- the tag before a line: 1 before a one-dimensional one in two-dimensional Group 3, and 0 before the others (T.4, 4.2.2)
abbrev pub tag_of_line : EncodingMode → Bool → Bits
tag_of_line Group3_2D is_two = not is_two ∷ []
tag_of_line Group3_1D is_two = []
tag_of_line Group4 is_two = []

-- the line of a row below another, in two dimensions or in one (T.4, 4.1.1, 4.2.1.3 and 4.2.2; T.6, 2.2)
abbrev pub line_by_procedure : EncodingMode → Bool → Row → Row → Bits
line_by_procedure encoding is_two reference row =
    tag_of_line encoding is_two ++ (if is_two then chosen_line_2d reference row else chosen_line_1d row)

-- the line, and zeros up to a whole byte if it is filled up (T.4, 4.1.3)
abbrev pub part_by_procedure : EncodingMode → Bool → Bool → Row → Row → Bits
part_by_procedure encoding fills is_two reference row = line_by_procedure encoding is_two reference row
    ++ (if fills then padding (length (line_by_procedure encoding is_two reference row)) else [])

-- the first n bits of a part stand here, fewer than all, and the bit after them doesn't
pub record StandsUpTo (part here : Bits) (n : ℕ) : Type 0 where
  pub fewer : n < length part
  pub first : take n here ≡ take n part
  pub differs : slice_get here n ≢ slice_get part n
