-- Rows of pixels (T.4, 4.2.1).
use Rattle.std.specs.Prelude.{◌≡◌, ℕ, zero, suc, ◌-◌, Bool, true, false, not, ◌&&◌, List, [], ◌∷◌, ◌++◌, length, get_or}
use Rattle.std.specs.Prelude.{replicate, filter, find, unwrap_or, min, nat_le, nat_lt, Result, Ok, Err, if◌then◌else◌, ◌<◌, ◌≤◌}
use Rattle.std.specs.Prelude.{All}
use mathlib.Core.Bool.{beq}
use Rattle.std.specs.List.{range_with_len}
pub use Rattle.fax_bits.specs.Runs.{opposite}
use Rattle.fax_bits.specs.declared.codes.Color.{Color}
use Rattle.fax_bits.specs.declared.codes.Color.TheVariants.{White, Black}
use Rattle.fax_bits.specs.declared.error.DecodeError.{DecodeError}
use Rattle.fax_bits.specs.declared.error.DecodeError.TheVariants.{InvalidCode}

-- the pixels of a row, or of a prefix of one, from the left: true is black (T.4, 4.1.1)
abbrev pub Row : Type 0
Row = List Bool

-- rows of one width: each has this number of pixels (T.4, 4.1.1)
abbrev pub HaveWidth : ℕ → List Row → Type 0
HaveWidth columns rows = All (λ row. length row ≡ columns) rows

-- a white row, like the one before the first row (T.4, 4.2.1.1)
abbrev pub white_row : ℕ → Row
white_row columns = replicate columns false

-- a damaged row of this width, after which reading continues at the next EOL: its front, and the rest white (T.4,
-- 4.1.2)
abbrev pub repaired : ℕ → Row → Row
repaired columns front = front ++ replicate (columns - length front) false

-- auxiliary: the pixel of a colour
abbrev pub is_black : Color → Bool
is_black White = false
is_black Black = true

-- the pixel at a position; outside the row it is white (T.4, 4.2.1.1)
abbrev pub pixel : Row → ℕ → Bool
pixel row p = get_or row p false

-- the pixel left of a position; left of the row it is white (T.4, 4.2.1.1)
abbrev pub pixel_before : Row → ℕ → Bool
pixel_before row zero = false
pixel_before row (suc p) = pixel row p

-- auxiliary: the last pixel, or the one before them all
abbrev pub last_pixel : Bool → Row → Bool
last_pixel before [] = before
last_pixel before (pixel ∷ row) = last_pixel pixel row

-- a changing element: a position whose pixel differs from the one before it (T.4, 4.2.1.1)
abbrev pub is_change : Row → ℕ → Bool
is_change row p = not (beq (pixel_before row p) (pixel row p))

-- the changing elements of a row, ascending (T.4, 4.2.1.1)
abbrev pub changes : Row → List ℕ
changes row = filter (is_change row) (range_with_len 0 (length row))

-- auxiliary: positions in ascending order, within the width, from a first one on
abbrev pub AscendFrom : ℕ → ℕ → List ℕ → Type 0
AscendFrom first width [] = Unit {0}
AscendFrom first width (place ∷ places) = (first ≤ place) × (place < width) × AscendFrom (suc place) width places

-- a valid list of changes of a row of this width: strictly ascending, and below the width (T.4, 4.2.1.1)
abbrev pub AreChanges : ℕ → List ℕ → Type 0
AreChanges width places = AscendFrom 0 width places

-- from a position on, pixels of one colour up to the next change, then of the other colour, up to the width (T.4,
-- 4.2.1.1)
abbrev pub pixels_from : ℕ → Bool → ℕ → List ℕ → Row
pixels_from place color width [] = replicate (width - place) color
pixels_from place color width (change ∷ places) = replicate (change - place) color ++ pixels_from change (not color) width places

-- the row of this width whose colour, white at first, turns at these positions (T.4, 4.2.1.1)
abbrev pub pixels : ℕ → List ℕ → Row
pixels width places = pixels_from 0 false width places

-- auxiliary: the least position below a bound that passes a test, or the bound
abbrev pub least_below : ℕ → (ℕ → Bool) → ℕ
least_below bound test = unwrap_or (find test (range_with_len 0 bound)) bound

-- A position a0 is given by the first position right of it: 0 where a0 is left of the row, and else a0 + 1. While no
-- pixel is painted a0 is left of the row, and else it is where the front ends (T.4, 4.2.1.1).
abbrev pub right_of : Row → ℕ
right_of [] = 0
right_of (pixel ∷ front) = suc (suc (length front))

-- b1: the first changing element of the reference row right of a0, from the present colour to the other; the row's
-- end where there is none (T.4, 4.2.1.1)
abbrev pub b1 : Row → ℕ → Color → ℕ
b1 reference from color =
    least_below (length reference)
    (λ p. nat_le from p && is_change reference p && beq (pixel_before reference p) (is_black color))

-- b2: the next changing element after b1 (T.4, 4.2.1.1)
abbrev pub b2 : Row → ℕ → Color → ℕ
b2 reference from color = least_below (length reference) (λ p. nat_lt (b1 reference from color) p && is_change reference p)

-- a1: the first changing element of the coding row itself right of a0 (T.4, 4.2.1.1)
abbrev pub a1 : Row → ℕ → ℕ
a1 row from = least_below (length row) (λ p. nat_le from p && is_change row p)

-- a2: the next changing element after a1 (T.4, 4.2.1.1)
abbrev pub a2 : Row → ℕ → ℕ
a2 row from = least_below (length row) (λ p. nat_lt (a1 row from) p && is_change row p)

-- how a strict reading fails where a row has no room for so many pixels (T.4, 4.1.1 and 4.2.1.3)
abbrev pub too_many_pixels : DecodeError
too_many_pixels = InvalidCode

-- The front and some more pixels of a colour. Where there are more than the row has room for, a strict reading fails,
-- and a lenient one cuts them off at the row's end (T.4, 4.1.1 and 4.2.1.3).
abbrev pub paint : Bool → ℕ → Row → Color → ℕ → Result Row DecodeError
paint strict columns front color n =
    if strict && nat_lt (columns - length front) n then Err too_many_pixels
    else Ok (front ++ replicate (min n (columns - length front)) (is_black color))
