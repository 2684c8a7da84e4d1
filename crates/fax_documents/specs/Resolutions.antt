-- How large pixels are.
use Rattle.std.specs.Prelude.{ℕ, ◌+◌, ◌*◌, ◌/◌, ◌==◌, nat_lt, ◌^◌, Option, Some, None, if◌then◌else◌}
use Rattle.tiff_read.specs.declared.values.Ratio.{Ratio}
use Rattle.tiff_read.specs.declared.picture.ResolutionUnit.{ResolutionUnit}
use Rattle.tiff_read.specs.declared.picture.ResolutionUnit.TheVariants.{None as Unitless, Inch, Centimetre}

-- a part of a whole, rounded to the nearest number of four bytes, if there is one
abbrev pub rounded : ℕ → ℕ → Option ℕ
rounded whole parts =
    if parts == 0 then None
    else if nat_lt ((whole + parts / 2) / parts) (2 ^ 32) then Some ((whole + parts / 2) / parts) else None

-- how many pixels a metre has: an inch is 0.0254 metres, a centimetre 0.01 (TIFF 6.0, section 8, ResolutionUnit)
abbrev pub pixels_of_metre : Ratio → ResolutionUnit → Option ℕ
pixels_of_metre ratio Unitless = None
pixels_of_metre ratio Inch = rounded (ratio.above * 10000) (ratio.below * 254)
pixels_of_metre ratio Centimetre = rounded (ratio.above * 100) ratio.below

-- how many ten-thousandths of a point some pixels cover: an inch is 72 points and 2.54 centimetres (ISO 32000-1, 8.3.2.3)
abbrev pub points_of : ℕ → Ratio → ResolutionUnit → Option ℕ
points_of pixels ratio Unitless = None
points_of pixels ratio Inch = rounded (pixels * ratio.below * 720000) ratio.above
points_of pixels ratio Centimetre = rounded (pixels * ratio.below * 720000 * 100) (ratio.above * 254)
