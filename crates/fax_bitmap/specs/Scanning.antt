-- Pixels that are scanned for changes.
use Rattle.std.specs.Prelude.{ℕ, suc, Bool, not, List, [], ◌∷◌, cond}
use mathlib.Core.Bool.{beq}
use Rattle.fax_bits.specs.Bits.{Bits}
use Rattle.fax_reading.specs.Rows.{Row}

-- for each pixel whether it differs from the one before it; the first is compared with a given pixel
abbrev pub differences : Bool → Row → Bits
differences before [] = []
differences before (pixel ∷ row) = not (beq before pixel) ∷ differences pixel row

-- the positions of the ones, counted from a first position on
abbrev pub ones_from : ℕ → Bits → List ℕ
ones_from first [] = []
ones_from first (bit ∷ bits) = cond bit (first ∷ ones_from (suc first) bits) (ones_from (suc first) bits)
