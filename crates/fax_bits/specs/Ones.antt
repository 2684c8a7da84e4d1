-- Bits that aren't all zeros.
use Rattle.std.specs.Prelude.{Bool, true, false, [], ◌∷◌}
use Rattle.fax_bits.specs.Bits.{Bits}

-- a one is among the bits: zeros alone can be fill, which comes before an EOL (T.4, 4.1.3)
abbrev pub holds_one : Bits → Bool
holds_one [] = false
holds_one (true ∷ rest) = true
holds_one (false ∷ rest) = holds_one rest
