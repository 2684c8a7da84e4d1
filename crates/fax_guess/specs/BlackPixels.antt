-- How many pixels are black.
use Rattle.std.specs.Prelude.{ℕ, ◌+◌, ◌-◌, ◌^◌, List, [], ◌∷◌, min}

-- how many pixels of a row are black: those between a change to black and the next one, or the row's end (T.4, 4.2.1.1)
abbrev pub black_of : ℕ → List ℕ → ℕ
black_of columns [] = 0
black_of columns (from ∷ []) = columns - from
black_of columns (from ∷ to ∷ changes) = to - from + black_of columns changes

-- a number of black pixels and those of a row of so many columns, up to the greatest number of 64 bits
abbrev pub counted : ℕ → ℕ → List ℕ → ℕ
counted columns black changes = min (black + black_of columns changes) (2 ^ 64 - 1)
