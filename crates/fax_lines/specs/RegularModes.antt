-- Vertical modes drawn four at a time. This is not part of the trusted specification: no contract of a public call cites it.
use Rattle.std.specs.Prelude.{◌≡◌, ℕ, ◌+◌, ◌-◌, ◌<◌, ◌≤◌, List, true, get_or}
use Rattle.fax_bits.specs.Bits.{bit_of}

-- the lowest bits of a number are set, as many as the count
abbrev pub AreSet : ℕ → ℕ → Type 0
AreSet mask count = (k : ℕ) → k < count → bit_of mask k ≡ true

-- A vertical mode is regular: its place is right of a0, left of the change after b1, and not left of the change before b1. Then
-- that change after b1 is the next mode's b1.
pub record IsRegular (columns : ℕ) (places : List ℕ) (painted index place : ℕ) : Type 0 where
  pub right : painted < place
  pub left : place < get_or places (index + 1) columns
  pub after : 0 < index → get_or places (index - 1) columns ≤ place
