-- How far an encoder has come in a line.
use Rattle.std.specs.Prelude.{◌≡◌, ℕ, ◌+◌, ◌%◌, ◌==◌, ◌<◌, ◌≤◌, List, length, get_or, if◌then◌else◌}
use Rattle.fax_bits.specs.declared.codes.Color.{Color}
use Rattle.fax_bits.specs.declared.codes.Color.TheVariants.{White, Black}
use Rattle.fax_reading.specs.Rows.{AreChanges, pixels, b1, b2}
use Rattle.fax_reading.specs.UsualModes.{TurnsFrom}
use Rattle.fax_coding.specs.declared.group4.Above.{Above}
use Rattle.fax_coding.specs.declared.group4.Coding.{Coding}
use Rattle.fax_words.specs.Chosen.{Place}

-- the first `count` changes are left of a position
pub record AreLeft (places : List ℕ) (from count : ℕ) : Type 0 where
  pub within : count ≤ length places
  pub left : (k : ℕ) → k < count → get_or places k 0 < from

-- the first `count` changes are left of a position, and no others are
pub record AreAllLeft (places : List ℕ) (from count : ℕ) : Type 0 where
  pub left : AreLeft places from count
  pub right : count < length places → from ≤ get_or places count 0

-- the colour after a number of changes: white at first
abbrev pub color_after : ℕ → Color
color_after n = if n % 2 == 0 then White else Black

-- the position that a line's coding has reached
abbrev pub place_of : Coding → Place
place_of at = record { from = at.from; color = color_after at.next }

-- From an index on, in steps of two, b1 is found: the change there turns the row from the present colour, and the changes two
-- and more before it are left of the position.
pub record IsNear (columns : ℕ) (places : List ℕ) (at : Place) (index : ℕ) : Type 0 where
  pub turns : TurnsFrom index at.color
  pub left : (k : ℕ) → k + 2 ≤ index → get_or places k columns < at.from

-- b1 of a position (T.4, 4.2.1.1) and its index among the changes of a reference row, after which b2 is
pub record IsAbove (columns : ℕ) (places : List ℕ) (at : Place) (above : Above) : Type 0 where
  pub b2 : b2 (pixels columns places) at.from at.color ≡ get_or places (above.index + 1) columns
  pub b1 : b1 (pixels columns places) at.from at.color ≡ above.b1
  pub first : above.b1 ≡ get_or places above.index columns
  pub within : above.index ≤ length places + 1

-- A row is coded below another up to a position that isn't past its end: the changes left of it are counted, and b1 is found from
-- an index on.
pub record IsCodedTo (columns : ℕ) (above row : List ℕ) (at : Coding) (index : ℕ) : Type 0 where
  pub reference : AreChanges columns above
  pub changes : AreChanges columns row
  pub inside : at.from ≤ columns
  pub next : AreAllLeft row at.from at.next
  pub near : IsNear columns above (place_of at) index

-- this many changes of a row, from an index on, are where those of the reference row from another index on are
pub record AreBelow (above : List ℕ) (index : ℕ) (row : List ℕ) (next count : ℕ) : Type 0 where
  pub within : next + count ≤ length row
  pub reaches : index + count ≤ length above
  pub same : (k : ℕ) → k < count → get_or row (next + k) 0 ≡ get_or above (index + k) 0

-- the index of a change that isn't left of a position, and that turns the row from the colour after `next` changes
pub record IsNotLeft (columns : ℕ) (places : List ℕ) (from next index : ℕ) : Type 0 where
  pub few : index ≤ length places + 2
  pub turns : index % 2 ≡ next % 2
  pub right : from ≤ get_or places index columns
