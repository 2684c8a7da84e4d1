-- Modes that are drawn with the index of b1 at hand. This is not part of the trusted specification: no contract of a public
-- call cites it.
use Rattle.std.specs.Prelude.{◌≡◌, ◌+◌, ◌-◌, ◌*◌, ◌%◌, ◌<◌, ◌≤◌, ◌++◌, Bool, true, ℕ, List, length, replicate, take, get_or}
use Rattle.fax_bits.specs.declared.codes.Color.{Color}
use Rattle.fax_bits.specs.declared.codes.Color.TheVariants.{White, Black}
use Rattle.fax_reading.specs.Lines.{Pen, draw_2d, drawn, words_drawn}
use Rattle.fax_reading.specs.Rows.{Row, AreChanges, pixels}

-- Places are the changes of a row, and its end six times after them, so that b1 is always among them, with four places after it:
-- the changes
abbrev pub changes_in : List ℕ → List ℕ
changes_in places = take (length places - 6) places

-- the row
abbrev pub row_in : ℕ → List ℕ → Row
row_in columns places = pixels columns (changes_in places)

-- that places are so
pub record AreEnded (columns : ℕ) (places : List ℕ) : Type 0 where
  pub lawful : AreChanges columns (changes_in places)
  pub ended : places ≡ changes_in places ++ replicate 6 columns

-- the change at an index turns the row from this colour to the other one
abbrev pub TurnsFrom : ℕ → Color → Type 0
TurnsFrom index White = index % 2 ≡ 0
TurnsFrom index Black = index % 2 ≡ 1

-- From an index on, in steps of two, b1 is found: the changes two and more before it are not right of a0, and while
-- nothing is painted, so that a0 is left of the row, there are none.
pub record IsNear (columns : ℕ) (places : List ℕ) (painted index : ℕ) : Type 0 where
  pub left : (k : ℕ) → k + 2 ≤ index → (0 < painted) × (get_or places k columns ≤ painted)

-- the index of b1, for a colour
pub record IsB1 (columns : ℕ) (places : List ℕ) (painted index : ℕ) (color : Color) : Type 0 where
  pub turns : TurnsFrom index color
  pub near : IsNear columns places painted index
  pub right : 0 < painted → painted < get_or places index columns

-- Drawing continues from one pen to another in a two-dimensional line: the line is the same, so is that of a strict reading, the
-- words in between were counted, and besides them no more than the reference changes that were passed and three more for each
-- word.
pub record GoesOn2d (strict : Bool) (columns : ℕ) (reference : Row) (before after : Pen)
    (ticks now passed later : ℕ) : Type 0 where
  pub line : drawn (draw_2d strict columns reference) after ≡ drawn (draw_2d strict columns reference) before
  pub strictly : drawn (draw_2d true columns reference) after ≡ drawn (draw_2d true columns reference) before
  pub counts : ticks ≤ now
  pub at_least : ticks + length (words_drawn (draw_2d strict columns reference) before) ≤ now
      + length (words_drawn (draw_2d strict columns reference) after)
  pub at_most : now + 4 * length (words_drawn (draw_2d strict columns reference) after) + passed ≤ ticks + 4
      * length (words_drawn (draw_2d strict columns reference) before) + later
  pub none : length (words_drawn (draw_2d strict columns reference) before) ≡ 0 → (now ≡ ticks)
      × (length (words_drawn (draw_2d strict columns reference) after) ≡ 0)

-- A row of changes reaches a position, which its last change may equal. While it isn't full its number of changes determines
-- the colour, and the index is that of b1.
pub record IsStroke (columns : ℕ) (places : List ℕ) (place index : ℕ) (color : Color) (row : List ℕ) : Type 0 where
  pub within : place ≤ columns
  pub near : index ≤ length places + 1
  pub lawful : AreChanges (place + 1) row
  pub colored : place < columns → TurnsFrom (length row) color
  pub at : place < columns → IsB1 columns places place index color
  pub whole : columns ≤ place → AreChanges place row
