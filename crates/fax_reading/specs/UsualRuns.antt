-- Runs that are drawn with bits at hand. This is not part of the trusted specification: no contract of a public call cites it.
use Rattle.std.specs.Prelude.{◌≡◌, ◌+◌, ◌%◌, ◌<◌, ◌≤◌, Bool, true, ℕ, List, length}
pub use Rattle.fax_bits.specs.WordsHere.{IsRunHere, IsWordHere, RunGoesOn}
use Rattle.fax_bits.specs.declared.codes.Color.{Color}
use Rattle.fax_bits.specs.declared.codes.Color.TheVariants.{White}
use Rattle.fax_bits.specs.Bits.{BitsAt, here}
use Rattle.fax_reading.specs.Lines.{Pen, draw_1d, drawn, words_drawn}
use Rattle.fax_reading.specs.Rows.{AreChanges, pixels}

-- a run that isn't empty and has one word (T.4, 4.1.1)
pub record IsShort (run : ℕ) : Type 0 where
  pub some : 0 < run
  pub below : run < 64

-- the pen of a row of changes
abbrev pub pen_at : ℕ → List ℕ → Color → BitsAt → Pen
pen_at place row color at = record { front = pixels place row; color = color; rest = here at }

-- Drawing continues from one pen to another: the line is the same, so is that of a strict reading, and the words between them
-- were counted.
pub record GoesOn (strict : Bool) (columns : ℕ) (before after : Pen) (ticks now : ℕ) : Type 0 where
  pub line : drawn (draw_1d strict columns) after ≡ drawn (draw_1d strict columns) before
  pub strictly : drawn (draw_1d true columns) after ≡ drawn (draw_1d true columns) before
  pub counts : ticks ≤ now
  pub counted : now + length (words_drawn (draw_1d strict columns) after) ≡ ticks
      + length (words_drawn (draw_1d strict columns) before)

-- A row of changes isn't full, and continues in white; its last change may equal the position.
pub record IsOpen (columns place : ℕ) (row : List ℕ) : Type 0 where
  pub inside : place < columns
  pub lawful : AreChanges (place + 1) row
  pub even : length row % 2 ≡ 0

-- A row of changes reaches a position: if it isn't full it continues in white, and its last change may equal the
-- position.
pub record IsReached (columns place : ℕ) (color : Color) (row : List ℕ) : Type 0 where
  pub within : place ≤ columns
  pub lawful : AreChanges (place + 1) row
  pub even : place < columns → (length row % 2 ≡ 0) × (color ≡ White)
  pub whole : columns ≤ place → AreChanges place row
