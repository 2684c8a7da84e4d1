-- Modes that are drawn with bits at hand. This is not part of the trusted specification: no contract of a public call cites it.
use Rattle.std.specs.Prelude.{◌≡◌, ◌⊎◌, ℕ, ◌+◌, ◌-◌, ◌^◌, ◌<◌, ◌≤◌, ◌∷◌, [], Ok, vec_len, vec_capacity, length, get_or}
use Rattle.std.specs.Prelude.{Option, None, Some}
use Rattle.std.specs.Global.{Vec}
use Rattle.std.specs.Int.{trailing_ones, w64}
use Rattle.fax_bits.specs.declared.codes.Mode.{Mode}
use Rattle.fax_bits.specs.declared.codes.Mode.TheVariants.{Horizontal, Pass}
use Rattle.fax_bits.specs.declared.codes.Color.TheVariants.{White}
use Rattle.fax_lines.specs.declared.modes.CodingLine.{CodingLine}
use Rattle.fax_lines.specs.declared.vertical_groups.ModesHere.{ModesHere}
use Rattle.fax_lines.specs.declared.modes.Stroke.{Stroke}
use Rattle.fax_lines.specs.declared.pen.RowPen.{RowPen}
use Rattle.fax_lines.specs.declared.run_pairs.TwoRuns.{TwoRuns}
use Rattle.fax_bits.specs.Bits.{here}
use Rattle.fax_bits.specs.CodeLists.{mode_codes}
use Rattle.fax_bits.specs.CodeReading.{read_code}
use Rattle.fax_reading.specs.Lines.{Pen}
use Rattle.fax_bits.specs.ModeGroups.{AreNextWords, first_mode, offset_at, words_of}
use Rattle.fax_lines.specs.RegularModes.{AreSet, IsRegular}
use Rattle.fax_reading.specs.UsualModes.{AreEnded, changes_in, row_in, IsStroke, GoesOn2d}
use Rattle.fax_reading.specs.UsualRuns.{pen_at}
use Rattle.fax_bits.specs.Window.{AtHand, moved}

-- the stroke at a line's start
abbrev pub line_start : Stroke
line_start = record { painted = 0; index = 0; color = White }

-- the code word of a mode is next, with this many bits, all of them at hand
pub record IsNextMode (mode : Mode) (width : ℕ) (window : AtHand) : Type 0 where
  pub read : read_code mode_codes (here window.at) ≡ Ok (mode, here (moved width window.at))
  pub some : 0 < width
  pub few : width < 64
  pub within : width ≤ window.left

-- the mode that a group of ten bits begins with, if it isn't vertical, is next
pub record IsFirstMode (group : ℕ) (window : AtHand) : Type 0 where
  pub horizontal : first_mode group ≡ Some Horizontal
      → read_code mode_codes (here window.at) ≡ Ok (Horizontal, here (moved 3 window.at))
  pub pass : first_mode group ≡ Some Pass → read_code mode_codes (here window.at) ≡ Ok (Pass, here (moved 4 window.at))

-- Vertical modes lead from the changes of the reference row, from b1 on, to these places; and those that are marked are regular.
pub record LeadFrom (line : CodingLine) (stroke : Stroke) (modes : ModesHere) : Type 0 where
  pub four : length modes.places ≡ 4
  pub mask : modes.regular < 16
  pub named : (k : ℕ) → k < 4 → get_or modes.places k 0 ≤ line.columns
      → get_or (changes_in line.places.now) (stroke.index + k) line.columns + offset_at (words_of modes.group) k
      ≡ get_or modes.places k 0 + 3
  pub regular : (k : ℕ) → k < 4 → AreSet modes.regular (k + 1) → IsRegular line.columns (changes_in line.places.now)
      (get_or (stroke.painted ∷ modes.places) k 0) (stroke.index + k) (get_or modes.places k 0)

-- the index of the first mode that isn't marked
abbrev pub first_clear : ModesHere → ℕ
first_clear modes = trailing_ones w64 modes.regular

-- vertical modes are next, all of them at hand, and there is a change before b1
pub record AreModesHere (line : CodingLine) (stroke : Stroke) (window : AtHand) (modes : ModesHere) : Type 0 where
  pub lead : LeadFrom line stroke modes
  pub next : AreNextWords (words_of modes.group) window.at
  pub some : 0 < length (words_of modes.group)
  pub few : length (words_of modes.group) ≤ 4
  pub after : 0 < stroke.index
  pub within : 16 ≤ window.left

-- a pen, from what it has
abbrev pub pen_with : AtHand → Vec ℕ → ℕ → RowPen
pen_with window row ticks = record { window = window; row = row; ticks = ticks }

-- a row of changes reaches the stroke
abbrev pub IsAtStroke : CodingLine → Stroke → RowPen → Type 0
IsAtStroke line stroke pen =
    IsStroke line.columns (changes_in line.places.now) stroke.painted stroke.index stroke.color pen.row.items

-- a pen at a stroke, as the definition of a line has it
abbrev pub pen_here : Stroke → RowPen → Pen
pen_here stroke pen = pen_at stroke.painted pen.row.items stroke.color pen.window.at

-- A mode can be drawn: the row isn't full, and has room for as many changes as bits are at hand.
pub record CanDraw (line : CodingLine) (stroke : Stroke) (pen : RowPen) : Type 0 where
  pub ended : AreEnded line.columns line.places.now
  pub fits : line.columns + 3 < 2 ^ 31
  pub inside : stroke.painted < line.columns
  pub reached : IsAtStroke line stroke pen
  pub room : vec_len pen.row + pen.window.left ≤ vec_capacity pen.row

-- Two runs follow a stroke. The row isn't full, they end in it or with it, and it has room for their changes.
pub record CanFollowStroke (line : CodingLine) (stroke : Stroke) (pen : RowPen) (runs : TwoRuns) : Type 0 where
  pub ended : AreEnded line.columns line.places.now
  pub inside : stroke.painted < line.columns
  pub reached : IsAtStroke line stroke pen
  pub right : (0 < runs.first) ⊎ (pen.row.items ≡ [])
  pub some : 0 < runs.second
  pub fits : runs.first + runs.second ≤ line.columns - stroke.painted
  pub room : vec_len pen.row + 2 ≤ vec_capacity pen.row

-- Drawing goes on from one stroke to another, which the row reaches then.
pub record Draws (line : CodingLine) (stroke : Stroke) (before : RowPen) (next : Stroke) (after : RowPen) : Type 0 where
  pub drawn : GoesOn2d line.strict line.columns (row_in line.columns line.places.now)
      (pen_here stroke before) (pen_here next after) before.ticks after.ticks (stroke.index - 1) (next.index - 1)
  pub reached : IsAtStroke line next after

-- A mode does so. It has bits, and leaves room for as many changes as bits are at hand.
pub record DrawsMode (line : CodingLine) (stroke : Stroke) (before : RowPen) (next : Stroke) (after : RowPen) : Type 0 where
  pub drawn : Draws line stroke before next after
  pub onward : before.window.at.place < after.window.at.place
  pub room : vec_len after.row + after.window.left ≤ vec_capacity after.row

-- nothing is drawn
pub record DrawsNothing (before after : RowPen) : Type 0 where
  pub at : after.window.at ≡ before.window.at
  pub items : after.row.items ≡ before.row.items
  pub count : after.ticks ≡ before.ticks

-- nor is a bit loaded
abbrev pub StaysAsItIs : RowPen → RowPen → Type 0
StaysAsItIs before after =
    (after.window ≡ before.window) × (after.row.items ≡ before.row.items) × (after.ticks ≡ before.ticks)

-- the bits and the row's room stay, and the row doesn't get shorter
pub record KeepsRoom (before after : RowPen) : Type 0 where
  pub same_bits : after.window.at.bits ≡ before.window.at.bits
  pub capacity : vec_capacity after.row ≡ vec_capacity before.row
  pub count : vec_len before.row ≤ vec_len after.row

-- Drawing goes on from one stroke to another, of the same bits, in the room that the row has.
pub record DrawsOn (line : CodingLine) (stroke : Stroke) (before : RowPen) (next : Stroke) (after : RowPen) : Type 0 where
  pub drawn : Draws line stroke before next after
  pub kept : KeepsRoom before after

-- If there is a next stroke, a mode is drawn up to it; if there is none, nothing is drawn.
abbrev pub DrawsSome : CodingLine → Stroke → RowPen → Option Stroke → RowPen → Type 0
DrawsSome line stroke before None after = DrawsNothing before after
DrawsSome line stroke before (Some next) after = DrawsMode line stroke before next after
