-- Two runs that are drawn at once. This is not part of the trusted specification: no contract of a public call cites it.
use Rattle.std.specs.Prelude.{◌≡◌, ◌⊎◌, ◌+◌, ◌-◌, ◌^◌, ◌<◌, ◌≤◌, ℕ, List, [], vec_capacity}
use Rattle.fax_bits.specs.declared.codes.Color.{Color}
use Rattle.fax_bits.specs.declared.codes.Color.TheVariants.{White}
use Rattle.fax_bits.specs.declared.settings.DecodeSettings.{DecodeSettings}
use Rattle.fax_lines.specs.declared.pen.RowPen.{RowPen}
use Rattle.fax_lines.specs.declared.run_pairs.TwoRuns.{TwoRuns}
use Rattle.fax_bits.specs.Bits.{BitsAt}
use Rattle.fax_reading.specs.Rows.{opposite}
use Rattle.fax_reading.specs.UsualRuns.{IsRunHere, IsOpen, IsReached, GoesOn, pen_at}
use Rattle.fax_bits.specs.Window.{moved}

-- two runs are here, of a colour and of the other one, with this many bits and words in all
pub record AreTwoRunsHere (color : Color) (at : BitsAt) (runs : TwoRuns) : Type 0 where
  pub width : ℕ
  pub width2 : ℕ
  pub words : ℕ
  pub words2 : ℕ
  pub first : IsRunHere color at runs.first width words
  pub second : IsRunHere (opposite color) (moved width at) runs.second width2 words2
  pub bits : runs.width ≡ width + width2
  pub count : runs.words ≡ words + words2

-- Such a row goes on with a white run that ends before the row does, and a black one that isn't cut.
pub record CanFollow (settings : DecodeSettings) (place : ℕ) (row : List ℕ) (runs : TwoRuns) : Type 0 where
  pub row_is_open : IsOpen settings.columns place row
  pub right : (0 < runs.first) ⊎ (row ≡ [])
  pub inside : runs.first < settings.columns - place
  pub some : 0 < runs.second
  pub fits : runs.second ≤ settings.columns - (place + runs.first)
  pub small : runs.first + runs.second < 2 ^ 32

-- Runs are drawn from a position on, white first: drawing goes on, and the row reaches another position.
pub record DrawsRuns (settings : DecodeSettings) (painted : ℕ) (before : RowPen) (place : ℕ) (color : Color) (after : RowPen)
    : Type 0 where
  pub drawn : GoesOn settings.strict settings.columns (pen_at painted before.row.items White before.window.at)
      (pen_at place after.row.items color after.window.at) before.ticks after.ticks
  pub reached : IsReached settings.columns place color after.row.items

-- the bits and the row's room stay, and what is passed isn't passed again
pub record MovesOn (before after : RowPen) : Type 0 where
  pub same_bits : after.window.at.bits ≡ before.window.at.bits
  pub onward : before.window.at.place ≤ after.window.at.place
  pub capacity : vec_capacity after.row ≡ vec_capacity before.row
