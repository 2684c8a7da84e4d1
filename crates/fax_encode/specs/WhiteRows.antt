-- The lines of white rows below white ones, as an encoder keeps them: bookkeeping of its own.
use Rattle.std.specs.Prelude.{◌≡◌, ℕ, ◌^◌, ◌<◌, ◌≤◌, false}
use Rattle.fax_bits.specs.Bits.{low_bits}
use Rattle.fax_reading.specs.Rows.{white_row}
use Rattle.fax_encode.specs.declared.settings.EncodeSettings.{EncodeSettings}
use Rattle.fax_encode.specs.declared.white_rows.WhiteLine.{WhiteLine}
use Rattle.fax_encode.specs.declared.white_rows.WhiteLines.{WhiteLines}
use Rattle.fax_encode.specs.Settings.{chosen_part, left_after}

-- the line with what belongs to it at the start of the data, in fewer than 64 bits, if `left` more may be two-dimensional, and
-- how many may be after it
pub record IsWhiteLine (settings : EncodeSettings) (columns left : ℕ) (white : WhiteLine) : Type 0 where
  pub few : white.line.count ≤ 63
  pub fits : white.line.bits < 2 ^ white.line.count
  pub spells : low_bits white.line.count white.line.bits ≡ chosen_part settings 0 left (white_row columns) (white_row columns)
  pub after : white.after ≡ left_after settings.effort settings.encoding settings.k left (white_row columns) (white_row columns)

-- the line where none may be two-dimensional, and, with a K of 2, where one may; they don't depend on where they begin
pub record AreWhiteLines (settings : EncodeSettings) (columns : ℕ) (lines : WhiteLines) : Type 0 where
  pub plain : settings.eols_end_at_bytes ≡ false
  pub first : IsWhiteLine settings columns 0 lines.first
  pub further : IsWhiteLine (record settings { k = 2 }) columns 1 lines.further
