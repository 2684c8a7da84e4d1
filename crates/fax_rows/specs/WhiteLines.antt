-- White lines below a white row, by their bits. This is not part of the trusted specification: no contract of a public call cites
-- it.
use Rattle.std.specs.Prelude.{◌≡◌, ◌≤◌, ◌<◌, ◌+◌, ◌^◌, ◌++◌, ◌&&◌, ℕ, Bool, true, false, not, [], drop, length, None, ◌⊎◌}
use Rattle.fax_bits.specs.declared.bit_reader.BitOrder.{BitOrder}
use Rattle.fax_bits.specs.declared.bit_reader.PlacedBits.{PlacedBits}
use Rattle.fax_bits.specs.declared.codes.Color.TheVariants.{White}
use Rattle.fax_bits.specs.declared.settings.DecodeSettings.{DecodeSettings}
use Rattle.fax_bits.specs.declared.settings.EncodingMode.{EncodingMode}
use Rattle.fax_bits.specs.declared.settings.EncodingMode.TheVariants.{Group3_2D}
use Rattle.fax_bits.specs.declared.tables.CodeWord.{CodeWord}
use Rattle.fax_bits.specs.Bits.{Bits, BitsAt, here, low_bits}
use Rattle.fax_bits.specs.EndOfLine.{after_eol}
use Rattle.fax_bits.specs.Window.{ArePlaced, moved}
use Rattle.fax_bits.specs.WordsHere.{IsRunHere}
use Rattle.fax_rows.specs.declared.white_lines.PlacedLines.{PlacedLines}
use Rattle.fax_rows.specs.declared.white_lines.WhiteLines.{WhiteLines}
use Rattle.fax_reading.specs.Encodings.{Spells, eol}
use Rattle.fax_reading.specs.Lines.{Line, line_found}
use Rattle.fax_reading.specs.PlainReading.{line_by}
use Rattle.fax_reading.specs.Rows.{Row, pixels}

-- the bits that a word has
abbrev pub bits_of_word : CodeWord → Bits
bits_of_word word = low_bits word.count word.bits

-- a word that fits in its bits
pub record FitsIn (word : CodeWord) (most : ℕ) : Type 0 where
  pub few : word.count ≤ most
  pub fits : word.bits < 2 ^ word.count

-- the words of a white run, one or two, whatever follows (T.4, 4.1.1)
pub record IsWhiteRun (columns : ℕ) (word : CodeWord) : Type 0 where
  pub is_whole : FitsIn word 20
  pub some : 0 < word.count
  pub spells : Spells White columns (bits_of_word word)
  pub run : (rest : Bits) → (words : ℕ) × (words ≤ 2)
      × IsRunHere White (record { bits = bits_of_word word ++ rest; place = 0 }) columns word.count words

-- Bits that are a white line below a white row, whatever follows: strict reading or not, and with two words at most; there is no
-- EOL, and none after a tag (T.4, 4.1.1, 4.2.1.3 and 4.2.2; T.6, 2.2).
pub record AreWhiteLine (encoding : EncodingMode) (columns : ℕ) (line : Bits) : Type 0 where
  pub some : 0 < length line
  pub row : (strict : Bool) (rest : Bits)
      → line_by encoding strict columns (pixels columns []) (line ++ rest) ≡ Line.whole (pixels columns []) rest
  pub words : (strict : Bool) (rest : Bits)
      → length (line_found encoding strict columns (pixels columns []) (line ++ rest)) ≤ 2
  pub no_eol : (rest : Bits) → after_eol 0 (line ++ rest) ≡ None
  pub no_tag : encoding ≡ Group3_2D → (rest : Bits) → after_eol 0 (drop 1 (line ++ rest)) ≡ None

-- the EOL before a line, without fill, in data that has EOLs (T.4, 4.1.2)
abbrev pub eol_before : Bool → Bits
eol_before true = eol 0
eol_before false = []

-- a word, if it has bits, is a white line
pub record IsLine (encoding : EncodingMode) (columns most : ℕ) (word : CodeWord) : Type 0 where
  pub is_whole : FitsIn word most
  pub line : 0 < word.count → AreWhiteLine encoding columns (bits_of_word word)

-- A word of at most this many bits, if it has any, is the EOL before a line, in data that has EOLs, and a white line.
pub record IsWhiteLine (encoding : EncodingMode) (columns : ℕ) (has_eols : Bool) (most : ℕ) (word : CodeWord) : Type 0 where
  pub few : word.count ≤ most
  pub line : 0 < word.count → (line : Bits) × AreWhiteLine encoding columns line
      × (bits_of_word word ≡ eol_before has_eols ++ line)

-- These are white lines of these settings, with the EOL before each, if they are known; and the row limit (T.4, 4.1.2).
pub record AreKnown (settings : DecodeSettings) (lines : WhiteLines) : Type 0 where
  pub gap : 0 < lines.first.count → lines.gap ≡ length (eol_before lines.has_eols)
  pub limit : 0 < lines.first.count → (settings.rows ≡ 0) ⊎ (lines.limit ≡ settings.rows)
  pub limit_fits : lines.limit < 2 ^ 64
  pub first : IsWhiteLine settings.encoding settings.columns lines.has_eols 32 lines.first
  pub second : IsWhiteLine settings.encoding settings.columns lines.has_eols 33 lines.second

-- One of them may be next: the row before is white, and lines begin anywhere.
pub record MayFollow (settings : DecodeSettings) (has_eols : Bool) (reference : Row) (lines : WhiteLines) : Type 0 where
  pub known : AreKnown settings lines
  pub some : 0 < lines.first.count
  pub same : lines.has_eols ≡ has_eols
  pub white : reference ≡ pixels settings.columns []
  pub anywhere : (settings.rows_are_byte_aligned && not has_eols) ≡ false

-- one of these lines is passed
pub record PassesLine (lines : WhiteLines) (before after : BitsAt) : Type 0 where
  pub word : CodeWord
  pub one : (word ≡ lines.first) ⊎ (word ≡ lines.second)
  pub some : 0 < word.count
  pub there : here before ≡ bits_of_word word ++ here (moved word.count before)
  pub within : before.place + word.count ≤ length before.bits
  pub moved_on : after ≡ moved word.count before

-- one of these lines, as it stands in words of this order
pub record IsPlacedLine (order : BitOrder) (lines : WhiteLines) (placed : PlacedBits) : Type 0 where
  pub word : CodeWord
  pub one : (word ≡ lines.first) ⊎ (word ≡ lines.second)
  pub some : 0 < word.count
  pub are : ArePlaced order word.count word.bits placed

pub record ArePlacedLines (order : BitOrder) (lines : WhiteLines) (placed : PlacedLines) : Type 0 where
  pub first : IsPlacedLine order lines placed.first
  pub second : IsPlacedLine order lines placed.second
