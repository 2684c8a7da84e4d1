-- A part by other keys of PDF's CCITTFaxDecode than its own.
use Rattle.std.specs.Prelude.{◌≡◌, Bool, length, IsOk}
use Rattle.hayro_ccitt.specs.Bits.{Bits}
use Rattle.hayro_ccitt.specs.DecodeSettings.{DecodeSettings}
use Rattle.hayro_ccitt.specs.Laws.{strictly}
use Rattle.hayro_ccitt.specs.PlainReading.{plain}
use Rattle.fax_pages.specs.declared.page.Part.{Part}

-- a part with this EndOfLine, and this EncodedByteAlign (PDF 1.7, table 11)
abbrev pub with_keys : Part → Bool → Bool → Part
with_keys part end_of_line is_aligned =
    record part { settings = record part.settings { end_of_line = end_of_line; rows_are_byte_aligned = is_aligned } }

-- A strict reading takes the bits, and the reading has as many rows as the settings say.
pub record TakesAll (settings : DecodeSettings) (bits : Bits) : Type 0 where
  pub end : IsOk (plain (strictly settings) bits).outcome
  pub rows : length (plain settings bits).rows ≡ settings.rows
