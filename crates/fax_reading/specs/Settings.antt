-- The settings of a reading.
use Rattle.std.specs.Prelude.{◌^◌, ◌<◌}
use Rattle.fax_bits.specs.declared.settings.DecodeSettings.{DecodeSettings}

-- ---- auxiliary: the range of the program's numbers

-- the columns and the row limit have 32 bits
pub record AreSettings (settings : DecodeSettings) : Type 0 where
  pub columns : settings.columns < 2 ^ 32
  pub rows : settings.rows < 2 ^ 32
