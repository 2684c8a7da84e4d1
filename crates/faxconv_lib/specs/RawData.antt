-- What the letters of `--flags` say of raw fax data.
use Rattle.std.specs.Prelude.{ℕ, List}
use Rattle.hayro_ccitt.specs.DecodeSettings.{DecodeSettings}
use Rattle.fax_program.specs.Arguments.{has_flag, order_with}
use Rattle.faxconv_lib.specs.declared.options.RawOptions.{RawOptions}

-- The settings with these flags: b, EOFB or RTC may end the data; l, an EOL precedes each line; a, rows are aligned to bytes;
-- s, strict.
abbrev pub settings_with : List ℕ → DecodeSettings → DecodeSettings
settings_with flags settings = record settings {
  end_of_block = has_flag 98 flags;
  end_of_line = has_flag 108 flags;
  rows_are_byte_aligned = has_flag 97 flags;
  strict = has_flag 115 flags;
}

-- what is known of raw data, with these flags: r, the lowest bit of each byte comes first
abbrev pub with_flags : List ℕ → RawOptions → RawOptions
with_flags flags raw = record raw { settings = settings_with flags raw.settings; order = order_with flags }
