-- The settings that C passes.
use Rattle.std.specs.Prelude.{ℕ, ◌/◌, ◌%◌, ◌==◌, ◌&&◌, nat_le, nat_lt, Bool, Option, Some, None, option_map, if◌then◌else◌}
use Rattle.hayro_ccitt.specs.BitOrder.{BitOrder}
use Rattle.hayro_ccitt.specs.BitOrder.TheVariants.{HighestFirst, LowestFirst}
use Rattle.hayro_ccitt.specs.EncodingMode.{EncodingMode}
use Rattle.hayro_ccitt.specs.EncodingMode.TheVariants.{Group4, Group3_1D, Group3_2D}
use Rattle.hayro_ccitt.specs.DecodeSettings.{DecodeSettings}
use Rattle.c_rows.specs.Packing.{bytes_of_row, layout_with}
use Rattle.c_rows.specs.declared.packed_rows.Layout.{Layout}
use Rattle.c_rows.specs.declared.settings.Settings.{Settings}

-- the encoding of a number
abbrev pub encoding_of : ℕ → Option EncodingMode
encoding_of n =
    if n == 0 then Some Group4
    else if n == 1 then Some Group3_1D
    else if n == 2 then Some Group3_2D
    else None

-- whether a sum of flags has this one: 1, 2, 4, 8, 16, 32, 64 or 128
abbrev pub has_flag : ℕ → ℕ → Bool
has_flag flags flag = flags / flag % 2 == 1

-- the settings with this encoding
abbrev pub settings_with : Settings → EncodingMode → DecodeSettings
settings_with s encoding = record {
  columns = s.columns;
  rows = s.rows;
  end_of_block = has_flag s.flags 1;
  end_of_line = has_flag s.flags 2;
  rows_are_byte_aligned = has_flag s.flags 4;
  encoding = encoding;
  strict = has_flag s.flags 8;
}

-- the order of the bits in each byte that C passes
abbrev pub order_of : Settings → BitOrder
order_of s = if has_flag s.flags 16 then LowestFirst else HighestFirst

-- the layout of packed rows that C passes: a stride of 0 stands for the bytes of a row
abbrev pub layout_of : Settings → Layout
layout_of s = layout_with s.columns s.stride (has_flag s.flags 32)

-- the settings that C passes, or None if they are invalid: an encoding or a flag that isn't known, or a stride that is less than
-- the bytes of a row
abbrev pub settings_of : Settings → Option DecodeSettings
settings_of s =
    if nat_lt s.flags 64 && nat_le (bytes_of_row s.columns) (layout_of s).stride
    then option_map (settings_with s) (encoding_of s.encoding)
    else None
