-- Encoding for callers in C.
use Rattle.std.specs.Prelude.{◌≡◌, ◌≤◌, ◌<◌, ℕ, ◌*◌, ◌&&◌, not, Bool, nat_le, nat_lt, List, length, take, drop, Option, Some}
use Rattle.std.specs.Prelude.{None, option_map, if◌then◌else◌, ◌≢◌, ◌↔◌, true, Result, Err, IfOk, Vec}
use Rattle.hayro_ccitt.specs.Bits.{Bits, bits_in}
use Rattle.hayro_ccitt.specs.BitOrder.{BitOrder}
use Rattle.hayro_ccitt.specs.BitOrder.TheVariants.{HighestFirst, LowestFirst}
use Rattle.hayro_ccitt.specs.EncodingMode.{EncodingMode}
use Rattle.fax_encode.specs.Chosen.{filled_up}
use Rattle.fax_encode.specs.Settings.{chosen, names_encoding, needs_row}
use Rattle.fax_encode.specs.declared.settings.Effort.TheVariants.{Procedure, Shortest}
use Rattle.fax_encode.specs.declared.error.EncodeError.{EncodeError}
use Rattle.fax_encode.specs.declared.error.EncodeError.TheVariants.{NoColumns, NoRows, NotARow}
use Rattle.fax_encode.specs.declared.settings.EncodeSettings.{EncodeSettings as EncoderSettings}
use Rattle.hayro_ccitt.specs.Rows.{Row}
use Rattle.c_rows.specs.Packing.{are_whole_rows, bytes_of_row, layout_with, rows_read}
use Rattle.c_rows.specs.Settings.{encoding_of, has_flag}
use Rattle.c_rows.specs.declared.encoding.EncodeSettings.{EncodeSettings}
use Rattle.c_rows.specs.declared.packed_rows.Layout.{Layout}

-- the settings of the encoder with this encoding: flags as for decoding, 32 if EOLs end at whole bytes, and 64 if
-- lines have the fewest bits
abbrev pub encoder_with : EncodeSettings → EncodingMode → EncoderSettings
encoder_with s encoding = record {
  encoding = encoding;
  k = s.k;
  end_of_line = has_flag s.flags 2;
  eols_end_at_bytes = has_flag s.flags 32;
  rows_are_byte_aligned = has_flag s.flags 4;
  end_of_block = has_flag s.flags 1;
  order = if has_flag s.flags 16 then LowestFirst else HighestFirst;
  effort = if has_flag s.flags 64 then Shortest else Procedure;
}

-- the layout of packed rows that C passes: 128 if 0 stands for black
abbrev pub layout_asked : EncodeSettings → Layout
layout_asked s = layout_with s.columns s.stride (has_flag s.flags 128)

-- the settings of the encoder that C passes, or None if they are invalid: an encoding or a flag that isn't known, or a stride
-- that is less than the bytes of a row. 8 is a flag of decoding alone.
abbrev pub encoder_of : EncodeSettings → Option EncoderSettings
encoder_of s =
    if nat_lt s.flags 256 && not (has_flag s.flags 8) && nat_le (bytes_of_row s.columns) (layout_asked s).stride
    then option_map (encoder_with s) (encoding_of s.encoding)
    else None

-- settings, if they are valid and name an encoding of rows of at least one column
abbrev pub naming : ℕ → Option EncoderSettings → Option EncoderSettings
naming columns None = None
naming columns (Some s) = if nat_lt 0 columns && names_encoding s then Some s else None

-- the settings of the encoder that C passes for rows, if they name an encoding of them
abbrev pub of_rows : EncodeSettings → Option EncoderSettings
of_rows s = naming s.columns (encoder_of s)

-- whether settings have an encoding of a bitmap's rows: they name an encoding, and there is a row if one is needed
abbrev pub can_encode : ℕ → List ℕ → EncoderSettings → Bool
can_encode columns bitmap s =
    names_encoding s && not (needs_row s.encoding s.end_of_block && nat_lt (length bitmap) (bytes_of_row columns))

-- whether a bitmap is whole rows of at least one column
abbrev pub are_whole : ℕ → ℕ → List ℕ → Bool
are_whole stride columns bitmap = nat_lt 0 columns && are_whole_rows stride columns (length bitmap)

-- settings, if they are valid, the bitmap is whole rows, and it has an encoding by them
abbrev pub of_bitmap : ℕ → ℕ → List ℕ → Option EncoderSettings → Option EncoderSettings
of_bitmap stride columns bitmap None = None
of_bitmap stride columns bitmap (Some s) =
    if are_whole stride columns bitmap then (if can_encode columns bitmap s then Some s else None) else None

-- the settings of the encoder that C passes for a bitmap, if it has an encoding by them
abbrev pub asked : EncodeSettings → List ℕ → Option EncoderSettings
asked s bitmap = of_bitmap (layout_asked s).stride s.columns bitmap (encoder_of s)

-- the rows of the bitmap that C passes
abbrev pub rows_asked : EncodeSettings → List ℕ → List Row
rows_asked s bitmap = rows_read (layout_asked s) s.columns bitmap

-- the bits of rows, filled up to a whole byte
abbrev pub bits_asked : EncoderSettings → ℕ → List Row → Bits
bits_asked s columns rows = filled_up (chosen s columns rows)

-- What a call returns that encodes the rows of a bitmap: their bits, unless there is no row where one is needed.
pub record EncodesRows {A : Type 0} (settings : EncoderSettings) (layout : Layout) (columns : ℕ) (bitmap : List ℕ)
    (answer : Result (Vec ℕ A) EncodeError) : Type 0 where
  pub no_rows : (answer ≡ Err NoRows)
      ↔ ((needs_row settings.encoding settings.end_of_block ≡ true) × (length bitmap < bytes_of_row columns))
  pub others : (answer ≢ Err NoColumns) × ((k : ℕ) → answer ≢ Err (NotARow k))
  pub encoded : IfOk answer (λ bytes. bits_in settings.order bytes.items
      ≡ bits_asked settings columns (rows_read layout columns bitmap))

-- The caller's memory begins with these bits, in this order and this number of bytes; and what follows them is unchanged.
pub record AreEncoded (order : BitOrder) (bits : Bits) (count : ℕ) (before after : List ℕ) : Type 0 where
  pub bits_are : bits_in order (take count after) ≡ bits
  pub rest : drop count after ≡ drop count before
  pub room : count ≤ length after

-- Bits need this number of bytes, which is more than there is room for.
pub record HaveNoRoom (bits : Bits) (count : ℕ) (room : ℕ) : Type 0 where
  pub size : 8 * count ≡ length bits
  pub more : room < count
