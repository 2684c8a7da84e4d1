-- How the tags of a TIFF page say that its fax data is encoded (TIFF 6.0, sections 8, 10 and 11).
use Rattle.std.specs.Prelude.{ℕ, Bool, true, false, ◌+◌, ◌-◌, ◌^◌, ◌==◌, ◌||◌, ◌%◌, nat_lt, min, if◌then◌else◌, List, Option}
use Rattle.std.specs.Prelude.{Some, None}
use Rattle.std.specs.Option.{unwrap_or}
use Rattle.fax_bits.specs.declared.settings.DecodeSettings.{DecodeSettings}
use Rattle.fax_bits.specs.declared.settings.EncodingMode.{EncodingMode}
use Rattle.fax_bits.specs.declared.settings.EncodingMode.TheVariants.{Group4, Group3_1D, Group3_2D}
use Rattle.fax_bits.specs.declared.bit_reader.BitOrder.{BitOrder}
use Rattle.fax_bits.specs.declared.bit_reader.BitOrder.TheVariants.{HighestFirst, LowestFirst}
use Rattle.tiff_read.specs.Values.{number_of_tag}
use Rattle.tiff_read.specs.declared.directory.Directory.{Directory}
use Rattle.tiff_read.specs.declared.picture.Picture.{Picture}

-- Compression 2 and 32771, of which the second isn't in TIFF 6.0: one-dimensional lines without EOLs. Each row begins at a byte,
-- and with 32771 at a multiple of 16 bits (section 10).
abbrev pub is_modified_huffman : ℕ → Bool
is_modified_huffman compression = compression == 2 || compression == 32771

-- The values of Compression for fax data: those, 3 for T.4 and 4 for T.6 (section 11).
abbrev pub is_fax_compression : ℕ → Bool
is_fax_compression compression = is_modified_huffman compression || (compression == 3 || compression == 4)

-- T.6 with 4; with 3 two-dimensional T.4 if bit 0 of T4Options is set, else one-dimensional (section 11).
abbrev pub encoding_of_tags : ℕ → ℕ → EncodingMode
encoding_of_tags compression t4_options =
    if compression == 4 then Group4
    else (if compression == 3 then (if t4_options % 2 == 1 then Group3_2D else Group3_1D) else Group3_1D)

-- The settings for a strip or tile of so many columns and rows. Only T.6 data is closed, by EOFB; RTC isn't written (section 11).
-- EOLs needn't be announced, since T.4 data with EOLs begins with one. Bit 2 of T4Options says that they end at bytes, which a
-- reader needn't know.
abbrev pub settings_of_tags : Picture → ℕ → ℕ → DecodeSettings
settings_of_tags picture columns rows = record {
  columns = columns;
  rows = rows;
  end_of_block = picture.compression == 4;
  end_of_line = false;
  rows_are_byte_aligned = is_modified_huffman picture.compression;
  encoding = encoding_of_tags picture.compression picture.t4_options;
  strict = false;
}

-- FillOrder 2: the lowest bit of a byte is that of its first pixel (section 8).
abbrev pub order_of_tags : Picture → BitOrder
order_of_tags picture = if picture.is_low_first then LowestFirst else HighestFirst

-- one of the numbers of ColorMap; 0 if there are fewer
abbrev pub map_value : List ℕ → Directory → ℕ → ℕ
map_value bytes directory index = unwrap_or (number_of_tag bytes directory 320 index) 0

-- The sum of the red, the green and the blue of a palette's first or second colour, up to the greatest number of 64 bits:
-- ColorMap has the reds first, then the greens, then the blues (section 5).
abbrev pub brightness : List ℕ → Directory → ℕ → ℕ
brightness bytes directory colour =
    min (map_value bytes directory colour + map_value bytes directory (colour + 2) + map_value bytes directory (colour + 4))
    (2 ^ 64 - 1)

-- whether the first colour of a palette is darker than the second one
abbrev pub is_dark_first : List ℕ → Directory → Bool
is_dark_first bytes directory = nat_lt (brightness bytes directory 0) (brightness bytes directory 1)

-- Whether a white pixel, which is 0 in fax data, is shown black: Photometric 1, BlackIsZero, or 3, a palette, whose first colour
-- is the darker one (sections 3 and 5). Without the tag it isn't.
abbrev pub is_inverted_by_tags : Option ℕ → Bool → Bool
is_inverted_by_tags None is_dark_first = false
is_inverted_by_tags (Some photometric) is_dark_first =
    if photometric == 1 then true else (if photometric == 3 then is_dark_first else false)
