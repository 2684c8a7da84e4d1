-- How PDF's keys say that fax data is encoded (ISO 32000-1, 7.4.6, table 11).
use Rattle.std.specs.Prelude.{ℕ, zero, suc, ◌+◌, ◌/◌, ℤ, pos, negsuc, Bool, false, not, ◌==◌, ◌&&◌, ◌||◌, nat_lt, if◌then◌else◌}
use Rattle.fax_bits.specs.declared.settings.DecodeSettings.{DecodeSettings}
use Rattle.fax_bits.specs.declared.settings.EncodingMode.{EncodingMode}
use Rattle.fax_bits.specs.declared.settings.EncodingMode.TheVariants.{Group4, Group3_1D, Group3_2D}
use Rattle.pdf_read.specs.declared.image.FaxParameters.{FaxParameters}

-- K: below 0 T.6, 0 one-dimensional T.4, above 0 two-dimensional T.4.
abbrev pub encoding_of_k : ℤ → EncodingMode
encoding_of_k (negsuc n) = Group4
encoding_of_k (pos zero) = Group3_1D
encoding_of_k (pos (suc n)) = Group3_2D

-- How many rows are decoded: as many as the image is high, or if that isn't known Rows. Data without EndOfBlock ends after Rows,
-- if these are fewer.
abbrev pub rows_of_keys : FaxParameters → ℕ → ℕ
rows_of_keys keys height =
    if height == 0 || (not keys.end_of_block && (nat_lt 0 keys.rows && nat_lt keys.rows height)) then keys.rows else height

-- The settings for an image of a height, 0 if that isn't known. A damaged row is repaired, whatever DamagedRowsBeforeError says.
abbrev pub settings_of_keys : FaxParameters → ℕ → DecodeSettings
settings_of_keys keys height = record {
  columns = keys.columns;
  rows = rows_of_keys keys height;
  end_of_block = keys.end_of_block;
  end_of_line = keys.end_of_line;
  rows_are_byte_aligned = keys.encoded_byte_align;
  encoding = encoding_of_k keys.k;
  strict = false;
}

-- How many columns are shown: Width of the image if it is less than Columns, and rows of both have as many bytes, else Columns.
abbrev pub columns_shown : ℕ → ℕ → ℕ
columns_shown columns width =
    if nat_lt 0 width && (nat_lt width columns && ((width + 7) / 8 == (columns + 7) / 8)) then width else columns

-- one of two, and not both
abbrev pub differ : Bool → Bool → Bool
differ one other = if one then not other else other

-- Whether a black pixel is shown white: it is the sample 0, or with BlackIs1 1; 0 is shown black, or 1 if Decode inverts samples
-- (8.9.5.2), and the other one if the colour space has 0 lighter than 1 (8.6).
abbrev pub is_inverted_by_keys : Bool → Bool → Bool → Bool
is_inverted_by_keys black_is_1 is_decode_inverted is_zero_lighter = differ (differ black_is_1 is_decode_inverted) is_zero_lighter
