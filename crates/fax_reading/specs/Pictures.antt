-- Pictures at the start of the data, in the terms of the reading.
use Rattle.std.specs.Prelude.{◌≡◌, ◌≢◌, ℕ, ◌+◌, ◌-◌, ◌/◌, ◌<◌, ◌≤◌, ◌⊎◌, true, false, List, ◌++◌, length}
use Rattle.fax_bits.specs.declared.settings.EncodingMode.TheVariants.{Group4}
use Rattle.fax_bits.specs.declared.settings.DecodeSettings.{DecodeSettings}
use Rattle.fax_bits.specs.Bits.{Bits, IsPrefix}
use Rattle.fax_reading.specs.Rows.{Row, white_row}
use Rattle.fax_reading.specs.Encodings.{EncodesRows, EncodesRowsWithEols, ClosesWithEols, IsPicture, PictureT6}
use Rattle.fax_reading.specs.PlainReading.{eols_here}

-- auxiliary: the row limit, if there is one, isn't below this number
abbrev pub Allows : DecodeSettings → ℕ → Type 0
Allows settings n = (settings.rows ≡ 0) ⊎ (n ≤ settings.rows)

-- ---- Closed pictures

-- The data begins with a T.6 encoding of these rows, closed by EOFB, in these bits; the settings look for EOFB and
-- allow as many rows (T.6, 2.4.1.1).
pub record BeginsWithPictureT6 (settings : DecodeSettings) (rows : List Row) (bits whole : Bits) : Type 0 where
  pub encoding : settings.encoding ≡ Group4
  pub end_of_block : settings.end_of_block ≡ true
  pub limit : Allows settings (length rows)
  pub picture : PictureT6 settings.columns settings.rows_are_byte_aligned rows bits
  pub begins : IsPrefix bits whole

-- The data begins with T.4 lines of these rows, an EOL before each, and with RTC after them; the settings look for RTC
-- and allow as many rows (T.4, 4.1.4 and 4.2.4).
pub record BeginsWithPictureT4 (settings : DecodeSettings) (rows : List Row) (bits after whole : Bits) : Type 0 where
  pub encoding : settings.encoding ≢ Group4
  pub end_of_block : settings.end_of_block ≡ true
  pub limit : Allows settings (length rows)
  pub some : 0 < length rows
  pub picture : IsPicture settings.columns rows
  pub lines : EncodesRowsWithEols settings.encoding (white_row settings.columns) rows bits
  pub closing : (closing : Bits) × ClosesWithEols settings.encoding 6 closing × IsPrefix closing after
  pub begins : whole ≡ bits ++ after

-- The data begins with a closed picture of these rows that occupies this number of bytes, the last one rounded up (T.4,
-- 4.1.4 and 4.2.4; T.6, 2.4.1.1).
pub data IsClosedPicture (settings : DecodeSettings) (rows : List Row) (count : ℕ) (whole : Bits) : Type 0 where
  -- in T.6 up to the end of EOFB (T.6, 2.4.1.1)
  by_eofb : (bits : Bits) → BeginsWithPictureT6 settings rows bits whole → count ≡ (length bits + 7) / 8
      → IsClosedPicture settings rows count whole
  -- in T.4 up to the end of all the EOLs where the last line ends, RTC being the first six (T.4, 4.1.4 and 4.2.4)
  by_rtc : (bits after : Bits) → BeginsWithPictureT4 settings rows bits after whole
      → count ≡ (length whole - length (eols_here settings after).1 + 7) / 8 → IsClosedPicture settings rows count whole

-- ---- Pictures that the row limit ends

-- The data begins with T.6 lines of these rows, in these bits, and the row limit is their number (T.6, 2.2).
pub record BeginsWithRowsT6 (settings : DecodeSettings) (rows : List Row) (bits whole : Bits) : Type 0 where
  pub encoding : settings.encoding ≡ Group4
  pub limit : settings.rows ≡ length rows
  pub some : 0 < length rows
  pub picture : IsPicture settings.columns rows
  pub lines : EncodesRows Group4 settings.rows_are_byte_aligned (white_row settings.columns) rows bits
  pub begins : IsPrefix bits whole

-- The data begins with T.4 lines of these rows, without EOLs, in these bits; the settings have no EOLs, and the row limit
-- is the number of rows (T.4, 4.1.1 and 4.2.1).
pub record BeginsWithRowsT4 (settings : DecodeSettings) (rows : List Row) (bits whole : Bits) : Type 0 where
  pub encoding : settings.encoding ≢ Group4
  pub end_of_line : settings.end_of_line ≡ false
  pub limit : settings.rows ≡ length rows
  pub some : 0 < length rows
  pub picture : IsPicture settings.columns rows
  pub lines : EncodesRows settings.encoding settings.rows_are_byte_aligned (white_row settings.columns) rows bits
  pub begins : IsPrefix bits whole

-- The data begins with T.4 lines of these rows, an EOL before each, in these bits, and the row limit is their number
-- (T.4, 4.1.2).
pub record BeginsWithRowsAndEolsT4 (settings : DecodeSettings) (rows : List Row) (bits whole : Bits) : Type 0 where
  pub encoding : settings.encoding ≢ Group4
  pub limit : settings.rows ≡ length rows
  pub some : 0 < length rows
  pub picture : IsPicture settings.columns rows
  pub lines : EncodesRowsWithEols settings.encoding (white_row settings.columns) rows bits
  pub begins : IsPrefix bits whole

-- The data begins with the lines of these rows, of any kind, and the row limit is their number (T.4, 4.1.1, 4.1.2 and
-- 4.2.1; T.6, 2.2).
pub data IsLimitedPicture (settings : DecodeSettings) (rows : List Row) (whole : Bits) : Type 0 where
  -- T.6 (T.6, 2.2)
  of_t6 : (bits : Bits) → BeginsWithRowsT6 settings rows bits whole → IsLimitedPicture settings rows whole
  -- T.4 without EOLs (T.4, 4.1.1 and 4.2.1)
  of_t4 : (bits : Bits) → BeginsWithRowsT4 settings rows bits whole → IsLimitedPicture settings rows whole
  -- T.4 with an EOL before each line (T.4, 4.1.2)
  of_t4_with_eols : (bits : Bits) → BeginsWithRowsAndEolsT4 settings rows bits whole → IsLimitedPicture settings rows whole
