-- The laws of the chosen encoding.
use Rattle.std.specs.Prelude.{◌≡◌, ℕ, suc, ◌%◌, ◌^◌, ◌<◌, ◌≤◌, Bool, true, false, List, [], ◌∷◌, ◌++◌, length, take, drop, ◌+◌}
use Rattle.std.specs.Prelude.{Ok, All, if◌then◌else◌}
use Rattle.fax_bits.specs.declared.settings.EncodingMode.{EncodingMode}
use Rattle.fax_bits.specs.declared.settings.EncodingMode.TheVariants.{Group4, Group3_1D, Group3_2D}
use Rattle.fax_bits.specs.declared.settings.DecodeSettings.{DecodeSettings}
use Rattle.fax_reading.specs.Answers.{meaning_after}
use Rattle.fax_bits.specs.Bits.{Bits, AreWholeBytes, bits_in, bits_of}
use Rattle.fax_reading.specs.Locality.{EndAlike}
use Rattle.fax_reading.specs.LocalityByK.{IsTaggedBody, RowsDiffer}
use Rattle.fax_reading.specs.Rows.{Row, HaveWidth, white_row, pixels}
use Rattle.fax_reading.specs.Encodings.{IsPicture, PictureT6, PictureT4, EncodesLine1D, EncodesLine2D, EncodesRows}
use Rattle.fax_reading.specs.Encodings.{EncodesLine, EncodesRowsWithEols, eol, padding, tag_of}
use Rattle.fax_reading.specs.Encodings.{ClosesWithEols}
use Rattle.fax_bits.specs.declared.bit_reader.BitOrder.TheVariants.{HighestFirst}
use Rattle.fax_reading.specs.PlainReading.{plain}
use Rattle.fax_encode.specs.Chosen.{chosen_t6, chosen_t4, filled_up, rows_of}
use Rattle.fax_encode.specs.Packed.{packed, shown, with_packed_row}
use Rattle.fax_encode.specs.Chosen.{AreRows}
use Rattle.fax_encode.specs.RowByRow.{no_rows, with_rows}
use Rattle.fax_encode.specs.declared.settings.Effort.{Effort}
use Rattle.fax_encode.specs.declared.settings.Effort.TheVariants.{Procedure, Shortest}
use Rattle.fax_bits.specs.declared.codes.Color.TheVariants.{White}
use Rattle.fax_encode.specs.declared.settings.EncodeSettings.{EncodeSettings}
use Rattle.fax_encode.specs.Settings.{chosen, chosen_line, chosen_lines, chosen_lines_with_eols, chosen_eols, fill_of, needs_row}
use Rattle.fax_encode.specs.Settings.{left_after, line_1d, with_end, decode_settings_for}

-- what is chosen for a picture is an encoding of it
abbrev pub ChosenIsAnEncoding : Type 0
ChosenIsAnEncoding = (columns : ℕ) (rows : List Row) → IsPicture columns rows
    → ((aligned : Bool) → PictureT6 columns aligned rows (chosen_t6 columns aligned rows))
    × (0 < length rows → PictureT4 Group3_1D columns rows (chosen_t4 rows))

-- settings that look for the end of the block and have no row limit
pub record ReadToTheEnd (settings : DecodeSettings) (columns : ℕ) : Type 0 where
  pub columns_are : settings.columns ≡ columns
  pub end_of_block : settings.end_of_block ≡ true
  pub no_limit : settings.rows ≡ 0

-- Bytes of the chosen T.6 picture are read as its rows, all of them.
abbrev pub RoundTripT6 : Type 0
RoundTripT6 = (settings : DecodeSettings) (columns : ℕ) (lists : List (List ℕ)) (bytes : List ℕ)
    → 0 < columns → columns < 2 ^ 32 → AreRows columns lists → ReadToTheEnd settings columns → settings.encoding ≡ Group4
    → bits_of bytes ≡ filled_up (chosen_t6 columns settings.rows_are_byte_aligned (rows_of columns lists))
    → plain settings (bits_of bytes) ≡ record { rows = rows_of columns lists; outcome = Ok (length bytes); has_eols = false }

-- Bytes of the chosen T.4 picture are read as its rows, all of them.
abbrev pub RoundTripT4 : Type 0
RoundTripT4 = (settings : DecodeSettings) (columns : ℕ) (lists : List (List ℕ)) (bytes : List ℕ)
    → 0 < columns → columns < 2 ^ 32 → 0 < length lists → AreRows columns lists → ReadToTheEnd settings columns
    → settings.encoding ≡ Group3_1D
    → bits_of bytes ≡ filled_up (chosen_t4 (rows_of columns lists))
    → plain settings (bits_of bytes) ≡ record { rows = rows_of columns lists; outcome = Ok (length bytes); has_eols = true }

-- Rows of the width that are packed one by one are appended to what was packed before.
abbrev pub RowsArePacked : Type 0
RowsArePacked = (columns : ℕ) (bits : Bits) (rows : List Row) → HaveWidth columns rows
    → meaning_after (with_packed_row columns) bits rows ≡ bits ++ packed rows

-- A bitmap of packed rows shows those rows.
abbrev pub PackedIsShown : Type 0
PackedIsShown = (columns : ℕ) (rows : List Row) (bitmap : List ℕ) → IsPicture columns rows → bits_of bitmap ≡ packed rows
    → shown columns bitmap ≡ rows

-- Bytes of the chosen T.6 picture of a bitmap are read as the rows that it shows, all of them.
abbrev pub BitmapRoundTripT6 : Type 0
BitmapRoundTripT6 = (settings : DecodeSettings) (columns : ℕ) (bitmap bytes : List ℕ)
    → 0 < columns → columns < 2 ^ 32 → ReadToTheEnd settings columns → settings.encoding ≡ Group4
    → bits_of bytes ≡ filled_up (chosen_t6 columns settings.rows_are_byte_aligned (shown columns bitmap))
    → plain settings (bits_of bytes) ≡ record { rows = shown columns bitmap; outcome = Ok (length bytes); has_eols = false }

-- Bytes of the chosen T.4 picture of a bitmap are read as the rows that it shows, all of them.
abbrev pub BitmapRoundTripT4 : Type 0
BitmapRoundTripT4 = (settings : DecodeSettings) (columns : ℕ) (bitmap bytes : List ℕ)
    → 0 < columns → columns < 2 ^ 32 → 0 < length (shown columns bitmap) → ReadToTheEnd settings columns
    → settings.encoding ≡ Group3_1D
    → bits_of bytes ≡ filled_up (chosen_t4 (shown columns bitmap))
    → plain settings (bits_of bytes) ≡ record { rows = shown columns bitmap; outcome = Ok (length bytes); has_eols = true }

-- ---- by settings

-- the chosen lines encode the rows, with EOLs and without, and the chosen end is the end of a block
abbrev pub ChosenLinesEncode : Type 0
ChosenLinesEncode = (effort : Effort) (encoding : EncodingMode) (columns k : ℕ) (rows : List Row) → IsPicture columns rows
    → ((aligned : Bool)
    → EncodesRows encoding aligned (white_row columns) rows (chosen_lines effort encoding k aligned 0 (white_row columns) rows))
    × ((fills : Bool) → EncodesRowsWithEols encoding (white_row columns) rows
    (chosen_lines_with_eols effort encoding k fills 0 0 (white_row columns) rows))
    × ((fills : Bool) (at : ℕ) → ClosesWithEols encoding 6 (chosen_eols encoding fills at 6))

-- a line of two-dimensional Group 3 has no more bits than the one-dimensional line and its tag
abbrev pub NeverLonger : Type 0
NeverLonger =
    (effort : Effort) (left : ℕ) (reference row : Row) → length (chosen_line effort Group3_2D left reference row) ≤ suc
    (length (line_1d effort row))

-- auxiliary: the reading of some data yields these rows, without a fault, and this number of bytes is consumed
abbrev pub GivesAll : DecodeSettings → Bits → List Row → ℕ → Type 0
GivesAll settings whole rows count = ((plain settings whole).rows ≡ rows) × ((plain settings whole).outcome ≡ Ok count)

-- What is chosen for a picture, by any settings, is read as its rows by the matching settings.
abbrev pub ChosenIsRead : Type 0
ChosenIsRead = (settings : EncodeSettings) (columns : ℕ) (rows : List Row) (bytes : List ℕ)
    → columns < 2 ^ 32 → length rows < 2 ^ 32 → (needs_row settings.encoding settings.end_of_block ≡ true → 0 < length rows)
    → IsPicture columns rows
    → bits_in settings.order bytes ≡ filled_up (chosen settings columns rows)
    → GivesAll (decode_settings_for settings columns (length rows)) (bits_in settings.order bytes) rows (length bytes)

-- Bytes of what is chosen for a picture, for all settings, are those of what is chosen for the rows that they are read as.
abbrev pub ChosenComesBack : Type 0
ChosenComesBack = (settings : EncodeSettings) (columns : ℕ) (rows : List Row) (bytes again : List ℕ)
    → columns < 2 ^ 32 → length rows < 2 ^ 32 → (needs_row settings.encoding settings.end_of_block ≡ true → 0 < length rows)
    → IsPicture columns rows
    → All (λ byte. byte < 256) bytes → All (λ byte. byte < 256) again
    → bits_in settings.order bytes ≡ filled_up (chosen settings columns rows)
    → bits_in settings.order again ≡ filled_up
    (chosen settings columns (plain (decode_settings_for settings columns (length rows)) (bits_in settings.order bytes)).rows)
    → again ≡ bytes

-- What is encoded row by row, with what follows the lines, is what is chosen for all rows.
abbrev pub RowsAreChosen : Type 0
RowsAreChosen = (settings : EncodeSettings) (columns : ℕ) (rows : List Row)
    → with_end settings (with_rows (no_rows settings columns) rows).lines ≡ chosen settings columns rows

-- what is chosen for T.6 and for one-dimensional T.4 is also what is chosen by settings
abbrev pub ChosenBySettings : Type 0
ChosenBySettings = (columns k : ℕ) (rows : List Row)
    → ((aligned : Bool) → chosen (record {
      encoding = Group4;
      k = k;
      end_of_line = false;
      eols_end_at_bytes = false;
      rows_are_byte_aligned = aligned;
      end_of_block = true;
      order = HighestFirst;
      effort = Procedure;
    }) columns rows ≡ chosen_t6 columns aligned rows)
    × (chosen (record {
      encoding = Group3_1D;
      k = k;
      end_of_line = true;
      eols_end_at_bytes = false;
      rows_are_byte_aligned = false;
      end_of_block = true;
      order = HighestFirst;
      effort = Procedure;
    }) columns rows ≡ chosen_t4 rows)

-- ---- the fewest bits

-- A line of two-dimensional Group 3 that may be two-dimensional, with the effort `Shortest`, has no more bits than any modes that
-- encode its row, and the tag (T.4, 4.2.1.3 and 4.2.2).
abbrev pub NoLineIsShorter : Type 0
NoLineIsShorter = (left : ℕ) (reference row : Row) (bits : Bits) → length reference ≡ length row
    → EncodesLine2D reference row 0 White bits
    → length (chosen_line Shortest Group3_2D (suc left) reference row) ≤ suc (length bits)

-- A line of one-dimensional Group 3, with the effort `Shortest`, has no more bits than any that encodes its row (T.4, 4.1.1).
abbrev pub NoRunsAreShorter : Type 0
NoRunsAreShorter = (left : ℕ) (reference row : Row) (bits : Bits) → 0 < length row → EncodesLine1D White row bits
    → length (chosen_line Shortest Group3_1D left reference row) ≤ length bits

-- Lines that encode these rows, each filled up to a whole byte if they are aligned, in two-dimensional Group 3 each with the tag
-- of the line that is chosen with the effort `Shortest` (T.4, 4.1.1, 4.2.1 and 4.2.2; T.6, 2.2).
abbrev pub EncodesInKinds : EncodingMode → ℕ → Bool → ℕ → Row → List Row → Bits → Type 0
EncodesInKinds encoding k aligned left reference [] bits = bits ≡ []
EncodesInKinds encoding k aligned left reference (row ∷ rows) bits = (line next : Bits) × EncodesLine encoding reference row line
    × (take (length (tag_of encoding)) line ≡ take (length (tag_of encoding)) (chosen_line Shortest encoding left reference row))
    × EncodesInKinds encoding k aligned (left_after Shortest encoding k left reference row) row rows next
    × (bits ≡ line ++ (if aligned then padding (length line) else []) ++ next)

-- Such lines after this number of bits, an EOL before each, which ends at a whole byte if each EOL does (T.4, 4.1.2 and 4.1.3).
abbrev pub EncodesInKindsWithEols : EncodingMode → ℕ → Bool → ℕ → ℕ → Row → List Row → Bits → Type 0
EncodesInKindsWithEols encoding k fills at left reference [] bits = bits ≡ []
EncodesInKindsWithEols encoding k fills at left reference (row ∷ rows) bits = (fill : ℕ) × (line next : Bits)
    × (fills ≡ true → (at + 12 + fill) % 8 ≡ 0)
    × EncodesLine encoding reference row line
    × (take (length (tag_of encoding)) line ≡ take (length (tag_of encoding)) (chosen_line Shortest encoding left reference row))
    × EncodesInKindsWithEols encoding k fills (at + 12 + fill + length line)
    (left_after Shortest encoding k left reference row) row rows next
    × (bits ≡ eol fill ++ line ++ next)

-- Any lines that encode these rows by settings: with an EOL before each or without EOLs, with EOLs that end at whole bytes or
-- with any fill, aligned or not. In two-dimensional Group 3 each is of the kind of the line that is chosen with the effort
-- `Shortest` (T.4, 4.1 and 4.2; T.6, 2).
abbrev pub EncodesAlike : EncodingMode → Bool → ℕ → Bool → Bool → Row → List Row → Bits → Type 0
EncodesAlike Group4 eols k fills aligned white rows lines = EncodesRows Group4 aligned white rows lines
EncodesAlike Group3_1D false k fills aligned white rows lines = EncodesRows Group3_1D aligned white rows lines
EncodesAlike Group3_1D true k false aligned white rows lines = EncodesRowsWithEols Group3_1D white rows lines
EncodesAlike Group3_1D true k true aligned white rows lines = EncodesInKindsWithEols Group3_1D k true 0 0 white rows lines
EncodesAlike Group3_2D false k fills aligned white rows lines = EncodesInKinds Group3_2D k aligned 0 white rows lines
EncodesAlike Group3_2D true k fills aligned white rows lines = EncodesInKindsWithEols Group3_2D k fills 0 0 white rows lines

-- What is chosen for a picture with the effort `Shortest`, by any settings, has no more bits than any lines that encode its rows
-- by the same settings, with the same end (T.4, 4; T.6, 2).
abbrev pub NoneIsShorter : Type 0
NoneIsShorter = (settings : EncodeSettings) (columns : ℕ) (rows : List Row) (lines : Bits) → IsPicture columns rows
    → settings.effort ≡ Shortest
    → EncodesAlike settings.encoding settings.end_of_line settings.k settings.eols_end_at_bytes settings.rows_are_byte_aligned
    (white_row columns) rows lines
    → length (chosen settings columns rows) ≤ length (with_end settings lines)

-- ---- damage

-- the lenient settings that read what is chosen for this number of rows
abbrev pub lenient_settings_for : EncodeSettings → ℕ → ℕ → DecodeSettings
lenient_settings_for settings columns rows = record (decode_settings_for settings columns rows) { strict = false }

-- where the tag of the line after these rows stands: after their lines and an EOL (T.4, 4.1.2 and 4.2.2)
abbrev pub tag_after : EncodeSettings → ℕ → List Row → ℕ
tag_after settings columns rows =
    length (with_rows (no_rows settings columns) rows).lines
    + (12 + fill_of settings.eols_end_at_bytes (length (with_rows (no_rows settings columns) rows).lines))

-- where the line of a row after these rows ends
abbrev pub line_end : EncodeSettings → ℕ → List Row → Row → ℕ
line_end settings columns rows row =
    tag_after settings columns rows
    + length (chosen_line settings.effort settings.encoding (with_rows (no_rows settings columns) rows).left
    (with_rows (no_rows settings columns) rows).last row)

-- two inputs differ only within a line of the first one, up to an EOL in both; in the second one a line is there too
abbrev pub DamagedLine : DecodeSettings → Bits → Bits → ℕ → ℕ → ℕ → Type 0
DamagedLine settings one two from to to2 = (take from one ≡ take from two) × (drop to one ≡ drop to2 two)
    × IsTaggedBody settings two from to2

-- their rows are equal except at most this number of them, from that line on, and both readings end alike
abbrev pub ChangesAtMost : DecodeSettings → Bits → Bits → ℕ → ℕ → Type 0
ChangesAtMost settings one two from count = RowsDiffer settings one two from count (plain settings one).rows
    (plain settings two).rows
    × EndAlike settings one two from count (plain settings one).rows (plain settings one).outcome (plain settings two).outcome

-- In what is chosen as two-dimensional Group 3 with EOLs and RTC, damage within one line changes at most K rows: whatever
-- replaces the tag and body of the line of a row, if it is such a line too, as it is read (T.4, 4.2.1).
abbrev pub DamageReachesKRows : Type 0
DamageReachesKRows = (settings : EncodeSettings) (columns : ℕ) (before later : List Row) (row : Row) (two : Bits) (to2 : ℕ)
    → settings.encoding ≡ Group3_2D → settings.end_of_line ≡ true → settings.end_of_block ≡ true → 0 < settings.k
    → columns < 2 ^ 32 → IsPicture columns (before ++ row ∷ later) → AreWholeBytes two
    → DamagedLine (lenient_settings_for settings columns 0) (filled_up (chosen settings columns (before ++ row ∷ later))) two
    (tag_after settings columns before) (line_end settings columns before row) to2
    → ChangesAtMost (lenient_settings_for settings columns 0) (filled_up (chosen settings columns (before ++ row ∷ later))) two
    (tag_after settings columns before) settings.k

-- auxiliary: the bytes of what is chosen for rows of eight columns
abbrev pub IsWritten : EncodeSettings → List Row → List ℕ → Type 0
IsWritten settings rows bytes = filled_up (chosen settings 8 rows) ≡ bits_of bytes

-- Two white rows as two-dimensional Group 3 with RTC, the second against the first: 00 1C C0 05 00 18 00 C0 06 00 30 01 80 0C.
-- A row that is black from 3 to 5, twice as one-dimensional Group 3 with aligned rows: 8E 00 8E 00. Two white rows of it with
-- EOLs that end at whole bytes: 00 01 98 00 01 98. The row as Group 4 without EOFB: 31 C0 (T.4, 4.1 and 4.2; T.6, 2.2).
abbrev pub WorkedSettings : Type 0
WorkedSettings = IsWritten (record {
  encoding = Group3_2D;
  k = 2;
  end_of_line = true;
  eols_end_at_bytes = false;
  rows_are_byte_aligned = false;
  end_of_block = true;
  order = HighestFirst;
  effort = Procedure;
}) (white_row 8 ∷ white_row 8 ∷ []) (0 ∷ 28 ∷ 192 ∷ 5 ∷ 0 ∷ 24 ∷ 0 ∷ 192 ∷ 6 ∷ 0 ∷ 48 ∷ 1 ∷ 128 ∷ 12 ∷ [])
    × IsWritten (record {
      encoding = Group3_1D;
      k = 1;
      end_of_line = false;
      eols_end_at_bytes = false;
      rows_are_byte_aligned = true;
      end_of_block = false;
      order = HighestFirst;
      effort = Procedure;
    }) (pixels 8 (3 ∷ 5 ∷ []) ∷ pixels 8 (3 ∷ 5 ∷ []) ∷ []) (142 ∷ 0 ∷ 142 ∷ 0 ∷ [])
    × IsWritten (record {
      encoding = Group3_1D;
      k = 1;
      end_of_line = true;
      eols_end_at_bytes = true;
      rows_are_byte_aligned = false;
      end_of_block = false;
      order = HighestFirst;
      effort = Procedure;
    }) (white_row 8 ∷ white_row 8 ∷ []) (0 ∷ 1 ∷ 152 ∷ 0 ∷ 1 ∷ 152 ∷ [])
    × IsWritten (record {
      encoding = Group4;
      k = 1;
      end_of_line = false;
      eols_end_at_bytes = false;
      rows_are_byte_aligned = false;
      end_of_block = false;
      order = HighestFirst;
      effort = Procedure;
    }) (pixels 8 (3 ∷ 5 ∷ []) ∷ []) (49 ∷ 192 ∷ [])
