-- The encoding that is chosen, by settings (T.4, 4.1 and 4.2; T.6, 2.2).
use Rattle.std.specs.Prelude.{◌≡◌, ℕ, zero, suc, ◌+◌, ◌-◌, ◌%◌, Bool, true, false, not, ◌&&◌, nat_le, nat_lt, List, [], ◌∷◌, ◌++◌}
use Rattle.std.specs.Prelude.{length, if◌then◌else◌}
use Rattle.fax_bits.specs.declared.settings.EncodingMode.{EncodingMode}
use Rattle.fax_bits.specs.declared.settings.EncodingMode.TheVariants.{Group4, Group3_1D, Group3_2D}
use Rattle.fax_bits.specs.declared.settings.DecodeSettings.{DecodeSettings}
use Rattle.fax_bits.specs.declared.bit_reader.BitOrder.TheVariants.{HighestFirst}
use Rattle.fax_bits.specs.Bits.{Bits}
use Rattle.fax_reading.specs.Rows.{Row, white_row}
use Rattle.fax_reading.specs.Encodings.{padding, eol, tag_of}
use Rattle.fax_encode.specs.declared.settings.EncodeSettings.{EncodeSettings}
use Rattle.fax_encode.specs.declared.settings.Effort.{Effort}
use Rattle.fax_encode.specs.declared.settings.Effort.TheVariants.{Procedure, Shortest}
use Rattle.fax_encode.specs.Chosen.{chosen_line_1d, chosen_line_2d}
use Rattle.fax_encode.specs.Shortest.{shortest_line_1d, shortest_line_2d}
use Rattle.fax_encode.specs.Writing.{Written, all_bits}

-- ---- settings that name an encoding

-- whether settings of Group 3 name an encoding, whatever K is: with EOLs no line is filled up to a whole byte; without them
-- there is no fill before them (T.4, 4.1.3), and no RTC, which is EOLs (T.4, 4.1.4)
abbrev pub names_group3 : Bool → Bool → Bool → Bool → Bool
names_group3 true fills aligned closed = not aligned
names_group3 false fills aligned closed = not fills && not closed

-- Whether the settings of an encoding name one that exists: Group 4 has no EOLs before its lines, and so no fill (T.6, 2.2);
-- and K of two-dimensional Group 3 counts the one-dimensional line (T.4, 4.2.1).
abbrev pub is_encoding : EncodingMode → Bool → ℕ → Bool → Bool → Bool → Bool
is_encoding Group4 eols k fills aligned closed = not eols && not fills
is_encoding Group3_1D eols k fills aligned closed = names_group3 eols fills aligned closed
is_encoding Group3_2D eols k fills aligned closed = nat_lt 0 k && names_group3 eols fills aligned closed

-- whether settings name an encoding
abbrev pub names_encoding : EncodeSettings → Bool
names_encoding settings =
    is_encoding settings.encoding settings.end_of_line settings.k settings.eols_end_at_bytes settings.rows_are_byte_aligned
    settings.end_of_block

-- whether a picture needs a row: only EOFB encodes a picture without rows (T.6, 2.4.1.1)
abbrev pub needs_row : EncodingMode → Bool → Bool
needs_row Group4 closed = not closed
needs_row Group3_1D closed = true
needs_row Group3_2D closed = true

-- ---- one line

-- a one-dimensional line, by the words that T.4 prescribes or by the shortest ones (T.4, 4.1.1)
abbrev pub line_1d : Effort → Row → Bits
line_1d Procedure row = chosen_line_1d row
line_1d Shortest row = shortest_line_1d row

-- a two-dimensional line, by the procedure of T.6 or as short as it can be (T.4, 4.2.1.3.2; T.6, 2.2)
abbrev pub line_2d : Effort → Row → Row → Bits
line_2d Procedure reference row = chosen_line_2d reference row
line_2d Shortest reference row = shortest_line_2d reference row

-- Whether a line of Group 3 is two-dimensional, if `left` more may be: if it is no longer than the one-dimensional line (T.4,
-- 4.2.1).
abbrev pub is_two_dimensional : Effort → ℕ → Row → Row → Bool
is_two_dimensional effort zero reference row = false
is_two_dimensional effort (suc left) reference row = nat_le (length (line_2d effort reference row)) (length (line_1d effort row))

-- a line, if `left` more may be two-dimensional; in two-dimensional Group 3 after its tag (T.4, 4.2.2)
abbrev pub chosen_line : Effort → EncodingMode → ℕ → Row → Row → Bits
chosen_line effort Group4 left reference row = line_2d effort reference row
chosen_line effort Group3_1D left reference row = line_1d effort row
chosen_line effort Group3_2D left reference row =
    if is_two_dimensional effort left reference row then false ∷ line_2d effort reference row else true ∷ line_1d effort row

-- how many lines after a line may be two-dimensional: K - 1 after a one-dimensional one (T.4, 4.2.1). They are counted only in
-- two-dimensional Group 3.
abbrev pub left_after : Effort → EncodingMode → ℕ → ℕ → Row → Row → ℕ
left_after effort Group4 k left reference row = 0
left_after effort Group3_1D k left reference row = 0
left_after effort Group3_2D k left reference row = if is_two_dimensional effort left reference row then left - 1 else k - 1

-- ---- lines

-- lines without EOLs, each filled up to a whole byte if they are aligned (T.4, 4.1.1 and 4.2.1; T.6, 2.2)
abbrev pub chosen_lines : Effort → EncodingMode → ℕ → Bool → ℕ → Row → List Row → Bits
chosen_lines effort encoding k aligned left reference [] = []
chosen_lines effort encoding k aligned left reference (row ∷ rows) =
    chosen_line effort encoding left reference row
    ++ (if aligned then padding (length (chosen_line effort encoding left reference row)) else [])
    ++ chosen_lines effort encoding k aligned (left_after effort encoding k left reference row) row rows

-- the number of zeros of fill of an EOL that begins after this number of bits, if it ends at a whole byte (T.4, 4.1.3)
abbrev pub fill_of : Bool → ℕ → ℕ
fill_of fills at = if fills then (8 - (at + 12) % 8) % 8 else 0

-- lines after this number of bits, an EOL before each (T.4, 4.1.2)
abbrev pub chosen_lines_with_eols : Effort → EncodingMode → ℕ → Bool → ℕ → ℕ → Row → List Row → Bits
chosen_lines_with_eols effort encoding k fills at left reference [] = []
chosen_lines_with_eols effort encoding k fills at left reference (row ∷ rows) =
    eol (fill_of fills at) ++ chosen_line effort encoding left reference row
    ++ chosen_lines_with_eols effort encoding k fills (at + 12 + fill_of fills at + length
    (chosen_line effort encoding left reference row))
    (left_after effort encoding k left reference row) row rows

-- this number of EOLs after this number of bits, each with its tag: six are RTC (T.4, 4.1.4 and 4.2.4)
abbrev pub chosen_eols : EncodingMode → Bool → ℕ → ℕ → Bits
chosen_eols encoding fills at zero = []
chosen_eols encoding fills at (suc n) =
    eol (fill_of fills at) ++ tag_of encoding ++ chosen_eols encoding fills
    (at + 12 + fill_of fills at + length (tag_of encoding)) n

-- ---- lines one by one

-- whether EOLs precede the lines
abbrev pub has_eols : EncodingMode → Bool → Bool
has_eols Group4 eols = false
has_eols Group3_1D eols = eols
has_eols Group3_2D eols = eols

-- a line after this number of bits, with what belongs to it: the EOL before it, or zeros up to a whole byte if lines are
-- aligned
abbrev pub chosen_part : EncodeSettings → ℕ → ℕ → Row → Row → Bits
chosen_part settings at left reference row =
    if has_eols settings.encoding settings.end_of_line
    then eol (fill_of settings.eols_end_at_bytes at) ++ chosen_line settings.effort settings.encoding left reference row
    else chosen_line settings.effort settings.encoding left reference row
    ++ (if settings.rows_are_byte_aligned then padding (length
    (chosen_line settings.effort settings.encoding left reference row)) else [])

-- the lines of rows after this number of bits, with EOLs or without
abbrev pub lines_by : Bool → EncodeSettings → ℕ → ℕ → Row → List Row → Bits
lines_by true settings at left reference rows =
    chosen_lines_with_eols settings.effort settings.encoding settings.k settings.eols_end_at_bytes at left reference rows
lines_by false settings at left reference rows =
    chosen_lines settings.effort settings.encoding settings.k settings.rows_are_byte_aligned left reference rows

abbrev pub lines_left : EncodeSettings → ℕ → ℕ → Row → List Row → Bits
lines_left settings at left reference rows =
    lines_by (has_eols settings.encoding settings.end_of_line) settings at left reference rows

-- what follows the lines, after this number of bits: EOFB or RTC if the picture is closed
abbrev pub chosen_end : EncodingMode → Bool → Bool → Bool → ℕ → Bits
chosen_end Group4 eols fills closed at = if closed then eol 0 ++ eol 0 else []
chosen_end Group3_1D eols fills closed at = if eols && closed then chosen_eols Group3_1D fills at 6 else []
chosen_end Group3_2D eols fills closed at = if eols && closed then chosen_eols Group3_2D fills at 6 else []

-- lines, and what follows them
abbrev pub with_end : EncodeSettings → Bits → Bits
with_end settings lines =
    lines ++ chosen_end settings.encoding settings.end_of_line settings.eols_end_at_bytes settings.end_of_block (length lines)

-- ---- pictures

-- a picture of Group 3 with EOLs: its lines, and RTC if it is closed (T.4, 4.1.2 and 4.1.4)
abbrev pub chosen_with_eols : Effort → EncodingMode → ℕ → Bool → Bool → Row → List Row → Bits
chosen_with_eols effort encoding k fills closed white rows =
    chosen_lines_with_eols effort encoding k fills 0 0 white rows
    ++ (if closed then chosen_eols encoding fills (length
    (chosen_lines_with_eols effort encoding k fills 0 0 white rows)) 6 else [])

-- a picture of Group 4: its lines, and EOFB if it is closed (T.6, 2.4.1.1)
abbrev pub chosen_group4 : Effort → ℕ → Bool → Bool → Row → List Row → Bits
chosen_group4 effort k aligned closed white rows = chosen_lines effort Group4 k aligned 0 white rows
    ++ (if closed then eol 0 ++ eol 0 else [])

-- a picture of Group 3, with EOLs or without
abbrev pub chosen_group3 : Effort → EncodingMode → Bool → ℕ → Bool → Bool → Bool → Row → List Row → Bits
chosen_group3 effort encoding true k fills aligned closed white rows = chosen_with_eols effort encoding k fills closed white rows
chosen_group3 effort encoding false k fills aligned closed white rows = chosen_lines effort encoding k aligned 0 white rows

-- a picture of any kind
abbrev pub chosen_picture : Effort → EncodingMode → Bool → ℕ → Bool → Bool → Bool → Row → List Row → Bits
chosen_picture effort Group4 eols k fills aligned closed white rows =
    chosen_group4 effort k aligned closed white rows
chosen_picture effort Group3_1D eols k fills aligned closed white rows =
    chosen_group3 effort Group3_1D eols k fills aligned closed white rows
chosen_picture effort Group3_2D eols k fills aligned closed white rows =
    chosen_group3 effort Group3_2D eols k fills aligned closed white rows

-- What is chosen for a picture, by settings. The first line is one-dimensional in two-dimensional Group 3 (T.4, 4.2.1).
abbrev pub chosen : EncodeSettings → ℕ → List Row → Bits
chosen settings columns rows =
    chosen_picture settings.effort settings.encoding settings.end_of_line settings.k settings.eols_end_at_bytes
    settings.rows_are_byte_aligned settings.end_of_block (white_row columns) rows

-- ---- the settings of closed pictures

-- Group 4 with EOFB (T.6, 2.4.1.1)
abbrev pub group4_settings : Bool → EncodeSettings
group4_settings aligned = record {
  encoding = Group4;
  k = 1;
  end_of_line = false;
  eols_end_at_bytes = false;
  rows_are_byte_aligned = aligned;
  end_of_block = true;
  order = HighestFirst;
  effort = Procedure;
}

-- one-dimensional Group 3 with EOLs and RTC (T.4, 4.1)
abbrev pub group3_settings : EncodeSettings
group3_settings = record {
  encoding = Group3_1D;
  k = 1;
  end_of_line = true;
  eols_end_at_bytes = false;
  rows_are_byte_aligned = false;
  end_of_block = true;
  order = HighestFirst;
  effort = Procedure;
}

-- ---- settings that read it

-- whether an end of the block follows the lines
abbrev pub is_closed : EncodingMode → Bool → Bool → Bool
is_closed Group4 eols closed = closed
is_closed Group3_1D eols closed = eols && closed
is_closed Group3_2D eols closed = eols && closed

-- the strict settings that read what is chosen for this number of rows: up to its end of the block, or else up to that many
-- rows
abbrev pub decode_settings_for : EncodeSettings → ℕ → ℕ → DecodeSettings
decode_settings_for settings columns rows = record {
  columns = columns;
  rows = if is_closed settings.encoding settings.end_of_line settings.end_of_block then 0 else rows;
  end_of_block = is_closed settings.encoding settings.end_of_line settings.end_of_block;
  end_of_line = settings.end_of_line;
  rows_are_byte_aligned = settings.rows_are_byte_aligned;
  encoding = settings.encoding;
  strict = true;
}

-- where lines have no EOLs and are aligned, what is written ends at a whole byte
abbrev pub EndsWhereAligned : EncodeSettings → Written → Type 0
EndsWhereAligned settings written = has_eols settings.encoding settings.end_of_line ≡ false
    → settings.rows_are_byte_aligned ≡ true → length (all_bits written) % 8 ≡ 0
