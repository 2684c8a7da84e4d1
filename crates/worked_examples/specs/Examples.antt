-- Worked examples, written as texts: settings, bytes, and the result of the plain reading.
use Rattle.std.specs.Prelude.{ℕ, ◌+◌, ◌-◌, ◌*◌, ◌==◌, ◌≡◌, nat_lt, List, [], ◌∷◌, take, drop, map, codes, Bool, true, false, Ok}
use Rattle.std.specs.Prelude.{Result, if◌then◌else◌, None, length}
use Rattle.std.specs.List.{list_any}
use Prim.Native.String.{String}
use Rattle.hayro_ccitt.specs.DecodeError.{DecodeError}
use Rattle.hayro_ccitt.specs.EncodingMode.{EncodingMode}
use Rattle.hayro_ccitt.specs.EncodingMode.TheVariants.{Group4, Group3_1D, Group3_2D}
use Rattle.hayro_ccitt.specs.DecodeSettings.{DecodeSettings}
use Rattle.hayro_ccitt.specs.BitOrder.{BitOrder}
use Rattle.hayro_ccitt.specs.Bits.{AreWholeBytes, bits_of, low_first_bits_of}
use Rattle.hayro_ccitt.specs.Color.TheVariants.{White}
use Rattle.hayro_ccitt.specs.Context.{fresh}
use Rattle.hayro_ccitt.specs.Damage.{cuts_of, Damaged, damage_of, repairs_of, misses_of}
use Rattle.hayro_ccitt.specs.Rows.{Row, changes, pixels, white_row}
use Rattle.hayro_ccitt.specs.Encodings.{EncodesRows, PictureT4}
use Rattle.hayro_ccitt.specs.Locality.{IsLocal, EndAlike}
use Rattle.hayro_ccitt.specs.LocalityByK.{ComeBefore1D, DifferInOneLine}
use Rattle.hayro_ccitt.specs.PlainReading.{plain}
use Rattle.hayro_ccitt.specs.RowFeeds.{Feeding, IsFeedOf, IsOpenAt, no_gap}
use Rattle.hayro_ccitt.specs.RowsKept.{AreAlikeAfter}
use Rattle.hayro_ccitt.specs.Settings.{AreSettings}
use Rattle.hayro_ccitt.specs.Stand.{Stand}
use Rattle.fax_conforms.specs.Conforming.{Conforms}
use Rattle.fax_encode.specs.Chosen.{chosen_run}
use Rattle.fax_encode.specs.Shortest.{shortest_line_2d, shortest_run}

-- the value of a hexadecimal digit, a capital letter or a figure
abbrev pub digit : ℕ → ℕ
digit c = if nat_lt c 58 then c - 48 else c - 55

-- the bytes of pairs of digits
abbrev pub bytes_of_digits : List ℕ → List ℕ
bytes_of_digits [] = []
bytes_of_digits (high ∷ []) = []
bytes_of_digits (high ∷ low ∷ digits) = (16 * digit high + digit low) ∷ bytes_of_digits digits

-- the bytes of a text of hexadecimal digits, two a byte
abbrev pub hex : String → List ℕ
hex text = bytes_of_digits (codes text)

-- a letter occurs in a text
abbrev pub has_letter : ℕ → String → Bool
has_letter letter text = list_any (λ c. c == letter) (codes text)

-- Settings with these columns, this row limit and these flags: b end of block, l end of line, a rows aligned, s strict.
abbrev pub settings_with : EncodingMode → ℕ → ℕ → String → DecodeSettings
settings_with encoding columns rows flags =
    record {
      columns = columns;
      rows = rows;
      end_of_block = has_letter 98 flags;
      end_of_line = has_letter 108 flags;
      rows_are_byte_aligned = has_letter 97 flags;
      encoding = encoding;
      strict = has_letter 115 flags;
    }

-- such settings for Group 4
abbrev pub group4 : ℕ → ℕ → String → DecodeSettings
group4 = settings_with Group4

-- for Group 3, one-dimensional
abbrev pub group3_1d : ℕ → ℕ → String → DecodeSettings
group3_1d = settings_with Group3_1D

-- for Group 3, two-dimensional
abbrev pub group3_2d : ℕ → ℕ → String → DecodeSettings
group3_2d = settings_with Group3_2D

-- the plain reading of a text of bytes, with its rows as changes
abbrev pub reading_of : DecodeSettings → String → List (List ℕ) × Result ℕ DecodeError
reading_of settings text = (map changes (plain settings (bits_of (hex text))).rows, (plain settings (bits_of (hex text))).outcome)

-- the same with each byte's lowest bit first
abbrev pub low_first_reading_of : DecodeSettings → String → List (List ℕ) × Result ℕ DecodeError
low_first_reading_of settings text =
    (map changes (plain settings (low_first_bits_of (hex text))).rows, (plain settings (low_first_bits_of (hex text))).outcome)

-- the damage that the plain reading of a text of bytes gets over
abbrev pub damage_in : DecodeSettings → String → List Damaged
damage_in settings text = damage_of settings (bits_of (hex text))

-- the rows among it that are repaired
abbrev pub repairs_in : DecodeSettings → String → List Damaged
repairs_in settings text = repairs_of settings (bits_of (hex text))

-- those in which a run is cut
abbrev pub cuts_in : DecodeSettings → String → List Damaged
cuts_in settings text = cuts_of settings (bits_of (hex text))

-- and the EOLs that are missed
abbrev pub misses_in : DecodeSettings → String → List Damaged
misses_in settings text = misses_of settings (bits_of (hex text))

-- ---- Encodings

-- two lines of T.6: horizontal, and a vertical mode; then vertical modes to the left and the rest of the row
abbrev pub two_lines : String
two_lines = "38A08170"

-- two white rows of T.4 with tags, closed by RTC
abbrev pub tagged_rows : String
tagged_rows = "001CC005001800C006003001800C"

-- the lines of the rows with the changes 5, 6 and 2, 3, 5, 6, with eight columns
abbrev pub EncodesTwoLines : Type 0
EncodesTwoLines = EncodesRows Group4 false (white_row 8) (pixels 8 (5 ∷ 6 ∷ []) ∷ pixels 8 (2 ∷ 3 ∷ 5 ∷ 6 ∷ []) ∷ [])
    (take 28 (bits_of (hex two_lines)))

-- a line with the tag 1, one with the tag 0, and RTC with its tags
abbrev pub EncodesTaggedRows : Type 0
EncodesTaggedRows = PictureT4 Group3_2D 8 (pixels 8 [] ∷ pixels 8 [] ∷ []) (take 110 (bits_of (hex tagged_rows)))

-- ---- Locality

-- eight columns of lenient one-dimensional data with EOLs
abbrev pub with_eols : DecodeSettings
with_eols = group3_1d 8 0 "l"

-- three rows, of which the second has the bits from 29 to 39
abbrev pub three_rows : String
three_rows = "0019800C700033"

-- with one of these bits changed
abbrev pub bits_changed : String
bits_changed = "0019800C400033"

-- with a black run of no pixels and a white one instead of them, up to 47
abbrev pub bits_added : String
bits_added = "0019800C06F80033"

-- with more words of the same row instead of them, up to 111
abbrev pub words_added : String
words_added = "0019800C06E6A1B9A86E6A1B9AF00033"

-- each body is local, so that `Locality` applies to each two of these
abbrev pub HaveLocalBodies : Type 0
HaveLocalBodies = IsLocal with_eols (bits_of (hex three_rows)) 29 39
    × IsLocal with_eols (bits_of (hex bits_changed)) 29 39
    × IsLocal with_eols (bits_of (hex bits_added)) 29 47
    × IsLocal with_eols (bits_of (hex words_added)) 29 111

-- only the second row differs
abbrev pub ReadsDamage : Type 0
ReadsDamage = (reading_of with_eols three_rows ≡ ([] ∷ (3 ∷ 5 ∷ []) ∷ [] ∷ [], Ok 7))
    × (reading_of with_eols bits_changed ≡ ([] ∷ (3 ∷ 6 ∷ []) ∷ [] ∷ [], Ok 7))
    × (reading_of with_eols bits_added ≡ ([] ∷ [] ∷ [] ∷ [], Ok 8))

-- if a later row than the body's meets the row limit, `EndAlike` fixes the counts: they differ by as much as the
-- lengths
abbrev pub LimitAfterTheBody : Type 0
LimitAfterTheBody = (rows : List Row) (count count2 : ℕ)
    → EndAlike (group3_1d 8 3 "l") (bits_of (hex three_rows)) (bits_of (hex words_added)) 29 1 rows (Ok count) (Ok count2)
    → count + 16 ≡ count2 + 7

-- ---- Locality in two dimensions

-- eight columns of lenient two-dimensional data with EOLs
abbrev pub with_tags : DecodeSettings
with_tags = group3_2d 8 0 "l"

-- four rows: a one-dimensional line, two two-dimensional ones, of which the first has the bits from 30 to 41 and the
-- second keeps its changes, and a one-dimensional one
abbrev pub four_rows : String
four_rows = "001CC00463800B800073"

-- with a longer run before the first change
abbrev pub change_moved : String
change_moved = "001CC0046F800B800073"

-- with a mode that doesn't exist instead
abbrev pub mode_broken : String
mode_broken = "001CC00407800B800073"

-- one two-dimensional line of an encoding follows that line, and then a one-dimensional one: `LocalityByK` speaks of two
-- rows
abbrev pub OneLineFollows : Type 0
OneLineFollows = ComeBefore1D with_tags 1 (drop 41 (bits_of (hex four_rows)))

-- `LocalityByK` applies to these two
abbrev pub AreInRange : Type 0
AreInRange = AreSettings with_tags × AreWholeBytes (bits_of (hex four_rows)) × AreWholeBytes (bits_of (hex change_moved))

abbrev pub OneLineDiffers : Type 0
OneLineDiffers = DifferInOneLine with_tags (bits_of (hex four_rows)) (bits_of (hex change_moved)) 30 41 41 1

-- The line and the one after it differ, and not the last. Against the white row of the broken line the next one is full
-- after its first word, and the rest of its words is passed over.
abbrev pub ReadsDamageByK : Type 0
ReadsDamageByK = (reading_of with_tags four_rows ≡ ([] ∷ (3 ∷ 5 ∷ []) ∷ (3 ∷ 5 ∷ []) ∷ [] ∷ [], Ok 10))
    × (reading_of with_tags change_moved ≡ ([] ∷ (4 ∷ 6 ∷ []) ∷ (4 ∷ 6 ∷ []) ∷ [] ∷ [], Ok 10))
    × (reading_of with_tags mode_broken ≡ ([] ∷ [] ∷ [] ∷ [] ∷ [], Ok 10))

-- ---- Rows after damage

-- the first of three rows is lost: all bits of its line are zeros, which are fill
abbrev pub row_lost : String
row_lost = "0010000C700033"

-- `RowsAfter` applies to these two: from bit 17 on they are the same, an EOL and the line of the second row, after which comes
-- that of the third
abbrev pub AreAlikeAfterTheFirst : Type 0
AreAlikeAfterTheFirst = AreWholeBytes (bits_of (hex row_lost)) × AreAlikeAfter with_eols (bits_of (hex three_rows))
    (bits_of (hex row_lost)) 17 17 (drop 29 (bits_of (hex three_rows))) (drop 51 (bits_of (hex three_rows)))

-- the last row is the same in both
abbrev pub ReadsRowsAfter : Type 0
ReadsRowsAfter = (reading_of with_eols three_rows ≡ ([] ∷ (3 ∷ 5 ∷ []) ∷ [] ∷ [], Ok 7))
    × (reading_of with_eols row_lost ≡ ((3 ∷ 5 ∷ []) ∷ [] ∷ [], Ok 7))

-- ---- Data in pieces

-- a feed of T.6 data of eight columns and one row to which these bytes were fed, before the first call
abbrev pub fed : String → Feeding
fed text = record {
  ctx = record { held = fresh (group4 8 1 ""); passed = 0; cut = false; ticks = 0; space = 0 };
  rows = record { started_at = 0; damage = None; cut = false; missed = None; stand = Stand.AfterRow };
  order = BitOrder.HighestFirst;
  begun = false;
  finished = false;
  kept = bits_of (hex text);
  dropped = 0;
  place = 0;
  looked = 0;
  gap = no_gap;
  part = None;
  line_read = 0;
  tried_at = 0;
  room = 2;
}

-- it is a feed of data that go on with another byte
abbrev pub FeedsOneByte : Type 0
FeedsOneByte = IsFeedOf (bits_of (hex "31C0")) 0 (fed "31")

-- the line there, to which so much was fed, can be changed by data that follows
abbrev pub LineIsOpen : String → Type 0
LineIsOpen text = IsOpenAt true Stand.AtLine (fed text).ctx (fed text).kept

-- ---- Conforming data

-- two lines that the row limit ends conform, whatever follows
abbrev pub TwoLinesConform : Type 0
TwoLinesConform = Conforms (group4 8 2 "") (bits_of (hex two_lines))

-- ---- The shortest encoding

-- a white run of 3328 pixels: two words of 1664 and one of none have 20 bits, words of 2560, 768 and none 29 (T.4, 4.1.1)
abbrev pub LongRunIsShort : Type 0
LongRunIsShort = (shortest_run White 3328 ≡ take 20 (bits_of (hex "618350"))) × (length (chosen_run White 3328) ≡ 29)

-- a white row below a white one is a vertical mode (T.4, 4.2.1.3)
abbrev pub WhiteRowIsOneMode : Type 0
WhiteRowIsOneMode = shortest_line_2d (white_row 8) (white_row 8) ≡ take 1 (bits_of (hex "80"))
