-- The laws of the plain reading.
use Rattle.std.specs.Prelude.{◌≡◌, ◌≢◌, ◌↔◌, ℕ, ◌+◌, ◌-◌, ◌*◌, ◌/◌, ◌^◌, ◌<◌, Bool, true, false, not, ◌&&◌, ◌||◌, nat_le}
use Rattle.std.specs.Prelude.{Result}
use Rattle.std.specs.Prelude.{Ok, Err, IsOk}
use Rattle.std.specs.Prelude.{List, [], ◌∷◌, ◌++◌, length, take, replicate, reverse, All}
use Rattle.std.specs.List.{fold, list_any}
pub use Rattle.fax_bits.specs.Words.{AreWords, HoldsZeros, IsWord, each_word, joined}
use Rattle.fax_bits.specs.declared.codes.Color.{Color}
use Rattle.fax_bits.specs.declared.error.DecodeError.{DecodeError}
use Rattle.fax_bits.specs.declared.settings.EncodingMode.{EncodingMode}
use Rattle.fax_bits.specs.declared.settings.EncodingMode.TheVariants.{Group4}
use Rattle.fax_bits.specs.declared.settings.DecodeSettings.{DecodeSettings}
use Rattle.fax_bits.specs.declared.bit_reader.BitOrder.{BitOrder}
use Rattle.fax_bits.specs.declared.bit_reader.BitOrder.TheVariants.{HighestFirst, LowestFirst}
use Rattle.fax_reading.specs.Answers.{meaning_after}
use Rattle.fax_bits.specs.Bits.{Bits, bits_of_byte, bits_in, AreWholeBytes, IsPrefix}
use Rattle.fax_bits.specs.CodeLists.{mode_codes}
use Rattle.fax_bits.specs.CodeReading.{leading_zeros, PrefixFree}
use Rattle.fax_bits.specs.Runs.{codes_of}
use Rattle.fax_reading.specs.Rows.{Row, HaveWidth, AreChanges, pixels, changes, white_row}
use Rattle.fax_bits.specs.EndOfLine.{eols}
use Rattle.fax_reading.specs.Damage.{damage_of}
use Rattle.fax_reading.specs.Encodings.{EncodesRows, IsPicture, PictureT6, PictureT4}
use Rattle.fax_reading.specs.Pictures.{Allows, BeginsWithPictureT6, BeginsWithPictureT4, IsClosedPicture}
use Rattle.fax_reading.specs.Pictures.{BeginsWithRowsT6, BeginsWithRowsT4, BeginsWithRowsAndEolsT4, IsLimitedPicture}
use Rattle.fax_bits.specs.Repetition.{Turn, Reaches}
use Rattle.fax_reading.specs.PlainReading.{line_by, Progress, Move, row_of_line, line_of_turn, ends_with, with_row, pass_gap}
use Rattle.fax_reading.specs.PlainReading.{at_front, eols_here, plain}
use Rattle.fax_reading.specs.Lines.{Line, tag_at, line_found}
use Rattle.fax_reading.specs.Settings.{AreSettings}

-- ---- synchronisation

-- There are consecutive words here, after a tag or none; and where an EOL is here or later, they end before its one
-- (T.4, 4.1.2).
pub record EndBeforeEol (tag : Bits) (words : List Bits) (here : Bits) : Type 0 where
  pub are : AreWords words
  pub stand : IsPrefix (tag ++ joined words) here
  pub end : (before after : Bits) → here ≡ before ++ replicate 11 false ++ true ∷ after
      → length (tag ++ joined words) < length before + 11

-- No code word is a prefix of another, and no consecutive words, nor a tag before them, contain the eleven zeros of an
-- EOL (T.4, 4.1.2). So each word that the reading of a line finds ends before the one of each EOL at or after its
-- start; a whole line ends with the last of these words.
pub record Synchronised : Type 0 where
  pub runs_prefix_free : (color : Color) → PrefixFree (codes_of color)
  pub modes_prefix_free : PrefixFree mode_codes
  pub holds_one : (word : Bits) → IsWord word → word ≢ replicate (length word) false
  pub no_eleven : (tag : Bool) (words : List Bits) → AreWords words → HoldsZeros 11 (tag ∷ joined words) → ⊥
  pub before_eol : (encoding : EncodingMode) (strict : Bool) (columns : ℕ) (reference : Row) (here : Bits)
      → EndBeforeEol (tag_at encoding here) (line_found encoding strict columns reference here) here
  pub to_the_end : (encoding : EncodingMode) (strict : Bool) (columns : ℕ) (reference row : Row) (here rest : Bits)
      → line_by encoding strict columns reference here ≡ Line.whole row rest
      → here ≡ (tag_at encoding here ++ joined (line_found encoding strict columns reference here)) ++ rest

-- ---- auxiliary: the zeros of a code word

-- the zeros at the end
abbrev pub trailing_zeros : Bits → ℕ
trailing_zeros bits = leading_zeros (reverse bits)

-- n consecutive zeros occur somewhere
abbrev pub holds_zeros : ℕ → Bits → Bool
holds_zeros n [] = nat_le n 0
holds_zeros n (bit ∷ bits) = nat_le n (leading_zeros (bit ∷ bits)) || holds_zeros n bits

-- a word contains a one, at most n zeros at its start and at its end, and nowhere eight consecutive zeros
abbrev pub has_few_zeros : ℕ → ℕ → Bits → Bool
has_few_zeros front end word =
    list_any (λ bit. bit) word && nat_le (leading_zeros word) front && nat_le (trailing_zeros word) end && not
    (holds_zeros 8 word)

-- ---- auxiliary: settings with one field changed

-- the same settings, but strict
abbrev pub strictly : DecodeSettings → DecodeSettings
strictly settings = record settings { strict = true }

-- the same settings, but lenient
abbrev pub leniently : DecodeSettings → DecodeSettings
leniently settings = record settings { strict = false }

-- the same settings, but with this row limit
abbrev pub limited : ℕ → DecodeSettings → DecodeSettings
limited limit settings = record settings { rows = limit }

-- ---- laws over settings, of which no section of T.4 or T.6 speaks

-- The strict reading's rows are the first of the lenient one's; where it ends without a fault, both have the same
-- result.
abbrev pub StrictThenLenient : Type 0
StrictThenLenient = (settings : DecodeSettings) (whole : Bits) → AreSettings settings
    → IsPrefix (plain (strictly settings) whole).rows (plain (leniently settings) whole).rows
    × (IsOk (plain (strictly settings) whole).outcome → plain (strictly settings) whole ≡ plain (leniently settings) whole)

-- The strict reading ends without a fault exactly if the lenient one does, and passes no damage.
abbrev pub StrictIsUndamaged : Type 0
StrictIsUndamaged = (settings : DecodeSettings) (whole : Bits) → IsOk (plain (strictly settings) whole).outcome
    ↔ (IsOk (plain (leniently settings) whole).outcome × (damage_of (leniently settings) whole ≡ []))

-- With a row limit the rows are the first ones, as many as it allows; with that many rows the reading ends without a
-- fault.
abbrev pub RowLimit : Type 0
RowLimit = (settings : DecodeSettings) (limit : ℕ) (whole : Bits) → AreSettings settings → 0 < limit → limit < 2 ^ 32
    → ((plain (limited limit settings) whole).rows ≡ take limit (plain (limited 0 settings) whole).rows)
    × (length (plain (limited limit settings) whole).rows ≡ limit → IsOk (plain (limited limit settings) whole).outcome)

-- ---- pictures

-- auxiliary: the reading of some data yields these rows, without a fault
abbrev pub Gives : DecodeSettings → Bits → List Row → Type 0
Gives settings whole rows = ((plain settings whole).rows ≡ rows) × IsOk (plain settings whole).outcome

-- A T.6 picture closed by EOFB yields its rows, whatever follows. The count is the end of EOFB, rounded up to a byte
-- (T.6, 2.4.1.1).
abbrev pub ReadsPictureT6 : Type 0
ReadsPictureT6 = (settings : DecodeSettings) (rows : List Row) (bits whole : Bits) → AreSettings settings → AreWholeBytes whole
    → BeginsWithPictureT6 settings rows bits whole
    → plain settings whole ≡ record { rows = rows; outcome = Ok ((length bits + 7) / 8); has_eols = false }

-- A T.4 picture closed by RTC yields its rows, whatever follows. The count is the end of the EOLs where the last line
-- ends, rounded up to a byte (T.4, 4.1.4 and 4.2.4).
abbrev pub ReadsPictureT4 : Type 0
ReadsPictureT4 = (settings : DecodeSettings) (rows : List Row) (bits after whole : Bits) → AreSettings settings
    → BeginsWithPictureT4 settings rows bits after whole
    → plain settings whole ≡ record {
      rows = rows;
      outcome = Ok ((length whole - length (eols_here settings after).1 + 7) / 8);
      has_eols = true;
    }

-- A closed picture of any kind yields its rows and its count, whatever follows (T.4, 4.1.4 and 4.2.4; T.6, 2.4.1.1).
abbrev pub ReadsClosedPictures : Type 0
ReadsClosedPictures = (settings : DecodeSettings) (rows : List Row) (count : ℕ) (whole : Bits) → AreSettings settings
    → AreWholeBytes whole
    → IsClosedPicture settings rows count whole
    → ((plain settings whole).rows ≡ rows) × ((plain settings whole).outcome ≡ Ok count)

-- Lines of T.6 without EOFB are a picture too, if the row limit is their number (T.6, 2.2).
abbrev pub ReadsLimitedRowsT6 : Type 0
ReadsLimitedRowsT6 =
    (settings : DecodeSettings) (rows : List Row) (bits whole : Bits) → AreSettings settings → AreWholeBytes whole
    → BeginsWithRowsT6 settings rows bits whole → Gives settings whole rows

-- So are lines of T.4 without EOLs, if none are looked for (T.4, 4.1.1 and 4.2.1).
abbrev pub ReadsLimitedRowsT4 : Type 0
ReadsLimitedRowsT4 =
    (settings : DecodeSettings) (rows : List Row) (bits whole : Bits) → AreSettings settings → AreWholeBytes whole
    → BeginsWithRowsT4 settings rows bits whole → Gives settings whole rows

-- So are lines of T.4 with EOLs and without RTC (T.4, 4.1.2).
abbrev pub ReadsLimitedPictureT4 : Type 0
ReadsLimitedPictureT4 = (settings : DecodeSettings) (rows : List Row) (bits whole : Bits) → AreSettings settings
    → BeginsWithRowsAndEolsT4 settings rows bits whole → Gives settings whole rows

-- Lines of any kind yield their rows, if the row limit is their number (T.4, 4.1.1, 4.1.2 and 4.2.1; T.6, 2.2).
abbrev pub ReadsLimitedPictures : Type 0
ReadsLimitedPictures = (settings : DecodeSettings) (rows : List Row) (whole : Bits) → AreSettings settings → AreWholeBytes whole
    → IsLimitedPicture settings rows whole → Gives settings whole rows

-- There is no damage in pictures, closed or with a limit of as many rows (T.4, 4.1.2).
abbrev pub PicturesAreUndamaged : Type 0
PicturesAreUndamaged = (settings : DecodeSettings) (rows : List Row) (whole : Bits) → AreSettings settings → AreWholeBytes whole
    → ((count : ℕ) → IsClosedPicture settings rows count whole → damage_of settings whole ≡ [])
    × (IsLimitedPicture settings rows whole → damage_of settings whole ≡ [])

-- Every picture has encodings: as T.6, as T.4 with an EOL before each line, and as lines alone (T.4, 4.1.1, 4.1.4, 4.2.1
-- and 4.2.4; T.6, 2.2 and 2.4.1.1).
abbrev pub EveryPictureHasAnEncoding : Type 0
EveryPictureHasAnEncoding = (columns : ℕ) (rows : List Row) → IsPicture columns rows
    → ((aligned : Bool) → (bits : Bits) × PictureT6 columns aligned rows bits)
    × ((encoding : EncodingMode) → 0 < length rows → (bits : Bits) × PictureT4 encoding columns rows bits)
    × ((encoding : EncodingMode) (aligned : Bool) → (bits : Bits) × EncodesRows encoding aligned (white_row columns) rows bits)

-- auxiliary: any bits are a prefix of the bits of some bytes, in either order
abbrev pub BytesBeginWithAnyBits : Type 0
BytesBeginWithAnyBits =
    (order : BitOrder) (bits : Bits) → (bytes : List ℕ) × All (λ byte. byte < 256) bytes × IsPrefix bits (bits_in order bytes)

-- auxiliary: the bits of bytes fill whole bytes, in either order
abbrev pub BitsOfBytesAreWhole : Type 0
BitsOfBytesAreWhole = (order : BitOrder) (bytes : List ℕ) → AreWholeBytes (bits_in order bytes)

-- auxiliary: with the lowest bit first each byte's bits are those with the highest first, reversed
abbrev pub OrdersMirror : Type 0
OrdersMirror = (byte : ℕ) → bits_of_byte LowestFirst byte ≡ reverse (bits_of_byte HighestFirst byte)

-- ---- uniqueness of a picture

-- If one T.6 stream is a prefix of another of the same width and alignment, their rows are equal (T.6, 2.4.1.1).
abbrev pub OnePictureT6 : Type 0
OnePictureT6 = (columns : ℕ) (aligned : Bool) (rows others : List Row) (bits more : Bits) → columns < 2 ^ 32
    → PictureT6 columns aligned rows bits → PictureT6 columns aligned others (bits ++ more) → rows ≡ others

-- If one T.4 stream is a prefix of another of the same width and kind, their rows are equal (T.4, 4.1.4 and 4.2.4).
abbrev pub OnePictureT4 : Type 0
OnePictureT4 = (encoding : EncodingMode) (columns : ℕ) (rows others : List Row) (bits more : Bits) → encoding ≢ Group4
    → columns < 2 ^ 32
    → PictureT4 encoding columns rows bits → PictureT4 encoding columns others (bits ++ more) → rows ≡ others

-- ---- after EOFB

-- auxiliary: a row is added, without the gap after it, or its fault ends the reading
abbrev pub add_row_alone : Progress → Result (Row × Bits) DecodeError → Move
add_row_alone so_far (Ok (row, rest)) = Turn.next (with_row so_far row rest)
add_row_alone so_far (Err fault) = ends_with so_far (Err fault)

-- auxiliary: the row of the line after a gap, where one is there
abbrev pub row_after : DecodeSettings → Move → Move
row_after settings (Turn.next so_far) =
    add_row_alone so_far (row_of_line settings so_far.has_eols so_far.rest (line_of_turn settings so_far))
row_after settings (Turn.done end) = Turn.done end

-- auxiliary: a gap, and the row after it: from one position between lines to the next
abbrev pub gap_and_row : DecodeSettings → Progress → Move
gap_and_row settings so_far = row_after settings (pass_gap settings so_far)

-- auxiliary: the same settings, for T.6 data
abbrev pub for_t6 : DecodeSettings → DecodeSettings
for_t6 settings = record settings { encoding = Group4 }

-- the reading of T.6 data reaches a position between lines where there are two EOLs (T.6, 2.4.1.1)
abbrev pub ComesToEofb : DecodeSettings → Bits → Type 0
ComesToEofb settings bits =
    (last : Progress) × Reaches (gap_and_row (for_t6 settings)) (at_front bits) last × ((eols 2 last.rest).0 ≡ 2)

-- If T.6 data was read up to its EOFB, data that begins with the same bytes up to there is read the same (T.6,
-- 2.4.1.1).
abbrev pub AfterEofb : Type 0
AfterEofb = (settings : DecodeSettings) (one two : Bits) (count : ℕ) → AreSettings settings → AreWholeBytes one
    → AreWholeBytes two
    → settings.encoding ≡ Group4 → settings.end_of_block ≡ true → ComesToEofb settings one
    → (plain settings one).outcome ≡ Ok count → take (8 * count) two ≡ take (8 * count) one
    → plain settings two ≡ plain settings one

-- The reading of a T.6 picture reaches its EOFB (T.6, 2.4.1.1).
abbrev pub PicturesComeToEofb : Type 0
PicturesComeToEofb = (settings : DecodeSettings) (rows : List Row) (bits more : Bits) → AreSettings settings
    → AreWholeBytes (bits ++ more) → Allows settings (length rows)
    → PictureT6 settings.columns settings.rows_are_byte_aligned rows bits
    → ComesToEofb settings (bits ++ more)

-- ---- rows and their changes

-- a valid list of changes is a row of the width, and that row's changes (T.4, 4.2.1.1)
abbrev pub RowsOfChanges : Type 0
RowsOfChanges = (width : ℕ) (places : List ℕ) → AreChanges width places
    → (length (pixels width places) ≡ width) × (changes (pixels width places) ≡ places)

-- the changes of a row are valid, and represent the row (T.4, 4.2.1.1)
abbrev pub ChangesOfRows : Type 0
ChangesOfRows = (row : Row) → AreChanges (length row) (changes row) × (pixels (length row) (changes row) ≡ row)

-- Steps on the pixels of a row's changes are steps on the row: over rows of the width, a sink that receives changes means
-- what a fold over the rows yields (T.4, 4.2.1.1).
abbrev pub StepsOnRows : Type 0 → Type 0
StepsOnRows M = (width : ℕ) (step : M → Row → M) (meaning : M) (rows : List Row) → HaveWidth width rows
    → meaning_after (λ before places. step before (pixels width places)) meaning rows ≡ fold step meaning rows
