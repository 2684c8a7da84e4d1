-- Two-dimensional lenient data of Group 3 with EOLs: damage ends at the next one-dimensional line.
use Rattle.std.specs.Prelude.{◌≡◌, ℕ, zero, suc, ◌+◌, ◌<◌, ◌≤◌, ◌⊎◌, Option, Some, None, Result, Ok, Err, true, false, List, []}
use Rattle.std.specs.Prelude.{◌∷◌, ◌++◌, length, take, drop}
use Rattle.fax_bits.specs.declared.codes.Color.{Color}
use Rattle.fax_bits.specs.declared.codes.Color.TheVariants.{White}
use Rattle.fax_bits.specs.declared.codes.Mode.{Mode}
use Rattle.fax_bits.specs.declared.codes.Mode.TheVariants.{Pass, Horizontal, Vertical}
use Rattle.fax_bits.specs.declared.error.DecodeError.{DecodeError}
use Rattle.fax_bits.specs.declared.settings.EncodingMode.TheVariants.{Group3_2D}
use Rattle.fax_bits.specs.declared.settings.DecodeSettings.{DecodeSettings}
use Rattle.fax_bits.specs.Bits.{Bits, AreWholeBytes, IsPrefix}
use Rattle.fax_bits.specs.CodeLists.{mode_codes}
use Rattle.fax_bits.specs.CodeReading.{read_code}
use Rattle.fax_reading.specs.Encodings.{EncodesLine, EncodesRowsWithEols, IsPicture, eol}
use Rattle.fax_bits.specs.EndOfLine.{after_eol, next_eol, eols_with_tags, tagged_eols}
use Rattle.fax_reading.specs.Lines.{Line}
use Rattle.fax_reading.specs.Locality.{IsEol, IsEolAt, ComesToLine, EndAlike}
use Rattle.fax_reading.specs.PlainReading.{Progress, first_line, move_on, line_of_turn, plain}
use Rattle.fax_bits.specs.Repetition.{Reaches}
use Rattle.fax_reading.specs.Rows.{Row, opposite}
use Rattle.fax_bits.specs.Runs.{read_run}
use Rattle.fax_reading.specs.Settings.{AreSettings}

-- ---- the line that may be damaged

-- the EOLs with their tags that end at a position are fewer than six: the tag there is a line's, not that of RTC (T.4,
-- 4.2.2 and 4.2.4)
abbrev pub IsTagOfLine : Bits → ℕ → Type 0
IsTagOfLine bits end = (place count : ℕ) → eols_with_tags (length (drop place bits)) (drop place bits) ≡ (count, drop end bits)
    → count < 6

-- the line at a position, read against the row before it, is broken or ends before the last twelve bits of an EOL;
-- `after` is what follows that EOL (T.4, 4.1.2 and 4.2)
abbrev pub IsReadBefore : DecodeSettings → Bits → ℕ → Bits → Type 0
IsReadBefore settings bits place after = (so_far : Progress)
    → Reaches (move_on settings) (first_line settings bits) so_far → so_far.rest ≡ drop place bits
    → (row : Row) (rest : Bits) → line_of_turn settings so_far ≡ Line.whole row rest → length after + 12 ≤ length rest

-- The tag and the body of a line lie between two positions: an EOL ends where the tag is, or the data begins there; after
-- the tag is a one, and no EOL is in between; an EOL follows, and the line, as it is read, ends before the last twelve
-- bits of that EOL if it is whole (T.4, 4.1.2 and 4.2.2).
pub record IsTaggedBody (settings : DecodeSettings) (bits : Bits) (from to : ℕ) : Type 0 where
  pub within : to ≤ length bits
  pub starts : (from ≡ 0) ⊎ ((place : ℕ) × IsEol bits place from)
  pub tag : IsTagOfLine bits from
  pub one : (place : ℕ) × (from < place) × (place < to) × IsPrefix (true ∷ []) (drop place bits)
  pub no_eol : (place end : ℕ) → from ≤ place → end ≤ to → IsEol bits place end → ⊥
  pub closes : (after : Bits) × (after_eol 0 (drop to bits) ≡ Some after) × IsReadBefore settings bits from after

-- ---- the lines after it

-- here is an EOL; it and those that follow it with their tags are RTC, which is looked for, or come before a
-- one-dimensional line or the end of the data (T.4, 4.2.2 and 4.2.4)
abbrev pub ComesBefore1D : DecodeSettings → Bits → Type 0
ComesBefore1D settings here = IsEolAt here
    × (((settings.end_of_block ≡ true) × (6 ≤ (tagged_eols here).0))
    ⊎ (((line : Bits) × ((tagged_eols here).1 ≡ true ∷ line)) ⊎ ((tagged_eols here).1 ≡ [])))

-- auxiliary: what follows the second run of a horizontal mode, if it is read (T.4, 4.2.1.3)
abbrev pub after_second_run : Color → Result (ℕ × Bits) DecodeError → Option (Color × Bits)
after_second_run color (Ok run) = Some (color, run.1)
after_second_run color (Err fault) = None

-- auxiliary: the same, from the first run on
abbrev pub after_first_run : Color → Result (ℕ × Bits) DecodeError → Option (Color × Bits)
after_first_run color (Ok run) = after_second_run color (read_run (opposite color) run.1)
after_first_run color (Err fault) = None

-- auxiliary: the same, after the word of any mode: a vertical one turns the colour (T.4, 4.2.1.3)
abbrev pub after_word : Color → Mode → Bits → Option (Color × Bits)
after_word color Pass rest = Some (color, rest)
after_word color (Vertical k) rest = Some (opposite color, rest)
after_word color Horizontal rest = after_first_run color (read_run color rest)

-- auxiliary: the same, if the word is read
abbrev pub after_read : Color → Result (Mode × Bits) DecodeError → Option (Color × Bits)
after_read color (Ok mode) = after_word color mode.0 mode.1
after_read color (Err fault) = None

-- the mode here is read in a line of this colour, with the runs of a horizontal one: the colour after it, and what follows;
-- this doesn't need the reference row (T.4, 4.2.1.3)
abbrev pub after_mode : Color → Bits → Option (Color × Bits)
after_mode color here = after_read color (read_code mode_codes here)

-- modes that are read in a line of this colour, and what follows them (T.4, 4.2.1.3)
pub data ReadsModes : Color → Bits → Bits → Type 0 where
  over : {color : Color} {here : Bits} → ReadsModes color here here
  mode : (next : Color) (rest : Bits) {color : Color} {here last : Bits} → after_mode color here ≡ Some (next, rest)
      → ReadsModes next rest last → ReadsModes color here last

-- the modes of a line, with their runs, as many as can be read, end before the last twelve bits of an EOL; `after` is what
-- follows that EOL (T.4, 4.1.2 and 4.2.1.3)
abbrev pub ModesEndBefore : Bits → Bits → Type 0
ModesEndBefore after line = (rest : Bits) → ReadsModes White line rest → length after + 12 ≤ length rest

-- Here is a two-dimensional line, after its tag of zero: no EOL is at the tag, and the modes of the line end before the
-- last twelve bits of the next EOL, so that it ends there whatever row it is read against (T.4, 4.1.2 and 4.2).
pub record IsLine2D (line next : Bits) : Type 0 where
  pub no_eol : after_eol 0 (false ∷ line) ≡ None
  pub next_is : next_eol (false ∷ line) ≡ Some next
  pub ends : (after : Bits) × (after_eol 0 next ≡ Some after) × ModesEndBefore after line

-- here are as many two-dimensional lines, an EOL before each and after the last, which comes before a one-dimensional
-- line, RTC or the end (T.4, 4.2)
abbrev pub ComeBefore1D : DecodeSettings → ℕ → Bits → Type 0
ComeBefore1D settings zero here = ComesBefore1D settings here
ComeBefore1D settings (suc lines) here = (line next : Bits) × (after_eol 0 here ≡ Some (false ∷ line)) × IsLine2D line next
    × ComeBefore1D settings lines next

-- At a position of lenient two-dimensional data is an EOL, and this number of two-dimensional lines follows it before the
-- next one-dimensional line, RTC or the end (T.4, 4.2).
pub record IsFollowedBy (settings : DecodeSettings) (bits : Bits) (to lines : ℕ) : Type 0 where
  pub encoding : settings.encoding ≡ Group3_2D
  pub lenient : settings.strict ≡ false
  pub within : to ≤ length bits
  pub follow : ComeBefore1D settings lines (drop to bits)

-- ---- damage ends at the next one-dimensional line

-- Two inputs differ only within one line, tag and body; EOLs are sought from the start; and in the first data this number
-- of two-dimensional lines follows before the next one-dimensional one (T.4, 4.1.2 and 4.2).
pub record DifferInOneLine (settings : DecodeSettings) (one two : Bits) (from to to2 lines : ℕ) : Type 0 where
  pub encoding : settings.encoding ≡ Group3_2D
  pub lenient : settings.strict ≡ false
  pub before : take from one ≡ take from two
  pub after : drop to one ≡ drop to2 two
  pub body : IsTaggedBody settings one from to
  pub other : IsTaggedBody settings two from to2
  pub sought : (settings.end_of_line ≡ true) ⊎ ((end : ℕ) × (end ≤ from) × IsEol one 0 end)
  pub follow : ComeBefore1D settings lines (drop to one)

-- auxiliary: as many rows, which are equal before an index and from this number of rows after it on
abbrev pub SameBut : ℕ → ℕ → List Row → List Row → Type 0
SameBut index count rows others =
    (length others ≡ length rows) × (take index others ≡ take index rows)
    × (drop (index + count) others ≡ drop (index + count) rows)

-- the rows of two inputs are equal, except at most this number of them, from the one whose line begins at a position in
-- both on (T.4, 4.2)
abbrev pub RowsDiffer : DecodeSettings → Bits → Bits → ℕ → ℕ → List Row → List Row → Type 0
RowsDiffer settings one two from count rows others = (others ≡ rows)
    ⊎ ((index : ℕ) × ComesToLine settings one from index × ComesToLine settings two from index × SameBut index count rows others)

-- Some data was read as these rows, with this result. Whatever replaces one line, up to the next one-dimensional line at
-- most its row and those of the lines in between change, and the reading ends alike (T.4, 4.1.2 and 4.2).
abbrev pub DamageEndsAt1D : DecodeSettings → Bits → List Row → Result ℕ DecodeError → Type 0
DamageEndsAt1D settings one rows outcome = (two : Bits) (from to to2 lines : ℕ) → AreWholeBytes two
    → DifferInOneLine settings one two from to to2 lines
    → RowsDiffer settings one two from (suc lines) rows (plain settings two).rows
    × EndAlike settings one two from (suc lines) rows outcome (plain settings two).outcome

-- This is true of the plain reading (T.4, 4.1.2 and 4.2).
abbrev pub LocalityByK : Type 0
LocalityByK = (settings : DecodeSettings) (bits : Bits) → AreSettings settings → AreWholeBytes bits
    → DamageEndsAt1D settings bits (plain settings bits).rows (plain settings bits).outcome

-- A line of an encoding, after lines of one with an EOL before each, is such a body in data that has an EOL after it
-- (T.4, 4.1.2 and 4.2).
abbrev pub EncodedLinesAreBodies : Type 0
EncodedLinesAreBodies = (settings : DecodeSettings) (reference above row : Row) (rows : List Row) (front line next : Bits)
    (fill : ℕ)
    → AreSettings settings → settings.encoding ≡ Group3_2D → settings.strict ≡ false → IsPicture settings.columns (row ∷ rows)
    → EncodesRowsWithEols Group3_2D reference rows front → EncodesLine Group3_2D above row line → IsEolAt next
    → IsTaggedBody settings ((front ++ eol fill) ++ (line ++ next)) (length (front ++ eol fill))
    (length (front ++ eol fill) + length line)
