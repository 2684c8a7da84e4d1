-- Where data departs from what the coding procedure writes (T.4, 4.1 and 4.2; T.6, 2).
use Rattle.std.specs.Prelude.{◌≡◌, ◌≢◌, ◌⊎◌, ℕ, ◌+◌, ◌<◌, ◌≤◌, Bool, true, false, Option, Some, ◌∷◌, ◌++◌, length, drop}
use Rattle.hayro_ccitt.specs.Bits.{Bits, BitsAt, here}
use Rattle.hayro_ccitt.specs.DecodeSettings.{DecodeSettings}
use Rattle.hayro_ccitt.specs.EncodingMode.{EncodingMode}
use Rattle.hayro_ccitt.specs.EncodingMode.TheVariants.{Group3_1D, Group3_2D, Group4}
use Rattle.hayro_ccitt.specs.Encodings.{eol, tag_of}
use Rattle.hayro_ccitt.specs.Rows.{Row, white_row}
use Rattle.fax_encode.specs.Procedure.{StandsUpTo, tag_of_line}
use Rattle.fax_encode.specs.Settings.{is_closed}
use Rattle.fax_conforms.specs.ByProcedure.{ClosingStands, EndsHere, FewZerosStand, LeadStands, MayCome, PartStands}
use Rattle.fax_conforms.specs.ByProcedure.{left_after, left_at_first, part_of, tagged_eols}
use Rattle.fax_conforms.specs.Conforming.{BodyStands, EolsStand, LinesStand}
use Rattle.fax_conforms.specs.Standing.{LineStands, Never}
use Rattle.fax_conforms.specs.Stops.{HaveEols}
use Rattle.fax_conforms.specs.declared.stops.Rule.{Rule}
use Rattle.fax_conforms.specs.declared.stops.Rule.TheVariants as rule
use Rattle.fax_conforms.specs.declared.stops.Stop.{Stop}
use Rattle.fax_conforms.specs.declared.stops.Stop.TheVariants.{Violation, OutOfMemory}
use Rattle.fax_conforms.specs.declared.stops.Violation as at

-- ---- The lines before a place

-- how far lines go: how many there are, how many that are next may be two-dimensional, if that is limited, the row of the last
-- one, and the offset of their end
pub record Reached : Type 0 where
  pub taken : ℕ
  pub left : Option ℕ
  pub reference : Row
  pub place : ℕ

-- no line; the row before the first one is white (T.4, 4.2.1.1)
abbrev pub none_reached : DecodeSettings → Reached
none_reached settings = record {
  taken = 0;
  left = left_at_first settings.encoding;
  reference = white_row settings.columns;
  place = 0;
}

-- one line more, of this kind and row, which ends at this offset
abbrev pub one_further : Option ℕ → Reached → Bool → Row → ℕ → Reached
one_further k at is_two row place = record {
  taken = at.taken + 1;
  left = left_after k at.left is_two;
  reference = row;
  place = place;
}

-- the data begins with lines as the procedure writes them, which go so far (T.4, 4.1 and 4.2; T.6, 2)
pub data LinesLead (settings : DecodeSettings) (k : Option ℕ) (has_eols : Bool) (whole : Bits) : Reached → Type 0 where
  none : LinesLead settings k has_eols whole (none_reached settings)
  line : {at : Reached} (middle : Bits) (is_two : Bool) (row : Row) (next : ℕ) → LinesLead settings k has_eols whole at
      → LeadStands has_eols at.taken (drop at.place whole) middle → length row ≡ settings.columns
      → PartStands settings has_eols at.left at.reference middle is_two row (drop next whole)
      → LinesLead settings k has_eols whole (one_further k at is_two row next)

-- ---- What departs

-- A line of a row stands here, of a kind that may come next, and the procedure writes this row in as many dimensions with the
-- same first n bits, and another one then (T.4, 4.1.1 and 4.2.1.3; T.6, 2.2).
pub record LineDeparts (settings : DecodeSettings) (has_eols : Bool) (left : Option ℕ) (reference : Row) (start : Bits) (n : ℕ)
    : Type 0 where
  pub is_two : Bool
  pub row : Row
  pub after : Bits
  pub after_tag : Bits
  pub width : length row ≡ settings.columns
  pub may_come : MayCome settings.encoding left is_two
  pub stands : LineStands settings.encoding reference row start after
  pub tag : start ≡ tag_of_line settings.encoding is_two ++ after_tag
  pub differs : StandsUpTo (part_of settings has_eols is_two reference row) start n

-- the tag of a two-dimensional line is here, where K allows none (T.4, 4.2.1 and 4.2.2)
abbrev pub KindDeparts : EncodingMode → Option ℕ → Bits → Type 0
KindDeparts encoding left start = (encoding ≡ Group3_2D) × (left ≡ Some 0) × (rest : Bits) × (start ≡ false ∷ rest)

-- an EOL with fill is here (T.4, 4.1.3)
abbrev pub FilledEolStands : Bits → Type 0
FilledEolStands start = (fill : ℕ) × (rest : Bits) × (0 < fill) × (start ≡ eol fill ++ rest)

-- An EOL with fill follows the first EOL of RTC and at most four more without fill (T.4, 4.1.3 and 4.1.4).
abbrev pub FillFollows : EncodingMode → Bits → Bits → Type 0
FillFollows encoding start rest = (fill count : ℕ) × (count < 5)
    × (start ≡ eol fill ++ (tag_of encoding ++ (tagged_eols encoding count ++ rest))) × FilledEolStands rest

-- The end of the block is before a place, and something other than zeros up to a whole byte is after it; or there are as many
-- lines as the row limit, and the picture doesn't end at the place, which is after them (T.4, 4.1.4; T.6, 2.4.1.1).
abbrev pub EndDeparts : DecodeSettings → Bool → Reached → Bits → ℕ → Type 0
EndDeparts settings has_eols at whole place =
    ((is_closed settings.encoding has_eols settings.end_of_block ≡ true)
    × ClosingStands settings.encoding at.taken (drop at.place whole) (drop place whole) × (FewZerosStand (drop place whole) → ⊥))
    ⊎ ((settings.rows ≡ at.taken) × (0 < at.taken) × (place ≡ at.place)
    × (EndsHere settings has_eols at.taken (drop place whole) → ⊥))

-- after lines that go so far a rule of the procedure is broken at a place
abbrev pub BreaksProcedure : Rule → DecodeSettings → Bool → Reached → Bits → ℕ → Type 0
BreaksProcedure rule.Procedure settings has_eols at whole place = (start n : ℕ) × (place ≡ start + n)
    × LeadStands has_eols at.taken (drop at.place whole) (drop start whole)
    × LineDeparts settings has_eols at.left at.reference (drop start whole) n
BreaksProcedure rule.Kind settings has_eols at whole place = LeadStands has_eols at.taken (drop at.place whole) (drop place whole)
    × KindDeparts settings.encoding at.left (drop place whole)
BreaksProcedure rule.Fill settings has_eols at whole place = (has_eols ≡ true)
    × (((at.taken ≡ 0) × (place ≡ at.place) × FilledEolStands (drop place whole))
    ⊎ ((0 < at.taken) × FillFollows settings.encoding (drop at.place whole) (drop place whole)))
BreaksProcedure rule.End settings has_eols at whole place = EndDeparts settings has_eols at whole place
BreaksProcedure rule.Mode settings has_eols at whole place = ⊥
BreaksProcedure rule.Run settings has_eols at whole place = ⊥
BreaksProcedure rule.RowEnd settings has_eols at whole place = ⊥
BreaksProcedure rule.NoPixels settings has_eols at whole place = ⊥
BreaksProcedure rule.Columns settings has_eols at whole place = ⊥
BreaksProcedure rule.Eol settings has_eols at whole place = ⊥
BreaksProcedure rule.Tag settings has_eols at whole place = ⊥
BreaksProcedure rule.Padding settings has_eols at whole place = ⊥
BreaksProcedure rule.PassToEnd settings has_eols at whole place = ⊥

-- The data begins with lines as the procedure writes them, and after them, at the place of a violation, it departs from what the
-- procedure writes, by its rule (T.4, 4.1 and 4.2; T.6, 2).
abbrev pub DepartsAfterLines : DecodeSettings → Option ℕ → Bool → Bits → at.Violation → Type 0
DepartsAfterLines settings k has_eols whole found = (found.place ≤ length whole) × (reached : Reached)
    × LinesLead settings k has_eols whole reached × BreaksProcedure found.rule settings has_eols reached whole found.place

-- it departs so, and has EOLs if the settings or its first bits ask for them
abbrev pub DepartsFromProcedure : DecodeSettings → Option ℕ → Bits → at.Violation → Type 0
DepartsFromProcedure settings k whole found = (has_eols : Bool) × HaveEols settings whole has_eols
    × DepartsAfterLines settings k has_eols whole found

-- ---- auxiliary: why a check of a line or of an end stops

-- the tag that is here says of which kind the line is (T.4, 4.2.2)
abbrev pub TagSays : EncodingMode → Bits → Bool → Type 0
TagSays Group3_2D start true = (rest : Bits) × (start ≡ false ∷ rest)
TagSays Group3_2D start false = (rest : Bits) → start ≢ false ∷ rest
TagSays Group3_1D start is_two = Unit {0}
TagSays Group4 start is_two = Unit {0}

-- a violation is where a reader is, and of this rule
abbrev pub IsAt : Rule → BitsAt → at.Violation → Type 0
IsAt rule reader found = (found.rule ≡ rule) × (found.place ≡ reader.place) × (reader.place ≤ length reader.bits)

-- what is before a line is expected where the reader is: an EOL, or before the first line one without fill
abbrev pub LeadEndsAt : Bool → ℕ → BitsAt → Stop → Type 0
LeadEndsAt has_eols taken old (Violation found) = (has_eols ≡ true)
    × (((0 < taken) × IsAt rule.Eol old found) ⊎ ((taken ≡ 0) × IsAt rule.Fill old found))
LeadEndsAt has_eols taken old OutOfMemory = Unit {0}

-- of the bits that are expected the first n are here, and a violation is after them
abbrev pub PartEndsAt : Bits → BitsAt → Stop → Type 0
PartEndsAt part old (Violation found) = (n : ℕ) × (found.rule ≡ rule.Procedure) × (found.place ≡ old.place + n)
    × (found.place ≤ length old.bits) × StandsUpTo part (here old) n
PartEndsAt part old OutOfMemory = Unit {0}

-- the line that is here isn't one that may come next as the procedure writes it, or no line is here
abbrev pub LineEndsAt : DecodeSettings → Bool → Option ℕ → Row → BitsAt → Stop → Type 0
LineEndsAt settings has_eols left reference old (Violation found) =
    ((n : ℕ) × (found.rule ≡ rule.Procedure) × (found.place ≡ old.place + n) × (found.place ≤ length old.bits)
    × LineDeparts settings has_eols left reference (here old) n)
    ⊎ ((IsAt rule.Kind old found × KindDeparts settings.encoding left (here old))
    ⊎ Never settings.columns (λ row rest. LineStands settings.encoding reference row (here old) rest))
LineEndsAt settings has_eols left reference old OutOfMemory = Unit {0}

-- an EOL of RTC has fill, where a violation is
abbrev pub FillInRtc : EncodingMode → BitsAt → at.Violation → Type 0
FillInRtc encoding reader found = (found.rule ≡ rule.Fill) × (found.place ≤ length reader.bits)
    × FillFollows encoding (here reader) (drop found.place reader.bits)

-- the end of the block is here, and a violation after it; or an EOL of RTC has fill, where one is
abbrev pub ClosingDeparts : DecodeSettings → Bool → ℕ → BitsAt → at.Violation → Type 0
ClosingDeparts settings has_eols taken reader found =
    (is_closed settings.encoding has_eols settings.end_of_block ≡ true)
    × (((found.rule ≡ rule.End) × (found.place ≤ length reader.bits)
    × ClosingStands settings.encoding taken (here reader) (drop found.place reader.bits))
    ⊎ ((settings.encoding ≢ Group4) × (0 < taken) × FillInRtc settings.encoding reader found))

-- no end of the block is here, with fill in RTC or without
abbrev pub NoClosing : DecodeSettings → Bool → ℕ → Bits → Type 0
NoClosing settings has_eols taken start = is_closed settings.encoding has_eols settings.end_of_block ≡ true
    → ((rest : Bits) → ClosingStands settings.encoding taken start rest → ⊥)
    × (settings.encoding ≢ Group4 → 0 < taken → EolsStand settings.encoding 6 start → ⊥)

-- a check stops at the end of the block that is here, or as before where there is none
abbrev pub ClosesOr : DecodeSettings → Bool → ℕ → BitsAt → Stop → Stop → Type 0
ClosesOr settings has_eols taken reader stop (Violation found) = ClosingDeparts settings has_eols taken reader found
    ⊎ ((stop ≡ Violation found) × NoClosing settings has_eols taken (here reader))
ClosesOr settings has_eols taken reader stop OutOfMemory = Unit {0}

-- a check stops at the end of the block that is here, or where the reader is
abbrev pub EndsAtLimit : DecodeSettings → Bool → ℕ → BitsAt → Stop → Type 0
EndsAtLimit settings has_eols taken reader (Violation found) =
    ClosingDeparts settings has_eols taken reader found ⊎ IsAt rule.End reader found
EndsAtLimit settings has_eols taken reader OutOfMemory = Unit {0}

-- what ends early does so where the data departs after some lines, or because an allocation failed
abbrev pub EndsAfterLines : DecodeSettings → Option ℕ → Bool → Bits → Stop → Type 0
EndsAfterLines settings k has_eols whole (Violation found) = DepartsAfterLines settings k has_eols whole found
EndsAfterLines settings k has_eols whole OutOfMemory = Unit {0}

-- the same of all data
abbrev pub EndsByProcedure : DecodeSettings → Option ℕ → Bits → Stop → Type 0
EndsByProcedure settings k whole (Violation found) = DepartsFromProcedure settings k whole found
EndsByProcedure settings k whole OutOfMemory = Unit {0}

-- after this number of rows, lines stand here, with EOLs or without, and end
abbrev pub ReadableFrom : DecodeSettings → Bool → ℕ → Row → Bits → Type 0
ReadableFrom settings true taken reference start = LinesStand settings taken reference start
ReadableFrom settings false taken reference start = BodyStands settings taken reference start
