-- Which rows of damaged data are as they were: those before the damage, and those after the second EOL after it.
use Rattle.std.specs.Prelude.{◌≡◌, ℕ, ◌+◌, ◌*◌, ◌<◌, ◌≤◌, ◌⊎◌, Some, Result, Ok, Err, true, false, List}
use Rattle.std.specs.Prelude.{[], ◌∷◌, ◌++◌, length, take, drop}
use Rattle.fax_bits.specs.declared.error.DecodeError.{DecodeError}
use Rattle.fax_bits.specs.declared.settings.EncodingMode.{EncodingMode}
use Rattle.fax_bits.specs.declared.settings.EncodingMode.TheVariants.{Group4, Group3_1D, Group3_2D}
use Rattle.fax_bits.specs.declared.settings.DecodeSettings.{DecodeSettings}
use Rattle.fax_bits.specs.Bits.{Bits, AreWholeBytes}
use Rattle.fax_bits.specs.EndOfLine.{after_eol, next_eol}
use Rattle.fax_reading.specs.Lines.{Line}
use Rattle.fax_reading.specs.Locality.{IsEolAt, EndsBefore}
use Rattle.fax_reading.specs.LocalityByK.{ComesBefore1D, ModesEndBefore}
use Rattle.fax_bits.specs.Repetition.{Turn, Reaches}
use Rattle.fax_reading.specs.Rows.{Row}
use Rattle.fax_reading.specs.PlainReading.{Progress, first_gap, first_line, move_on, eols_here, line_here, is_end_of_block}
use Rattle.fax_reading.specs.PlainReading.{end_of, plain}

-- ---- the rows before the damage

-- The reading of some data reaches the line that begins at a position, after this number of rows; EOLs are sought there as
-- at the first line: the reading hasn't given them up (T.4, 4.1.2).
pub record ReadsUpTo (settings : DecodeSettings) (bits : Bits) (place index : ℕ) : Type 0 where
  pub wide : 0 < settings.columns
  pub first : Progress
  pub last : Progress
  pub begins : first_gap settings.encoding settings bits ≡ Turn.next first
  pub reaches : Reaches (move_on settings) first last
  pub sought : last.has_eols ≡ first.has_eols
  pub within : place ≤ length bits
  pub place_is : last.rest ≡ drop place bits
  pub index_is : length last.rows ≡ index

-- Some data was read as these rows. In whatever other data begins with the same bits up to a line, the rows before that
-- line are the same (T.4, 4.1; T.6, 2.2).
abbrev pub RowsBeforeStay : DecodeSettings → Bits → List Row → Type 0
RowsBeforeStay settings one rows =
    (two : Bits) (place index : ℕ) → AreWholeBytes two → take place two ≡ take place one → ReadsUpTo settings one place index
    → (index ≤ length rows) × (take index (plain settings two).rows ≡ take index rows)

-- This is true of the plain reading (T.4, 4.1; T.6, 2.2).
abbrev pub RowsBefore : Type 0
RowsBefore =
    (settings : DecodeSettings) (bits : Bits) → AreWholeBytes bits → RowsBeforeStay settings bits (plain settings bits).rows

-- ---- the rows after the damage

-- fewer than six EOLs are counted from each position before a line: the bits up to it make no RTC (T.4, 4.1.4 and 4.2.4)
abbrev pub MakesNoRtc : DecodeSettings → Bits → Bits → Type 0
MakesNoRtc settings bits line =
    (before here : Bits) → bits ≡ before ++ here → length line < length here → (eols_here settings here).0 < 6

-- An EOL is here, and no other; the line after it, whatever row it is read against, is broken or ends before the last
-- twelve bits of the next EOL. After this one, and those that follow it, some bits are left: RTC or a line without a
-- reference row (T.4, 4.1.2 and 4.2).
pub record PutsInStep (settings : DecodeSettings) (here line following : Bits) : Type 0 where
  pub eol : after_eol 0 here ≡ Some line
  pub alone : eols_here settings here ≡ (1, line)
  pub next : Bits
  pub next_is : next_eol line ≡ Some next
  pub after : Bits
  pub after_is : after_eol 0 next ≡ Some after
  pub ends : (reference row : Row) (rest : Bits) → line_here settings reference line ≡ Line.whole row rest
      → length after + 12 ≤ length rest
  pub count : ℕ
  pub following_is : eols_here settings next ≡ (count, following)
  pub unreferred : (is_end_of_block settings count ≡ true)
      ⊎ ((reference other : Row) → line_here settings reference following ≡ line_here settings other following)

-- Lenient data of Group 3 without a row limit are the same from a position of each on, where an EOL and the line after it
-- put them in step; EOLs are sought from the start of both, and what is before makes no RTC (T.4, 4.1.2 and 4.1.4).
pub record AreAlikeAfter (settings : DecodeSettings) (one two : Bits) (to to2 : ℕ) (line following : Bits) : Type 0 where
  pub encoding : (settings.encoding ≡ Group3_1D) ⊎ (settings.encoding ≡ Group3_2D)
  pub lenient : settings.strict ≡ false
  pub unlimited : settings.rows ≡ 0
  pub wide : 0 < settings.columns
  pub same : drop to one ≡ drop to2 two
  pub step : PutsInStep settings (drop to one) line following
  pub sought : (settings.end_of_line ≡ true) ⊎ IsEolAt one
  pub sought_too : (settings.end_of_line ≡ true) ⊎ IsEolAt two
  pub no_rtc : MakesNoRtc settings one line
  pub no_rtc_too : MakesNoRtc settings two line

-- auxiliary: the reading of some data comes to a line after this number of rows, with these bits from there on; or it ends there
abbrev pub ComesTo : DecodeSettings → Bits → Bits → ℕ → Type 0
ComesTo settings bits following index = ((last : Progress) × Reaches (move_on settings) (first_line settings bits) last
    × (last.rest ≡ following) × (length last.rows ≡ index))
    ⊎ (((end_of settings bits).outcome ≡ Ok following) × (length (plain settings bits).rows ≡ index))

-- How two readings are in step: from these rows on both have the same ones, and both end with the same fault, or at the
-- same number of bytes before the end of their data (T.4, 4.1.2).
pub record AreInStep (settings : DecodeSettings) (one two following : Bits) (rows others : List Row)
    (outcome other : Result ℕ DecodeError) : Type 0 where
  pub index : ℕ
  pub index2 : ℕ
  pub comes : ComesTo settings one following index
  pub comes_too : ComesTo settings two following index2
  pub same_rows : drop index rows ≡ drop index2 others
  pub ends : ((fault : DecodeError) × (outcome ≡ Err fault) × (other ≡ Err fault))
      ⊎ ((count count2 : ℕ) × (outcome ≡ Ok count) × (other ≡ Ok count2)
      × (8 * count + length two ≡ 8 * count2 + length one))

-- Some data was read as these rows, with this result. Whatever is changed, lost or added before an EOL, after the EOL
-- after it the rows are the same again, if the line in between ends before its EOL (T.4, 4.1.2).
abbrev pub RowsAfterStay : DecodeSettings → Bits → List Row → Result ℕ DecodeError → Type 0
RowsAfterStay settings one rows outcome =
    (two line following : Bits) (to to2 : ℕ) → AreWholeBytes two → AreAlikeAfter settings one two to to2 line following
    → AreInStep settings one two following rows (plain settings two).rows outcome (plain settings two).outcome

-- This is true of the plain reading (T.4, 4.1.2).
abbrev pub RowsAfter : Type 0
RowsAfter = (settings : DecodeSettings) (bits : Bits) → AreWholeBytes bits
    → RowsAfterStay settings bits (plain settings bits).rows (plain settings bits).outcome

-- ---- where the bits show that they are in step

-- auxiliary: the line here is broken or ends before the last twelve bits of an EOL, as its runs or modes show without a
-- reference row; `after` is what follows that EOL (T.4, 4.1.2 and 4.2)
abbrev pub EndsByWords : EncodingMode → ℕ → Bits → Bits → Type 0
EndsByWords Group3_1D columns after line = EndsBefore columns after line
EndsByWords Group3_2D columns after [] = Unit {0}
EndsByWords Group3_2D columns after (true ∷ line) = EndsBefore columns after line
EndsByWords Group3_2D columns after (false ∷ line) = ModesEndBefore after line
EndsByWords Group4 columns after line = ModesEndBefore after line

-- An EOL and the line after it put readings in step. In two-dimensional data modes and tags show it, whatever the rows
-- are: a two-dimensional line there ends by its modes, and a one-dimensional line, RTC or the end follows (T.4, 4.2).
pub record TellsStep (settings : DecodeSettings) (here line following : Bits) : Type 0 where
  pub step : PutsInStep settings here line following
  pub modes : settings.encoding ≡ Group3_2D → (modes : Bits) → line ≡ false ∷ modes → ModesEndBefore step.after modes
  pub tag : settings.encoding ≡ Group3_2D → ComesBefore1D settings step.next

-- At a position of lenient Group 3 data without a row limit are an EOL and a line that put readings in step from another
-- position on (T.4, 4.1.2 and 4.2).
pub record IsInStepFrom (settings : DecodeSettings) (bits : Bits) (to place : ℕ) : Type 0 where
  pub encoding : (settings.encoding ≡ Group3_1D) ⊎ (settings.encoding ≡ Group3_2D)
  pub lenient : settings.strict ≡ false
  pub unlimited : settings.rows ≡ 0
  pub wide : 0 < settings.columns
  pub within : to ≤ length bits
  pub place_within : place ≤ length bits
  pub line : Bits
  pub reported : TellsStep settings (drop to bits) line (drop place bits)

-- Whatever other data is the same from that EOL on has the same rows from that other position on, and ends alike, if EOLs
-- are sought from the start of both, and what is before the line makes no RTC (T.4, 4.1.2 and 4.1.4).
abbrev pub RowsFollow : DecodeSettings → Bits → ℕ → ℕ → Type 0
RowsFollow settings bits to place = (two line : Bits) (to2 : ℕ) → AreWholeBytes two → drop to bits ≡ drop to2 two
    → after_eol 0 (drop to bits) ≡ Some line
    → (settings.end_of_line ≡ true) ⊎ IsEolAt bits → (settings.end_of_line ≡ true) ⊎ IsEolAt two
    → MakesNoRtc settings bits line → MakesNoRtc settings two line
    → AreInStep settings bits two (drop place bits) (plain settings bits).rows (plain settings two).rows
    (plain settings bits).outcome (plain settings two).outcome
