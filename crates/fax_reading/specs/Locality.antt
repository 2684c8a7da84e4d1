-- One-dimensional lenient data with EOLs: lines by EOLs, and how far damage reaches.
use Rattle.std.specs.Prelude.{◌≡◌, ◌≢◌, ℕ, suc, ◌+◌, ◌*◌, ◌-◌, ◌<◌, ◌≤◌, nat_le, ◌⊎◌, ◌↔◌, Some, None, is_some, Result, Ok, Err}
use Rattle.std.specs.Prelude.{Bool, true, false, not, ◌&&◌, if◌then◌else◌}
use Rattle.std.specs.Prelude.{List, [], ◌∷◌, ◌++◌, length, take, drop, replicate, map, set, All, Contains}
use Rattle.fax_bits.specs.declared.error.DecodeError.{DecodeError}
use Rattle.fax_bits.specs.declared.settings.EncodingMode.TheVariants.{Group3_1D}
use Rattle.fax_bits.specs.declared.settings.DecodeSettings.{DecodeSettings}
use Rattle.fax_bits.specs.Bits.{Bits, AreWholeBytes, IsPrefix}
use Rattle.fax_bits.specs.Repetition.{Reaches}
use Rattle.fax_reading.specs.Rows.{Row, repaired}
use Rattle.fax_reading.specs.Lines.{Line, line_1d}
use Rattle.fax_bits.specs.EndOfLine.{after_eol, all_eols, next_eol}
use Rattle.fax_reading.specs.PlainReading.{Progress, at_end, first_line, move_on, end_of, plain}
use Rattle.fax_reading.specs.Settings.{AreSettings}

-- ---- lines by EOLs

-- a position before the end of the data with no EOL (T.4, 4.1.2)
abbrev pub begins_line : Bits → Bool
begins_line here = not (at_end here) && not (is_some (after_eol 0 here))

-- the later positions where an EOL ends and a line begins, given the number of zeros just before (T.4, 4.1.2)
abbrev pub later_starts : ℕ → Bits → List Bits
later_starts seen [] = []
later_starts seen (false ∷ here) = later_starts (suc seen) here
later_starts seen (true ∷ here) = (if nat_le 11 seen && begins_line here then here ∷ [] else []) ++ later_starts 0 here

-- where lines begin: after the EOLs at the start of the data, and at each later position where an EOL ends and none
-- begins (T.4, 4.1.2)
abbrev pub starts : Bits → List Bits
starts bits = (all_eols bits).1 ∷ later_starts 0 (all_eols bits).1

-- the row of a line: the front of a broken one is continued in white (T.4, 4.1.2)
abbrev pub row_of : ℕ → Line → Row
row_of columns (Line.whole row rest) = row
row_of columns (Line.broken front fault) = repaired columns front

-- the row of the line here (T.4, 4.1.1)
abbrev pub row_at : ℕ → Bits → Row
row_at columns here = row_of columns (line_1d false columns here)

-- a line that is whole ends before the last twelve bits of an EOL; `after` is what follows that EOL (T.4, 4.1.2)
abbrev pub EndsBefore : ℕ → Bits → Bits → Type 0
EndsBefore columns after here = (row : Row) (rest : Bits)
    → line_1d false columns here ≡ Line.whole row rest → length after + 12 ≤ length rest

-- the line here ends before the last twelve bits of the next EOL, if there is one (T.4, 4.1.2)
abbrev pub StaysBefore : ℕ → Bits → Type 0
StaysBefore columns here = (found after : Bits)
    → next_eol here ≡ Some found → after_eol 0 found ≡ Some after → EndsBefore columns after here

-- an EOL is here (T.4, 4.1.2)
abbrev pub IsEolAt : Bits → Type 0
IsEolAt here = (after : Bits) × (after_eol 0 here ≡ Some after)

-- an EOL begins at one position, and ends at another within the data (T.4, 4.1.2)
abbrev pub IsEol : Bits → ℕ → ℕ → Type 0
IsEol bits place end = (place < end) × (end ≤ length bits) × (after_eol 0 (drop place bits) ≡ Some (drop end bits))

-- the position where the EOLs at the start of the data end (T.4, 4.1.2)
abbrev pub first_start : Bits → ℕ
first_start bits = length bits - length (all_eols bits).1

-- a line begins after the EOLs at the start, and at each later position before the end of the data where an EOL ends and
-- none begins (T.4, 4.1.2)
abbrev pub IsStart : Bits → ℕ → Type 0
IsStart bits place = (place ≡ first_start bits)
    ⊎ ((first_start bits < place) × (place < length bits) × ((at : ℕ) × IsEol bits at place)
    × (after_eol 0 (drop place bits) ≡ None))

-- auxiliary: each is longer than all that come after it
abbrev pub Descends : List Bits → Type 0
Descends [] = Unit {0}
Descends (here ∷ rest) = All (λ other. length other < length here) rest × Descends rest

-- If each line that is whole ends before the last twelve bits of the next EOL, the first rows are those of the lines that
-- begin after EOLs, in order (T.4, 4.1.2).
abbrev pub LinesByEols : Type 0
LinesByEols = (settings : DecodeSettings) (bits : Bits) → AreSettings settings
    → settings.encoding ≡ Group3_1D → settings.strict ≡ false → settings.end_of_block ≡ false → settings.rows ≡ 0
    → 0 < settings.columns
    → (settings.end_of_line ≡ true) ⊎ IsEolAt bits
    → All (StaysBefore settings.columns) (starts bits)
    → IsPrefix (map (row_at settings.columns) (starts bits)) (plain settings bits).rows

-- The starts are these positions, in order (T.4, 4.1.2).
abbrev pub StartsAre : Type 0
StartsAre = (bits : Bits)
    → ((place : ℕ) → place ≤ length bits → (Contains (starts bits) (drop place bits) ↔ IsStart bits place))
    × Descends (starts bits)

-- ---- locality

-- The body of a line lies between two positions: an EOL ends where it begins, or the data begins there; it contains a
-- one and no EOL; an EOL follows it, and the line, if it is whole, ends before the last twelve bits of that EOL (T.4,
-- 4.1.2).
pub record IsLocal (settings : DecodeSettings) (bits : Bits) (from to : ℕ) : Type 0 where
  pub encoding : settings.encoding ≡ Group3_1D
  pub lenient : settings.strict ≡ false
  pub order : from ≤ to
  pub within : to ≤ length bits
  pub starts : (from ≡ 0) ⊎ ((place : ℕ) × IsEol bits place from)
  pub one : (place : ℕ) × (from ≤ place) × (place < to) × IsPrefix (true ∷ []) (drop place bits)
  pub no_eol : (place end : ℕ) → from ≤ place → end ≤ to → IsEol bits place end → ⊥
  pub closes : (after : Bits) × (after_eol 0 (drop to bits) ≡ Some after) × EndsBefore settings.columns after (drop from bits)

-- The same as tests of the bits: the twelve before `from`, the body, and those at `to` (T.4, 4.1.2).
pub record IsLocalByTests (settings : DecodeSettings) (bits : Bits) (from to : ℕ) : Type 0 where
  pub encoding : settings.encoding ≡ Group3_1D
  pub lenient : settings.strict ≡ false
  pub order : from ≤ to
  pub within : to ≤ length bits
  pub starts : (from ≡ 0) ⊎ ((12 ≤ from) × (after_eol 0 (drop (from - 12) bits) ≡ Some (drop from bits)))
  pub one : take (to - from) (drop from bits) ≢ replicate (to - from) false
  pub no_eol : next_eol (take (to - from) (drop from bits)) ≡ None
  pub closes : (after : Bits) × (after_eol 0 (drop to bits) ≡ Some after) × EndsBefore settings.columns after (drop from bits)

-- The tests say whether a body is local (T.4, 4.1.2).
abbrev pub LocalByTests : Type 0
LocalByTests = (settings : DecodeSettings) (bits : Bits) (from to : ℕ)
    → IsLocal settings bits from to ↔ IsLocalByTests settings bits from to

-- the reading of Group 3 reaches a position where a line begins, after this number of rows (T.4, 4.1.2)
abbrev pub ComesToLine : DecodeSettings → Bits → ℕ → ℕ → Type 0
ComesToLine settings bits place index = (so_far : Progress)
    × Reaches (move_on settings) (first_line settings bits) so_far
    × (so_far.rest ≡ drop place bits) × (length so_far.rows ≡ index)

-- the rows of two inputs are equal, except at most the one whose line begins at a position in both (T.4, 4.1.2)
abbrev pub OneRowDiffers : DecodeSettings → Bits → Bits → ℕ → List Row → List Row → Type 0
OneRowDiffers settings one two from rows others = (others ≡ rows)
    ⊎ ((index : ℕ) × (row : Row)
    × ComesToLine settings one from index × ComesToLine settings two from index × (others ≡ set rows index row))

-- auxiliary: the reading of some data, with this result, ended without a fault, at this bit offset, with this byte count
pub record EndsAt (settings : DecodeSettings) (bits : Bits) (outcome : Result ℕ DecodeError) (place count : ℕ) : Type 0 where
  pub rest : Bits
  pub ends : (end_of settings bits).outcome ≡ Ok rest
  pub place_is : place + length rest ≡ length bits
  pub count_is : outcome ≡ Ok count

-- How the readings of two inputs end whose rows may differ from the line at a position on, in as many rows at most; the
-- first has these rows (T.4, 4.1.2).
pub data EndAlike (settings : DecodeSettings) (one two : Bits) (from differ : ℕ) (rows : List Row)
    (outcome other : Result ℕ DecodeError) : Type 0 where
  -- both with the same fault
  faults : (fault : DecodeError) → outcome ≡ Err fault → other ≡ Err fault
      → EndAlike settings one two from differ rows outcome other
  -- both at once, without columns
  no_columns : settings.columns ≡ 0 → outcome ≡ Ok 0 → other ≡ Ok 0 → EndAlike settings one two from differ rows outcome other
  -- both at one position, not after the line's start, with one count
  before : (place count : ℕ) → place ≤ from → EndsAt settings one outcome place count → EndsAt settings two other place count
      → EndAlike settings one two from differ rows outcome other
  -- both after the line's start, at the same number of bytes before the end of their data
  past : (place place2 count count2 : ℕ) → from < place → from < place2
      → EndsAt settings one outcome place count → EndsAt settings two other place2 count2
      → 8 * count + length two ≡ 8 * count2 + length one
      → EndAlike settings one two from differ rows outcome other
  -- both at the row limit, which one of these very rows meets, wherever its line ends
  at_limit : (index place place2 count count2 : ℕ)
      → ComesToLine settings one from index → ComesToLine settings two from index
      → index < settings.rows → settings.rows ≤ index + differ → length rows ≡ settings.rows → from ≤ place → from ≤ place2
      → EndsAt settings one outcome place count → EndsAt settings two other place2 count2
      → EndAlike settings one two from differ rows outcome other

-- Two inputs differ only within one body, which is local in both; and EOLs are sought from the start (T.4, 4.1.2).
pub record DifferInOneBody (settings : DecodeSettings) (one two : Bits) (from to to2 : ℕ) : Type 0 where
  pub before : take from one ≡ take from two
  pub after : drop to one ≡ drop to2 two
  pub body : IsLocal settings one from to
  pub other : IsLocal settings two from to2
  pub sought : (settings.end_of_line ≡ true) ⊎ ((end : ℕ) × (end ≤ from) × IsEol one 0 end)

-- Some data was read as these rows, with this result. Whatever replaces one local body by another, all rows except at
-- most the one of this body are those of the other data's plain reading, and both end alike (T.4, 4.1.2).
abbrev pub DamageStaysInRow : DecodeSettings → Bits → List Row → Result ℕ DecodeError → Type 0
DamageStaysInRow settings one rows outcome =
    (two : Bits) (from to to2 : ℕ) → AreWholeBytes two → DifferInOneBody settings one two from to to2
    → OneRowDiffers settings one two from rows (plain settings two).rows
    × EndAlike settings one two from 1 rows outcome (plain settings two).outcome

-- This is true of the plain reading (T.4, 4.1.2).
abbrev pub Locality : Type 0
Locality = (settings : DecodeSettings) (bits : Bits) → AreSettings settings → AreWholeBytes bits
    → DamageStaysInRow settings bits (plain settings bits).rows (plain settings bits).outcome
