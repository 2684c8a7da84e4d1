-- The lists of changes have no more room than the columns, and the bits that were read, account for.
use Rattle.fax_lines.proofs.Names.{common_steps}
use Rattle.fax_lines.proofs.Names.{◌≡◌, ℕ, suc, ◌+◌, ◌≤◌, Bool, false, [], ◌∷◌, ◌++◌, length, ap, arith}
use Rattle.fax_lines.proofs.Names.{length-append, DecodeSettings, Bits, Row, Pen, changes}
use Rattle.fax_lines.proofs.Names.{front_of, line_here, most_room, most_stored, room_for, max, subst, BitsAt, Context, Line}
use Rattle.fax_lines.proofs.Names.{here, line_from_1d, line_from_2d, pen_of, min, ◌*◌}
use Rattle.fax_lines.proofs.Names.{found_here, line_1d, Group3_1D}
use Rattle.fax_reading.proofs.DrawingLines.Drawings.{drawn_by, step_1d, step_2d}
use Rattle.fax_reading.proofs.DrawingLines.DrawnLines.{IsDrawnSoFar, drawn_1d_keeps, drawn_2d_keeps}
use Rattle.fax_reading.proofs.DrawingLines.FullRows.{line_by_within}
use Rattle.fax_reading.proofs.PixelRows.{ChangesAndPixels.changes-recursive, RowChanges.changes_from}
use Rattle.fax_reading.proofs.PixelRows.{RowChanges.changes_from-append}
use Rattle.fax_reading.proofs.{Work.ChangesStored.changes_found, Work.WordsPay.found_within}

-- a row has no more changes than pixels
few_changes_from : (place : ℕ) (before : Bool) (row : Row) → length (changes_from place before row) ≤ length row
few_changes_from place before [] = omega arith
few_changes_from place before (pixel ∷ row) = grind (arith, common_steps, few_changes_from (suc place) pixel row)

pub changes_few : (row : Row) → length (changes row) ≤ length row
changes_few row = omega (arith, few_changes_from 0 false row, ap length (changes-recursive row))

-- a row that continues further has no fewer changes
changes_stay : (row more : Row) → length (changes row) ≤ length (changes (row ++ more))
changes_stay row more = grind (arith, common_steps, changes-recursive, changes_from-append, length-append)

-- a front has no more changes than the line that continues it
module _ (strict : Bool) (columns : ℕ) (pen : Pen) where
  abbrev HasAsMany : Row → Type 0
  HasAsMany row = length (changes pen.front) ≤ length (changes row)

  still_many : (row more : Row) → HasAsMany row → HasAsMany (row ++ more)
  still_many row more many = omega (arith, many, changes_stay row more)

  pub front_changes_1d : HasAsMany (front_of (drawn_by (step_1d strict columns) pen))
  front_changes_1d = drawn_1d_keeps HasAsMany still_many strict columns pen (omega arith)

  pub front_changes_2d : (reference : Row) → HasAsMany (front_of (drawn_by (step_2d strict columns reference) pen))
  front_changes_2d reference = drawn_2d_keeps HasAsMany still_many strict columns reference pen (omega arith)

-- so has a row that is drawn so far
pub drawn_so_far_1d : (before now : Context) (begun at : BitsAt)
    → IsDrawnSoFar (step_1d before.held.settings.strict before.held.settings.columns) before now begun at
    → length (changes now.held.front) ≤ length (changes (front_of (line_from_1d before.held (here begun))))
drawn_so_far_1d before now begun at so_far =
    subst (λ (l : Line). length (changes now.held.front) ≤ length (changes (front_of l))) so_far.line
    (front_changes_1d before.held.settings.strict before.held.settings.columns (pen_of now.held (here at)))

pub drawn_so_far_2d : (before now : Context) (begun at : BitsAt)
    → IsDrawnSoFar (step_2d before.held.settings.strict before.held.settings.columns before.held.reference) before now begun at
    → suc (length (changes now.held.front)) ≤ most_stored before.held.reference (line_from_2d before.held (here begun))
drawn_so_far_2d before now begun at so_far =
    subst (λ (l : Line). suc (length (changes now.held.front)) ≤ most_stored before.held.reference l) so_far.line (omega (
      arith,
      front_changes_2d before.held.settings.strict before.held.settings.columns
          (pen_of now.held (here at)) before.held.reference,
    ))

-- a list that grows once more, where it has no more changes, has no more room
pub grown_again : (old now last most stored : ℕ) → now ≤ max old (room_for most) → last ≤ max now (room_for stored)
    → stored ≤ most → last ≤ max old (room_for most)
grown_again old now last most stored so_far grown few = omega (arith, so_far, grown, few)

-- the changes of the reference row and of the front are among those that are stored
pub reference_stored : (reference : Row) (line : Line) (stored : ℕ) → stored ≤ most_stored reference line
    → max (length (changes reference)) stored ≤ most_stored reference line
reference_stored reference line stored few = omega (arith, few)

pub grown_more : (old now last stored most : ℕ) → now ≤ max old most → last ≤ max now stored → stored ≤ most → last ≤ max old most
grown_more old now last stored most so_far grown few = omega (arith, so_far, grown, few)

pub grown_within : (old begun now stored most : ℕ) → begun ≡ old → now ≤ max begun stored → stored ≤ most → now ≤ max old most
grown_within old begun now stored most same grown few = omega (arith, same, grown, few)

-- the room that there was is no more than that
pub same_room : (old now most : ℕ) → now ≡ old → now ≤ max old most
same_room old now most is = omega (arith, is)

-- nor has one for the reference row besides
pub more_stored : (old now : ℕ) (reference : Row) (line : Line) → now ≤ max old (room_for (length (changes (front_of line))))
    → now ≤ max old (room_for (most_stored reference line))
more_stored old now reference line grown = omega (arith, grown)

-- what a line stores takes no more room than that of all data
pub room_enough : (settings : DecodeSettings) (reference : Row) (bits here : Bits)
    → length (changes reference) ≤ suc (min settings.columns (length bits)) → length here ≤ length bits
    → room_for (most_stored reference (line_here settings reference here)) ≤ most_room settings bits
room_enough settings reference bits here few within =
    grind (arith, common_steps, changes_few, line_by_within, changes_found, found_within)

-- nor does a one-dimensional one
pub line_1d_enough : (settings : DecodeSettings) (bits here : Bits) → length here ≤ length bits
    → room_for (length (changes (front_of (line_1d settings.strict settings.columns here)))) ≤ most_room settings bits
line_1d_enough settings bits here within =
    omega (
      arith,
      within,
      changes_few (front_of (line_1d settings.strict settings.columns here)),
      line_by_within Group3_1D settings.strict settings.columns [] here,
      changes_found Group3_1D settings.strict settings.columns [] here,
      found_within Group3_1D settings.strict settings.columns [] here,
    )

-- nor more than that of a row
pub row_enough : (settings : DecodeSettings) (reference : Row) (here : Bits) → length reference ≡ settings.columns
    → room_for (most_stored reference (line_here settings reference here)) ≤ 2 * settings.columns + 66
row_enough settings reference here width = grind (arith, common_steps, changes_few, line_by_within)

-- the row of a line has no more changes than pixels, and but one more than there are bits
pub row_short : (settings : DecodeSettings) (reference row : Row) (bits here : Bits) → length row ≡ settings.columns
    → length (changes row) ≤ length (found_here settings reference here) + 1 → length here ≤ length bits
    → length (changes row) ≤ suc (min settings.columns (length bits))
row_short settings reference row bits here width stored within = grind (arith, common_steps, changes_few, found_within)
