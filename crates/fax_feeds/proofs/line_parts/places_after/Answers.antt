use Rattle.fax_feeds.proofs.Names.{arith, common_steps, ◌≡◌, ◌≤◌, ℕ, List, Row, Color, b1, right_of_painted, changes}
use Rattle.fax_feeds.proofs.Names.{length, pixels}
use Rattle.fax_feeds.proofs.Names.{and_parts, cases_lt, sym, ap, ◌∙◌}
use Rattle.std.proofs.lemmas.Bool.{leb-true}
use Rattle.fax_reading.proofs.PixelRows.ChangesAndPixels.{pixels-changes}
use Rattle.fax_reading.proofs.PixelRows.ChangePlaces.{is_least}
use Rattle.fax_feeds.proofs.line_parts.places_after.Goals as goal

-- b1 is in the row, or at its end
b1_in_row : (reference : Row) (from : ℕ) (color : Color) → b1 reference from color ≤ length reference
b1_in_row reference from color = grind (arith, common_steps, is_least)

-- nor is it left of what is painted
b1_not_left : (reference : Row) (painted : ℕ) (color : Color) → painted ≤ length reference
    → painted ≤ b1 reference (right_of_painted painted) color
b1_not_left reference painted color within =
    grind (arith, common_steps, and_parts, cases_lt, is_least, leb-true, right_of_painted)

-- the changes are those of the reference row
is_row : (reference : Row) (columns : ℕ) (places : List ℕ) → length reference ≡ columns → places ≡ changes reference
    → pixels columns places ≡ reference
is_row reference columns places width are =
    ap (λ (n : ℕ). pixels n places) (sym width) ∙ (ap (pixels (length reference)) are ∙ pixels-changes reference)

pub returns-clause-b1 : goal.returns-clause-b1
returns-clause-b1 c = grind (arith, common_steps, is_row)

pub returns-clause-b2 : goal.returns-clause-b2
returns-clause-b2 c = grind (arith, common_steps, is_row)

pub returns-clause-within : goal.returns-clause-within
returns-clause-within c =
    omega (
      arith,
      returns-clause-b1 c,
      c.reading_parts-ticks.ensures.width,
      b1_in_row c.args.ctx.now.held.reference (right_of_painted c.args.painted) c.args.color,
    )

pub returns-clause-onward : goal.returns-clause-onward
returns-clause-onward c = λ le.
    omega (
      arith,
      returns-clause-b1 c,
      c.reading_parts-ticks.ensures.width,
      le,
      b1_not_left c.args.ctx.now.held.reference c.args.painted c.args.color,
    )
