-- Lines that are drawn at once: nothing is painted before them.
use Rattle.fax_lines.proofs.Names.{common_steps}
use Rattle.fax_lines.proofs.Names.{◌≡◌, ◌≤◌, ℕ, true, [], arith, length, Color, White, pixels, BitsAt}
use Rattle.fax_lines.proofs.Names.{Context, context_of, GoesOn2d, pen_at}
use Rattle.fax_lines.proofs.DrawingLines.UsualModes.{empty_row, none_painted_yet}
use Rattle.fax_reading.proofs.PixelRows.ChangesAndPixels.{changes-pixels}
use Rattle.fax_lines.specs.ContextSteps.{DrawsAtOnce, IsAtStart}
use Rattle.fax_lines.specs.ContextView.{IsLawful}
use Rattle.fax_lines.specs.declared.context.DecoderContext.TheInside.{Inside}
use Rattle.std.proofs.Common.{Global}
use Rattle.std.specs.Prelude.{Vec, vec_capacity, vec_len}

-- a context that has painted nothing of its line
pub record HasPaintedNothing (c : Inside) : Type 0 where
  pub painted : c.pixels_decoded ≡ 0
  pub row : c.coding_changes.items ≡ []
  pub white : c.color ≡ White
  pub passed : c.passed ≡ 0

pub nothing_painted : (c : Inside) {ctx : Context} → context_of c ≡ ctx → IsLawful c → IsAtStart ctx → HasPaintedNothing c
nothing_painted c view lawful start = grind (arith, common_steps, none_painted_yet, empty_row)

-- the context with its line drawn: a row, the colour that would be next, how many changes of the reference row are passed, and
-- the ticks
abbrev pub with_line : Inside → Vec ℕ Global → Color → ℕ → ℕ → Inside
with_line c row color passed ticks = record c {
  coding_changes = row;
  pixels_decoded = c.settings.columns;
  color = color;
  passed = passed;
  ticks = ticks;
}

module _ (c : Inside) (none : HasPaintedNothing c) {at next : BitsAt} (row : Vec ℕ Global) (color : Color) where
  -- The line is drawn.
  pub draws_line : (passed : ℕ) {ticks : ℕ} → IsLawful c → vec_capacity row ≡ vec_capacity c.coding_changes
      → passed ≤ length c.ref_changes.items → next.bits ≡ at.bits
      → GoesOn2d c.settings.strict c.settings.columns (pixels c.settings.columns c.ref_changes.items) (pen_at 0 [] White at)
      (pen_at c.settings.columns row.items color next) c.ticks ticks 0 passed
      → DrawsAtOnce (context_of c) (context_of (with_line c row color passed ticks)) at next true
  draws_line passed lawful room within bits drawn = grind (arith, common_steps, changes-pixels)

  -- one that passes no change
  pub draws_unpassed : (ticks : ℕ) → vec_capacity row ≡ vec_capacity c.coding_changes → next.bits ≡ at.bits
      → GoesOn2d c.settings.strict c.settings.columns (pixels c.settings.columns c.ref_changes.items) (pen_at 0 [] White at)
      (pen_at c.settings.columns row.items color next) c.ticks ticks 0 0
      → DrawsAtOnce (context_of c) (context_of (with_line c row color c.passed ticks)) at next true
  draws_unpassed ticks room bits drawn = grind (arith, common_steps, changes-pixels)

module _ (c : Inside) {ctx : Context} (view : context_of c ≡ ctx) (lawful : IsLawful c) (start : IsAtStart ctx) where
  none : HasPaintedNothing c
  none = nothing_painted c view lawful start

  -- The context stays valid once its line is white.
  pub white_lawful : (color : Color) (ticks : ℕ) → IsLawful (with_line c c.coding_changes color c.passed ticks)
  white_lawful color ticks = grind (arith, common_steps, none)

  -- No room is used yet.
  pub room_for_one : vec_len c.coding_changes ≡ 0
  room_for_one = grind (arith, common_steps, none)
