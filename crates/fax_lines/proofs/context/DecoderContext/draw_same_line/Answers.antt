use Rattle.fax_lines.proofs.Names.{common_steps}
use Rattle.fax_lines.proofs.Names.{◌≡◌, ◌<◌, ◌+◌, ◌-◌, ◌*◌, [], refl, arith, length, White, pixels, moved}
use Rattle.fax_lines.proofs.Names.{GoesOn2d, IsStroke, TurnsFrom, pen_at, opposite}
use Rattle.fax_lines.proofs.DrawingLines.SameLines.{same_line, some_columns}
use Rattle.fax_lines.proofs.DrawingLines.UsualModes.{are_passed}
use Rattle.fax_lines.proofs.DrawingLines.LinesAtOnce.{HasPaintedNothing, draws_line, nothing_painted, room_for_one}
use Rattle.fax_lines.proofs.context.DecoderContext.draw_same_line.Goals.{After-opposite-self-inside}
use Rattle.fax_lines.proofs.context.DecoderContext.draw_same_line.Goals as goal

pub repeat_changes-requires : goal.repeat_changes-requires
repeat_changes-requires c = grind (arith, common_steps, room_for_one c.self.inside c.self.view_is c.self.invariant c.requires)

-- the changes are those of the row above, and the line draws them
module _ (c : After-opposite-self-inside) where
  painted_nothing : HasPaintedNothing c.self.inside
  painted_nothing = nothing_painted c.self.inside c.self.view_is c.self.invariant c.requires

  same_changes : c.repeat_changes.new.row.items ≡ c.self.inside.ref_changes.items
  same_changes = rw (painted_nothing.row, c.as_slice.ensures.value) at c.repeat_changes.ensures.items

  count_is : c.len-count.result ≡ length c.self.inside.ref_changes.items
  count_is = omega (arith, c.len-count.ensures, c.self.inside.ref_changes.ok.0)

  turns : TurnsFrom c.len-count.result c.next_color.result
  turns = grind (arith, common_steps, same_changes, count_is)

  drawn : GoesOn2d c.self.inside.settings.strict c.self.inside.settings.columns
      (pixels c.self.inside.settings.columns c.self.inside.ref_changes.items) (pen_at 0 [] White c.args.reader.now)
      (pen_at c.self.inside.settings.columns c.self.inside.ref_changes.items (opposite c.next_color.result)
      (moved (c.len-count.result + 1) c.args.reader.now)) c.self.inside.ticks
      (c.self.inside.ticks + 2 * (c.len-count.result + 1)) 0 (c.len-count.result - 1) × IsStroke c.self.inside.settings.columns
      c.self.inside.ref_changes.items c.self.inside.settings.columns c.len-count.result (opposite c.next_color.result)
      c.self.inside.ref_changes.items
  drawn =
      let s = c.self.inside in
      same_line s.settings.strict s.settings.columns s.ref_changes.items c.next_color.result c.args.reader.now
      c.len-count.result _ s.ticks c.self.invariant.reference (omega arith) count_is
      (omega (arith, c.if-count-eq0.false)) (omega (arith, c.if-count-gt31.false))
      turns refl (c.if-not-pass_bits.ensures.there refl)

pub invariant_of-self : goal.invariant_of-self
invariant_of-self c =
    let at = (goal.at.invariant_of-self c).After-opposite-self-inside in
    let stroke = (drawn at).1 in
    let some : 0 < c.self.inside.settings.columns =
    grind (arith, common_steps, some_columns, count_is at) in
    record {
      reference = c.self.invariant.reference;
      front = rw (same_changes at) (stroke.whole (omega arith));
      within = omega arith;
      passed = are_passed some c.self.invariant.reference stroke;
    }

pub returns : goal.returns
returns c =
    let at = (goal.at.returns c).After-opposite-self-inside in
    let s = c.self.inside in
    rw (← c.self.view_is, c.if-not-pass_bits.ensures.moved refl, c.tick_times.ensures) (draws_line s (painted_nothing at)
    c.repeat_changes.new.row _ _ c.self.invariant c.repeat_changes.ensures.room (omega (arith, count_is at)) refl
    (rw (same_changes at, c.opposite-self-inside.ensures) (drawn at).0))
