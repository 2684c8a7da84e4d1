use Rattle.fax_lines.proofs.Names.{refl, arith}
use Rattle.fax_lines.proofs.DrawingLines.UsualModes.{draws_vertical, b1_within, left_stroke, named_left}
use Rattle.fax_lines.proofs.DrawingLines.UsualStrokes.{pixels-pending}
use Rattle.fax_lines.proofs.modes.draw_left.Goals as goal

pub returns-clause-drawn : goal.returns-clause-drawn
returns-clause-drawn c =
    let can = c.requires.can in
    let b1 = c.change_at-b1.ensures in
    let right = c.if-b1-stroke.false in
    let turned = c.push_change.ensures in
    let next = c.b1_after_left-index.ensures in
    draws_vertical can (omega (arith, c.change_at-b1.type_inv)) c.requires.mode c.pass.ensures.moved c.opposite.ensures
    (rw (turned.items, pixels-pending) refl)
    (named_left _ _ c.args.mode.distance (omega (arith, b1, right)) c.requires.some) (omega (arith, right))
    (omega (arith, c.tick_times.ensures)) (omega (arith, c.tick_times.ensures, next.near))
    (left_stroke can.ended.lawful can.inside can.reached (omega (arith, right))
    (omega (arith, b1_within can.ended.lawful can.inside can.reached, b1, right, c.requires.some)) turned.items
    c.opposite.ensures next.at)
    (omega (arith, can.room, c.requires.mode, c.pass.ensures.left, turned.count, turned.room))
