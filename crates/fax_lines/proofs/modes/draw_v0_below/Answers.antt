use Rattle.fax_lines.proofs.Names.{refl, arith}
use Rattle.fax_lines.proofs.DrawingLines.UsualModes.{draws_vertical, b1_onward, v0_stroke, named_right}
use Rattle.fax_lines.proofs.DrawingLines.UsualStrokes.{pixels-pending}
use Rattle.fax_lines.proofs.modes.draw_v0_below.Goals as goal

pub returns-clause-drawn : goal.returns-clause-drawn
returns-clause-drawn c =
    let can = c.requires.can in
    let b1 = c.requires.b1 in
    let turned = c.push_change.ensures in
    draws_vertical can (omega (arith, c.requires.inside, can.ended)) c.requires.mode c.pass.ensures.moved c.opposite.ensures
    (rw (turned.items, pixels-pending) refl) (named_right _ _ 0 (omega (arith, b1)))
    (omega (arith, b1, b1_onward can.ended.lawful can.inside can.reached))
    (omega (arith, c.tick_times.ensures)) (omega (arith, c.tick_times.ensures))
    (rw b1 (v0_stroke can.ended.lawful can.inside can.reached (omega (arith, c.requires.inside, b1))
    (rw b1 at turned.items) c.opposite.ensures))
    (omega (arith, can.room, c.requires.mode.within, c.pass.ensures.left, turned.count, turned.room))
