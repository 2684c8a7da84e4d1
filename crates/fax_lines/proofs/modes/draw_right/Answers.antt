use Rattle.fax_lines.proofs.Names.{common_steps}
use Rattle.fax_lines.proofs.Names.{refl, arith}
use Rattle.fax_lines.proofs.DrawingLines.UsualModes.{draws_vertical, b1_within, b1_onward, full_stroke, right_near, right_stroke}
use Rattle.fax_lines.proofs.DrawingLines.UsualModes.{named_right}
use Rattle.fax_lines.proofs.DrawingLines.UsualStrokes.{pixels-pending}
use Rattle.fax_lines.proofs.modes.draw_right.Goals as goal

pub overflow_sub-room : goal.overflow_sub-room
overflow_sub-room c = grind (arith, common_steps, b1_within)

pub seek_b1-index-requires-clause-near : goal.seek_b1-index-requires-clause-near
seek_b1-index-requires-clause-near c = grind (arith, common_steps, right_near)

pub returns-then-room-mode-2-clause-drawn : goal.returns-then-room-mode-2-clause-drawn
returns-then-room-mode-2-clause-drawn c =
    let can = c.requires.can in
    let within = b1_within can.ended.lawful can.inside can.reached in
    draws_vertical can (omega (arith, c.type_inv.line.0)) c.requires.mode c.pass.ensures.moved c.opposite.ensures refl
    (named_right _ c.args.line.now.columns _ (omega (arith, within, c.change_at-b1.ensures, c.if-room-mode-2.true)))
    (omega (arith, can.inside)) (omega (arith, c.tick_times.ensures)) (omega (arith, c.tick_times.ensures))
    (full_stroke can.ended.lawful can.inside can.reached) (omega (arith, can.room, c.pass.ensures.left))

pub returns-clause-drawn : goal.returns-clause-drawn
returns-clause-drawn c =
    let can = c.requires.can in
    let more = c.args.mode.distance in
    let b1 = c.change_at-b1.ensures in
    let turned = c.push_change.ensures in
    let next = c.seek_b1-index.ensures in
    draws_vertical can (omega (arith, c.type_inv.line.0, c.if-room-mode.false, c.if-room-mode-2.false)) c.requires.mode
    c.pass.ensures.moved c.opposite-2.ensures (rw (turned.items, pixels-pending) refl) (named_right _ _ more (omega (arith, b1)))
    (omega (arith, b1_onward can.ended.lawful can.inside can.reached, b1))
    (omega (arith, c.tick_times.ensures, next.work, next.onward.0))
    (omega (arith, c.tick_times.ensures, next.work, next.onward.0))
    (right_stroke can.ended.lawful can.inside can.reached more (omega (arith, b1)) c.requires.some
    (omega (arith, c.if-room-mode.false, c.if-room-mode-2.false)) turned.items c.opposite-2.ensures next.onward.1 next.near
    next.right)
    (omega (arith, can.room, c.requires.mode, c.pass.ensures.left, turned.count, turned.room))
