use Rattle.fax_lines.proofs.Names.{◌≡◌, refl, arith, White}
use Rattle.fax_lines.proofs.DrawingLines.UsualModes.{draws_vertical, edge_stroke, named_left}
use Rattle.fax_lines.proofs.DrawingLines.UsualStrokes.{pixels-pending}
use Rattle.fax_lines.proofs.modes.draw_to_edge.Goals as goal

pub returns-clause-drawn : goal.returns-clause-drawn
returns-clause-drawn c =
    let can = c.requires.can in
    let turned = c.push_change.ensures in
    let none : c.args.stroke.painted ≡ 0 = omega (arith, c.if-stroke-gt0.false) in
    let white : c.args.stroke.color ≡ White = c.is_white.ensures.0 c.if-not-is_white.false in
    draws_vertical can (omega (arith, none)) c.requires.mode c.pass.ensures.moved c.opposite.ensures
    (rw (turned.items, pixels-pending) refl)
    (named_left _ _ c.args.mode.distance (omega (arith, c.change_at-b1.ensures, c.if-b1-mode.false, none)) c.requires.some)
    (omega arith) (omega (arith, c.tick_times.ensures)) (omega (arith, c.tick_times.ensures))
    (edge_stroke can.ended.lawful can.inside can.reached none white turned.items c.opposite.ensures)
    (omega (arith, can.room, c.requires.mode, c.pass.ensures.left, turned.count, turned.room))
