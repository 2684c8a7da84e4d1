use Rattle.fax_lines.proofs.Names.{◌≡◌, ◌∙◌, ◌+◌, get_or, arith, changes_in}
use Rattle.fax_lines.proofs.DrawingLines.UsualModes.{draws_mode, pass_on, b2_within, full_stroke, pass_stroke}
use Rattle.fax_reading.proofs.PixelRows.EndedPlaces.{ended_at}
use Rattle.fax_lines.proofs.modes.draw_pass.Goals as goal

pub returns-then-b2-line-clause-drawn : goal.returns-then-b2-line-clause-drawn
returns-then-b2-line-clause-drawn c =
    let a = c.args in
    let can = c.requires.can in
    let columns = a.line.now.columns in
    let b2 = c.change_or_end-b2.ensures ∙ ended_at columns a.line.now.places.now can.ended (a.stroke.index + 1) in
    let end : get_or (changes_in a.line.now.places.now) (a.stroke.index + 1) columns ≡ columns =
    omega (arith, b2_within can.ended.lawful can.inside can.reached, c.if-b2-line.true, b2) in
    rw c.pass.ensures.moved (draws_mode (rw end at (pass_on can.ended.lawful can.inside can.reached
    {strict = a.line.now.strict} a.pen.now.window.at a.stroke.index 4 {ticks = a.pen.now.ticks} {now = c.tick_times.new.ticks}
    c.requires.mode.read (omega (arith, c.tick_times.ensures)) (omega (arith, c.tick_times.ensures))))
    (full_stroke can.ended.lawful can.inside can.reached) (omega arith) (omega (arith, can.room, c.pass.ensures.left)))

pub returns-clause-drawn : goal.returns-clause-drawn
returns-clause-drawn c =
    let a = c.args in
    let can = c.requires.can in
    let line = a.line.now in
    let b2 = c.change_or_end-b2.ensures ∙ ended_at line.columns line.places.now can.ended (a.stroke.index + 1) in
    rw (c.pass.ensures.moved, b2) (draws_mode (pass_on can.ended.lawful can.inside can.reached a.pen.now.window.at
    (a.stroke.index + 2) 4 c.requires.mode.read (omega (arith, c.tick_times.ensures)) (omega (arith, c.tick_times.ensures)))
    (pass_stroke can.ended.lawful can.inside can.reached (omega (arith, c.if-b2-line.false, b2))) (omega arith)
    (omega (arith, can.room, c.pass.ensures.left)))
