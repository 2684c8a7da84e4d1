use Rattle.fax_lines.proofs.Names.{◌≡◌, ◌+◌, inl, arith}
use Rattle.fax_lines.proofs.DrawingLines.UsualModes.{draws_mode, full_stroke, horizontal_on}
use Rattle.fax_lines.proofs.DrawingLines.UsualStrokes.{pixels-pending}
use Rattle.fax_lines.proofs.modes.draw_horizontal.Goals as goal

pub returns-then-runs-eq0-clause-drawn : goal.returns-then-runs-eq0-clause-drawn
returns-then-runs-eq0-clause-drawn c =
    let a = c.args in
    let can = c.requires.can in
    let columns = a.line.now.columns in
    let runs = c.in_ok-runs in
    let there = rw c.copy-rest.ensures at runs.ensures.runs in
    let first : a.stroke.painted + runs.runs.first ≡ columns = omega (arith, c.if-runs-room.false, can.inside) in
    let end : a.stroke.painted + runs.runs.first + runs.runs.second ≡ columns = omega (arith, first, c.if-runs-eq0.true) in
    let on = horizontal_on can.ended.lawful can.inside can.reached {strict = a.line.now.strict} a.pen.now.window.at
    a.stroke.index {ticks = a.pen.now.ticks} {now = c.tick_times.new.ticks} c.requires.mode.read there
    (inl (omega (arith, first, can.inside))) (omega (arith, end)) (omega (arith, c.tick.ensures, c.tick_times.ensures))
    (omega (arith, c.tick.ensures, c.tick_times.ensures)) in
    rw (runs.ensures.moved, c.copy-rest.ensures) (draws_mode (rw (end, first, pixels-pending) at on)
    (full_stroke can.ended.lawful can.inside can.reached) (omega arith)
    (omega (arith, runs.ensures.room)))

pub returns-clause-drawn : goal.returns-clause-drawn
returns-clause-drawn c =
    let runs = c.in_ok-runs in
    let next = c.draw_runs_in_row-reached.ensures in
    let moved = rw c.copy-rest.ensures at runs.ensures.moved in
    record {
      drawn = next.drawn c.args.pen.now.window c.pass_runs.new.window c.requires.mode
          (rw c.copy-rest.ensures at runs.ensures.runs) moved;
      onward = rw moved (omega arith);
      room = omega (arith, runs.ensures.room, next.count, next.space);
    }
