use Rattle.fax_lines.proofs.Names.{◌≡◌, ◌+◌, refl, arith}
use Rattle.fax_lines.proofs.DrawingLines.UsualModes.{first_stroke, horizontal_on, horizontal_stroke}
use Rattle.fax_lines.proofs.DrawingLines.UsualStrokes.{pixels-pending}
use Rattle.fax_lines.proofs.modes.draw_runs_in_row.Goals as goal

pub returns-in-None-clause-drawn : goal.returns-in-None-clause-drawn
returns-in-None-clause-drawn c = λ window rest mode here passed.
    let a = c.args in
    let follow = c.requires.follow in
    let turned = c.in-None.ensures.end in
    let end : a.stroke.painted + a.runs.first + a.runs.second ≡ a.line.now.columns =
    omega (arith, turned.0, follow.fits, follow.inside) in
    record {
      drawn = rw (passed, turned.1) (rw end at (horizontal_on follow.ended.lawful follow.inside follow.reached
          {strict = a.line.now.strict} window.at a.stroke.index {ticks = a.pen.now.ticks} {now = c.tick_times.new.ticks} mode.read
          here
          follow.right (omega (arith, end)) (omega (arith, c.tick.ensures, c.tick_times.ensures))
          (omega (arith, c.tick.ensures, c.tick_times.ensures))));
      reached = first_stroke follow.ended.lawful follow.inside follow.reached a.runs.first a.runs.second follow.right follow.some
          end turned.1;
    }

pub returns-in-Some-clause-drawn : goal.returns-in-Some-clause-drawn
returns-in-Some-clause-drawn c = λ window rest mode here passed.
    let a = c.args in
    let follow = c.requires.follow in
    let turned = c.in-Some.ensures.inside in
    let next = c.seek_b1-index.ensures in
    record {
      drawn = rw (passed, turned.2, pixels-pending, turned.0) (horizontal_on follow.ended.lawful follow.inside follow.reached
          window.at c.seek_b1-index.result mode.read here follow.right (omega (arith, turned, follow.inside))
          (omega (arith, c.tick.ensures, c.tick_times.ensures, next.work, next.onward.0))
          (omega (arith, c.tick.ensures, c.tick_times.ensures, next.work, next.onward.0)));
      reached = rw turned.0 (horizontal_stroke follow.ended.lawful follow.inside follow.reached a.runs.first a.runs.second
          follow.right follow.some (omega (arith, turned)) refl (rw turned.0 at turned.2) next.onward.1 (rw turned.0 at next.near)
          (rw turned.0 at next.right));
    }
