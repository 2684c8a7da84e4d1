use Rattle.fax_lines.specs.DrawnModes.{pen_with}
use Rattle.fax_lines.specs.TwoRunsHere.{DrawsRuns}
use Rattle.fax_lines.proofs.Names.{◌≡◌, ◌<◌, arith, White}
use Rattle.fax_lines.proofs.CodeWords.PairsOfRuns.{two_here_too}
use Rattle.fax_lines.proofs.run_pairs.draw_pair.Goals.{After-draw_both-place}
use Rattle.fax_lines.proofs.run_pairs.draw_pair.Goals as goal

both : (c : After-draw_both-place) → DrawsRuns c.args.line.now.settings c.args.painted
    (record c.args.pen.now { window = c.ensure_bits.new.window }) c.draw_both-place.result.0 c.draw_both-place.result.1
    (pen_with c.pass.new.self c.draw_both-place.new.row c.draw_both-place.new.ticks)
both c = c.draw_both-place.ensures.drawn c.ensure_bits.new.window c.pass.new.self
    (two_here_too White _ _ c.in_ok-runs.ensures.runs) c.pass.ensures.moved

inside : (c : After-draw_both-place) → c.draw_both-place.result.0 < c.args.line.now.settings.columns
inside c = omega (arith, c.draw_both-place.ensures.place, c.if-runs-line.false)

pub returns-clause-drawn : goal.returns-clause-drawn
returns-clause-drawn c =
    let drawn = both c in
    let white : c.draw_both-place.result.1 ≡ White = (drawn.reached.even (inside c)).1 in
    rw (← c.ensure_bits.ensures.same) (rw white at drawn.drawn)

pub returns-clause-open : goal.returns-clause-open
returns-clause-open c =
    let reached = (both c).reached in
    record { inside = inside c; lawful = reached.lawful; even = (reached.even (inside c)).0 }
