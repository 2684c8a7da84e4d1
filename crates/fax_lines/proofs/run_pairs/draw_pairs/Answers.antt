use Rattle.fax_lines.proofs.DrawingLines.PairsOfRuns.{pairs_stay, pairs_end, pairs_reach, pairs_on}
use Rattle.fax_lines.proofs.run_pairs.draw_pairs.Goals as goal

pub returns-in-None-clause-drawn : goal.returns-in-None-clause-drawn
returns-in-None-clause-drawn c =
    let before = pairs_stay c.runs.invariant c.in_default.ensures.left c.draw_pair.ensures.kept in
    pairs_end (pairs_stay before c.in-None.ensures.left c.in-None.ensures.kept)

pub returns-then-next-line-clause-drawn : goal.returns-then-next-line-clause-drawn
returns-then-next-line-clause-drawn c =
    let before = pairs_stay c.runs.invariant c.in_default.ensures.left c.draw_pair.ensures.kept in
    pairs_reach before c.in-Some-draw_two_runs.ensures.drawn

pub runs-preserved : goal.runs-preserved
runs-preserved c =
    let before = pairs_stay c.runs.invariant c.in_default.ensures.left c.draw_pair.ensures.kept in
    let next = c.in-Some-draw_two_runs.ensures in
    pairs_on before next.drawn c.if-next-line.false next.forward next.kept
