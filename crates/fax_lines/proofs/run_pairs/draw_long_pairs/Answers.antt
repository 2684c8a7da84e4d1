use Rattle.fax_lines.proofs.DrawingLines.PairsOfRuns.{pairs_stay, pairs_end, pairs_reach, pairs_on}
use Rattle.fax_lines.proofs.run_pairs.draw_long_pairs.Goals as goal

pub returns-in-None-clause-drawn : goal.returns-in-None-clause-drawn
returns-in-None-clause-drawn c = pairs_end (pairs_stay c.runs.invariant c.in-None.ensures.left c.in-None.ensures.kept)

pub returns-then-next-line-clause-drawn : goal.returns-then-next-line-clause-drawn
returns-then-next-line-clause-drawn c = pairs_reach c.runs.invariant c.in-Some.ensures.drawn

pub runs-preserved : goal.runs-preserved
runs-preserved c =
    let next = c.in-Some.ensures in
    pairs_on c.runs.invariant next.drawn c.if-next-line.false next.forward next.kept
