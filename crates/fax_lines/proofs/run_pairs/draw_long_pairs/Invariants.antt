use Rattle.fax_lines.proofs.Names.{◌-◌}
use Rattle.fax_lines.proofs.DrawingLines.PairsOfRuns.{ArePairsDrawn}
use Rattle.fax_lines.proofs.run_pairs.draw_long_pairs.Given as goal

abbrev pub invariant-runs : goal.invariant-runs
invariant-runs l =
    ArePairsDrawn l.line.settings l.painted l.fn.pen l.place l.pen

abbrev pub decreases-runs : goal.decreases-runs
decreases-runs l = l.line.settings.columns - l.place
