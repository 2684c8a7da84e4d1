use Rattle.std.proofs.Common.{◌<◌}
use Rattle.fax_pages.specs.Pbm.{Passes}
use Rattle.fax_pages.proofs.pbm.pass_line.Given as goal

abbrev pub invariant-line : goal.invariant-line
invariant-line l = Passes l.fn.source l.source × (l.source.left < l.fn.source.left)

abbrev pub decreases-line : goal.decreases-line
decreases-line l = l.source.left
