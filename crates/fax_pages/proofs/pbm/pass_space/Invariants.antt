use Rattle.fax_pages.specs.Pbm.{Passes}
use Rattle.fax_pages.proofs.pbm.pass_space.Given as goal

abbrev pub invariant-space : goal.invariant-space
invariant-space l = Passes l.fn.source l.source

abbrev pub decreases-space : goal.decreases-space
decreases-space l = l.source.left
