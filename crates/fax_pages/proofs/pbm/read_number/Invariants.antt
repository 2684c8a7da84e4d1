use Rattle.fax_pages.specs.Pbm.{Passes}
use Rattle.fax_pages.proofs.pbm.read_number.Given as goal

abbrev pub invariant-digits : goal.invariant-digits
invariant-digits l = Passes l.fn.source l.source

abbrev pub decreases-digits : goal.decreases-digits
decreases-digits l = l.source.left
