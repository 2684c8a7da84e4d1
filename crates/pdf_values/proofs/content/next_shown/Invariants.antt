use Rattle.pdf_values.specs.Payments.{Passes}
use Rattle.pdf_values.proofs.content.next_shown.Given as goal

abbrev pub invariant-content : goal.invariant-content
invariant-content l = Passes l.fn.source l.source

abbrev pub decreases-content : goal.decreases-content
decreases-content l = l.source.left
