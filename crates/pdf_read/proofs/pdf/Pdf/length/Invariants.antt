use Rattle.pdf_read.specs.Payments.{Spends}
use Rattle.pdf_read.proofs.pdf.Pdf.length.Given as goal

abbrev pub invariant-elements : goal.invariant-elements
invariant-elements l = Spends l.fn.self l.self

abbrev pub decreases-elements : goal.decreases-elements
decreases-elements l = l.self.left
