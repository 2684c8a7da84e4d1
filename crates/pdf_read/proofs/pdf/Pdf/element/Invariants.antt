use Rattle.pdf_read.specs.Payments.{Spends}
use Rattle.pdf_read.proofs.pdf.Pdf.element.Given as goal

abbrev pub invariant-elements : goal.invariant-elements
invariant-elements l = Spends l.fn.self l.self
