use Rattle.pdf_read.specs.Payments.{Spends}
use Rattle.pdf_read.proofs.pdf.Pdf.follow.Given as goal

abbrev pub invariant-references : goal.invariant-references
invariant-references l = Spends l.fn.self l.self
