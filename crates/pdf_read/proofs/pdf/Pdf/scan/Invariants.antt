use Rattle.pdf_read.specs.Payments.{Spends}
use Rattle.pdf_read.proofs.pdf.Pdf.scan.Given as goal

abbrev pub invariant-file : goal.invariant-file
invariant-file l = Spends l.fn.self l.self

abbrev pub decreases-file : goal.decreases-file
decreases-file l = l.self.left
