use Rattle.pdf_read.specs.Payments.{Spends}
use Rattle.pdf_read.proofs.pdf.Pdf.pass_data.Given as goal

abbrev pub invariant-search : goal.invariant-search
invariant-search l = Spends l.fn.self l.self

abbrev pub decreases-search : goal.decreases-search
decreases-search l = l.self.left
