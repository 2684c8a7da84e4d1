use Rattle.pdf_read.specs.Payments.{Spends}
use Rattle.pdf_read.proofs.pdf.Pdf.undo_filters.Given as goal

abbrev pub invariant-filters : goal.invariant-filters
invariant-filters l = Spends l.fn.self l.self
