use Rattle.std.proofs.Common.{◌-◌}
use Rattle.pdf_read.specs.Payments.{Spends}
use Rattle.pdf_read.proofs.pdf.Pdf.object.Given as goal

abbrev pub invariant-halves : goal.invariant-halves
invariant-halves l = Spends l.fn.self l.self

abbrev pub decreases-halves : goal.decreases-halves
decreases-halves l = l.high - l.low
