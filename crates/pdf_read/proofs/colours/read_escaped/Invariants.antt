use Rattle.pdf_read.specs.Payments.{Uses}
use Rattle.pdf_read.proofs.colours.read_escaped.Given as goal

abbrev pub invariant-digits : goal.invariant-digits
invariant-digits l = Uses l.fn.source l.source
