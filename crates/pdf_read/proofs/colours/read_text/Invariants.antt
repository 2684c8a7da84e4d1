use Rattle.pdf_read.specs.Payments.{Uses}
use Rattle.pdf_read.proofs.colours.read_text.Given as goal

abbrev pub invariant-text : goal.invariant-text
invariant-text l = Uses l.fn.source l.source

abbrev pub decreases-text : goal.decreases-text
decreases-text l = l.source.left
