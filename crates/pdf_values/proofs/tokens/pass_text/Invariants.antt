use Rattle.pdf_values.specs.Payments.{Passes}
use Rattle.pdf_values.proofs.tokens.pass_text.Given as goal

abbrev pub invariant-text : goal.invariant-text
invariant-text l = Passes l.fn.source l.source

abbrev pub decreases-text : goal.decreases-text
decreases-text l = l.source.left
