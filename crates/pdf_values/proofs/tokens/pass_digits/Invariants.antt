use Rattle.pdf_values.specs.Payments.{Passes}
use Rattle.pdf_values.proofs.tokens.pass_digits.Given as goal

abbrev pub invariant-digits : goal.invariant-digits
invariant-digits l = Passes l.fn.source l.source

abbrev pub decreases-digits : goal.decreases-digits
decreases-digits l = l.source.left
