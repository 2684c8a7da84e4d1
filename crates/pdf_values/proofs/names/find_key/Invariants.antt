use Rattle.pdf_values.specs.Payments.{Pays}
use Rattle.pdf_values.proofs.names.find_key.Given as goal

abbrev pub invariant-keys : goal.invariant-keys
invariant-keys l = Pays l.fn.source l.source

abbrev pub decreases-keys : goal.decreases-keys
decreases-keys l = l.source.left
