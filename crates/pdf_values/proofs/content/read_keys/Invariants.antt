use Rattle.std.proofs.Common.{vec_len}
use Rattle.pdf_values.specs.Payments.{Adds}
use Rattle.pdf_values.proofs.content.read_keys.Given as goal

abbrev pub invariant-keys : goal.invariant-keys
invariant-keys l = Adds l.fn.source (vec_len l.fn.items) l.source (vec_len l.items)

abbrev pub decreases-keys : goal.decreases-keys
decreases-keys l = l.source.left
