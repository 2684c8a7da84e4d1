use Rattle.std.proofs.Common.{vec_len}
use Rattle.pdf_values.specs.Payments.{Adds}
use Rattle.pdf_values.proofs.items.read_value.Given as goal

abbrev pub invariant-value : goal.invariant-value
invariant-value l = Adds l.fn.source (vec_len l.fn.items) l.source (vec_len l.items)

abbrev pub decreases-value : goal.decreases-value
decreases-value l = l.source.left
