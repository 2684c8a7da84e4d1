use Rattle.std.proofs.Common.{vec_len}
use Rattle.pdf_values.specs.Payments.{Adds}
use Rattle.pdf_values.proofs.items.Open.pop_all.Given as goal

abbrev pub invariant-open : goal.invariant-open
invariant-open l = Adds l.fn.source (vec_len l.fn.items) l.source (vec_len l.items)
