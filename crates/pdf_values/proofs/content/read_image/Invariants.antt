use Rattle.std.proofs.Common.{vec_len}
use Rattle.pdf_values.specs.Payments.{Adds}
use Rattle.pdf_values.proofs.content.read_image.Given as goal

abbrev pub invariant-data : goal.invariant-data
invariant-data l = Adds l.fn.source (vec_len l.fn.items) l.source (vec_len l.items)

abbrev pub decreases-data : goal.decreases-data
decreases-data l = l.source.left
