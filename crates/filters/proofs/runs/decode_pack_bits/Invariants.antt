use Rattle.std.proofs.Common.{vec_len}
use Rattle.paid_cursor.specs.Places.{IsPaid}
use Rattle.filters.proofs.runs.decode_pack_bits.Given as goal

abbrev pub invariant-runs : goal.invariant-runs
invariant-runs l = IsPaid l.fn.source (vec_len l.fn.out) l.source (vec_len l.out)

abbrev pub decreases-runs : goal.decreases-runs
decreases-runs l = l.source.left
