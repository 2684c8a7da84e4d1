use Rattle.std.proofs.Common.{◌<◌, vec_len}
use Rattle.paid_cursor.specs.Places.{IsPaid}
use Rattle.filters.proofs.ascii.decode_ascii85.Given as goal

abbrev pub invariant-digits : goal.invariant-digits
invariant-digits l =
    IsPaid l.fn.source (vec_len l.fn.out) l.source (vec_len l.out)
    × (l.count < 5)

abbrev pub decreases-digits : goal.decreases-digits
decreases-digits l = l.source.left
