use Rattle.std.proofs.Common.{arith}
use Rattle.c_rows.proofs.InvertedBits.{inverted_byte}
use Rattle.c_rows.proofs.packed_rows.inverted.Goals as goal

pub returns : goal.returns
returns c = inverted_byte c.args.byte (omega (arith, c.ranges.byte))
