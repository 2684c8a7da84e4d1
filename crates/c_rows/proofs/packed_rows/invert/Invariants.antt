use Rattle.std.proofs.Common.{◌-◌, length}
use Rattle.hayro_ccitt.specs.BitOrder.TheVariants.{HighestFirst}
use Rattle.hayro_ccitt.specs.Bits.{bits_of_byte}
use Rattle.fax_encode.proofs.ChangedBytes.{AreChanged}
use Rattle.c_rows.proofs.InvertedBits.{inverted_bits}
use Rattle.c_rows.proofs.packed_rows.invert.Given as goal

abbrev pub invariant-loop-index : goal.invariant-loop-index
invariant-loop-index l = AreChanged (bits_of_byte HighestFirst) inverted_bits l.index l.bytes l.fn.bytes

abbrev pub decreases-loop-index : goal.decreases-loop-index
decreases-loop-index l = length l.bytes - l.index
