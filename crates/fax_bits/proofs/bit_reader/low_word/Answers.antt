use Rattle.fax_bits.proofs.BitReading.PlacedBits.{low_front_bit}
use Rattle.fax_bits.proofs.bit_reader.low_word.Goals as goal

pub returns : goal.returns
returns c k h = rw c.from_be_bytes.ensures (low_front_bit c.args.bytes.now k (λ i. (c.type_inv.bytes i).fits) h)
