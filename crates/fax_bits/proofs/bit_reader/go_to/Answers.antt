use Rattle.fax_bits.proofs.Names.{arith}
use Rattle.fax_bits.proofs.BitReading.BitLists.{length-bits_in}
use Rattle.fax_bits.proofs.bit_reader.go_to.Goals as goal

pub move_far-requires : goal.move_far-requires
move_far-requires c = grind (arith, length-bits_in)
