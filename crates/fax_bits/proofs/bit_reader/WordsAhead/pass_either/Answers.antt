use Rattle.fax_bits.proofs.Names.{arith}
use Rattle.fax_bits.proofs.BitReading.{BitLists.length-bits_in, PlacedBits.placed_passed}
use Rattle.fax_bits.proofs.bit_reader.WordsAhead.pass_either.Goals as goal

pub invariant_of-self : goal.invariant_of-self
invariant_of-self c = grind (arith, length-bits_in)

pub returns-then-word-first-clause-passed : goal.returns-then-word-first-clause-passed
returns-then-word-first-clause-passed c e = grind (arith, placed_passed)

pub invariant_of-self-then-word-second : goal.invariant_of-self-then-word-second
invariant_of-self-then-word-second c = grind (arith, length-bits_in)

pub returns-then-word-second-clause-passed : goal.returns-then-word-second-clause-passed
returns-then-word-second-clause-passed c e = grind (arith, placed_passed)
