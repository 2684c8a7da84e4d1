use Rattle.fax_feeds.proofs.Names.{arith, common_steps}
use Rattle.fax_feeds.proofs.Readings.ZerosUnused.{bits_of_one}
use Rattle.fax_feeds.proofs.zeros.write_one_and_zeros.Goals as goal

pub returns : goal.returns
returns c = grind (arith, common_steps, bits_of_one)
