use Rattle.fax_reading.proofs.Names.{refl}
use Rattle.fax_bits.proofs.BitReading.BitLists.{bits_are_whole}
use Rattle.fax_reading.proofs.laws.bits_of_bytes.Goals as goal

pub returns-clause-whole : goal.returns-clause-whole
returns-clause-whole c = bits_are_whole

pub returns-clause-mirrored : goal.returns-clause-mirrored
returns-clause-mirrored c byte = refl
