use Rattle.hayro_ccitt.proofs.Names.{arith, common_steps}
use Rattle.hayro_ccitt.proofs.{BitReading.BitLists.length-bits_in, DamagedLines.BodyTests.following_eol}
use Rattle.hayro_ccitt.proofs.locality.is_following_eol.Goals as goal

pub returns-in-Some-clause-after : goal.returns-in-Some-clause-after
returns-in-Some-clause-after c = grind (arith, common_steps, following_eol, length-bits_in)
