use Rattle.fax_reading.proofs.DamagedLines.EncodedBodies.{encoded_lines_are_bodies}
use Rattle.fax_reading.proofs.DamagedLines.DamageByK.{locality_by_k as the_lemma}
use Rattle.fax_reading.proofs.laws.locality_by_k.Goals as goal

pub returns-clause-rows : goal.returns-clause-rows
returns-clause-rows c = the_lemma

pub returns-clause-bodies : goal.returns-clause-bodies
returns-clause-bodies c = encoded_lines_are_bodies
