use Rattle.worked_examples.proofs.Examples.{local_bodies, damage_read, limit_after}
use Rattle.worked_examples.proofs.locality_examples.Goals as goal

pub returns-clause-bodies : goal.returns-clause-bodies
returns-clause-bodies c = local_bodies

pub returns-clause-damage : goal.returns-clause-damage
returns-clause-damage c = damage_read

pub returns-clause-limit : goal.returns-clause-limit
returns-clause-limit c = limit_after
