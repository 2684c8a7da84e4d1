use Rattle.hayro_ccitt.proofs.Names.{arith, here, common_steps}
use Rattle.hayro_ccitt.proofs.reach.is_at_zero.Goals as goal

pub returns-in-Ok-eq0-clause-zero : goal.returns-in-Ok-eq0-clause-zero
returns-in-Ok-eq0-clause-zero c = λ e. (here c.read_bit.new.self, grind (arith, common_steps))
