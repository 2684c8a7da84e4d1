use Rattle.worked_examples.proofs.Examples.{are_in_range, one_line_follows, one_line_differs, damage_by_k_read}
use Rattle.worked_examples.proofs.locality_by_k_examples.Goals as goal

pub returns-clause-follows : goal.returns-clause-follows
returns-clause-follows c = one_line_follows

pub returns-clause-damage : goal.returns-clause-damage
returns-clause-damage c = damage_by_k_read

pub returns-clause-applies : goal.returns-clause-applies
returns-clause-applies c = one_line_differs

pub returns-clause-range : goal.returns-clause-range
returns-clause-range c = are_in_range
