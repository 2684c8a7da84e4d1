use Rattle.worked_examples.proofs.Examples.{alike_after_the_first, rows_after_read}
use Rattle.worked_examples.proofs.rows_after_examples.Goals as goal

pub returns-clause-applies : goal.returns-clause-applies
returns-clause-applies c = alike_after_the_first

pub returns-clause-damage : goal.returns-clause-damage
returns-clause-damage c = rows_after_read
