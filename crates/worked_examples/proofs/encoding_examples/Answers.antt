use Rattle.worked_examples.proofs.Examples.{two_lines_encoded, tagged_rows_encoded}
use Rattle.worked_examples.proofs.encoding_examples.Goals as goal

pub returns-clause-t6 : goal.returns-clause-t6
returns-clause-t6 c = two_lines_encoded

pub returns-clause-t4 : goal.returns-clause-t4
returns-clause-t4 c = tagged_rows_encoded
