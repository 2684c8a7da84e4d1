use Rattle.worked_examples.proofs.Examples.{two_lines_conform, long_run_is_short, white_row_is_one_mode}
use Rattle.worked_examples.proofs.encoder_examples.Goals as goal

pub returns-clause-conforms : goal.returns-clause-conforms
returns-clause-conforms c = two_lines_conform

pub returns-clause-long_run : goal.returns-clause-long_run
returns-clause-long_run c = long_run_is_short

pub returns-clause-white_row : goal.returns-clause-white_row
returns-clause-white_row c = white_row_is_one_mode
