use Rattle.worked_examples.proofs.Examples.{wide_row_read}
use Rattle.worked_examples.proofs.group3_1d_examples.Goals as goal

pub returns-clause-decode_the_encoded_wide_row : goal.returns-clause-decode_the_encoded_wide_row
returns-clause-decode_the_encoded_wide_row c = wide_row_read
