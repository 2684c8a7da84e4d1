use Rattle.fax_coding.proofs.Names.{ap, length, arith}
use Rattle.fax_coding.proofs.Names.{word_of_length}
use Rattle.fax_coding.proofs.RunLengths.{word_length}
use Rattle.fax_coding.proofs.ShortestRunsWritten.{shortest_one}
use Rattle.fax_coding.proofs.runs.shortest_run_bits.Goals as goal

pub returns-clause-is : goal.returns-clause-is
returns-clause-is c = omega (
  arith,
  c.from.ensures,
  word_length (word_of_length c.args.color c.args.pixels) c.terminating_word.result c.terminating_word.ensures,
  ap length (shortest_one c.args.color c.args.pixels c.if-pixels-ge64.false),
)
