use Rattle.fax_coding.proofs.Names.{arith}
use Rattle.fax_coding.proofs.ShortestRunsWritten.{rest_one, rest_two}
use Rattle.fax_coding.proofs.runs.rest_bits.Goals as goal

pub returns-clause-is : goal.returns-clause-is
returns-clause-is c = omega (
  arith,
  c.from-last.ensures,
  rest_one c.args.color c.args.pixels c.terminating_word.result c.if-pixels-ge64.false c.terminating_word.ensures,
)

pub returns-then-pixels-ge64-clause-is : goal.returns-then-pixels-ge64-clause-is
returns-then-pixels-ge64-clause-is c = omega (
  arith,
  c.from-last.ensures,
  c.from.ensures,
  rest_two c.args.color c.args.pixels c.makeup_word.result c.terminating_word.result c.if-pixels-ge64.true
      c.makeup_word.ensures c.terminating_word.ensures,
)
