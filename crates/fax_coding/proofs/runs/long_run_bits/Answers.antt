use Rattle.fax_coding.proofs.Names.{arith}
use Rattle.fax_coding.proofs.RunLengths.{short_rest, long_rest}
use Rattle.fax_coding.proofs.runs.long_run_bits.Goals as goal

pub returns-then-rest-lt64 : goal.returns-then-rest-lt64
returns-then-rest-lt64 c = omega (
  arith,
  c.from.ensures,
  short_rest c.args.color c.args.pixels c.terminating_word.result c.if-rest-lt64.true c.terminating_word.ensures,
)

pub returns : goal.returns
returns c = omega (
  arith,
  c.from.ensures,
  c.from-2.ensures,
  long_rest c.args.color c.args.pixels c.makeup_word.result c.terminating_word.result
      (omega (arith, c.if-rest-lt64.false)) c.makeup_word.ensures c.terminating_word.ensures,
)
