use Rattle.fax_coding.proofs.Names.{arith}
use Rattle.fax_coding.proofs.RunLengths.{short_bits}
use Rattle.fax_coding.proofs.runs.run_bits.Goals as goal

pub returns : goal.returns
returns c = omega (
  arith,
  c.from.ensures,
  short_bits c.args.color c.args.pixels c.terminating_word.result
      (omega (arith, c.if-pixels-ge64.false)) c.terminating_word.ensures,
)
