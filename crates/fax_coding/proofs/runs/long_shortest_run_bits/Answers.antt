use Rattle.fax_coding.proofs.Names.{arith, ap, length}
use Rattle.fax_coding.proofs.ShortestRunsWritten.{bits_more, shortest_few}
use Rattle.fax_coding.proofs.runs.long_shortest_run_bits.Goals as goal

pub loop-left-preserved : goal.loop-left-preserved
loop-left-preserved c = record {
  counted = omega (
    arith,
    c.from-bits.ensures,
    bits_more c.args.color c.loop-left.left c.first_makeup-times.result c.loop-left.bits c.makeup_word.result
        c.loop-left-test.true c.first_makeup-times.ensures.is c.makeup_word.ensures,
    c.loop-left.invariant.counted,
  );
  few = omega (
    arith,
    c.from-bits.ensures,
    c.makeup_word.ensures.few,
    c.first_makeup-times.ensures.long.0,
    c.loop-left.invariant.few,
  );
}

pub returns-clause-is : goal.returns-clause-is
returns-clause-is c = omega (
  arith,
  c.rest_bits.ensures.is,
  ap length (shortest_few c.args.color c.loop-left.left c.loop-left-test.false),
  c.loop-left.invariant.counted,
)
