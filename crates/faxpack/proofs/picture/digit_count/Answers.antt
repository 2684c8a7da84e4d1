use Rattle.std.proofs.Common.{rules, arith}
use Rattle.faxpack.proofs.Headers.{digits_more, digits_end, digits_past}
use Rattle.faxpack.proofs.picture.digit_count.Goals as goal

pub loop-count-preserved : goal.loop-count-preserved
loop-count-preserved c = record {
  within = search rules;
  digits =
      omega (arith, digits_more c.args.bytes.now c.loop-count.count (search rules) (search rules), c.loop-count.invariant.digits);
}

pub returns-else-is_ascii_digit-clause-count : goal.returns-else-is_ascii_digit-clause-count
returns-else-is_ascii_digit-clause-count c =
    omega (arith, digits_end c.args.bytes.now c.loop-count.count (search rules) (search rules), c.loop-count.invariant.digits)

pub returns-after-loop-count-clause-count : goal.returns-after-loop-count-clause-count
returns-after-loop-count-clause-count c =
    omega (arith, digits_past c.args.bytes.now c.loop-count.count (search rules), c.loop-count.invariant.digits)
