use Rattle.std.proofs.Common.{ℕ, ◌≡◌, ◌-◌, ap, arith}
use Rattle.fax_bits.specs.Bits.{low_bits}
use Rattle.fax_encode.proofs.ComparedBits.{all_compared, compares_on, none_consumed, moves_on, next_low, stops, whole_length}
use Rattle.fax_encode.proofs.procedure.pass_code_word.Goals as goal

pub returns-then-not-pass_bit-clause-compares : goal.returns-then-not-pass_bit-clause-compares
returns-then-not-pass_bit-clause-compares c = stops (low_bits (c.bits.left - 1) c.args.word.bits) c.bits.invariant.passed
    (next_low c.bits.left c.args.word.bits c.bits-test.true) c.pass_bit.ensures c.if-not-pass_bit.true

pub returns-then-not-pass_bit-clause-ticks : goal.returns-then-not-pass_bit-clause-ticks
returns-then-not-pass_bit-clause-ticks c = omega (
  arith,
  c.tick.ensures,
  c.bits.invariant.counted,
  c.bits.invariant.onward,
  none_consumed c.pass_bit.ensures c.if-not-pass_bit.true,
)

pub bits-preserved : goal.bits-preserved
bits-preserved c = record {
  passed = compares_on c.bits.invariant.passed (next_low c.bits.left c.args.word.bits c.bits-test.true) c.pass_bit.ensures
      c.if-not-pass_bit.false;
  counted = omega (
    arith,
    c.tick.ensures,
    c.bits.invariant.counted,
    c.bits.invariant.onward,
    whole_length c.pass_bit.ensures c.if-not-pass_bit.false,
  );
  onward = omega (arith, c.bits.invariant.onward, moves_on c.pass_bit.ensures);
  few = omega (arith, c.bits.invariant.few);
}

pub returns-clause-compares : goal.returns-clause-compares
returns-clause-compares c =
    let none : c.bits.left ≡ 0 = omega (arith, c.bits-test.false) in
    all_compared c.bits.invariant.passed (ap (λ (n : ℕ). low_bits n c.args.word.bits) none)
