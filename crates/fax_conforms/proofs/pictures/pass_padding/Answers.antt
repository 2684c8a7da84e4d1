use Rattle.hayro_ccitt.proofs.Names.{◌-◌, ◌%◌, ◌∙◌, false, here, arith, length-replicate}
use Rattle.fax_conforms.proofs.Padded.{iff_on, zero_passed, no_zero}
use Rattle.fax_conforms.proofs.pictures.pass_padding.Goals as goal

pub zeros-preserved : goal.zeros-preserved
zeros-preserved c = record {
  padding = λ rest. iff_on (c.zeros.invariant.padding rest)
      (zero_passed (here c.zeros.reader) (here c.pass_zero.new.reader) c.zeros.left rest c.zeros-test.true
      (c.pass_zero.ensures.zero c.if-not-pass_zero.false));
  few = omega (arith, c.zeros.invariant.few);
  place = omega (arith, c.zeros.invariant.place, c.pass_zero.ensures.place c.if-not-pass_zero.false, c.zeros-test.true);
  same_bits = c.pass_zero.ensures.same_bits ∙ c.zeros.invariant.same_bits;
  ticks = omega (arith, c.zeros.invariant.ticks, c.tick.ensures, c.zeros-test.true);
}

pub returns-then-not-pass_zero-clause-none : goal.returns-then-not-pass_zero-clause-none
returns-then-not-pass_zero-clause-none c = λ e rest padded.
    no_zero (here c.zeros.reader) c.zeros.left rest c.zeros-test.true (c.pass_zero.ensures.none c.if-not-pass_zero.true)
    ((c.zeros.invariant.padding rest).0 padded)

pub returns-then-not-pass_zero-clause-at_most : goal.returns-then-not-pass_zero-clause-at_most
returns-then-not-pass_zero-clause-at_most c = omega (
  arith,
  c.zeros.invariant.ticks,
  c.tick.ensures,
  c.zeros-test.true,
  length-replicate ((8 - c.args.reader.now.place % 8) % 8) false,
)

pub returns-clause-at_most : goal.returns-clause-at_most
returns-clause-at_most c =
    omega (arith, c.zeros.invariant.ticks, length-replicate ((8 - c.args.reader.now.place % 8) % 8) false)
