use Rattle.fax_encode.proofs.Names.{◌-◌, ◌∙◌, ◌++◌, ap, arith, sym, Bits, chosen_run}
use Rattle.fax_encode.proofs.ComparedBits.{compares_on, if_here, if_not_here, last_compared, moves_on, stops}
use Rattle.fax_encode.proofs.RunsWritten.{run_more, run_rest}
use Rattle.fax_encode.proofs.procedure.pass_run.Goals as goal

pub returns-then-not-pass_code_word-clause-compares : goal.returns-then-not-pass_code_word-clause-compares
returns-then-not-pass_code_word-clause-compares c =
    let left : Bits = chosen_run c.args.color (c.long.left - 2560) in
    stops left c.long.invariant.passed (run_more c.args.color c.long.left c.long-test.true
    ∙ ap (λ (b : Bits). b ++ left) (sym c.makeup_word.ensures.spells)) c.pass_code_word.ensures.compares
    c.if-not-pass_code_word.true

pub long-preserved : goal.long-preserved
long-preserved c =
    let left : Bits = chosen_run c.args.color (c.long.left - 2560) in
    record {
      passed = compares_on c.long.invariant.passed (run_more c.args.color c.long.left c.long-test.true
          ∙ ap (λ (b : Bits). b ++ left) (sym c.makeup_word.ensures.spells)) c.pass_code_word.ensures.compares
          c.if-not-pass_code_word.false;
      counted = omega (
        arith,
        c.long.invariant.counted,
        c.long.invariant.onward,
        c.pass_code_word.ensures.ticks,
        if_here c.if-not-pass_code_word.false,
        moves_on c.pass_code_word.ensures.compares,
      );
      onward = omega (arith, c.long.invariant.onward, moves_on c.pass_code_word.ensures.compares);
    }

pub returns-clause-compares : goal.returns-clause-compares
returns-clause-compares c = last_compared c.long.invariant.passed (run_rest c.args.color c.long.left c.long-test.false)
    c.pass_rest.ensures.compares

pub returns-then-not-pass_code_word-clause-ticks : goal.returns-then-not-pass_code_word-clause-ticks
returns-then-not-pass_code_word-clause-ticks c = omega (
  arith,
  c.long.invariant.counted,
  c.long.invariant.onward,
  c.pass_code_word.ensures.ticks,
  if_not_here c.if-not-pass_code_word.true,
  moves_on c.pass_code_word.ensures.compares,
)

pub returns-clause-ticks : goal.returns-clause-ticks
returns-clause-ticks c = omega (
  arith,
  c.long.invariant.counted,
  c.long.invariant.onward,
  c.pass_rest.ensures.ticks,
  moves_on c.pass_rest.ensures.compares,
)
