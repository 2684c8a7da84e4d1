use Rattle.fax_encode.proofs.Names.{◌≡◌, ℕ, List, [], ap, arith, drop}
use Rattle.fax_encode.proofs.Names.{chosen_runs}
use Rattle.fax_encode.proofs.Names.{nil_from_length, length-drop}
use Rattle.fax_encode.proofs.ComparedBits.{compares_on, if_here, if_not_here, last_compared, moves_on, stops}
use Rattle.fax_encode.proofs.RunsWritten.{next_ascends, next_run, next_within}
use Rattle.fax_encode.proofs.procedure.pass_row.Goals as goal

pub returns-then-not-pass_run-clause-compares : goal.returns-then-not-pass_run-clause-compares
returns-then-not-pass_run-clause-compares c =
    stops _ c.changes.invariant.passed (next_run c.args.columns c.changes.place c.changes.next c.changes.color c.args.changes.now
    c.changes-test.true c.changes.invariant.ascend) c.pass_run.ensures.compares c.if-not-pass_run.true

pub changes-preserved : goal.changes-preserved
changes-preserved c =
    let columns : ℕ = c.args.columns in
    let row : List ℕ = c.args.changes.now in
    let i : ℕ = c.changes.next in
    let ascend = c.changes.invariant.ascend in
    record {
      counted = omega (arith, c.changes-test.true);
      within = next_within columns c.changes.place i c.changes.color row c.changes-test.true ascend;
      ascend = next_ascends columns c.changes.place i c.changes.color row c.changes-test.true ascend;
      passed = rw c.opposite-color.ensures (compares_on c.changes.invariant.passed
          (next_run columns c.changes.place i c.changes.color row
          c.changes-test.true ascend) c.pass_run.ensures.compares c.if-not-pass_run.false);
      ticks = omega (
        arith,
        c.changes.invariant.ticks,
        c.changes.invariant.onward,
        c.pass_run.ensures.ticks,
        if_here c.if-not-pass_run.false,
        moves_on c.pass_run.ensures.compares,
      );
      onward = omega (arith, c.changes.invariant.onward, moves_on c.pass_run.ensures.compares);
    }

pub returns-clause-compares : goal.returns-clause-compares
returns-clause-compares c =
    let none : drop c.changes.next c.args.changes.now ≡ []
    = nil_from_length (drop c.changes.next c.args.changes.now) (omega (
      arith,
      c.changes-test.false,
      length-drop c.changes.next c.args.changes.now,
    )) in
    last_compared c.changes.invariant.passed (ap (chosen_runs c.args.columns c.changes.color c.changes.place) none)
    c.pass_run-2.ensures.compares

pub returns-then-not-pass_run-clause-ticks : goal.returns-then-not-pass_run-clause-ticks
returns-then-not-pass_run-clause-ticks c = omega (
  arith,
  c.changes.invariant.ticks,
  c.changes.invariant.onward,
  c.pass_run.ensures.ticks,
  if_not_here c.if-not-pass_run.true,
  moves_on c.pass_run.ensures.compares,
)

pub returns-clause-ticks : goal.returns-clause-ticks
returns-clause-ticks c = omega (
  arith,
  c.changes.invariant.ticks,
  c.changes.invariant.onward,
  c.pass_run-2.ensures.ticks,
  moves_on c.pass_run-2.ensures.compares,
)
