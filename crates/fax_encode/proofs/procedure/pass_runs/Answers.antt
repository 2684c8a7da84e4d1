use Rattle.fax_encode.proofs.Names.{ap, arith, sym, Bits, Color, chosen_run, opposite}
use Rattle.fax_encode.specs.Comparing.{bits_of_runs}
use Rattle.fax_encode.proofs.ComparedBits.{all_compared, compares_on, if_here, if_not_here, last_compared, moves_on}
use Rattle.fax_encode.proofs.ComparedBits.{none_passed, stops}
use Rattle.fax_encode.proofs.procedure.pass_runs.Goals as goal

pub returns-in-None-clause-compares : goal.returns-in-None-clause-compares
returns-in-None-clause-compares c =
    all_compared (none_passed (bits_of_runs c.args.color c.args.runs) c.args.reader.now)
    (ap (bits_of_runs c.args.color) c.in-None.is)

pub returns-then-not-pass_run-clause-compares : goal.returns-then-not-pass_run-clause-compares
returns-then-not-pass_run-clause-compares c =
    stops (chosen_run (opposite c.args.color) c.in-Some.runs.second)
    (none_passed (bits_of_runs c.args.color c.args.runs) c.args.reader.now) (ap (bits_of_runs c.args.color) c.in-Some.is)
    c.pass_run.ensures.compares c.if-not-pass_run.true

pub returns-else-not-pass_run-clause-compares : goal.returns-else-not-pass_run-clause-compares
returns-else-not-pass_run-clause-compares c =
    let second : Bits = chosen_run (opposite c.args.color) c.in-Some.runs.second in
    last_compared (compares_on (none_passed (bits_of_runs c.args.color c.args.runs) c.args.reader.now)
    (ap (bits_of_runs c.args.color) c.in-Some.is) c.pass_run.ensures.compares c.if-not-pass_run.false)
    (ap (λ (k : Color). chosen_run k c.in-Some.runs.second) (sym c.opposite.ensures)) c.pass_run-in-Some.ensures.compares

pub returns-then-not-pass_run-clause-ticks : goal.returns-then-not-pass_run-clause-ticks
returns-then-not-pass_run-clause-ticks c = omega (arith, c.pass_run.ensures.ticks, if_not_here c.if-not-pass_run.true)

pub returns-else-not-pass_run-clause-ticks : goal.returns-else-not-pass_run-clause-ticks
returns-else-not-pass_run-clause-ticks c = omega (
  arith,
  c.pass_run.ensures.ticks,
  if_here c.if-not-pass_run.false,
  moves_on c.pass_run.ensures.compares,
  c.pass_run-in-Some.ensures.ticks,
  moves_on c.pass_run-in-Some.ensures.compares,
)
