use Rattle.fax_encode.proofs.Names.{arith, refl}
use Rattle.fax_encode.specs.Comparing.{bits_of_mode, bits_of_runs}
use Rattle.fax_encode.proofs.ComparedBits.{compares_on, if_here, if_not_here, last_compared, moves_on, none_passed, stops}
use Rattle.fax_encode.proofs.procedure.pass_mode.Goals as goal

pub returns-then-not-pass_code_word-clause-compares : goal.returns-then-not-pass_code_word-clause-compares
returns-then-not-pass_code_word-clause-compares c = stops (bits_of_runs c.args.color c.args.mode.runs)
    (none_passed (bits_of_mode c.args.color c.args.mode) c.args.reader.now) refl c.pass_code_word.ensures.compares
    c.if-not-pass_code_word.true

pub returns-clause-compares : goal.returns-clause-compares
returns-clause-compares c =
    last_compared (compares_on (none_passed (bits_of_mode c.args.color c.args.mode) c.args.reader.now) refl
    c.pass_code_word.ensures.compares c.if-not-pass_code_word.false) refl c.pass_runs.ensures.compares

pub returns-then-not-pass_code_word-clause-ticks : goal.returns-then-not-pass_code_word-clause-ticks
returns-then-not-pass_code_word-clause-ticks c =
    omega (arith, c.pass_code_word.ensures.ticks, if_not_here c.if-not-pass_code_word.true)

pub returns-clause-ticks : goal.returns-clause-ticks
returns-clause-ticks c = omega (
  arith,
  c.pass_code_word.ensures.ticks,
  if_here c.if-not-pass_code_word.false,
  moves_on c.pass_code_word.ensures.compares,
  c.pass_runs.ensures.ticks,
  moves_on c.pass_runs.ensures.compares,
)
