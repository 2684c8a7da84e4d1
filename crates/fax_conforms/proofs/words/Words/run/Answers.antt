use Rattle.hayro_ccitt.proofs.Names.{arith, here}
use Rattle.fax_conforms.proofs.WordsPaid.{missed_one, run_has_bits, run_is_paid, run_words_few}
use Rattle.fax_conforms.proofs.words.Words.run.Goals as goal

pub returns-in-Ok-clause-work : goal.returns-in-Ok-clause-work
returns-in-Ok-clause-work c = omega (
  arith,
  c.in-Ok.ensures.ticks,
  run_is_paid c.args.color (here c.args.reader.now) _ (here c.decode_run.new.self) c.in-Ok.ensures.run,
)

pub returns-in-Ok-clause-shorter : goal.returns-in-Ok-clause-shorter
returns-in-Ok-clause-shorter c =
    run_has_bits c.args.color (here c.args.reader.now) _ (here c.decode_run.new.self) c.in-Ok.ensures.run

pub returns-in-Ok-clause-at_most : goal.returns-in-Ok-clause-at_most
returns-in-Ok-clause-at_most c = omega (
  arith,
  c.decode_run.ensures.ticks,
  missed_one c.decode_run.result,
  run_words_few c.args.color (here c.args.reader.now),
)

pub returns-in-Err-clause-at_most : goal.returns-in-Err-clause-at_most
returns-in-Err-clause-at_most c = omega (
  arith,
  c.decode_run.ensures.ticks,
  missed_one c.decode_run.result,
  run_words_few c.args.color (here c.args.reader.now),
)
