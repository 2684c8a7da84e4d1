use Rattle.std.proofs.Common.{ap}
use Rattle.hayro_ccitt.specs.Context.{Context}
use Rattle.fax_guess.proofs.Readings.{end_taken, length-bits_in, rows_taken, start_within}
use Rattle.fax_guess.proofs.reading.outcome_of.Goals as goal

pub returns : goal.returns
returns c = record {
  rows = rw (← ap (λ (ctx : Context). ctx.held.settings) c.in-Ok.ensures.made)
      (rows_taken _ _ _ _ _ _ _ _ c.decode_in-end.ensures.decodes _ c.decoded_rows.ensures);
  end = rw (← ap (λ (ctx : Context). ctx.held.settings) c.in-Ok.ensures.made)
      (end_taken _ _ _ _ _ _ _ _ c.decode_in-end.ensures.decodes);
  within = record {
    bytes = c.decode_in-end.ensures.within;
    fault =
        let start = start_within _ _ _ _ _ _ _ _ c.decode_in-end.ensures.decodes in
        rw (c.unwrap_or.ensures, c.fault_start.ensures, ← length-bits_in c.args.order c.args.«data».now) start;
  };
}
