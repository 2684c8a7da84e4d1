use Rattle.std.proofs.Common.{ap}
use Rattle.std.proofs.lemmas.Result.{err_from_is_err_and}
use Rattle.hayro_ccitt.specs.Bits.{bits_in}
use Rattle.hayro_ccitt.specs.Context.{Context}
use Rattle.fax_callers.proofs.OnceTaken.{none_taken, first_taken, pictures}
use Rattle.fax_callers.proofs.once.decode_once.Goals as goal

pub returns-in_err-ctx-clause-front : goal.returns-in_err-ctx-clause-front
returns-in_err-ctx-clause-front g c =
    let answer = err_from_is_err_and c.from_residual.result c.from_residual.ensures.1 in
    rw (answer.1, answer.2, c.in_err-ctx.ensures.only_memory)
    (none_taken c.args.settings (bits_in c.args.order c.args.«data».now) _ _ _)

pub returns-clause-front : goal.returns-clause-front
returns-clause-front g c = rw (← ap (λ (ctx : Context). ctx.held.settings) c.in_ok-ctx.ensures.made)
    (first_taken _ _ _ _ _ _ _ _ c.decode_in.ensures.decodes)

pub returns-clause-pictures : goal.returns-clause-pictures
returns-clause-pictures g c = rw (← ap (λ (ctx : Context). ctx.held.settings) c.in_ok-ctx.ensures.made)
    (pictures _ _ _ _ _ _ _ _ c.decode_in.ensures.decodes)
