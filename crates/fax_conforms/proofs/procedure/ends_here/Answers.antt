use Rattle.hayro_ccitt.proofs.Names.{◌∙◌, arith, here, sym}
use Rattle.fax_conforms.proofs.EndsLooked.{zeros_looked}
use Rattle.fax_conforms.proofs.ProcedureEnds.{ends_at_limit}
use Rattle.fax_conforms.proofs.procedure.ends_here.Goals as goal

pub returns-then-limit_met-clause-stands : goal.returns-then-limit_met-clause-stands
returns-then-limit_met-clause-stands c =
    ends_at_limit _ c.args.asked.settings c.args.taken (here c.args.reader.now) c.has_few_zeros.result
    (sym c.is_closed.ensures ∙ c.if-is_closed.false) (c.limit_met.ensures.met c.if-limit_met.true) c.has_few_zeros.ensures.stands

pub returns-then-limit_met-clause-looks : goal.returns-then-limit_met-clause-looks
returns-then-limit_met-clause-looks c = zeros_looked _ _ _ _ (omega (arith, c.has_few_zeros.ensures.ticks))
    (omega (arith, c.has_few_zeros.ensures.ticks))

pub returns-else-limit_met-clause-looks : goal.returns-else-limit_met-clause-looks
returns-else-limit_met-clause-looks c = zeros_looked _ _ _ _ (omega arith) (omega arith)
