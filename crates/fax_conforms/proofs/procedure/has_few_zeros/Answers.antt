use Rattle.hayro_ccitt.proofs.Names.{arith, here}
use Rattle.std.proofs.lemmas.Bool.{ltb-true}
use Rattle.fax_conforms.proofs.ProcedureEnds.{few_zeros_counted, more_zeros_counted}
use Rattle.fax_conforms.proofs.procedure.has_few_zeros.Goals as goal

pub returns-then-zeros-lt8-clause-stands : goal.returns-then-zeros-lt8-clause-stands
returns-then-zeros-lt8-clause-stands c =
    few_zeros_counted c.zero_run-zeros.result.1 c.zero_run-zeros.result.0 (here c.args.reader.now) _
    c.is_none.result c.if-zeros-lt8.true c.is_none.ensures c.zero_run-zeros.ensures.one c.zero_run-zeros.ensures.end

pub returns-else-zeros-lt8-clause-stands : goal.returns-else-zeros-lt8-clause-stands
returns-else-zeros-lt8-clause-stands c = (
  λ t. let few = ltb-true _ _ t in absurd (omega (arith, few, c.if-zeros-lt8.false)),
  λ stands. absurd (more_zeros_counted c.zero_run-zeros.result.1 c.zero_run-zeros.result.0 (here c.args.reader.now) _
      c.if-zeros-lt8.false c.zero_run-zeros.ensures.one c.zero_run-zeros.ensures.end stands),
)
