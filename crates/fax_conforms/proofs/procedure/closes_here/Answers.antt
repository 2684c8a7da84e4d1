use Rattle.hayro_ccitt.proofs.Names.{arith, here, refl, subst, sym}
use Rattle.hayro_ccitt.proofs.Work.EolsPassed.{looked_most}
use Rattle.fax_conforms.proofs.EndsLooked.{closing_looks, zeros_looked}
use Rattle.fax_conforms.specs.ByProcedure.{FewZerosStand}
use Rattle.fax_conforms.proofs.procedure.closes_here.Goals as goal

pub returns-in-Some-clause-stands : goal.returns-in-Some-clause-stands
returns-in-Some-clause-stands c = (
  λ t. (
    here c.in-Some.after,
    (c.is_allowed.ensures.0 c.if-not-is_allowed.false, (c.in-Some.ensures.found (here c.in-Some.after)).1 refl),
    c.has_few_zeros.ensures.stands.0 t,
  ),
  λ (rest, (allows, closing), few).
      c.has_few_zeros.ensures.stands.1 (subst FewZerosStand (sym ((c.in-Some.ensures.found rest).0 closing)) few),
)

pub returns-then-not-is_allowed-clause-looks : goal.returns-then-not-is_allowed-clause-looks
returns-then-not-is_allowed-clause-looks c = zeros_looked _ _ _ _ (omega arith) (omega arith)

pub returns-in-Some-clause-looks : goal.returns-in-Some-clause-looks
returns-in-Some-clause-looks c = closing_looks c.args.asked.settings.encoding c.args.taken (here c.args.reader.now)
    (here c.in-Some.after) _ _ ((c.in-Some.ensures.found (here c.in-Some.after)).1 refl)
    (omega (arith, c.after_closing.ensures.looks.counts, c.has_few_zeros.ensures.ticks))
    (omega (arith, c.in-Some.ensures.pays, c.has_few_zeros.ensures.ticks, looked_most (here c.in-Some.after)))
