use Rattle.hayro_ccitt.proofs.Names.{arith, here, inl, inr, refl}
use Rattle.fax_conforms.proofs.ProcedureLines.{first_lead, later_lead}
use Rattle.hayro_ccitt.proofs.Work.EolsPassed.{looked_most}
use Rattle.fax_conforms.proofs.WordsPaid.{eol_is_paid, unpaid}
use Rattle.fax_conforms.proofs.Stopped.{if_err}
use Rattle.fax_conforms.proofs.procedure.pass_lead.Goals as goal

pub returns-then-taken-gt0-clause-none : goal.returns-then-taken-gt0-clause-none
returns-then-taken-gt0-clause-none c = if_err c.broken.result _ (λ rest lead. c.pass_eol.ensures.none c.if-pass_eol.false rest
    ((later_lead c.args.has_eols c.args.taken (here c.args.reader.now) rest c.if-not-has_eols.false c.if-taken-gt0.true).1 lead))

pub returns-in-None-clause-none : goal.returns-in-None-clause-none
returns-in-None-clause-none c = if_err c.broken-in-None.result _ (λ rest lead. c.in-None.ensures.none rest
    ((first_lead c.args.has_eols c.args.taken (here c.args.reader.now) rest c.if-not-has_eols.false
    (omega (arith, c.if-taken-gt0.false))).1 lead))

pub returns-then-taken-gt0-clause-at : goal.returns-then-taken-gt0-clause-at
returns-then-taken-gt0-clause-at c = rw c.broken.ensures.exact (
  c.if-not-has_eols.false,
  inl (
    c.if-taken-gt0.true,
    (refl, c.bit_pos-place.ensures.place, omega (arith, c.bit_pos-place.ensures.place, c.bit_pos-place.ensures.within)),
  ),
)

pub returns-in-None-clause-at : goal.returns-in-None-clause-at
returns-in-None-clause-at c = rw c.broken-in-None.ensures.exact (
  c.if-not-has_eols.false,
  inr (
    omega (arith, c.if-taken-gt0.false),
    (refl, c.bit_pos-place.ensures.place, omega (arith, c.bit_pos-place.ensures.place, c.bit_pos-place.ensures.within)),
  ),
)

pub returns-then-pass_eol-clause-pays : goal.returns-then-pass_eol-clause-pays
returns-then-pass_eol-clause-pays c =
    let paid = eol_is_paid (here c.args.reader.now) (here c.pass_eol.new.reader) (c.pass_eol.ensures.found c.if-pass_eol.true) in
    record {
      counts = omega (arith, c.pass_eol.ensures.ticks);
      paid = omega (arith, c.pass_eol.ensures.ticks, paid);
      at_most = omega (arith, c.pass_eol.ensures.ticks, paid);
    }

pub returns-then-taken-gt0-clause-pays : goal.returns-then-taken-gt0-clause-pays
returns-then-taken-gt0-clause-pays c = unpaid c.broken.result _ _ _ _ _ c.broken.ensures.exact
    (omega (arith, c.pass_eol.ensures.ticks)) (omega (arith, c.pass_eol.ensures.ticks, looked_most (here c.args.reader.now)))

pub returns-in-None-clause-pays : goal.returns-in-None-clause-pays
returns-in-None-clause-pays c = unpaid c.broken-in-None.result _ _ _ _ _ c.broken-in-None.ensures.exact
    (omega (arith, c.after_plain_eol.ensures.ticks))
    (omega (arith, c.after_plain_eol.ensures.ticks, looked_most (here c.args.reader.now)))
