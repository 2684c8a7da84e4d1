use Rattle.hayro_ccitt.proofs.Names.{◌-◌, Bool, ap, arith, here, length, pixels, refl, subst, ◌+◌, ◌≤◌, length-drop}
use Rattle.fax_encode.specs.Procedure.{StandsUpTo, part_by_procedure}
use Rattle.fax_encode.proofs.ComparedBits.{stands_nowhere}
use Rattle.fax_conforms.specs.Checks.{PassesPart}
use Rattle.fax_conforms.proofs.EndsLooked.{no_more_passed}
use Rattle.fax_conforms.proofs.WordsPaid.{unpaid}
use Rattle.fax_conforms.proofs.ProcedureLines.{none_passes}
use Rattle.fax_conforms.proofs.procedure.pass_line.Goals as goal

pub returns-clause-passes : goal.returns-clause-passes
returns-clause-passes c = subst (λ (fills : Bool). PassesPart (part_by_procedure c.args.asked.settings.encoding fills
    c.args.is_two (pixels c.args.asked.settings.columns c.args.rows.reference.now)
    (pixels c.args.asked.settings.columns c.args.rows.changes.now)) (here c.args.reader.now)
    (here c.pass_line_by_procedure.new.reader) c.broken.result) c.is_filled.ensures
    (none_passes c.broken.result _ (here c.args.reader.now) (here c.pass_line_by_procedure.new.reader) c.broken.ensures.violated
    (stands_nowhere (c.pass_line_by_procedure.ensures.differs c.if-pass_line_by_procedure.false)))

pub returns-clause-at : goal.returns-clause-at
returns-clause-at c = rw c.broken.ensures.exact (
  c.pass_line_by_procedure.new.reader.place - c.args.reader.now.place,
  refl,
  omega (arith, c.bit_pos.ensures.place, c.pass_line_by_procedure.ensures.onward),
  omega (arith, c.bit_pos.ensures.within, ap length c.pass_line_by_procedure.ensures.same_bits),
  subst (λ (fills : Bool). StandsUpTo (part_by_procedure c.args.asked.settings.encoding fills c.args.is_two
      (pixels c.args.asked.settings.columns c.args.rows.reference.now)
      (pixels c.args.asked.settings.columns c.args.rows.changes.now)) (here c.args.reader.now)
      (c.pass_line_by_procedure.new.reader.place - c.args.reader.now.place)) c.is_filled.ensures
      (c.pass_line_by_procedure.ensures.differs c.if-pass_line_by_procedure.false),
)

pub returns-clause-pays : goal.returns-clause-pays
returns-clause-pays c = unpaid c.broken.result _ _ _ _ _ c.broken.ensures.exact c.pass_line_by_procedure.ensures.counts (omega (
  arith,
  c.pass_line_by_procedure.ensures.work,
  no_more_passed _ (here c.args.reader.now) _ (c.pass_line_by_procedure.ensures.differs c.if-pass_line_by_procedure.false),
))

pub returns-then-pass_line_by_procedure-clause-pays : goal.returns-then-pass_line_by_procedure-clause-pays
returns-then-pass_line_by_procedure-clause-pays c =
    let passed : (c.pass_line_by_procedure.new.reader.place - c.args.reader.now.place)
    + length (here c.pass_line_by_procedure.new.reader) ≤ length (here c.args.reader.now) = omega (
      arith,
      c.bit_pos-end.ensures.place,
      c.bit_pos-end.ensures.within,
      ap length c.pass_line_by_procedure.ensures.same_bits,
      c.pass_line_by_procedure.ensures.onward,
      length-drop c.args.reader.now.place c.args.reader.now.bits,
      length-drop c.pass_line_by_procedure.new.reader.place c.pass_line_by_procedure.new.reader.bits,
    ) in
    record {
      counts = c.pass_line_by_procedure.ensures.counts;
      paid = omega (arith, c.pass_line_by_procedure.ensures.work, passed);
      at_most = omega (arith, c.pass_line_by_procedure.ensures.work, passed);
    }
