use Rattle.hayro_ccitt.proofs.Names.{◌∙◌, List, ℕ, Result, Row, arith, inl, inr, refl, err_from_is_err_and, false≢true, here}
use Rattle.hayro_ccitt.proofs.Names.{pixels, subst, sym, BitsAt, ap, length}
use Rattle.hayro_ccitt.proofs.PixelRows.ChangesAndPixels.{length-pixels}
use Rattle.fax_conforms.specs.ByProcedure.{PartStands, part_of}
use Rattle.fax_conforms.specs.Checks.{PassesPart, ReadsPart, IsOnlyPart}
use Rattle.fax_conforms.specs.Departures.{PartEndsAt}
use Rattle.fax_conforms.proofs.EndsLooked.{part_paid}
use Rattle.fax_conforms.proofs.WordsPaid.{unpaid}
use Rattle.hayro_ccitt.proofs.Work.EolsPassed.{looked_most}
use Rattle.fax_conforms.specs.declared.stops.Stop.{Stop}
use Rattle.fax_conforms.proofs.ProcedureDeparts.{kind_departs, part_departs, never_a_line}
use Rattle.fax_conforms.proofs.ProcedureLines.{kind_if, no_kind_no_part, no_line_no_part, no_part_read, part_read}
use Rattle.fax_conforms.proofs.procedure.draw_part.Goals.{After-pass_line}
use Rattle.fax_conforms.proofs.procedure.draw_part.Goals as goal

pub returns-in_err-draw_line-clause-reads : goal.returns-in_err-draw_line-clause-reads
returns-in_err-draw_line-clause-reads c =
    let p = err_from_is_err_and c.from_residual.result c.from_residual.ensures.1 in
    rw (p.1, p.2) (λ broken. no_line_no_part c.args.asked.settings c.args.asked.has_eols c.args.left
    (pixels c.args.asked.settings.columns c.args.reference.now) (here c.args.reader.now) c.requires.wide (omega arith)
    (length-pixels c.args.asked.settings.columns c.args.reference.now c.requires.reference)
    (rw c.copy-line.ensures.value at (c.in_err-draw_line.ensures.reads.none broken)))

pub returns-then-not-may_come-clause-reads : goal.returns-then-not-may_come-clause-reads
returns-then-not-may_come-clause-reads c = no_part_read c.broken.result c.args.asked.settings
    (PartStands c.args.asked.settings c.args.asked.has_eols c.args.left
    (pixels c.args.asked.settings.columns c.args.reference.now) (here c.args.reader.now)) c.args.coding.now.items
    (here c.args.reader.now) (here c.args.reader.now) c.broken.ensures.violated
    (no_kind_no_part c.args.asked.settings c.args.asked.has_eols c.args.left
    (pixels c.args.asked.settings.columns c.args.reference.now) (here c.args.reader.now) c.requires.wide (omega arith)
    (length-pixels c.args.asked.settings.columns c.args.reference.now c.requires.reference) c.next_is_two-is_two.result
    (λ kind row rest has is. c.next_is_two-is_two.ensures.only _ kind
    (pixels c.args.asked.settings.columns c.args.reference.now) row rest has is)
    (λ may. false≢true (sym c.if-not-may_come.true ∙ c.may_come.ensures.1 may)))

-- the line of the row that is read is here, or it isn't
abbrev Reads : (c : After-pass_line) → Result (Unit {0}) Stop → Type 0
Reads c answer = ReadsPart c.args.asked.settings (PartStands c.args.asked.settings c.args.asked.has_eols c.args.left
    (pixels c.args.asked.settings.columns c.args.reference.now) (here c.args.reader.now)) c.draw_line.new.coding.items
    (here c.args.reader.now) (here c.pass_line.new.reader) (kind_if c.next_is_two-is_two.result answer)

reads : (c : After-pass_line) → Reads c c.pass_line.result
reads c = part_read c.args.asked.settings c.args.asked.has_eols c.args.left
    (pixels c.args.asked.settings.columns c.args.reference.now) (here c.args.reader.now) c.requires.wide (omega arith)
    (length-pixels c.args.asked.settings.columns c.args.reference.now c.requires.reference) c.next_is_two-is_two.result
    (λ kind row rest has is. c.next_is_two-is_two.ensures.only _ kind
    (pixels c.args.asked.settings.columns c.args.reference.now) row rest has is)
    c.draw_line.new.coding.items (here c.draw_line.new.reader) c.in_ok-draw_line.ensures.reads.lawful
    (rw c.copy-line.ensures.value at c.in_ok-draw_line.ensures.reads.row)
    c.next_is_two-is_two.ensures.kind (c.may_come.ensures.0 c.if-not-may_come.false) (here c.pass_line.new.reader)
    c.pass_line.result (subst (λ (places : List ℕ). PassesPart
    (part_of c.args.asked.settings c.args.asked.has_eols c.next_is_two-is_two.result
    (pixels c.args.asked.settings.columns c.args.reference.now) (pixels c.args.asked.settings.columns places))
    (here c.args.reader.now) (here c.pass_line.new.reader) c.pass_line.result) c.as_slice.ensures.value
    c.pass_line.ensures.passes)

pub returns-in-Ok-clause-reads : goal.returns-in-Ok-clause-reads
returns-in-Ok-clause-reads c =
    let at = (goal.at.returns-in-Ok-clause-reads c).After-pass_line in subst (Reads at) c.in-Ok.is (reads at)

pub returns-in-Err-clause-reads : goal.returns-in-Err-clause-reads
returns-in-Err-clause-reads c =
    let at = (goal.at.returns-in-Err-clause-reads c).After-pass_line in subst (Reads at) c.in-Err.is (reads at)

-- ---- Where it ends early.
pub returns-in_err-draw_line-clause-at : goal.returns-in_err-draw_line-clause-at
returns-in_err-draw_line-clause-at c =
    let p = err_from_is_err_and c.from_residual.result c.from_residual.ensures.1 in
    rw (p.1, p.2) (never_a_line c.args.asked.settings c.args.asked.has_eols c.args.left
    (pixels c.args.asked.settings.columns c.args.reference.now) c.args.reader.now _
    (rw c.copy-line.ensures.value at c.in_err-draw_line.ensures.reads.none))

pub returns-then-not-may_come-clause-at : goal.returns-then-not-may_come-clause-at
returns-then-not-may_come-clause-at c = rw c.broken.ensures.exact (inr (inl (
  (refl, c.bit_pos-start.ensures.place, omega (arith, c.bit_pos-start.ensures.place, c.bit_pos-start.ensures.within)),
  kind_departs c.args.asked.settings.encoding c.args.left (here c.args.reader.now) c.next_is_two-is_two.result
      c.next_is_two-is_two.ensures.kind c.next_is_two-is_two.ensures.tag c.requires.unlimited
      (λ may. false≢true (sym c.if-not-may_come.true ∙ c.may_come.ensures.1 may)),
)))

pub returns-in-Err-clause-at : goal.returns-in-Err-clause-at
returns-in-Err-clause-at c =
    let columns : ℕ = c.args.asked.settings.columns in
    let row : Row = pixels columns c.draw_line.new.coding.items in
    let len = length-pixels columns c.draw_line.new.coding.items c.in_ok-draw_line.ensures.reads.lawful in
    let stands = ((rw c.copy-line.ensures.value at c.in_ok-draw_line.ensures.reads.row) row (here c.draw_line.new.reader) len).1
    (refl, refl) in
    part_departs c.args.asked.settings c.args.asked.has_eols c.args.left (pixels columns c.args.reference.now) row
    c.args.reader.now (here c.draw_line.new.reader) c.next_is_two-is_two.result c.in-Err.stop len
    (c.next_is_two-is_two.ensures.kind, c.may_come.ensures.0 c.if-not-may_come.false) stands c.next_is_two-is_two.ensures.tag
    (subst (λ (places : List ℕ). PartEndsAt (part_of c.args.asked.settings c.args.asked.has_eols c.next_is_two-is_two.result
    (pixels columns c.args.reference.now) (pixels columns places)) c.args.reader.now c.in-Err.stop) c.as_slice.ensures.value
    c.in-Err.ensures.at)

-- ---- What it counts.
pub returns-then-not-may_come-clause-pays : goal.returns-then-not-may_come-clause-pays
returns-then-not-may_come-clause-pays c = unpaid c.broken.result _ _ _ _ _ c.broken.ensures.exact
    c.next_is_two-is_two.ensures.counts
    (omega (arith, c.next_is_two-is_two.ensures.at_most, looked_most (here c.args.reader.now)))

pub returns-in_err-draw_line-clause-pays : goal.returns-in_err-draw_line-clause-pays
returns-in_err-draw_line-clause-pays c =
    let p = err_from_is_err_and c.from_residual.result c.from_residual.ensures.1 in
    unpaid c.from_residual.result _ _ _ _ _ p.1
    (omega (arith, c.next_is_two-is_two.ensures.counts, c.draw_line.ensures.pays.counts))
    (omega (
      arith,
      c.next_is_two-is_two.ensures.at_most,
      looked_most (here c.args.reader.now),
      c.draw_line.ensures.pays.at_most,
      ap (λ (r : BitsAt). length (here r)) c.copy-line.ensures.value,
    ))

pub returns-in-Err-clause-pays : goal.returns-in-Err-clause-pays
returns-in-Err-clause-pays c = record {
  counts = omega (
    arith,
    c.next_is_two-is_two.ensures.counts,
    c.draw_line.ensures.pays.counts,
    c.pass_line.ensures.pays.counts,
  );
  paid = tt;
  at_most = omega (
    arith,
    c.next_is_two-is_two.ensures.at_most,
    looked_most (here c.args.reader.now),
    c.in_ok-draw_line.ensures.pays.paid,
    ap (λ (r : BitsAt). length (here r)) c.copy-line.ensures.value,
    c.pass_line.ensures.pays.at_most,
  );
}

pub returns-in-Ok-clause-pays : goal.returns-in-Ok-clause-pays
returns-in-Ok-clause-pays c =
    let at = (goal.at.returns-in-Ok-clause-pays c).After-pass_line in
    let columns : ℕ = c.args.asked.settings.columns in
    let part : IsOnlyPart c.args.asked.settings (PartStands c.args.asked.settings c.args.asked.has_eols c.args.left
    (pixels columns c.args.reference.now) (here c.args.reader.now)) c.draw_line.new.coding.items
    (here c.args.reader.now) (here c.pass_line.new.reader) c.next_is_two-is_two.result = subst (Reads at) c.in-Ok.is (reads at) in
    let paid = part_paid c.args.asked.settings c.requires.wide (omega arith) c.args.asked.has_eols c.args.left
    (pixels columns c.args.reference.now) (length-pixels columns c.args.reference.now c.requires.reference)
    (here c.args.reader.now) c.next_is_two-is_two.result c.draw_line.new.coding.items (here c.pass_line.new.reader)
    (here c.draw_line.new.reader) part
    (rw c.copy-line.ensures.value at c.in_ok-draw_line.ensures.reads.row) in
    record {
      counts = omega (
        arith,
        c.next_is_two-is_two.ensures.counts,
        c.draw_line.ensures.pays.counts,
        c.pass_line.ensures.pays.counts,
      );
      paid = omega (
        arith,
        c.next_is_two-is_two.ensures.at_most,
        c.in_ok-draw_line.ensures.pays.paid,
        ap (λ (r : BitsAt). length (here r)) c.copy-line.ensures.value,
        c.in-Ok.ensures.pays.paid,
        paid.0,
        paid.1,
        part.shorter,
      );
      at_most = omega (
        arith,
        c.next_is_two-is_two.ensures.at_most,
        looked_most (here c.args.reader.now),
        c.in_ok-draw_line.ensures.pays.paid,
        ap (λ (r : BitsAt). length (here r)) c.copy-line.ensures.value,
        c.pass_line.ensures.pays.at_most,
      );
    }
