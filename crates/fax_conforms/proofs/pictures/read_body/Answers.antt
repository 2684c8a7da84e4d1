use Rattle.hayro_ccitt.proofs.Names.{refl}
use Rattle.fax_conforms.proofs.LinesLooked.{body_looks}
use Rattle.hayro_ccitt.proofs.Names.{◌∙◌, ap, sym, length, arith, err_from_is_err_and, false≢true, here, pixels, Row, false}
use Rattle.hayro_ccitt.proofs.PixelRows.ChangesAndPixels.{length-pixels}
use Rattle.fax_conforms.proofs.BodyLines.{body_fails, body_leads}
use Rattle.fax_conforms.proofs.Padded.{iff_on}
use Rattle.fax_conforms.proofs.LinesBefore.{one_more_line, ends_in_line, in_same_bits}
use Rattle.fax_conforms.proofs.pictures.read_body.Goals as goal

pub rows-preserved : goal.rows-preserved
rows-preserved c =
    let columns = c.args.settings.columns in
    let row : Row = pixels c.args.settings.columns c.draw_filled_line.new.coding.items in
    let lawful = c.in_ok-draw_filled_line.ensures.reads.lawful in
    let width = length-pixels columns c.draw_filled_line.new.coding.items lawful in
    let on = body_leads c.args.settings c.rows.taken (pixels c.args.settings.columns c.rows.reference.items) (here c.rows.reader)
    (c.limit_met.ensures.unmet c.if-limit_met.false)
    (λ eofb. absurd (false≢true (sym c.if-is_eofb.false ∙ c.is_eofb.ensures.stands.1 eofb))) row
    (here c.draw_filled_line.new.reader) width
    (rw c.as_slice.ensures.value at c.in_ok-draw_filled_line.ensures.reads.row) in
    let stands = ((rw c.as_slice.ensures.value at c.in_ok-draw_filled_line.ensures.reads.row) row
    (here c.draw_filled_line.new.reader) width).1 (refl, refl) in
    record {
      stands = rw c.swap.ensures.x_after (iff_on c.rows.invariant.stands on);
      before = rw c.swap.ensures.x_after (one_more_line c.args.settings false c.rows.taken
          (pixels c.args.settings.columns c.rows.reference.items) row (here c.args.reader.now) (here c.rows.reader)
          (here c.draw_filled_line.new.reader) c.rows.invariant.before
          width
          (rw c.as_slice.ensures.value at c.in_ok-draw_filled_line.ensures.reads.passes));
      lawful = rw c.swap.ensures.x_after lawful;
      allows = c.limit_met.ensures.allows c.if-limit_met.false c.rows.invariant.allows;
      whole = c.in_ok-draw_filled_line.ensures.whole;
      same_bits = c.draw_filled_line.ensures.same_bits ∙ c.rows.invariant.same_bits;
      few = omega (
        arith,
        c.rows.invariant.few,
        c.in_ok-draw_filled_line.ensures.shorter,
        ap length c.draw_filled_line.ensures.same_bits,
      );
      counts = omega (arith, c.rows.invariant.counts, c.is_eofb.ensures.counts, c.draw_filled_line.ensures.pays.counts);
      work = rw c.swap.ensures.x_after (omega (
        arith,
        c.rows.invariant.work,
        c.in_ok-draw_filled_line.ensures.pays.paid,
        body_looks c.args.settings c.requires.wide (omega arith) (pixels c.args.settings.columns c.rows.reference.items) row
            (here c.rows.reader) (here c.draw_filled_line.new.reader) _ _ stands width
            c.is_eofb.ensures.work,
        ap length c.as_slice.ensures.value,
      ));
    }

pub returns-in_err-draw_filled_line-clause-none : goal.returns-in_err-draw_filled_line-clause-none
returns-in_err-draw_filled_line-clause-none c =
    let p = err_from_is_err_and c.from_residual.result c.from_residual.ensures.1 in
    rw (p.1, p.2) (λ broken stands. body_fails c.args.settings c.rows.taken
    (pixels c.args.settings.columns c.rows.reference.items) (here c.rows.reader) (c.limit_met.ensures.unmet c.if-limit_met.false)
    (λ eofb. absurd (false≢true (sym c.if-is_eofb.false ∙ c.is_eofb.ensures.stands.1 eofb)))
    (rw c.as_slice.ensures.value at (c.in_err-draw_filled_line.ensures.reads.none broken)) (c.rows.invariant.stands.0 stands))

pub returns-in_err-draw_filled_line-clause-at : goal.returns-in_err-draw_filled_line-clause-at
returns-in_err-draw_filled_line-clause-at c =
    let p = err_from_is_err_and c.from_residual.result c.from_residual.ensures.1 in
    rw (p.1, p.2) (in_same_bits c.args.settings false c.args.reader.now.bits c.rows.reader.bits (here c.args.reader.now) _
    c.rows.invariant.same_bits
    (ends_in_line c.args.settings false c.rows.taken (pixels c.args.settings.columns c.rows.reference.items) c.rows.reader.bits
    (here c.args.reader.now) (here c.rows.reader) _ c.rows.invariant.before
    (c.limit_met.ensures.allows c.if-limit_met.false c.rows.invariant.allows)
    (rw c.as_slice.ensures.value at c.in_err-draw_filled_line.ensures.reads.at)))

pub returns-in_err-draw_filled_line-clause-at_most : goal.returns-in_err-draw_filled_line-clause-at_most
returns-in_err-draw_filled_line-clause-at_most c = omega (
  arith,
  c.rows.invariant.work,
  c.is_eofb.ensures.at_most,
  c.draw_filled_line.ensures.pays.at_most,
  ap length c.as_slice.ensures.value,
)
