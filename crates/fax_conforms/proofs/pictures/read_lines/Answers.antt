use Rattle.hayro_ccitt.proofs.Names.{refl}
use Rattle.fax_conforms.proofs.LinesLooked.{eol_line_looks}
use Rattle.hayro_ccitt.proofs.Names.{◌∙◌, ap, sym, length, arith, err_from_is_err_and, false≢true, here, pixels, Row, true}
use Rattle.hayro_ccitt.proofs.PixelRows.ChangesAndPixels.{length-pixels}
use Rattle.fax_conforms.proofs.EolLines.{lines_fail, lines_lead}
use Rattle.fax_conforms.proofs.Padded.{iff_on}
use Rattle.fax_conforms.proofs.LinesBefore.{one_more_line, ends_in_line, in_same_bits}
use Rattle.fax_conforms.proofs.pictures.read_lines.Goals as goal

pub rows-preserved : goal.rows-preserved
rows-preserved c =
    let columns = c.args.settings.columns in
    let row : Row = pixels c.args.settings.columns c.draw_line_following_eol.new.coding.items in
    let lawful = c.in_ok-draw_line_following_eol.ensures.reads.lawful in
    let width = length-pixels columns c.draw_line_following_eol.new.coding.items lawful in
    let on = lines_lead c.args.settings c.rows.taken (pixels c.args.settings.columns c.rows.reference.items) (here c.rows.reader)
    (c.limit_met.ensures.unmet c.if-limit_met.false)
    (λ rtc. absurd (false≢true (sym c.if-is_rtc.false ∙ c.is_rtc.ensures.stands.1 rtc))) row
    (here c.draw_line_following_eol.new.reader) width
    (rw c.as_slice.ensures.value at c.in_ok-draw_line_following_eol.ensures.reads.row) in
    let row_stands = rw c.as_slice.ensures.value at c.in_ok-draw_line_following_eol.ensures.reads.row in
    let stands = (row_stands row (here c.draw_line_following_eol.new.reader) width).1 (refl, refl) in
    record {
      stands = rw c.swap.ensures.x_after (iff_on c.rows.invariant.stands on);
      before = rw c.swap.ensures.x_after (one_more_line c.args.settings true c.rows.taken
          (pixels c.args.settings.columns c.rows.reference.items) row (here c.args.reader.now) (here c.rows.reader)
          (here c.draw_line_following_eol.new.reader) c.rows.invariant.before
          width
          (rw c.as_slice.ensures.value at c.in_ok-draw_line_following_eol.ensures.reads.passes));
      lawful = rw c.swap.ensures.x_after lawful;
      allows = c.limit_met.ensures.allows c.if-limit_met.false c.rows.invariant.allows;
      same_bits = c.draw_line_following_eol.ensures.same_bits ∙ c.rows.invariant.same_bits;
      few = omega (
        arith,
        c.rows.invariant.few,
        c.in_ok-draw_line_following_eol.ensures.shorter,
        ap length c.draw_line_following_eol.ensures.same_bits,
      );
      counts = omega (arith, c.rows.invariant.counts, c.is_rtc.ensures.counts, c.draw_line_following_eol.ensures.pays.counts);
      work = rw c.swap.ensures.x_after (omega (
        arith,
        c.rows.invariant.work,
        c.in_ok-draw_line_following_eol.ensures.pays.paid,
        eol_line_looks c.args.settings c.requires.wide (omega arith) (pixels c.args.settings.columns c.rows.reference.items) row
            (here c.rows.reader) (here c.draw_line_following_eol.new.reader) _ _ stands width
            (c.is_rtc.ensures.none, c.is_rtc.ensures.one),
        ap length c.as_slice.ensures.value,
      ));
    }

pub returns-in_err-draw_line_following_eol-clause-none : goal.returns-in_err-draw_line_following_eol-clause-none
returns-in_err-draw_line_following_eol-clause-none c =
    let p = err_from_is_err_and c.from_residual.result c.from_residual.ensures.1 in
    rw (p.1, p.2) (λ broken stands. lines_fail c.args.settings c.rows.taken
    (pixels c.args.settings.columns c.rows.reference.items) (here c.rows.reader) (c.limit_met.ensures.unmet c.if-limit_met.false)
    (λ rtc. absurd (false≢true (sym c.if-is_rtc.false ∙ c.is_rtc.ensures.stands.1 rtc)))
    (rw c.as_slice.ensures.value at (c.in_err-draw_line_following_eol.ensures.reads.none broken))
    (c.rows.invariant.stands.0 stands))

pub returns-in_err-draw_line_following_eol-clause-at : goal.returns-in_err-draw_line_following_eol-clause-at
returns-in_err-draw_line_following_eol-clause-at c =
    let p = err_from_is_err_and c.from_residual.result c.from_residual.ensures.1 in
    rw (p.1, p.2) (in_same_bits c.args.settings true c.args.reader.now.bits c.rows.reader.bits (here c.args.reader.now) _
    c.rows.invariant.same_bits
    (ends_in_line c.args.settings true c.rows.taken (pixels c.args.settings.columns c.rows.reference.items) c.rows.reader.bits
    (here c.args.reader.now) (here c.rows.reader) _ c.rows.invariant.before
    (c.limit_met.ensures.allows c.if-limit_met.false c.rows.invariant.allows)
    (rw c.as_slice.ensures.value at c.in_err-draw_line_following_eol.ensures.reads.at)))

pub returns-in_err-draw_line_following_eol-clause-at_most : goal.returns-in_err-draw_line_following_eol-clause-at_most
returns-in_err-draw_line_following_eol-clause-at_most c = omega (
  arith,
  c.rows.invariant.work,
  c.is_rtc.ensures.at_most,
  c.draw_line_following_eol.ensures.pays.at_most,
  ap length c.as_slice.ensures.value,
)
