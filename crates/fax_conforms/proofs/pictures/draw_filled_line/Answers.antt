use Rattle.fax_conforms.specs.Conforming.{fill_at}
use Rattle.hayro_ccitt.proofs.Names.{length-append, Bits}
use Rattle.hayro_ccitt.proofs.Names.{ap, arith, err_from_is_err_and, here, length, pixels, refl}
use Rattle.fax_conforms.proofs.FilledLines.{fill_is, filled_passes, unfilled, unfilled_departs, no_filled_line, line_departs}
use Rattle.fax_conforms.proofs.Passed.{passes_now}
use Rattle.fax_conforms.proofs.Stopped.{if_err}
use Rattle.fax_conforms.proofs.WordsPaid.{unpaid}
use Rattle.fax_conforms.proofs.BodyLines.{filled_shorter}
use Rattle.fax_conforms.specs.Conforming.{FilledStands}
use Rattle.fax_conforms.specs.Standing.{Passes, IsOnly}
use Rattle.hayro_ccitt.proofs.PixelRows.ChangesAndPixels.{length-pixels}
use Rattle.fax_conforms.proofs.pictures.draw_filled_line.Goals as goal
use Rattle.fax_conforms.proofs.pictures.draw_filled_line.Goals.{Else-not-pass_fill, Then-not-pass_fill}

passes : (c : Else-not-pass_fill) → Passes c.args.settings.columns
    (λ here row rest. FilledStands c.args.settings (pixels c.args.settings.columns c.args.reference.now) row here rest)
    (IsOnly (pixels c.args.settings.columns c.draw_line.new.coding.items)) (here c.args.reader.now) (here c.pass_fill.new.reader)
passes c =
    let line = c.in_ok-draw_line.ensures.reads.passes in
    filled_passes c.args.settings (pixels c.args.settings.columns c.args.reference.now)
    (pixels c.args.settings.columns c.draw_line.new.coding.items)
    (length-pixels c.args.settings.columns c.draw_line.new.coding.items c.in_ok-draw_line.ensures.reads.lawful)
    c.args.reader.now c.draw_line.new.reader line
    (fill_is c.args.settings (pixels c.args.settings.columns c.args.reference.now)
    (pixels c.args.settings.columns c.draw_line.new.coding.items) c.args.reader.now c.draw_line.new.reader c.pass_fill.new.reader
    c.draw_line.ensures.same_bits (omega (arith, c.bit_pos-start.ensures.place, c.bit_pos-start.ensures.within))
    (omega (arith, c.bit_pos-place.ensures.place, c.bit_pos-place.ensures.within)) c.requires.whole line.passed line.is)
    c.pass_fill.new.reader ((c.pass_fill.ensures.fill c.if-not-pass_fill.false (here c.pass_fill.new.reader)).1 refl)

pub returns-clause-reads : goal.returns-clause-reads
returns-clause-reads c = record {
  row = passes_now c.args.settings.columns _ _ (passes c);
  passes = passes c;
  lawful = c.in_ok-draw_line.ensures.reads.lawful;
  none = tt;
  at = tt;
}

pub returns-clause-shorter : goal.returns-clause-shorter
returns-clause-shorter c = filled_shorter c.args.settings (pixels c.args.settings.columns c.args.reference.now)
    (pixels c.args.settings.columns c.draw_line.new.coding.items) (here c.args.reader.now) (here c.pass_fill.new.reader)
    c.requires.wide (omega arith)
    (length-pixels c.args.settings.columns c.draw_line.new.coding.items c.in_ok-draw_line.ensures.reads.lawful)
    (passes_now c.args.settings.columns _ _ (passes c))

pub returns-in_err-draw_line-clause-reads : goal.returns-in_err-draw_line-clause-reads
returns-in_err-draw_line-clause-reads c =
    let p = err_from_is_err_and c.from_residual.result c.from_residual.ensures.1 in
    rw (p.1, p.2) (record {
      row = tt;
      passes = tt;
      lawful = tt;
      none = λ broken. no_filled_line c.args.settings (pixels c.args.settings.columns c.args.reference.now)
          (here c.args.reader.now) (c.in_err-draw_line.ensures.reads.none broken);
      at = line_departs c.args.settings (pixels c.args.settings.columns c.args.reference.now) c.args.reader.now.bits
          (here c.args.reader.now) _ c.in_err-draw_line.ensures.reads.at;
    })

-- the padding is not there
pub returns-then-not-pass_fill-clause-reads : goal.returns-then-not-pass_fill-clause-reads
returns-then-not-pass_fill-clause-reads c =
    let no_fill = c.pass_fill.ensures.none c.if-not-pass_fill.true in
    let line = c.in_ok-draw_line.ensures.reads.passes in
    let none = unfilled c.args.settings (pixels c.args.settings.columns c.args.reference.now)
    (pixels c.args.settings.columns c.draw_line.new.coding.items) c.args.reader.now c.draw_line.new.reader c.pass_fill.new.reader
    c.draw_line.ensures.same_bits (omega (arith, c.bit_pos-start.ensures.place, c.bit_pos-start.ensures.within))
    (omega (arith, c.bit_pos-place.ensures.place, c.bit_pos-place.ensures.within)) c.requires.whole
    c.in_ok-draw_line.ensures.reads.row no_fill in
    record {
      row = rw c.broken.ensures.exact tt;
      passes = rw c.broken.ensures.exact tt;
      lawful = rw c.broken.ensures.exact tt;
      none = if_err c.broken.result _ none;
      at = rw c.broken.ensures.exact (unfilled_departs c.args.settings (pixels c.args.settings.columns c.args.reference.now)
          (pixels c.args.settings.columns c.draw_line.new.coding.items)
          (length-pixels c.args.settings.columns c.draw_line.new.coding.items c.in_ok-draw_line.ensures.reads.lawful)
          c.args.reader.now c.draw_line.new.reader line
          (fill_is c.args.settings (pixels c.args.settings.columns c.args.reference.now)
          (pixels c.args.settings.columns c.draw_line.new.coding.items) c.args.reader.now c.draw_line.new.reader
          c.pass_fill.new.reader c.draw_line.ensures.same_bits
          (omega (arith, c.bit_pos-start.ensures.place, c.bit_pos-start.ensures.within))
          (omega (arith, c.bit_pos-place.ensures.place, c.bit_pos-place.ensures.within)) c.requires.whole line.passed line.is)
          c.args.reader.now.bits c.bit_pos-place.result c.draw_line.ensures.same_bits c.bit_pos-place.ensures.place
          (omega (arith, c.bit_pos-place.ensures.within, ap length c.draw_line.ensures.same_bits)) no_fill);
    }

pub returns-then-not-pass_fill-clause-pays : goal.returns-then-not-pass_fill-clause-pays
returns-then-not-pass_fill-clause-pays c = unpaid c.broken.result _ _ _ _ _ c.broken.ensures.exact
    (omega (arith, c.draw_line.ensures.pays.counts, c.pass_fill.ensures.counts))
    (omega (arith, c.in_ok-draw_line.ensures.pays.paid, c.pass_fill.ensures.few))

pub returns-in_err-draw_line-clause-pays : goal.returns-in_err-draw_line-clause-pays
returns-in_err-draw_line-clause-pays c =
    let p = err_from_is_err_and c.from_residual.result c.from_residual.ensures.1 in
    rw (p.1, p.2) c.in_err-draw_line.ensures.pays

pub returns-clause-pays : goal.returns-clause-pays
returns-clause-pays c =
    let fill : Bits = fill_at c.args.settings.rows_are_byte_aligned c.draw_line.new.reader.place in
    record {
      counts = omega (arith, c.draw_line.ensures.pays.counts, c.pass_fill.ensures.counts);
      paid = omega (
        arith,
        c.in_ok-draw_line.ensures.pays.paid,
        c.pass_fill.ensures.at_most,
        ap length ((c.pass_fill.ensures.fill c.if-not-pass_fill.false (here c.pass_fill.new.reader)).1 refl),
        length-append fill (here c.pass_fill.new.reader),
      );
      at_most = omega (arith, c.in_ok-draw_line.ensures.pays.paid, c.pass_fill.ensures.few);
    }
