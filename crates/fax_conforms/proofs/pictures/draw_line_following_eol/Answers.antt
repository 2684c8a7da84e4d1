use Rattle.fax_conforms.proofs.WordsPaid.{eol_is_paid, paid_after, unpaid}
use Rattle.hayro_ccitt.proofs.Work.EolsPassed.{looked_most}
use Rattle.hayro_ccitt.proofs.Names.{◌++◌, ap, arith, here, pixels, Bits, Row, eol}
use Rattle.hayro_ccitt.proofs.PixelRows.ChangesAndPixels.{length-pixels}
use Rattle.fax_conforms.proofs.EolLines.{passes_eol, no_eol_line, eol_line_shorter}
use Rattle.fax_conforms.proofs.LinesBegin.{line_exists_here}
use Rattle.fax_conforms.proofs.LinesEnd.{leads_never}
use Rattle.fax_conforms.proofs.Passed.{passes_now, passes_on, ends_here, ends_in, ends_after}
use Rattle.fax_conforms.proofs.Stopped.{if_err, if_done, if_both, if_broken}
use Rattle.fax_conforms.specs.declared.stops.Rule.TheVariants.{Eol}
use Rattle.fax_conforms.proofs.pictures.draw_line_following_eol.Goals as goal

pub returns-then-not-pass_eol-clause-reads : goal.returns-then-not-pass_eol-clause-reads
returns-then-not-pass_eol-clause-reads c =
    let no_eol = c.pass_eol.ensures.none c.if-not-pass_eol.true in
    let reference : Row = pixels c.args.settings.columns c.args.reference.now in
    let (row, more, len, (line, is_line, is)) = line_exists_here c.args.settings.columns (omega arith) c.requires.wide
    c.args.settings.encoding reference (length-pixels c.args.settings.columns c.args.reference.now c.requires.reference) in
    record {
      row = rw c.broken.ensures.exact tt;
      passes = rw c.broken.ensures.exact tt;
      lawful = rw c.broken.ensures.exact tt;
      none = if_err c.broken.result _ (no_eol_line c.args.settings reference (here c.args.reader.now) no_eol);
      at = ends_here c.broken.result c.args.settings.columns c.args.reader.now c.bit_pos-place.result Eol c.broken.ensures.exact
          c.bit_pos-place.ensures.place c.bit_pos-place.ensures.within
          (row, eol 0 ++ more, len, (0, line, is_line, ap (λ (x : Bits). eol 0 ++ x) is))
          (λ row more rest len (fill, line, is_line, is). (no_eol, line ++ rest, (fill, is)));
    }

pub returns-clause-reads : goal.returns-clause-reads
returns-clause-reads c =
    let columns = c.args.settings.columns in
    let reads = c.draw_line.ensures.reads in
    let after = passes_eol c.args.settings (pixels c.args.settings.columns c.args.reference.now) (here c.args.reader.now)
    (here c.pass_eol.new.reader) (c.pass_eol.ensures.found c.if-not-pass_eol.false) in
    record {
      row = if_done c.draw_line.result _ _ reads.passes (λ on. passes_now columns _ _ (passes_on columns _ _ _ after on));
      passes = if_done c.draw_line.result _ _ reads.passes (λ on. passes_on columns _ _ _ after on);
      lawful = reads.lawful;
      none = if_broken c.draw_line.result _ _ reads.none (λ none. leads_never columns (passes_now columns _ _ after) none);
      at = ends_after columns c.args.reader.now.bits (here c.args.reader.now) (here c.pass_eol.new.reader) after
          c.draw_line.result
          (ends_in _ c.draw_line.result columns c.args.reader.now.bits c.pass_eol.new.reader.bits (here c.pass_eol.new.reader)
          c.pass_eol.ensures.same_bits reads.at);
    }

pub returns-clause-shorter : goal.returns-clause-shorter
returns-clause-shorter c =
    let columns = c.args.settings.columns in
    let reads = c.draw_line.ensures.reads in
    let after = passes_eol c.args.settings (pixels c.args.settings.columns c.args.reference.now) (here c.args.reader.now)
    (here c.pass_eol.new.reader) (c.pass_eol.ensures.found c.if-not-pass_eol.false) in
    if_both c.draw_line.result _ _ _ reads.passes reads.lawful (λ on lawful.
    eol_line_shorter c.args.settings (pixels c.args.settings.columns c.args.reference.now)
    (pixels c.args.settings.columns c.draw_line.new.coding.items) (here c.args.reader.now) (here c.draw_line.new.reader)
    c.requires.wide (omega arith) (length-pixels c.args.settings.columns c.draw_line.new.coding.items lawful)
    (passes_now columns _ _ (passes_on columns _ _ _ after on)))

pub returns-then-not-pass_eol-clause-pays : goal.returns-then-not-pass_eol-clause-pays
returns-then-not-pass_eol-clause-pays c = unpaid c.broken.result _ _ _ _ _ c.broken.ensures.exact
    (omega (arith, c.pass_eol.ensures.ticks)) (omega (arith, c.pass_eol.ensures.ticks, looked_most (here c.args.reader.now)))

pub returns-clause-pays : goal.returns-clause-pays
returns-clause-pays c =
    let eol = eol_is_paid (here c.args.reader.now) (here c.pass_eol.new.reader)
    (c.pass_eol.ensures.found c.if-not-pass_eol.false) in
    paid_after c.draw_line.result _ _ _ _ _ 0 _ _ c.draw_line.ensures.pays (omega (arith, c.pass_eol.ensures.ticks))
    (omega (arith, c.pass_eol.ensures.ticks, eol)) (λ done. omega arith)
