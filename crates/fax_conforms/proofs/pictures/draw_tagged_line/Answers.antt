use Rattle.hayro_ccitt.proofs.Names.{◌≡◌, ◌∷◌, ◌≤◌, [], true, false, length, arith, pixels, here, Row, BitsAt, ap, Group3_2D}
use Rattle.hayro_ccitt.proofs.Names.{IfErr-weaker}
use Rattle.hayro_ccitt.proofs.PixelRows.ChangesAndPixels.{length-pixels}
use Rattle.fax_conforms.proofs.LinesBegin.{line_exists_here}
use Rattle.fax_conforms.proofs.LinesEnd.{leads_never}
use Rattle.fax_conforms.proofs.Passed.{passes_now, passes_on, ends_here, ends_in, ends_after}
use Rattle.fax_conforms.proofs.Broken.{broken_never}
use Rattle.fax_conforms.proofs.Stopped.{if_done, if_broken, if_err}
use Rattle.fax_conforms.proofs.WordsPaid.{paid_after, unpaid}
use Rattle.fax_conforms.proofs.TaggedLines.{passes_tag_1d, passes_tag_2d, untagged}
use Rattle.fax_conforms.specs.declared.stops.Rule.TheVariants.{Tag}
use Rattle.std.proofs.Common.{drop_of_length-le, refl}
use Rattle.fax_conforms.proofs.pictures.draw_tagged_line.Goals as goal
use Rattle.fax_conforms.proofs.pictures.draw_tagged_line.Goals.{After-draw_line_1d, After-draw_line_2d}

zero : (c : After-draw_line_2d) → here c.args.reader.now ≡ false ∷ here c.read_bit.new.self
zero c = rw c.in-Ok-eq0.field-0-test at c.in-Ok-eq0.ensures.front

one : (c : After-draw_line_1d) → here c.args.reader.now ≡ true ∷ here c.read_bit.new.self
one c =
    let e : c.in-Ok.field-0 ≡ 1 = omega (arith, c.in-Ok.ensures.bit.0, c.in-Ok.field-0-test.1) in
    rw e at c.in-Ok.ensures.front

pub returns-in-Ok-eq0-clause-reads : goal.returns-in-Ok-eq0-clause-reads
returns-in-Ok-eq0-clause-reads c =
    let reads = c.draw_line_2d.ensures.reads in
    let columns = c.args.columns in
    let tagged = passes_tag_2d columns (pixels c.args.columns c.args.reference.now) (here c.args.reader.now)
    (here c.read_bit.new.self) (zero c) in
    record {
      row = if_done c.draw_line_2d.result _ _ reads.passes (λ on. passes_now columns _ _ (passes_on columns _ _ _ tagged on));
      passes = if_done c.draw_line_2d.result _ _ reads.passes (λ on. passes_on columns _ _ _ tagged on);
      lawful = reads.lawful;
      none = if_broken c.draw_line_2d.result _ _ reads.none (λ none. leads_never columns (passes_now columns _ _ tagged) none);
      at = ends_after columns c.args.reader.now.bits (here c.args.reader.now) (here c.read_bit.new.self) tagged
          c.draw_line_2d.result (ends_in _ c.draw_line_2d.result columns c.args.reader.now.bits c.read_bit.new.self.bits
          (here c.read_bit.new.self) (ap (λ (r : BitsAt). r.bits) c.in-Ok-eq0.ensures.next) reads.at);
    }

pub returns-in-Ok-clause-reads : goal.returns-in-Ok-clause-reads
returns-in-Ok-clause-reads c =
    let reference : Row = pixels c.args.columns c.args.reference.now in
    let drawn = c.draw_line_1d.ensures in
    let columns = c.args.columns in
    let tagged = passes_tag_1d columns reference (here c.args.reader.now) (here c.read_bit.new.self) (one c) in
    record {
      row = if_done c.draw_line_1d.result _ _ drawn.row
          (λ on. passes_now columns _ _ (passes_on columns _ _ _ tagged (on reference)));
      passes = if_done c.draw_line_1d.result _ _ drawn.row (λ on. passes_on columns _ _ _ tagged (on reference));
      lawful = drawn.lawful;
      none = IfErr-weaker c.draw_line_1d.result _ _ (λ e ends broken. leads_never columns (passes_now columns _ _ tagged)
          (broken_never _ columns _ _ e (ends reference) broken)) drawn.at;
      at = ends_after columns c.args.reader.now.bits (here c.args.reader.now) (here c.read_bit.new.self) tagged
          c.draw_line_1d.result (ends_in _ c.draw_line_1d.result columns c.args.reader.now.bits c.read_bit.new.self.bits
          (here c.read_bit.new.self) (ap (λ (r : BitsAt). r.bits) c.in-Ok.ensures.next)
          (IfErr-weaker c.draw_line_1d.result _ _ (λ e ends. ends reference) drawn.at));
    }

-- there is no tag
pub returns-in-Err-clause-reads : goal.returns-in-Err-clause-reads
returns-in-Err-clause-reads c =
    let start = c.args.reader.now in
    let reference : Row = pixels c.args.columns c.args.reference.now in
    let over : length start.bits ≤ start.place = c.read_bit.ensures.end.0 (rw c.in-Err.is refl) in
    let none : here start ≡ [] = drop_of_length-le start.bits {i = start.place} over in
    record {
      row = rw c.broken.ensures.exact tt;
      passes = rw c.broken.ensures.exact tt;
      lawful = rw c.broken.ensures.exact tt;
      none = if_err c.broken.result _ (untagged c.args.columns reference (here start) none);
      at = ends_here c.broken.result c.args.columns start c.bit_pos-place.result Tag c.broken.ensures.exact
          c.bit_pos-place.ensures.place c.bit_pos-place.ensures.within
          (line_exists_here c.args.columns (omega (arith, c.ranges.columns.fits)) c.requires.wide Group3_2D reference
          (length-pixels c.args.columns c.args.reference.now c.requires.reference))
          (λ row more rest len stands. (none, λ e. untagged c.args.columns reference more e row rest len stands));
    }

pub returns-in-Ok-eq0-clause-pays : goal.returns-in-Ok-eq0-clause-pays
returns-in-Ok-eq0-clause-pays c = paid_after c.draw_line_2d.result _ _ _ _ _ 0 _ _ c.draw_line_2d.ensures.pays
    (omega (arith, c.tick.ensures)) (omega (arith, c.tick.ensures, ap length (zero c))) (λ done. omega arith)

pub returns-in-Ok-clause-pays : goal.returns-in-Ok-clause-pays
returns-in-Ok-clause-pays c = paid_after c.draw_line_1d.result _ _ _ _ _ 0 _ _ c.draw_line_1d.ensures.pays
    (omega (arith, c.tick.ensures)) (omega (arith, c.tick.ensures, ap length (one c))) (λ done. omega arith)

pub returns-in-Err-clause-pays : goal.returns-in-Err-clause-pays
returns-in-Err-clause-pays c = unpaid c.broken.result _ _ _ _ _ c.broken.ensures.exact (omega (arith, c.tick.ensures))
    (omega (arith, c.tick.ensures))
