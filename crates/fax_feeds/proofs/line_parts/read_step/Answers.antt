use Rattle.fax_feeds.proofs.Names.{common_steps}
use Rattle.fax_feeds.proofs.Names.{ap, sym, subst, refl, arith, here, Bool, DecodeSettings, false}
use Rattle.fax_feeds.specs.LineParts.{EndsLine, GoesOnBy, part_at, part_by, pen_of_part, run_of_part}
use Rattle.fax_reading.specs.LinesGoOn.{read_on}
use Rattle.fax_feeds.proofs.DrawingLines.PartsOfLines.{full_ends, reads_some}
use Rattle.fax_feeds.proofs.line_parts.read_step.Goals as goal

pub returns-then-part-settings-clause-reads : goal.returns-then-part-settings-clause-reads
returns-then-part-settings-clause-reads c =
    let held = c.args.ctx.now.held in
    let part = c.args.part.now in
    let before = here c.args.reader.now in
    record {
      goes = record {
        leads = λ front is. subst (λ (b : Bool). EndsLine false (read_on held.settings held.reference
            (part_by b (run_of_part part) (pen_of_part part front before))).turn) (sym c.requires.run)
            (full_ends held.settings held.reference front part.color before part.is_2d (omega (
              arith,
              is,
              c.if-part-settings.true,
              ap (λ (s : DecodeSettings). s.columns) c.settings.ensures.value,
            )));
        lawful = record { within = c.requires.lawful.within; passed = c.requires.lawful.passed };
      };
      frame = refl;
      same_bits = refl;
      missing = λ e. cc;
      counts = omega arith;
      work = omega arith;
      paid = λ e. cc;
    }

pub returns-then-part-clause-smaller : goal.returns-then-part-clause-smaller
returns-then-part-clause-smaller c = λ e.
    let held = c.args.ctx.now.held in
    reads_some held.settings held.reference c.args.part.now c.read_mode.new.part (here c.args.reader.now)
    (here c.read_mode.new.reader) (subst (GoesOnBy held.settings held.reference (λ front. (read_on held.settings held.reference
    (part_at c.args.part.now front (here c.args.reader.now))).turn) c.args.part.now c.read_mode.new.part
    (here c.read_mode.new.reader)) e c.read_mode.ensures.reads.goes)

pub returns-clause-smaller : goal.returns-clause-smaller
returns-clause-smaller c = λ e. grind (arith, common_steps)
