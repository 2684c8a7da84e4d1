use Rattle.fax_feeds.proofs.Names.{◌∙◌, ap, sym, subst, refl, arith, here, mode_codes}
use Rattle.fax_feeds.specs.LineParts.{Leads}
use Rattle.fax_reading.specs.LinesGoOn.{LinePart, read_on}
use Rattle.fax_bits.proofs.CodeWords.ReadRuns.{read_code_shorter}
use Rattle.fax_reading.proofs.DrawingLines.ReadLines.{modes_not_empty}
use Rattle.fax_feeds.proofs.DrawingLines.PartsOfLines.{at_mode_is, mode_read}
use Rattle.fax_feeds.proofs.line_parts.read_any_mode.Goals as goal

pub returns-in-Ok : goal.returns-in-Ok
returns-in-Ok c =
    let held = c.args.ctx.now.held in
    let part = c.args.part.now in
    let new = c.add_mode.new.part in
    let before = here c.args.reader.now in
    let after = here c.next_mode.new.self in
    let reads = c.in-Ok.ensures.mode in
    let goes = c.add_mode.ensures.goes after in
    let shorter = read_code_shorter mode_codes before c.in-Ok.mode after modes_not_empty reads in
    record {
      reads = record {
        goes = record {
          leads = λ front is. subst (Leads c.add_mode.result new after)
              (sym (ap (λ (p : LinePart). (read_on held.settings held.reference p).turn)
              (sym (at_mode_is part front part.color before c.requires.run c.requires.mode refl))
              ∙ mode_read held.settings held.reference front part.color before c.in-Ok.mode after
              (omega (arith, is, c.requires.open)) reads)) (goes.leads front is);
          lawful = record { within = goes.lawful.within; passed = goes.lawful.passed };
        };
        frame = c.add_mode.ensures.counts.frame;
        same_bits = c.next_mode.ensures.same_bits;
        missing = λ e. absurd (c.add_mode.ensures.known e);
        counts = omega (arith, c.add_mode.ensures.counts.counts, c.next_mode.ensures.ticks, c.ticks.ensures.value);
        work = omega (arith, c.add_mode.ensures.counts.work, c.next_mode.ensures.ticks, c.ticks.ensures.value);
        paid = λ e. omega (arith, c.add_mode.ensures.counts.work, c.next_mode.ensures.ticks, c.ticks.ensures.value, shorter);
      };
    }
