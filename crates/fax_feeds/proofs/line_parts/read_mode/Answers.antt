use Rattle.fax_feeds.proofs.Names.{common_steps}
use Rattle.fax_feeds.proofs.Names.{◌∙◌, ap, sym, subst, refl, arith, here, mode_codes, Vertical, pos}
use Rattle.fax_feeds.specs.declared.line_parts.Word.{Word}
use Rattle.fax_feeds.specs.LineParts.{Leads}
use Rattle.fax_reading.specs.LinesGoOn.{LinePart, read_on}
use Rattle.fax_bits.proofs.CodeWords.ReadRuns.{read_code_shorter}
use Rattle.fax_reading.proofs.DrawingLines.ReadLines.{modes_not_empty}
use Rattle.fax_feeds.proofs.DrawingLines.PartsOfLines.{at_mode_is, mode_read}
use Rattle.fax_feeds.proofs.line_parts.read_mode.Goals as goal

pub returns-then-pass_v0 : goal.returns-then-pass_v0
returns-then-pass_v0 c =
    let held = c.args.ctx.now.held in
    let part = c.args.part.now in
    let new = c.turn_below.new.part in
    let before = here c.args.reader.now in
    let after = here c.pass_v0.new.self in
    let reads = c.if-pass_v0.ensures.mode refl in
    let goes = c.turn_below.ensures.goes after in
    let shorter = read_code_shorter mode_codes before (Vertical (pos 0)) after modes_not_empty reads in
    record {
      reads = record {
        goes = record {
          leads = λ front is. subst (Leads Word.GoesOn new after)
              (sym (ap (λ (p : LinePart). (read_on held.settings held.reference p).turn)
              (sym (at_mode_is part front part.color before c.requires.run c.requires.mode refl))
              ∙ mode_read held.settings held.reference front part.color before (Vertical (pos 0)) after
              (omega (arith, is, c.requires.open)) reads)) (goes.leads front is);
          lawful = record { within = goes.lawful.within; passed = goes.lawful.passed };
        };
        frame = c.turn_below.ensures.counts.frame;
        same_bits = c.pass_v0.ensures.same_bits;
        missing = λ e. cc;
        counts = omega (arith, c.turn_below.ensures.counts.counts, c.tick.ensures, c.ticks.ensures.value);
        work = omega (arith, c.turn_below.ensures.counts.work, c.tick.ensures, c.ticks.ensures.value);
        paid = λ e. omega (arith, c.turn_below.ensures.counts.work, c.tick.ensures, c.ticks.ensures.value, shorter);
      };
    }

pub returns : goal.returns
returns c = grind (arith, common_steps, c.if-pass_v0.ensures.unchanged refl)
