use Rattle.fax_rows.proofs.Names.{common_steps}
use Rattle.fax_rows.proofs.Names.{rules, length, ap, arith, Group3_2D, Bits, line_found}
use Rattle.fax_lines.proofs.Work.RoomTaken.{more_stored}
use Rattle.fax_reading.proofs.DrawingLines.CountedLines.{on_answer_weaker}
use Rattle.hayro_ccitt.proofs.tagged.decode_line_by_tag.Goals as goal

pub returns-then-tag-eq1 : goal.returns-then-tag-eq1
returns-then-tag-eq1 c =
    let held = c.args.ctx.now.held in
    let next = rw c.if-tag-eq1.true at c.in_ok-tag.ensures.front in
    let words =
    ap (λ (x : Bits). length (line_found Group3_2D held.settings.strict held.settings.columns held.reference x)) next in
    record {
      line = record {
        drawn = search rules;
        cut = search rules;
        held = search rules;
        same_bits = search rules;
        counts = search rules;
        at_least = on_answer_weaker c.decode_1d_line.result
            (λ found. omega (arith, found, c.tick.ensures, c.ticks.ensures.value, words)) c.decode_1d_line.ensures.at_least;
        at_most = search rules;
        space = grind (arith, common_steps, more_stored);
      };
    }
