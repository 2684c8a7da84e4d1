use Rattle.fax_feeds.proofs.Names.{common_steps}
use Rattle.fax_feeds.proofs.Names.{rules, ◌≡◌, ◌∙◌, sym, refl, arith, length, ◌≤◌}
use Rattle.fax_feeds.proofs.Readings.RowsFed.{left_is, left_not, line_step_stands, line_step_reads, none_read, read_after}
use Rattle.fax_rows.specs.RowsTried.{rows_after_line}
use Rattle.fax_feeds.specs.RowFeeds.{line_answer}
use Rattle.fax_feeds.proofs.row_feed.try_line.Goals.{After-note_line}
use Rattle.fax_feeds.proofs.row_feed.try_line.Goals as goal

pub returns-then-is_unread-clause-tries : goal.returns-then-is_unread-clause-tries
returns-then-is_unread-clause-tries c =
    let row = c.try_row-row.ensures in
    let left = left_is c.try_row-row.result (sym c.is_unread.ensures ∙ c.if-is_unread.true) in
    record {
      tried = row.row;
      same_bits = row.same_bits;
      within = omega (arith, c.bit_pos-end.ensures.place, c.bit_pos-end.ensures.within);
      left = λ is. (refl, row.put_back (none_read c.try_row-row.result left));
      stand = λ e. absurd (none_read c.try_row-row.result left e);
      reads = λ from whole dropped read lie starts at. absurd (read left);
      stands = λ from whole dropped read lie starts at. absurd (read left);
    }

-- what is kept
kept_after_try : (c : After-note_line) → c.note_line.new.self ≡ rows_after_line c.args.rows.now
    (line_answer c.try_row-row.result)
    c.args.line_start c.args.ctx.now.held.repairs.rows c.args.ctx.now.held.repairs.cut c.try_row-row.new.ctx.held.repairs
kept_after_try c = search rules

pub returns-clause-tries : goal.returns-clause-tries
returns-clause-tries c =
    let row = c.try_row-row.ensures in
    let answer = c.try_row-row.result in
    let other = sym c.is_unread.ensures ∙ c.if-is_unread.false in
    let begun : c.args.reader.now.place ≤ length c.args.reader.now.bits
    = omega (arith, c.bit_pos-start.ensures.place, c.bit_pos-start.ensures.within) in
    let ends : c.try_row-row.new.reader.place ≤ length c.try_row-row.new.reader.bits
    = omega (arith, c.bit_pos-end.ensures.place, c.bit_pos-end.ensures.within) in
    record {
      tried = row.row;
      same_bits = row.same_bits;
      within = omega (arith, c.bit_pos-end.ensures.place, c.bit_pos-end.ensures.within);
      left = λ is. absurd (left_not answer other is);
      stand = λ e. grind (
        arith,
        common_steps,
        kept_after_try c,
        read_after c.args.rows.now answer c.args.line_start c.args.ctx.now.held.repairs.rows
            c.args.ctx.now.held.repairs.cut c.try_row-row.new.ctx.held.repairs e,
      );
      reads = λ from whole dropped read lie starts at. line_step_reads c.args.is_last c.args.line_start c.args.rows.now
          c.note_line.new.self c.args.ctx.now c.try_row-row.new.ctx c.args.reader.now c.try_row-row.new.reader answer row.row
          other
          row.same_bits begun ends (kept_after_try c) from whole dropped lie starts at;
      stands = λ from whole dropped read lie starts at. line_step_stands c.args.is_last c.args.line_start c.args.rows.now
          c.note_line.new.self c.args.ctx.now c.try_row-row.new.ctx c.args.reader.now c.try_row-row.new.reader answer row.row
          other
          row.same_bits begun ends (kept_after_try c) from whole dropped lie starts at;
    }
