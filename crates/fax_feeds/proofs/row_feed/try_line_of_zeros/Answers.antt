use Rattle.fax_feeds.proofs.Names.{common_steps, rules, ◌≡◌, ◌∙◌, sym, refl, arith, true, Ok, AfterRow}
use Rattle.fax_feeds.proofs.Readings.RowsFed.{left_is, left_not, line_step_stands, line_step_reads, none_read, read_after}
use Rattle.fax_rows.specs.RowsTried.{rows_after_line}
use Rattle.fax_rows.specs.ZerosLast.{zeros_at}
use Rattle.fax_feeds.specs.RowFeeds.{line_answer}
use Rattle.fax_feeds.proofs.row_feed.try_line_of_zeros.Goals.{After-note_line}
use Rattle.fax_feeds.proofs.row_feed.try_line_of_zeros.Goals as goal

pub returns-then-is_unread-clause-tries : goal.returns-then-is_unread-clause-tries
returns-then-is_unread-clause-tries c wide tagged =
    let row = c.try_zeros-row.ensures.row wide tagged in
    let left = left_is c.try_zeros-row.result (sym c.is_unread.ensures ∙ c.if-is_unread.true) in
    record {
      tried = row;
      same_bits = refl;
      within = omega arith;
      left = λ is. (refl, refl);
      stand = λ e. absurd (none_read c.try_zeros-row.result left e);
      reads = λ from whole dropped read lie starts at. absurd (read left);
      stands = λ from whole dropped read lie starts at. absurd (read left);
    }

pub returns-then-is_unread-clause-stand : goal.returns-then-is_unread-clause-stand
returns-then-is_unread-clause-stand c e =
    absurd (none_read c.try_zeros-row.result (left_is c.try_zeros-row.result (sym c.is_unread.ensures ∙ c.if-is_unread.true)) e)

-- what is kept
kept_after_zeros : (c : After-note_line) → c.note_line.new.self ≡ rows_after_line c.args.rows.now
    (line_answer c.try_zeros-row.result)
    c.args.line_start c.args.ctx.now.held.repairs.rows c.args.ctx.now.held.repairs.cut c.try_zeros-row.new.ctx.held.repairs
kept_after_zeros c = search rules

stands_after_zeros : (c : After-note_line) → c.try_zeros-row.result ≡ Ok true → c.note_line.new.self.stand ≡ AfterRow
stands_after_zeros c e = grind (
  arith,
  common_steps,
  kept_after_zeros c,
  read_after c.args.rows.now c.try_zeros-row.result c.args.line_start c.args.ctx.now.held.repairs.rows
      c.args.ctx.now.held.repairs.cut c.try_zeros-row.new.ctx.held.repairs e,
)

pub returns-clause-tries : goal.returns-clause-tries
returns-clause-tries c wide tagged =
    let at = (goal.at.returns-clause-tries c).After-note_line in
    let row = c.try_zeros-row.ensures.row wide tagged in
    let answer = c.try_zeros-row.result in
    let here = zeros_at c.args.count.now.tag c.args.count.now.zeros in
    let other = sym c.is_unread.ensures ∙ c.if-is_unread.false in
    record {
      tried = row;
      same_bits = refl;
      within = omega arith;
      left = λ is. absurd (left_not answer other is);
      stand = stands_after_zeros at;
      reads = λ from whole dropped read lie starts there. line_step_reads true c.args.line_start c.args.rows.now
          c.note_line.new.self c.args.ctx.now c.try_zeros-row.new.ctx here here answer row other refl (omega arith) (omega arith)
          (kept_after_zeros at) from whole dropped lie starts there;
      stands = λ from whole dropped read lie starts there. line_step_stands true c.args.line_start c.args.rows.now
          c.note_line.new.self c.args.ctx.now c.try_zeros-row.new.ctx here here answer row other refl (omega arith) (omega arith)
          (kept_after_zeros at) from whole dropped lie starts there;
    }

pub returns-clause-stand : goal.returns-clause-stand
returns-clause-stand c e = stands_after_zeros (goal.at.returns-clause-stand c).After-note_line e
