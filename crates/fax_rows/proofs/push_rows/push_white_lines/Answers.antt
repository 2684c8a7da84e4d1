use Rattle.fax_rows.proofs.Names.{common_steps}
use Rattle.fax_rows.proofs.Names.{◌≡◌, ◌∙◌, ◌+◌, ◌-◌, ℕ, AfterRow, None, ap, arith, refl, false}
use Rattle.fax_rows.proofs.Readings.WhiteRowsPushed.{ctx_after, no_row_left, none_pushed, one_pushed}
use Rattle.fax_rows.proofs.Readings.WhiteRowsPushed.{one_refused, some_pushed, still_at}
use Rattle.fax_rows.specs.WhiteLines.{PassesLine}
use Rattle.fax_rows.proofs.push_rows.push_white_lines.{Given.Over}
use Rattle.fax_rows.proofs.push_rows.push_white_lines.Goals.{After-push_row}
use Rattle.fax_rows.proofs.push_rows.push_white_lines.Goals.{else-white-test, then-white-test+then-not-pass_line}
use Rattle.fax_rows.proofs.push_rows.push_white_lines.Goals as goal

pub white-init : goal.white-init
white-init g c = grind (arith, common_steps, none_pushed)

-- a line is passed
white_passed : (g : Over) (c : After-push_row g) → PassesLine c.args.white.lines.now c.white.reader c.pass_line.new.reader
white_passed g c = c.pass_line.ensures.passed c.if-not-pass_line.false

pub take_white_rows-requires : goal.take_white_rows-requires
take_white_rows-requires g c = grind (arith, common_steps)

pub returns-in-Err-clause-pushes : goal.returns-in-Err-clause-pushes
returns-in-Err-clause-pushes g c =
    let here = (goal.at.returns-in-Err-clause-pushes g c).After-push_row in
    let inv = c.white.invariant in
    one_refused inv.pushed c.requires.follow
    (c.rows_left-most.ensures ∙ ap (λ (n : ℕ). c.args.white.lines.now.limit - n) c.decoded_rows.ensures)
    c.white-test.true (white_passed g here)
    (c.take_white_rows.ensures.kept ∙ ap (λ (n : ℕ). record {
      started_at = c.args.white.dropped + n + c.args.white.lines.now.gap;
      damage = None;
      cut = false;
      missed = None;
      stand = AfterRow;
    }) c.bit_pos-line_start.ensures.place) (c.take_white_rows.ensures.frame
    ∙ ap (ctx_after (c.white.count + 1)) inv.ctx) refl refl
    c.in-Err.ensures.kept c.in-Err.ensures.only_refused c.in-Err.ensures.refused c.in-Err.ensures.refused_row

pub white-preserved : goal.white-preserved
white-preserved g c = grind (arith, common_steps, one_pushed, white_passed g ((goal.at.white-preserved g c).After-push_row))

pub take_white_rows-requires-then-count-gt0 : goal.take_white_rows-requires-then-count-gt0
take_white_rows-requires-then-count-gt0 g c = grind (arith, common_steps)

pub returns-then-count-gt0-clause-pushes : goal.returns-then-count-gt0-clause-pushes
returns-then-count-gt0-clause-pushes g c =
    let inv = c.white.invariant in
    let stopped : c.white-test.reader ≡ c.white.reader = elim c.white-test.branch [
      | else-white-test w ↦ w.reader-is
      | then-white-test+then-not-pass_line w ↦ w.reader-is ∙ w.pass_line.ensures.unchanged w.if-not-pass_line.true
    ] in
    some_pushed inv.pushed refl refl inv.unrefused c.if-count-gt0.true c.take_white_rows-then-count-gt0.ensures.kept
    (c.take_white_rows-then-count-gt0.ensures.frame ∙ ap (ctx_after c.white.count) inv.ctx) stopped

pub returns-else-count-gt0-clause-pushes : goal.returns-else-count-gt0-clause-pushes
returns-else-count-gt0-clause-pushes g c =
    let inv = c.white.invariant in
    let none : c.white.count ≡ 0 = omega (arith, c.if-count-gt0.false) in
    let stopped : c.white-test.reader ≡ c.white.reader = elim c.white-test.branch [
      | else-white-test w ↦ w.reader-is
      | then-white-test+then-not-pass_line w ↦ w.reader-is ∙ w.pass_line.ensures.unchanged w.if-not-pass_line.true
    ] in
    no_row_left inv.pushed refl refl inv.unrefused none inv.rows inv.ctx (stopped ∙ still_at inv.pushed none)
