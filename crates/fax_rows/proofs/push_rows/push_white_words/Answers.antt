use Rattle.fax_rows.proofs.Names.{common_steps}
use Rattle.fax_rows.proofs.Names.{◌≡◌, ◌∙◌, ◌+◌, ◌-◌, ℕ, AfterRow, BitsAt, None, ap, arith, refl}
use Rattle.fax_rows.proofs.Names.{sym, false}
use Rattle.fax_bits.specs.Window.{WordsAt}
use Rattle.fax_rows.proofs.Readings.WhiteRowsPushed.{ctx_after, no_row_left, none_pushed, one_pushed}
use Rattle.fax_rows.proofs.Readings.WhiteRowsPushed.{one_refused, some_pushed}
use Rattle.fax_rows.specs.WhiteLines.{PassesLine}
use Rattle.fax_rows.proofs.push_rows.push_white_words.{Given.Over}
use Rattle.fax_rows.proofs.push_rows.push_white_words.Goals.{After-push_row, After-many}
use Rattle.fax_rows.proofs.push_rows.push_white_words.Goals.{else-many-test, then-many-test+then-not-pass_placed_line}
use Rattle.fax_rows.proofs.push_rows.push_white_words.Goals as goal

pub many-init : goal.many-init
many-init g c = grind (arith, common_steps, none_pushed)

-- a line is passed
passes : (g : Over) (c : After-push_row g) → PassesLine c.args.white.lines.now c.many.words.at c.pass_placed_line.new.words.at
passes g c = c.pass_placed_line.ensures.passed c.args.white.lines.now c.if-not-pass_placed_line.false c.many.invariant.placed

pub take_white_rows-requires : goal.take_white_rows-requires
take_white_rows-requires g c = grind (arith, common_steps)

pub go_on_at-requires : goal.go_on_at-requires
go_on_at-requires g c = grind (arith, common_steps, passes g ((goal.at.go_on_at-requires g c).After-push_row))

pub returns-in-Err-clause-pushes : goal.returns-in-Err-clause-pushes
returns-in-Err-clause-pushes g c =
    let here = (goal.at.returns-in-Err-clause-pushes g c).After-push_row in
    let inv = c.many.invariant in
    one_refused inv.pushed c.requires.follow
    (c.rows_left-most.ensures ∙ ap (λ (n : ℕ). c.args.white.lines.now.limit - n) c.decoded_rows.ensures)
    c.many-test.true (passes g here)
    (c.take_white_rows.ensures.kept ∙ ap (λ (n : ℕ). record {
      started_at = c.args.white.dropped + n + c.args.white.lines.now.gap;
      damage = None;
      cut = false;
      missed = None;
      stand = AfterRow;
    }) c.passed-place.ensures.place) (c.take_white_rows.ensures.frame
    ∙ ap (ctx_after (c.many.count + 1)) inv.ctx) c.go_on_at.ensures refl
    c.in-Err.ensures.kept c.in-Err.ensures.only_refused c.in-Err.ensures.refused c.in-Err.ensures.refused_row

pub many-preserved : goal.many-preserved
many-preserved g c = grind (arith, common_steps, one_pushed, passes g ((goal.at.many-preserved g c).After-push_row))

pub take_white_rows-requires-then-count-gt0 : goal.take_white_rows-requires-then-count-gt0
take_white_rows-requires-then-count-gt0 g c = grind (arith, common_steps)

pub go_on_at-requires-then-count-gt0 : goal.go_on_at-requires-then-count-gt0
go_on_at-requires-then-count-gt0 g c =
    let stopped : c.many-test.words ≡ c.many.words = elim c.many-test.branch [
      | else-many-test w ↦ w.words-is
      | then-many-test+then-not-pass_placed_line w ↦
          w.words-is ∙ w.pass_placed_line.ensures.unchanged w.if-not-pass_placed_line.true
    ] in
    ap (λ (w : WordsAt). w.at.bits) stopped ∙ c.many.invariant.bits ∙ sym (ap (λ (b : BitsAt). b.bits) c.many.invariant.reader)

pub returns-then-count-gt0-clause-pushes : goal.returns-then-count-gt0-clause-pushes
returns-then-count-gt0-clause-pushes g c =
    let inv = c.many.invariant in
    let stopped : c.many-test.words ≡ c.many.words = elim c.many-test.branch [
      | else-many-test w ↦ w.words-is
      | then-many-test+then-not-pass_placed_line w ↦
          w.words-is ∙ w.pass_placed_line.ensures.unchanged w.if-not-pass_placed_line.true
    ] in
    some_pushed inv.pushed refl refl inv.unrefused c.if-count-gt0.true c.take_white_rows-then-count-gt0.ensures.kept
    (c.take_white_rows-then-count-gt0.ensures.frame ∙ ap (ctx_after c.many.count) inv.ctx)
    (c.go_on_at-then-count-gt0.ensures ∙ ap (λ (w : WordsAt). w.at) stopped)

pub returns-else-count-gt0-clause-pushes : goal.returns-else-count-gt0-clause-pushes
returns-else-count-gt0-clause-pushes g c =
    let inv = c.many.invariant in
    no_row_left inv.pushed refl refl inv.unrefused (omega (arith, c.if-count-gt0.false)) inv.rows inv.ctx inv.reader
