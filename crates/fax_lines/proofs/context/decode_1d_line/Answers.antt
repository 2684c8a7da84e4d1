use Rattle.fax_lines.proofs.Names.{common_steps}
use Rattle.fax_lines.proofs.Names.{length, Result, Err, subst, ap, sym, arith, ◌∙◌, err_from_is_err_and, DecodeError}
use Rattle.fax_lines.proofs.Names.{DrawsLine, Step, pen_of, step_of_run, Bits, BitsAt, here, Held, Line, Pen}
use Rattle.fax_lines.proofs.Names.{line_1d, Context}
use Rattle.fax_reading.proofs.DrawingLines.ReadLines.{drawn_run_shorter}
use Rattle.fax_bits.proofs.Repetition.Repeated.{after_turn}
use Rattle.fax_reading.proofs.DrawingLines.CountedLines.{found_1d_from, found_after, counted_by_run, none_after_fault}
use Rattle.fax_lines.proofs.Names.{true}
use Rattle.fax_reading.proofs.DrawingLines.CutRuns.{cut_begun_1d, cut_by_run, cut_by_usual, cut_drawn_1d}
use Rattle.fax_reading.proofs.DrawingLines.Drawings.{drawn_by, step_1d}
use Rattle.fax_reading.proofs.DrawingLines.DrawnLines.{open_by, line_by_run, line_1d_fails}
use Rattle.fax_lines.proofs.DrawingLines.UsualStrokes.{IsDrawn1d, begun_1d, drawn_on, not_longer}
use Rattle.fax_lines.proofs.Work.RoomTaken.{drawn_so_far_1d, grown_again, same_room}
use Rattle.fax_lines.proofs.context.decode_1d_line.Goals as goal

pub runs-init : goal.runs-init
runs-init c =
    let begun = c.begin_line.new.ctx in
    let first = c.draw_first_runs in
    let so_far = drawn_on (begun_1d c.args.ctx.now begun c.args.reader.now c.begin_line.ensures.frame) first.ensures in
    let space = first.ensures.space ∙ ap (λ (x : Context). x.space) c.begin_line.ensures.frame in (
      so_far.0,
      so_far.1,
      same_room _ _ _ space,
      cut_begun_1d c.args.ctx.now begun first.new.self c.args.reader.now first.new.reader c.begin_line.ensures.frame
          first.ensures.drawn first.ensures.cut,
    )

pub runs-smaller : goal.runs-smaller
runs-smaller c =
    let now : Held = c.runs.ctx.held in
    let shorter = drawn_run_shorter now.settings.strict now.settings.columns (pen_of now (here c.runs.reader))
    (pen_of c.draw_run.new.self.held (here c.draw_run.new.reader)) c.in_ok-draw_run.ensures.step in
    let from : BitsAt = c.draw_run.new.reader in
    let to : BitsAt = c.draw_runs_if_many.new.reader in
    not_longer from to (length (here c.runs.reader)) shorter c.draw_runs_if_many.ensures.same_bits
    c.draw_runs_if_many.ensures.onward

pub runs-preserved : goal.runs-preserved
runs-preserved c =
    let before : Held = c.args.ctx.now.held in
    let now : Held = c.runs.ctx.held in
    let new : Held = c.draw_run.new.self.held in
    let so_far = c.runs.invariant.0 in
    let drawing = c.in_ok-draw_run.ensures in
    let open_row = open_by c.is_full.result (length now.front) now.settings.columns c.runs-test.true c.is_full.ensures.1 in
    let line = line_by_run before now _ (here c.runs.reader) so_far.held so_far.line open_row in
    let found = counted_by_run before now (here c.runs.reader) so_far.held open_row in
    let found_on =
    ap (λ (step : Step). length (found_after (found_1d_from before.settings.strict before.settings.columns) step)) drawing.step in
    let by_run : IsDrawn1d c.args.ctx.now c.draw_run.new.self c.args.reader.now c.draw_run.new.reader = grind (
      arith,
      common_steps,
      after_turn,
      drawn_by,
      step_1d,
    ) in
    let twos = c.draw_runs_if_many in
    let on = drawn_on by_run twos.ensures in
    let few = drawn_so_far_1d c.args.ctx.now c.runs.ctx c.args.reader.now c.runs.reader so_far in
    let whole : Line = line_1d true before.settings.columns (here c.args.reader.now) in
    let cut = cut_by_run before now new whole c.runs.ctx.cut c.draw_run.new.self.cut so_far.held (here c.runs.reader)
    (here c.draw_run.new.reader) open_row c.runs.invariant.3 drawing.cut in (
      on.0,
      on.1,
      rw twos.ensures.space (grown_again _ _ _ _ _ c.runs.invariant.2 c.draw_run.ensures.space few),
      cut_by_usual before new twos.new.self.held whole c.draw_run.new.self.cut twos.new.self.cut by_run.0.held
          (here c.draw_run.new.reader) (here twos.new.reader) twos.ensures.drawn twos.ensures.cut cut,
    )

pub returns-clause-cut : goal.returns-clause-cut
returns-clause-cut c = grind (arith, common_steps, cut_drawn_1d, c.is_full.ensures.0 c.runs-test.false)

pub returns-in_err-draw_run-clause-line : goal.returns-in_err-draw_run-clause-line
returns-in_err-draw_run-clause-line c =
    let p = err_from_is_err_and c.from_residual.result c.from_residual.ensures.1 in
    let before : Held = c.args.ctx.now.held in
    let now : Held = c.runs.ctx.held in
    let pen : Pen = pen_of c.draw_run.new.self.held (here c.draw_run.new.reader) in
    let rest : Bits = here c.runs.reader in
    let fault : DecodeError = c.in_err-draw_run.field-0.0 in
    let so_far = c.runs.invariant.0 in
    let open_row = open_by c.is_full.result (length now.front) now.settings.columns c.runs-test.true c.is_full.ensures.1 in
    let line : Line = line_1d before.settings.strict before.settings.columns (here c.args.reader.now) in
    let fails : DrawsLine line (Err fault) pen.front pen.rest
    = line_1d_fails before.settings.strict before.settings.columns line (step_of_run now rest) fault pen
    (line_by_run before now line rest so_far.held so_far.line open_row) c.in_err-draw_run.ensures.step in
    subst (λ (r : Result (Unit {0}) DecodeError). DrawsLine line r pen.front pen.rest)
    (sym (p.1 ∙ ap (λ (e : DecodeError). Err e) p.2)) fails

pub returns-in_err-draw_run-clause-at_least : goal.returns-in_err-draw_run-clause-at_least
returns-in_err-draw_run-clause-at_least c =
    grind (arith, common_steps, err_from_is_err_and, open_by, counted_by_run, none_after_fault, found_1d_from)

pub returns-in_err-draw_run-clause-space : goal.returns-in_err-draw_run-clause-space
returns-in_err-draw_run-clause-space c = grind (arith, common_steps, drawn_so_far_1d, grown_again)

pub returns-clause-space : goal.returns-clause-space
returns-clause-space c = c.runs.invariant.2
