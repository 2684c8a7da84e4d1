use Rattle.fax_lines.proofs.Names.{arith, common_steps, err_from_is_err_and, here, pen_of}
use Rattle.fax_reading.proofs.DrawingLines.CutRuns.{horizontal_cuts}
use Rattle.fax_reading.proofs.DrawingLines.DrawnLines.{first_run_fails}
use Rattle.fax_lines.proofs.context.DecoderContext.draw_both_runs.Goals as goal

pub returns-in_err-draw_run-clause-step : goal.returns-in_err-draw_run-clause-step
returns-in_err-draw_run-clause-step c =
    let p = err_from_is_err_and c.from_residual.result c.from_residual.ensures.1 in
    rw (p.1, p.2) (first_run_fails c.args.self.now.held (here c.args.reader.now) (pen_of c.draw_run.new.self.held
    (here c.draw_run.new.reader)) c.in_err-draw_run.field-0.0 c.in_err-draw_run.ensures.step)

pub returns-clause-leaves : goal.returns-clause-leaves
returns-clause-leaves c =
    let cut = horizontal_cuts c.args.self.now c.draw_run.new.self c.draw_run-2.new.self (here c.args.reader.now)
    (here c.draw_run.new.reader) (here c.draw_run-2.new.reader) c.draw_run-2.result c.draw_run.ensures.only.held
    c.in_ok-draw_run.ensures.cut c.draw_run-2.ensures.cut in
    grind (arith, common_steps)
