use Rattle.fax_lines.proofs.Names.{Err, subst, ap, err_from_is_err_and, DrawsStep, pen_of, step_of_run, here, Context}
use Rattle.fax_lines.proofs.Names.{context_of, ◌≡◌, ◌∙◌, ◌||◌, Ok, Result, sym, DecodeError, Row, opposite, exceeds}
use Rattle.fax_lines.proofs.Names.{painted_front}
use Rattle.fax_lines.proofs.Names.{TellsCut, strict_step_of_run}
use Rattle.fax_reading.proofs.DrawingLines.CutRuns.{run_cuts}
use Rattle.fax_reading.proofs.DrawingLines.DrawnLines.{run_unread, run_unpainted}
use Rattle.fax_lines.proofs.context.DecoderContext.draw_run.Goals as goal

pub returns-in_err-run-clause-step : goal.returns-in_err-run-clause-step
returns-in_err-run-clause-step c =
    let p = err_from_is_err_and c.from_residual.result c.from_residual.ensures.1 in
    let left : Context = context_of c.self.inside in
    rw (p.1, p.2) (subst (λ (x : Context). DrawsStep (step_of_run x.held (here c.args.reader.now)) (Err c.in_err-run.field-0.0)
    (pen_of left.held (here c.decode_run.new.self))) c.self.view_is (run_unread left.held (here c.args.reader.now)
    (here c.decode_run.new.self) c.in_err-run.field-0.0 c.in_err-run.ensures.fault c.in_err-run.ensures.run))

pub returns-in_err-push_pixels-clause-step : goal.returns-in_err-push_pixels-clause-step
returns-in_err-push_pixels-clause-step c =
    let p = err_from_is_err_and c.from_residual-in_err-push_pixels.result c.from_residual-in_err-push_pixels.ensures.1 in
    let e = c.in_err-push_pixels.ensures in
    let left : Context = context_of c.self.inside in
    rw (p.1, p.2) (subst (λ (x : Context). DrawsStep (step_of_run x.held (here c.args.reader.now))
    (Err c.in_err-push_pixels.field-0.0) (pen_of c.push_pixels.new.self.held (here c.decode_run.new.self))) c.self.view_is
    (run_unpainted left.held c.push_pixels.new.self.held c.in_ok-run.run' (here c.args.reader.now)
    (here c.decode_run.new.self) c.in_err-push_pixels.field-0.0 c.in_ok-run.ensures.run (ap (λ (x : Context). x.held) e.unchanged)
    (record { too_many = e.too_many.0; memory = e.memory; only = e.only })))

pub returns-clause-cut : goal.returns-clause-cut
returns-clause-cut c =
    let left : Context = context_of c.self.inside in
    let pushed = c.push_pixels.new.self in
    let turned = c.turn_color.ensures.frame in
    let e = c.in_ok-push_pixels.ensures in
    let painted : painted_front left.held c.in_ok-run.run' ≡ Ok c.turn_color.new.self.held.front =
    e.painted ∙ ap {B = Result Row DecodeError} (λ (x : Context). Ok x.held.front) (sym turned) in
    let color : c.turn_color.new.self.held.color ≡ opposite left.held.color =
    ap (λ (x : Context). x.held.color) turned ∙ ap (λ (x : Context). opposite x.held.color) e.frame in
    let found : c.turn_color.new.self.cut ≡ (left.cut || exceeds left.held c.in_ok-run.run') =
    ap (λ (x : Context). x.cut) turned ∙ ap (λ (x : Context). x.cut) e.frame in
    subst (λ (x : Context). TellsCut (strict_step_of_run x.held (here c.args.reader.now))
    (pen_of c.turn_color.new.self.held (here c.decode_run.new.self)) x.cut c.turn_color.new.self.cut) c.self.view_is
    (run_cuts left.held c.turn_color.new.self.held c.in_ok-run.run' (here c.args.reader.now) (here c.decode_run.new.self) left.cut
    c.turn_color.new.self.cut c.in_ok-run.ensures.run painted color found)
