use Rattle.fax_lines.proofs.Names.{common_steps}
use Rattle.fax_lines.proofs.Names.{◌≡◌, ◌+◌, ◌<◌, ◌≤◌, ℕ, suc, max, room_for, length, Err, refl, subst, ap, arith, ◌∙◌}
use Rattle.fax_lines.proofs.Names.{err_from_is_err_and, Mode}
use Rattle.fax_lines.proofs.Names.{DecodeError, IsFault, DrawsLine, DrawsStep, Step, line_from_2d, words_from_2d, pen_of}
use Rattle.fax_lines.proofs.Names.{step_of_mode, words_of_mode, changes, Bits, here, Context, Held, redrawn, context_of, Line}
use Rattle.fax_lines.proofs.Names.{Pen, line_2d, Turn}
use Rattle.fax_lines.proofs.Names.{true, TellsCut, strict_step_of_mode}
use Rattle.fax_reading.proofs.DrawingLines.CutRuns.{cut_begun_2d, cut_by_mode, cut_drawn_2d}
use Rattle.fax_reading.proofs.{DrawingLines.Drawings.drawn_by, DrawingLines.Drawings.step_2d}
use Rattle.fax_lines.proofs.DrawingLines.UsualModes.{begun_2d}
use Rattle.fax_bits.proofs.Repetition.Repeated.{after_turn}
use Rattle.fax_lines.proofs.context.decode_2d_line.Goals.{In_err-draw_mode}
use Rattle.fax_reading.proofs.DrawingLines.CountedLines.{found_2d_from, found_after, counted_by_mode, none_after_fault}
use Rattle.fax_reading.proofs.DrawingLines.DrawnLines.{open_by, line_by_mode, line_2d_fails, mode_shorter}
use Rattle.fax_lines.proofs.Work.RoomTaken.{drawn_so_far_2d, grown_again, reference_stored, same_room}
use Rattle.fax_lines.proofs.context.decode_2d_line.Goals as goal

pub modes-init : goal.modes-init
modes-init c =
    let usual = c.draw_usual_modes.ensures in
    let frame = c.begin_line.ensures.frame in
    let so_far = begun_2d c.args.ctx.now c.draw_usual_modes.new.self c.args.reader.now c.draw_usual_modes.new.reader
    (rw frame at usual.drawn) (rw frame at usual.held) usual.same_bits (rw frame at usual.within) in
    let few = drawn_so_far_2d c.args.ctx.now c.draw_usual_modes.new.self c.args.reader.now c.draw_usual_modes.new.reader
    so_far.0 in
    let old : Context = c.args.ctx.now in
    let most = reference_stored old.held.reference (line_from_2d old.held (here c.args.reader.now))
    (suc (length (changes c.draw_usual_modes.new.self.held.front))) few in (
      so_far.0,
      so_far.1,
      grown_again old.space old.space _ _ _ (same_room old.space old.space _ refl) (rw frame at usual.space) most,
      cut_begun_2d c.args.ctx.now c.begin_line.new.ctx c.draw_usual_modes.new.self c.args.reader.now
          c.draw_usual_modes.new.reader frame usual.drawn usual.cut,
    )

-- how much room a list has after a mode
drawn_room : {old now : Context} {space : ℕ} → now ≡ old → space ≤ max now.space (room_for (suc (length
    (changes now.held.front))))
    → space ≤ max old.space (room_for (suc (length (changes old.held.front))))
drawn_room {space = space} is grown = subst (λ (x : Context). space ≤ max x.space
    (room_for (suc (length (changes x.held.front))))) is grown

pub modes-smaller : goal.modes-smaller
modes-smaller c =
    let left : Context = context_of c.ctx.inside in
    mode_shorter left.held.settings.strict left.held.settings.columns left.held.reference
    (pen_of left.held (here c.decode_mode.new.self)) (pen_of c.draw_mode.new.self.held (here c.draw_mode.new.reader))
    (here c.modes.reader) c.in_ok-mode.mode c.in_ok-mode.ensures.mode c.in_ok-draw_mode.ensures.step

pub modes-preserved : goal.modes-preserved
modes-preserved c =
    let before : Held = c.args.ctx.now.held in
    let now : Held = c.modes.ctx.held in
    let new : Held = c.draw_mode.new.self.held in
    let rest : Bits = here c.decode_mode.new.self in
    let mode : Mode = c.in_ok-mode.mode in
    let so_far = c.modes.invariant.0 in
    let drawing = c.in_ok-draw_mode.ensures.leaves in
    let left : context_of c.ctx.inside ≡ c.modes.ctx = c.ctx.view_is in
    let open_row = open_by c.is_full.result (length now.front) now.settings.columns c.modes-test.true c.is_full.ensures.1 in
    let draws : step_of_mode now rest mode ≡ Turn.next (pen_of new (here c.draw_mode.new.reader)) = grind (arith, common_steps) in
    let kept : new ≡ redrawn now new.front new.color =
    subst (λ (x : Context). new ≡ redrawn x.held new.front new.color) left drawing.held in
    let ticks : (context_of c.ctx.inside).ticks ≡ c.modes.ctx.ticks = ap (λ (x : Context). x.ticks) left in
    let line =
    line_by_mode before now _ (here c.modes.reader) rest mode so_far.held so_far.line open_row c.in_ok-mode.ensures.mode in
    let words = counted_by_mode before now (here c.modes.reader) rest mode so_far.held open_row c.in_ok-mode.ensures.mode in
    let on = ap (λ (step : Step). length
    (found_after (found_2d_from before.settings.strict before.settings.columns before.reference) step)) draws in
    let work = c.modes.invariant.1 in
    let found = ap (λ (x : Context). length (words_of_mode x.held rest mode)) left in
    let passed = ap (λ (x : Context). x.passed) left in
    let changed = ap (λ (x : Context). length (changes x.held.reference)) left in
    let reference = ap (λ (h : Held). length (changes h.reference)) so_far.held in (
      record {
        line = grind (arith, common_steps, after_turn, drawn_by, step_2d);
        held = kept ∙ ap (λ (h : Held). redrawn h new.front new.color) so_far.held;
        same_bits = drawing.same_bits ∙ c.in_ok-mode.ensures.same_bits ∙ so_far.same_bits;
        counts = omega (arith, drawing.counts, c.in_ok-mode.ensures.ticks, so_far.counts, ticks);
      },
      record {
        at_least = omega (arith, drawing.at_least, c.in_ok-mode.ensures.ticks, work.at_least, words, on, found, ticks);
        at_most = omega (arith, drawing.at_most, c.in_ok-mode.ensures.ticks, work.at_most, words, on, found, ticks, passed);
        within = omega (arith, drawing.within (omega (arith, work.within, passed, changed, reference)), changed, reference);
        no_words = λ none. absurd (omega (arith, (work.no_words none).1, words));
      },
      grown_again _ _ _ _ _ c.modes.invariant.2 (drawn_room left c.draw_mode.ensures.leaves.space)
          (drawn_so_far_2d c.args.ctx.now c.modes.ctx c.args.reader.now c.modes.reader so_far),
      cut_by_mode before now new (line_2d true before.settings.columns before.reference (here c.args.reader.now)) c.modes.ctx.cut
          c.draw_mode.new.self.cut so_far.held (here c.modes.reader) rest (here c.draw_mode.new.reader) mode open_row
          c.in_ok-mode.ensures.mode c.modes.invariant.3 (subst (λ (x : Context). TellsCut (strict_step_of_mode x.held rest mode)
          (pen_of new (here c.draw_mode.new.reader)) x.cut c.draw_mode.new.self.cut) left drawing.cut),
    )

pub returns-clause-cut : goal.returns-clause-cut
returns-clause-cut c = grind (arith, common_steps, cut_drawn_2d, c.is_full.ensures.0 c.modes-test.false)

-- a mode that isn't drawn
module _ (c : In_err-draw_mode) where
  abbrev before : Held
  before = c.args.ctx.now.held

  abbrev now : Held
  now = c.modes.ctx.held

  abbrev pen : Pen
  pen = pen_of c.draw_mode.new.self.held (here c.draw_mode.new.reader)

  abbrev step : Step
  step = step_of_mode now (here c.decode_mode.new.self) c.in_ok-mode.mode

  abbrev fault : DecodeError
  fault = c.in_err-draw_mode.field-0.0

  draws : DrawsStep step (Err fault) pen
  draws = subst (λ (x : Context). DrawsStep (step_of_mode x.held (here c.decode_mode.new.self) c.in_ok-mode.mode) (Err fault) pen)
      c.ctx.view_is c.in_err-draw_mode.ensures.step

  open_row : length now.front < now.settings.columns
  open_row = open_by c.is_full.result (length now.front) now.settings.columns c.modes-test.true c.is_full.ensures.1

  fails : DrawsLine (line_from_2d before (here c.args.reader.now)) (Err fault) pen.front pen.rest
  fails =
      let so_far = c.modes.invariant.0 in
      let line : Line = line_2d before.settings.strict before.settings.columns before.reference (here c.args.reader.now) in
      line_2d_fails before.settings.strict before.settings.columns before.reference line step fault pen
      (line_by_mode before now line (here c.modes.reader)
      (here c.decode_mode.new.self) c.in_ok-mode.mode so_far.held so_far.line open_row c.in_ok-mode.ensures.mode) draws

  at_least : IsFault fault
      → c.args.ctx.now.ticks + length (words_from_2d before (here c.args.reader.now)) ≤ c.draw_mode.new.self.ticks
  at_least is =
      grind (
        arith,
        common_steps,
        counted_by_mode,
        none_after_fault,
        found_2d_from,
        before,
        now,
        open_row,
        step,
        fault,
        pen,
        draws,
        c.in_err-draw_mode.ensures.leaves.at_least is,
      )

pub returns-in_err-draw_mode-clause-line : goal.returns-in_err-draw_mode-clause-line
returns-in_err-draw_mode-clause-line c =
    let p = err_from_is_err_and c.from_residual-in_err-draw_mode.result c.from_residual-in_err-draw_mode.ensures.1 in
    rw (p.1, p.2) (fails (goal.at.returns-in_err-draw_mode-clause-line c).In_err-draw_mode)

pub returns-in_err-draw_mode-clause-at_least : goal.returns-in_err-draw_mode-clause-at_least
returns-in_err-draw_mode-clause-at_least c =
    let p = err_from_is_err_and c.from_residual-in_err-draw_mode.result c.from_residual-in_err-draw_mode.ensures.1 in
    rw (p.1, p.2) (at_least (goal.at.returns-in_err-draw_mode-clause-at_least c).In_err-draw_mode)

pub returns-in_err-draw_mode-clause-space : goal.returns-in_err-draw_mode-clause-space
returns-in_err-draw_mode-clause-space c =
    grind (arith, common_steps, grown_again, drawn_so_far_2d, drawn_room c.ctx.view_is c.draw_mode.ensures.leaves.space)

pub returns-clause-space : goal.returns-clause-space
returns-clause-space c = c.modes.invariant.2
