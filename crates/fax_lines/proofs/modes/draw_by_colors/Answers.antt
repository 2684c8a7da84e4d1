use Rattle.fax_lines.proofs.Names.{Stroke, CanDraw}
use Rattle.fax_lines.proofs.DrawingLines.UsualModes.{goes_on_in, recolored}
use Rattle.fax_lines.proofs.modes.draw_by_colors.Goals.{in-White, in-Black}
use Rattle.fax_lines.proofs.modes.draw_by_colors.Goals as goal

pub draw_run_of_modes-requires : goal.draw_run_of_modes-requires
draw_run_of_modes-requires c = record {
  can = recolored c.turns.now (λ (s : Stroke). CanDraw c.args.line.now s c.turns.pen) c.in-White.is
      c.turns.invariant.can;
}

pub draw_run_of_modes-requires-in-Black : goal.draw_run_of_modes-requires-in-Black
draw_run_of_modes-requires-in-Black c = record {
  can = recolored c.turns.now (λ (s : Stroke). CanDraw c.args.line.now s c.turns.pen) c.in-Black.is
      c.turns.invariant.can;
}

pub returns-then-is_over : goal.returns-then-is_over
returns-then-is_over c = elim c.match-now.branch [
  | in-White w ↦ rw (w.pen-is, w.is_over-is)
      (goes_on_in c.turns.now w.in-White.is c.turns.invariant.on w.draw_run_of_modes.ensures.on)
  | in-Black w ↦ rw (w.pen-is, w.is_over-is)
      (goes_on_in c.turns.now w.in-Black.is c.turns.invariant.on w.draw_run_of_modes-in-Black.ensures.on)
]

pub turns-preserved : goal.turns-preserved
turns-preserved c = elim c.match-now.branch [
  | in-White w ↦ let run = w.draw_run_of_modes.ensures in rw (w.pen-is, w.is_over-is) (record {
    on = goes_on_in c.turns.now w.in-White.is c.turns.invariant.on run.on;
    can = (run.turned (rw w.is_over-is at c.if-is_over.false)).1;
  })
  | in-Black w ↦ let run = w.draw_run_of_modes-in-Black.ensures in rw (w.pen-is, w.is_over-is) (record {
    on = goes_on_in c.turns.now w.in-Black.is c.turns.invariant.on run.on;
    can = (run.turned (rw w.is_over-is at c.if-is_over.false)).1;
  })
]
