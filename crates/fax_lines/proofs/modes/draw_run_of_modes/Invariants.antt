use Rattle.fax_lines.specs.DrawnModes.{CanDraw, DrawsOn}
use Rattle.fax_lines.proofs.Names.{◌≡◌, ◌-◌, ◌≤◌, length}
use Rattle.fax_lines.proofs.modes.draw_run_of_modes.Given as goal

-- what is drawn so far, in one colour, and that the row isn't full
abbrev pub invariant-modes : goal.invariant-modes
invariant-modes l = record {
  on : DrawsOn l.line l.stroke l.fn.pen l.now l.pen;
  can : CanDraw l.line l.now l.pen;
  color : l.now.color ≡ l.stroke.color;
  onward : l.fn.pen.window.at.place ≤ l.pen.window.at.place;
}

abbrev pub decreases-modes : goal.decreases-modes
decreases-modes l = length l.pen.window.at.bits - l.pen.window.at.place
