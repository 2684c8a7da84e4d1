use Rattle.fax_lines.specs.DrawnModes.{CanDraw, DrawsOn}
use Rattle.fax_lines.proofs.Names.{◌-◌, length}
use Rattle.fax_lines.proofs.modes.draw_by_colors.Given as goal

-- what is drawn so far, and that the row isn't full
abbrev pub invariant-turns : goal.invariant-turns
invariant-turns l = record {
  on : DrawsOn l.line l.fn.stroke l.fn.pen l.now l.pen;
  can : CanDraw l.line l.now l.pen;
}

abbrev pub decreases-turns : goal.decreases-turns
decreases-turns l = length l.pen.window.at.bits - l.pen.window.at.place
