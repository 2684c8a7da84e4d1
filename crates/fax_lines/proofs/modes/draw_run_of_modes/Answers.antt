use Rattle.fax_lines.proofs.Names.{common_steps}
use Rattle.fax_lines.proofs.Names.{refl, arith, Stroke}
use Rattle.fax_lines.proofs.DrawingLines.UsualModes.{goes_on_filled, recolored}
use Rattle.fax_lines.specs.DrawnModes.{DrawsOn}
use Rattle.fax_lines.proofs.modes.draw_run_of_modes.Goals as goal

pub returns-then-next-line-clause-on : goal.returns-then-next-line-clause-on
returns-then-next-line-clause-on c =
    let same = c.refill_if_low.ensures.same in
    goes_on_filled c.modes.invariant.on same c.in-Some.ensures.drawn.drawn c.in-Some.ensures.kept

pub returns-then-is_turned-clause-on : goal.returns-then-is_turned-clause-on
returns-then-is_turned-clause-on c =
    let same = c.refill_if_low.ensures.same in
    goes_on_filled c.modes.invariant.on same c.in-Some.ensures.drawn.drawn c.in-Some.ensures.kept

pub modes-preserved : goal.modes-preserved
modes-preserved c =
    let on = c.in-Some.ensures.drawn in
    let has = c.refill_if_low.ensures in
    record {
      on = recolored c.in-Some.next (λ (s : Stroke). DrawsOn c.args.line.now c.args.stroke c.args.pen.now s
          c.draw_mode_at_hand.new.pen)
          (c.is_turned.ensures.same c.if-is_turned.false)
          (goes_on_filled c.modes.invariant.on has.same on.drawn c.in-Some.ensures.kept);
      can = grind (arith, common_steps, recolored);
      color = refl;
      onward = omega (arith, rw has.same at on.onward, c.modes.invariant.onward);
    }
