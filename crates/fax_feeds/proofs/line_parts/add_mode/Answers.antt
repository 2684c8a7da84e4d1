use Rattle.fax_feeds.proofs.Names.{ℤ, SFits, Vertical, subst, rules, to_z-of_z, w8}
use Rattle.fax_feeds.specs.LineParts.{GoesOnByMode}
use Rattle.fax_feeds.proofs.line_parts.add_mode.Goals as goal

pub returns-in-Pass-clause-goes : goal.returns-in-Pass-clause-goes
returns-in-Pass-clause-goes c = rw c.in-Pass.is c.pass.ensures.goes

pub returns-in-Vertical-clause-goes : goal.returns-in-Vertical-clause-goes
returns-in-Vertical-clause-goes c =
    let narrow : SFits w8 c.in-Vertical.offset = search rules in
    rw c.in-Vertical.is (subst (λ (k : ℤ). GoesOnByMode (Vertical k) c.args.ctx.now.held c.args.part.now c.turn.new.part
    c.turn.result) (to_z-of_z narrow) c.turn.ensures.goes)
