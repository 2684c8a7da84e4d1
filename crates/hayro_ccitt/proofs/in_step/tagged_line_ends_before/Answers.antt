use Rattle.hayro_ccitt.proofs.Names.{◌≡◌, ◌↔◌, true, false, ◌∷◌, length, Some, sym, ap, subst, ◌∙◌, arith, IsTrue, Bits}
use Rattle.hayro_ccitt.proofs.Names.{Group3_2D, here, after_eol, next_eol, EndsByWords, common_steps}
use Rattle.hayro_ccitt.proofs.DamagedLines.PassedWork.{next_after_tag}
use Rattle.hayro_ccitt.proofs.in_step.tagged_line_ends_before.Goals as goal

pub returns-in-Ok-eq0-clause-at_most : goal.returns-in-Ok-eq0-clause-at_most
returns-in-Ok-eq0-clause-at_most c = λ next after none sought eol.
    let rest = here c.read_bit.new.self in
    let is : here c.args.line.now ≡ false ∷ rest = grind (arith, common_steps) in
    let there : next_eol rest ≡ Some next =
    next_after_tag rest next (ap (after_eol 0) (sym is) ∙ none) (ap next_eol (sym is) ∙ sought) in
    omega (arith, c.modes_end_before.ensures.at_most next after there eol, ap length is)

pub returns-in-Ok-clause-before : goal.returns-in-Ok-clause-before
returns-in-Ok-clause-before c =
    let is : here c.args.line.now ≡ true ∷ here c.read_bit.new.self = grind (arith, common_steps) in
    subst (λ (b : Bits). IsTrue c.runs_end_before.result
    ↔ EndsByWords Group3_2D c.args.ctx.now.held.settings.columns (here c.args.end.now) b) (sym is)
    c.runs_end_before.ensures.before
