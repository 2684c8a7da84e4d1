use Rattle.hayro_ccitt.proofs.Names.{◌↔◌, sym, ap, subst, ◌∙◌, arith, IsTrue, EncodingMode, DecodeSettings, here}
use Rattle.hayro_ccitt.proofs.Names.{EndsByWords}
use Rattle.hayro_ccitt.proofs.in_step.line_ends_before.Goals as goal

pub returns-in-Group3_1D-clause-before : goal.returns-in-Group3_1D-clause-before
returns-in-Group3_1D-clause-before c =
    let one = sym (ap (λ (s : DecodeSettings). s.encoding) c.settings.ensures.value) ∙ c.in-Group3_1D.is in
    subst (λ (e : EncodingMode). IsTrue c.runs_end_before.result
    ↔ EndsByWords e c.args.ctx.now.held.settings.columns (here c.args.end.now) (here c.args.line.now)) (sym one)
    c.runs_end_before.ensures.before

pub returns-in-Group4-clause-at_most : goal.returns-in-Group4-clause-at_most
returns-in-Group4-clause-at_most c = λ next after none sought eol.
    omega (arith, c.modes_end_before.ensures.at_most next after sought eol)
