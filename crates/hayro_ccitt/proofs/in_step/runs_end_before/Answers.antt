use Rattle.hayro_ccitt.proofs.Names.{◌≡◌, false, length, drop, sym, ap, subst, ◌∙◌, arith, BitsAt, Bits, Row, Line}
use Rattle.hayro_ccitt.proofs.Names.{here, line_1d}
use Rattle.hayro_ccitt.proofs.KeptRows.StepsReported.{whole_before, broken_before, places_before}
use Rattle.hayro_ccitt.proofs.in_step.runs_end_before.Goals as goal

pub returns-then-not-pass_runs-clause-before : goal.returns-then-not-pass_runs-clause-before
returns-then-not-pass_runs-clause-before c =
    broken_before c.args.ctx.now.held.settings.columns (here c.args.end.now) (here c.args.line.now)
    (subst (λ (at : BitsAt). (row : Row) (rest : Bits)
    → line_1d false c.args.ctx.now.held.settings.columns (here at) ≡ Line.whole row rest → ⊥) c.copy-runs.ensures.value
    (c.pass_runs.ensures.broken c.if-not-pass_runs.true))

pub returns-clause-before : goal.returns-clause-before
returns-clause-before c =
    let bits = c.args.line.now.bits in
    let rest = c.pass_runs.new.reader in
    let same : rest.bits ≡ bits = c.pass_runs.ensures.same_bits ∙ ap (λ (at : BitsAt). at.bits) c.copy-runs.ensures.value in
    let same_end : c.args.end.now.bits ≡ bits = c.requires in
    let whole = c.pass_runs.ensures.whole c.if-not-pass_runs.false in
    let rest_is : here rest ≡ drop c.bit_pos.result bits =
    ap (λ (b : Bits). drop rest.place b) same ∙ ap (λ (n : _). drop n bits) (sym c.bit_pos.ensures.place) in
    let end_is : here c.args.end.now ≡ drop c.bit_pos-2.result bits =
    ap (λ (b : Bits). drop c.args.end.now.place b) same_end ∙ ap (λ (n : _). drop n bits) (sym c.bit_pos-2.ensures.place) in
    let places = places_before bits c.bit_pos.result c.bit_pos-2.result
    (omega (arith, c.bit_pos.ensures.within, ap length same))
    (omega (arith, c.bit_pos-2.ensures.within, ap length same_end)) in
    whole_before c.args.ctx.now.held.settings.columns (here c.args.end.now) (here c.args.line.now) (here rest) whole.0 _
    (subst (λ (at : BitsAt). line_1d false c.args.ctx.now.held.settings.columns (here at) ≡ Line.whole whole.0 (here rest))
    c.copy-runs.ensures.value whole.1) (rw (rest_is, end_is) places)
