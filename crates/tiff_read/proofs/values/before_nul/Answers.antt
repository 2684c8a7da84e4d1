use Rattle.std.proofs.Common.{arith, ◌∙◌, sym, ap}
use Rattle.tiff_read.specs.Texts.{before_nul}
use Rattle.tiff_read.proofs.NulLemmas.{before_nul-at, before_nul-all}
use Rattle.tiff_read.proofs.values.before_nul.Goals as goal

pub returns-then-near-index-eq0 : goal.returns-then-near-index-eq0
returns-then-near-index-eq0 c =
    let near = c.first_bytes-near.result.now in
    sym (before_nul-at near c.loop-index.index c.loop-index.invariant c.loop-index-test.true c.if-near-index-eq0.true)
    ∙ ap before_nul c.first_bytes-near.ensures

pub returns : goal.returns
returns c =
    let near = c.first_bytes-near.result.now in
    sym (before_nul-all near (λ k below. c.loop-index.invariant k (omega (arith, below, c.loop-index-test.false))))
    ∙ ap before_nul c.first_bytes-near.ensures
