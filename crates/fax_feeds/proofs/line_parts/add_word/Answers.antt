use Rattle.fax_feeds.proofs.Names.{◌≡◌, ◌<◌, ◌+◌, ℕ, arith, common_steps, refl, Err, subst, []}
use Rattle.fax_feeds.specs.LineParts.{run_of_part}
use Rattle.fax_reading.specs.Rows.{paint}
use Rattle.fax_bits.proofs.CodeWords.ReadRuns.{some_where}
use Rattle.fax_feeds.proofs.DrawingLines.PartsOfLines.{run_ends, word_overflows}
use Rattle.fax_feeds.proofs.line_parts.add_word.Goals as goal
use Rattle.fax_feeds.proofs.Names.{too_many_pixels}

pub returns-in_default-clause-goes : goal.returns-in_default-clause-goes
returns-in_default-clause-goes c = λ rest front is.
    let part = c.args.part.now in
    let over : 4294967295 < c.args.part.now.total + c.args.n
    = grind (arith, common_steps, c.checked_add.ensures, c.in_default.is) in
    word_overflows c.args.settings [] front part.color rest
    (run_of_part part) c.args.n over

pub returns-then-not-paint-clause-goes : goal.returns-then-not-paint-clause-goes
returns-then-not-paint-clause-goes c = λ rest front is.
    let part = c.args.part.now in
    let sum = some_where c.checked_add.result c.in-Some.total c.checked_add.ensures c.in-Some.is in
    run_ends c.args.settings [] front part.color rest
    (run_of_part part) c.args.n
    (omega (arith, sum.0)) (omega (arith, c.if-n-ge64.false))
    (subst (λ (n : ℕ). paint c.args.settings.strict c.args.settings.columns front part.color n ≡ Err too_many_pixels) sum.1
    (c.if-not-paint.ensures.too_many refl front is))
