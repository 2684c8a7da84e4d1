use Rattle.std.proofs.Common.{arith, ℕ}
use Rattle.std.proofs.lemmas.Grind.{common_steps}
use Rattle.std.proofs.lemmas.Result.{err_from_is_err_and}
use Rattle.tiff_split.proofs.Stops.{cost_few, opens_not}
use Rattle.tiff_split.proofs.split.Split.open.Goals as goal

pub returns-in_err-next-clause-why : goal.returns-in_err-next-clause-why
returns-in_err-next-clause-why g c =
    let answer = err_from_is_err_and c.from_residual-in_err-next.result c.from_residual-in_err-next.ensures.1 in
    let count : ℕ = c.offset_bytes-offset_bytes.result in
    rw (answer.1, answer.2)
    (opens_not _ _ _ c.in_err-next.field-0.0
    (grind (arith, common_steps, cost_few c.args.size count count, c.in-Some.ensures.left, c.of_size-left.ensures))
    c.in_err-next.ensures.why)
