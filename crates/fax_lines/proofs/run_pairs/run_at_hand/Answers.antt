use Rattle.fax_lines.proofs.Names.{common_steps}
use Rattle.fax_lines.proofs.Names.{◌≡◌, ◌+◌, ℕ, arith, moved, IsWordHere}
use Rattle.fax_bits.proofs.CodeWords.WordsHere.{run_of_two}
use Rattle.fax_lines.proofs.run_pairs.run_at_hand.Goals as goal

pub returns-then-rest-lt64-clause-run : goal.returns-then-rest-lt64-clause-run
returns-then-rest-lt64-clause-run c =
    let color = c.args.color in
    let at = moved c.args.skip c.args.window.now.at in
    let first = c.word_at_hand-run in
    let second = c.word_at_hand-rest in
    let place : ℕ = c.args.window.now.at.place in
    let sum : place + (c.args.skip + first.result.1) ≡ place + c.args.skip + first.result.1 = omega arith in
    let there : IsWordHere color (moved (c.args.skip + first.result.1) c.args.window.now.at) second.result.0 second.result.1 =
    second.ensures.word (omega (arith, c.if-rest-lt64.true)) in
    let on : IsWordHere color (moved first.result.1 at) second.result.0 second.result.1 = grind (arith, common_steps) in
    run_of_two color at first.result.0 first.result.1 second.result.0 second.result.1
    (first.ensures.word c.if-run-eq4095.false) on c.if-run-lt64.false c.if-rest-lt64.true first.ensures.below
