use Rattle.std.proofs.Common.{arith, ◌∙◌, ◌≤◌, ◌<◌, length}
use Rattle.std.proofs.lemmas.Grind.{common_steps}
use Rattle.tiff_read.specs.Texts.{cost_of, text_of}
use Rattle.tiff_read.proofs.NulLemmas.{cost_found, text_found, text_spent}
use Rattle.tiff_read.proofs.file.Tiff.text.Goals as goal

pub returns-clause-text : goal.returns-clause-text
returns-clause-text c =
    let few : length c.before_nul-text.result.now ≤ c.left.result = omega (arith, c.in_ok-pay-2.ensures.paid.1, c.left.ensures) in
    rw (← c.in_ok-pay.ensures.paid.0.0.0)
    (text_found c.left.result c.in-Some.bytes.now c.before_nul-text.result.now _ c.in-Some.ensures c.before_nul-text.ensures few)

pub returns-clause-paid : goal.returns-clause-paid
returns-clause-paid c =
    let (((bytes, place), next), one) = c.in_ok-pay.ensures.paid in
    let (((bytes2, place2), next2), others) = c.in_ok-pay-2.ensures.paid in
    let cost = cost_found c.before_nul-text.result.now _ (returns-clause-text c) in
    (((bytes2 ∙ bytes, place2 ∙ place), next2 ∙ next), omega (arith, cost, one, others))

pub returns-in_err-pay-2-clause-spent : goal.returns-in_err-pay-2-clause-spent
returns-in_err-pay-2-clause-spent c =
    let text = c.before_nul-text.result.now in
    let spent = c.in_err-pay-2.ensures in
    let few : c.left.result < length text = grind (arith, common_steps, spent.spent, spent.only_spent, c.left.ensures) in
    let more = text_spent c.left.result c.in-Some.bytes.now text _ c.in-Some.ensures c.before_nul-text.ensures few in
    let same = c.in_ok-pay.ensures.paid.0.0.0 in
    let less : c.args.self.now.left < cost_of (text_of c.args.self.now.bytes c.args.directory.now c.args.tag) =
    rw (← same) (omega (arith, more, c.left.ensures, c.in_ok-pay.ensures.paid.1)) in
    grind (arith, common_steps, less)

pub returns-clause-spent : goal.returns-clause-spent
returns-clause-spent c =
    let (((bytes, place), next), paid) = returns-clause-paid c in
    (λ e. cc, λ less. absurd (omega (arith, less, paid)))
