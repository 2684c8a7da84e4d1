use Rattle.std.proofs.Common.{◌≡◌, ◌-◌, List, ℕ, drop, length, take, rules, ap, subst, ◌∙◌}
use Rattle.std.specs.Prelude.{Result}
use Rattle.std.proofs.lemmas.List.{take_rest}
use Rattle.hayro_ccitt.specs.DecodeError.{DecodeError}
use Rattle.hayro_ccitt.specs.DecodeSettings.{DecodeSettings}
use Rattle.hayro_ccitt.specs.Answers.{OnAnswer}
use Rattle.fax_callers.specs.Pages.{page_settings, page_from}
use Rattle.fax_callers.specs.Readings.{reading_of}
use Rattle.fax_callers.proofs.pages.skip_page.Goals as goal

pub returns-clause-page : goal.returns-clause-page
returns-clause-page c = λ columns same.
    let part : List ℕ = take (length c.args.«data».now - c.args.begin) (drop c.args.begin c.args.«data».now) in
    let read : OnAnswer c.decode_in.result
    (c.decode_in.result ≡ (reading_of c.args.ctx.now.held.settings c.args.order part).outcome) = search rules in
    let page : (reading_of c.args.ctx.now.held.settings c.args.order part).outcome ≡ page_from columns
    c.args.order c.args.«data».now c.args.begin = ap (λ (s : DecodeSettings). (reading_of s c.args.order part).outcome) same ∙ ap
    (λ (l : List ℕ). (reading_of (page_settings columns) c.args.order l).outcome) (take_rest c.args.«data».now c.args.begin) in
    subst (λ (outcome : Result ℕ DecodeError). OnAnswer c.decode_in.result (c.decode_in.result ≡ outcome)) page read
