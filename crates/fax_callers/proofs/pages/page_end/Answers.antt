use Rattle.std.proofs.Common.{◌≡◌, ℕ, ap, subst, ◌∙◌}
use Rattle.std.specs.Prelude.{Result}
use Rattle.hayro_ccitt.specs.DecodeError.{DecodeError}
use Rattle.hayro_ccitt.specs.Answers.{OnAnswer}
use Rattle.hayro_ccitt.specs.Context.{Context}
use Rattle.fax_callers.proofs.pages.page_end.Goals as goal

pub returns-clause-page : goal.returns-clause-page
returns-clause-page c = c.skip_page.ensures.page c.args.columns
    (ap (λ (ctx : Context). ctx.held.settings) c.in_ok-ctx.ensures.made ∙ c.group4_pages.ensures)

pub returns-clause-closed : goal.returns-clause-closed
returns-clause-closed c = λ rows count is.
    subst (λ (outcome : Result ℕ DecodeError). OnAnswer c.skip_page.result (c.skip_page.result ≡ outcome))
    (c.closed_pages.ensures c.args.«data».now 0 rows count is) (returns-clause-page c)
