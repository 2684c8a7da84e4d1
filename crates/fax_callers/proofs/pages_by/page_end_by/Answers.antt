use Rattle.std.proofs.Common.{◌≡◌, ℕ, ap, subst}
use Rattle.std.specs.Prelude.{Result}
use Rattle.hayro_ccitt.specs.DecodeError.{DecodeError}
use Rattle.hayro_ccitt.specs.DecodeSettings.{DecodeSettings}
use Rattle.hayro_ccitt.specs.Answers.{OnAnswer}
use Rattle.hayro_ccitt.specs.Context.{Context}
use Rattle.fax_callers.specs.Pages.{page_by}
use Rattle.fax_callers.proofs.pages_by.page_end_by.Goals as goal

pub returns-clause-page : goal.returns-clause-page
returns-clause-page c = subst
    (λ (s : DecodeSettings). OnAnswer c.read_page.result (c.read_page.result ≡ page_by s c.args.order c.args.«data».now 0))
    (ap (λ (ctx : Context). ctx.held.settings) c.in_ok-ctx.ensures.made) c.read_page.ensures.page

pub returns-clause-closed : goal.returns-clause-closed
returns-clause-closed c = λ rows count is.
    subst (λ (outcome : Result ℕ DecodeError). OnAnswer c.read_page.result (c.read_page.result ≡ outcome))
    (c.pages_are_read.ensures c.args.«data».now 0 rows count is).0 (returns-clause-page c)

pub returns-clause-rows : goal.returns-clause-rows
returns-clause-rows c = λ rows count is. (c.pages_are_read.ensures c.args.«data».now 0 rows count is).1

pub returns-in_err-ctx-clause-rows : goal.returns-in_err-ctx-clause-rows
returns-in_err-ctx-clause-rows c = λ rows count is. (c.pages_are_read.ensures c.args.«data».now 0 rows count is).1
