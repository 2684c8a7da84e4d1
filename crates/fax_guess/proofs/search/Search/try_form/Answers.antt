use Rattle.std.proofs.Common.{◌≡◌, sym, subst, true}
use Rattle.hayro_ccitt.specs.DecodeSettings.{DecodeSettings}
use Rattle.fax_guess.specs.Guesses.{TakesAll}
use Rattle.std.proofs.lemmas.Result.{on_ok_weaker}
use Rattle.fax_guess.proofs.FoundForms.{bits_of_all, on_ok}
use Rattle.fax_guess.proofs.search.Search.try_form.Goals as goal

pub returns-then-not-only_zeros-clause-finds : goal.returns-then-not-only_zeros-clause-finds
returns-then-not-only_zeros-clause-finds c = on_ok c.keep_partial.result (λ left few least begins takes.
    let order = c.args.form.order in
    let bytes = c.args.bytes.now in
    let all = subst (λ (s : DecodeSettings). TakesAll s order bytes) (sym c.settings-settings.ensures) takes in
    let read = c.in_ok-outcome.ensures in
    let at = bits_of_all c.settings-settings.result order bytes c.in_ok-outcome.outcome c.bits-2.result c.requires.fit
    read.within read.end c.bits-2.ensures.ok all in
    let zeros : c.only_zeros.result ≡ true = c.only_zeros.ensures all.count at all.zeros in
    absurd (cc (zeros, c.if-not-only_zeros.true)))

pub returns-clause-keeps : goal.returns-clause-keeps
returns-clause-keeps c = rw c.pay.ensures.best at c.place.ensures.keeps

pub returns-clause-finds : goal.returns-clause-finds
returns-clause-finds c =
    let among = rw (c.pay.ensures.best, c.guess_of.ensures.settings, c.guess_of.ensures.order, c.settings-settings.ensures)
    at c.place.ensures.among in
    on_ok_weaker c.place.result (λ placed left few least begins takes. placed few) among
