use Rattle.hayro_ccitt.proofs.Names.{refl, sym, subst}
use Rattle.fax_callers.specs.PageFeeds.{IsPageReading}
use Rattle.fax_callers.specs.declared.rtc.EolsSeen.{EolsSeen}
use Rattle.fax_callers.proofs.PagesFed.{fresh_page, new_feed}
use Rattle.fax_callers.proofs.PagesPaid.{fresh_paid}
use Rattle.fax_callers.proofs.page_feed.PageFeed.new.Goals as goal

pub returns-clause-reading : goal.returns-clause-reading
returns-clause-reading c = λ whole fit.
    let new = c.in_ok-new.ensures in
    new_feed fit (subst (λ (seen : EolsSeen). IsPageReading c.args.order whole 0 seen c.in_ok-new.field-0)
    (sym c.none_seen.ensures)
    (fresh_page new.reading new.order new.none_fed new.none_read.1 whole fit)) c.new-2.ensures.items refl refl refl

pub returns-clause-none_paid : goal.returns-clause-none_paid
returns-clause-none_paid c = λ whole fit.
    let new = c.in_ok-new.ensures in
    fresh_paid new.reading new.none_read.1 new.none_read.2 new.none_read.3 whole fit
