use Rattle.hayro_ccitt.proofs.Names.{ap, true}
use Rattle.fax_callers.specs.PageFeeds.{PageFeeding}
use Rattle.fax_callers.proofs.PagesFed.{feed_ends}
use Rattle.fax_callers.proofs.page_feed.PageFeed.finish.Goals as goal

pub returns-clause-finished : goal.returns-clause-finished
returns-clause-finished c = λ whole start is all. feed_ends (ap (λ
    (f : PageFeeding). record f { finished = true }) c.self.view_is) is all
