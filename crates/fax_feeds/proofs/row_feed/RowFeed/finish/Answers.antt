use Rattle.fax_feeds.proofs.Names.{ap, true}
use Rattle.fax_feeds.proofs.Readings.FeedsHeld.{feed_finished}
use Rattle.fax_feeds.specs.RowFeeds.{Feeding}
use Rattle.fax_feeds.proofs.row_feed.RowFeed.finish.Goals as goal

pub returns-clause-finished : goal.returns-clause-finished
returns-clause-finished c whole tried feed all =
    feed_finished (ap (λ (f : Feeding). record f { finished = true }) c.self.view_is) feed all
