use Rattle.fax_feeds.proofs.Names.{common_steps}
use Rattle.fax_feeds.proofs.Names.{arith}
use Rattle.fax_feeds.proofs.row_feed.RowFeed.feed.Goals as goal

pub returns-then-feed_at_once-clause-too_long : goal.returns-then-feed_at_once-clause-too_long
returns-then-feed_at_once-clause-too_long c = grind (arith, common_steps, c.feed_at_once.ensures.fit c.if-feed_at_once.true)
