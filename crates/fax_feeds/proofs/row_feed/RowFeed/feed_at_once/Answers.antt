use Rattle.fax_feeds.proofs.Names.{common_steps}
use Rattle.fax_feeds.proofs.Names.{◌<◌, ◌≤◌, arith, bits_in, length, length-append}
use Rattle.fax_bits.proofs.BitReading.BitLists.{length-bits_in}
use Rattle.fax_feeds.proofs.Readings.BitsHeld.{holds_more}
use Rattle.fax_feeds.proofs.Readings.FeedsHeld.{feeds_more}
use Rattle.fax_feeds.specs.RowFeeds.{DropsRead, Feeding}
use Rattle.fax_feeds.proofs.row_feed.RowFeed.feed_at_once.Goals as goal

-- nothing is dropped
drops_none : (feed : Feeding) → feed.place < 8 → feed.place ≤ length feed.kept → DropsRead feed feed
drops_none feed few within = grind (arith, common_steps)

pub returns-clause-fed : goal.returns-clause-fed
returns-clause-fed c e whole tried feed come =
    feeds_more (bits_in c.args.self.now.order c.args.bytes.now) c.args.self.now.room
    (c.take_byte.ensures.fed e) c.requires.unfinished
    feed come

pub returns-clause-held : goal.returns-clause-held
returns-clause-held c e =
    let few = c.take_byte.ensures.few_read e in
    holds_more (bits_in c.args.self.now.order c.args.bytes.now) c.args.self.now.room few.2
    (drops_none c.args.self.now few.0 few.1) few.3 (c.take_byte.ensures.fed e) (omega arith)

pub returns-clause-counts : goal.returns-clause-counts
returns-clause-counts c e =
    grind (arith, common_steps, length-append, length-bits_in, c.take_byte.ensures.fed e)
