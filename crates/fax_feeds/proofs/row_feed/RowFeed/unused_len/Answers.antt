use Rattle.fax_feeds.proofs.Names.{ap, arith}
use Rattle.fax_bits.proofs.BitReading.BitLists.{length-bits_in}
use Rattle.fax_feeds.specs.RowFeeds.{fed_bits, offset_of}
use Rattle.fax_feeds.proofs.row_feed.RowFeed.unused_len.Goals as goal

pub returns : goal.returns
returns c = omega (
  arith,
  ap fed_bits c.self.view_is,
  ap offset_of c.self.view_is,
  length-bits_in c.self.inside.order c.self.inside.«data».items,
  c.len.ensures,
  c.bytes_read.ensures,
  c.saturating_sub.ensures,
  c.self.invariant.bytes,
)
