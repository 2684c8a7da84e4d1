use Rattle.fax_feeds.proofs.Names.{arith}
use Rattle.fax_feeds.proofs.Names.{common_steps}
use Rattle.fax_feeds.proofs.Readings.GapsSeen.{gap_seen}
use Rattle.fax_feeds.proofs.row_feed.gap_waits.Goals as goal

pub returns-clause-waits : goal.returns-clause-waits
returns-clause-waits c = grind (arith, common_steps, gap_seen)
