use Rattle.fax_feeds.proofs.Names.{arith}
use Rattle.fax_feeds.proofs.Names.{common_steps}
use Rattle.fax_feeds.proofs.Names.{subst}
use Rattle.fax_feeds.proofs.Readings.PartsFed.{scanned_after, unread_line}
use Rattle.fax_feeds.specs.RowFeeds.{ReadsInFeed}
use Rattle.fax_feeds.proofs.row_feed.RowFeed.read_line.Goals as goal

pub returns-then-is_unsettled-clause-reads : goal.returns-then-is_unsettled-clause-reads
returns-then-is_unsettled-clause-reads c =
    grind (arith, common_steps, scanned_after, c.is_unsettled.ensures.short c.if-is_unsettled.true)

pub returns-else-is_unsettled-clause-unread : goal.returns-else-is_unsettled-clause-unread
returns-else-is_unsettled-clause-unread c e still = absurd (c.is_unsettled.ensures.other c.if-is_unsettled.false e)

pub returns-then-is_unsettled-clause-unread : goal.returns-then-is_unsettled-clause-unread
returns-then-is_unsettled-clause-unread c e still =
    let same = c.is_unsettled.ensures.short c.if-is_unsettled.true in
    unread_line (subst (ReadsInFeed c.args.self.now c.read_whole_line-row.new.self) same c.read_whole_line-row.ensures.reads)
    c.read_whole_line-row.ensures.tried (λ tagged end. c.read_whole_line-row.ensures.no_tag tagged end same)
    c.keep_part.ensures still
