use Rattle.fax_feeds.proofs.Names.{common_steps, ◌≡◌, ◌≢◌, ◌∙◌, ◌≤◌, ap, sym, subst, arith, length}
use Rattle.fax_feeds.proofs.Names.{None}
use Rattle.fax_feeds.proofs.Readings.FeedTurns.{within_bits}
use Rattle.fax_feeds.proofs.Readings.FeedsFramed.{fed_of, framed, next_of, plain_of}
use Rattle.fax_feeds.proofs.Readings.PartsScanned.{part_is_at_line}
use Rattle.fax_feeds.specs.declared.counted_gaps.GapSoFar.{GapSoFar}
use Rattle.fax_feeds.specs.RowFeeds.{Feeding, no_gap}
use Rattle.fax_feeds.proofs.row_feed.RowFeed.next_row.Goals as goal

pub returns-then-is_some-clause-reads : goal.returns-then-is_some-clause-reads
returns-then-is_some-clause-reads c whole tried unended fed =
    let some : c.self.inside.part ≢ None = λ none. grind (arith, common_steps) in
    let known = part_is_at_line c.self.inside c.self.invariant some in
    let none : c.args.self.now.gap ≡ no_gap = ap (λ (f : Feeding). f.gap) (sym c.self.view_is) ∙ known.1 in
    let none_passed : c.args.self.now.gap.passed ≡ 0 = ap (λ (g : GapSoFar). g.passed) none in
    let next = c.read_here.ensures.reads whole tried (plain_of fed none_passed) in
    let gap = c.read_here.ensures.gap ∙ none in
    let now = fed_of next.stands gap next.goes_on.within in
    let within = subst (λ (f : Feeding). f.place ≤ length f.kept) c.self.view_is (within_bits c.self.invariant) in
    next_of (framed next fed now within next.goes_on.within none_passed (ap (λ (g : GapSoFar). g.passed) gap)
    c.read_here.ensures.keeps) now.known now.lie

pub returns-else-self-clause-reads : goal.returns-else-self-clause-reads
returns-else-self-clause-reads c whole tried unended fed = c.read_first.ensures.reads whole tried fed
