use Rattle.fax_feeds.proofs.Names.{common_steps}
use Rattle.fax_feeds.proofs.Names.{◌≡◌, ◌≢◌, ◌≤◌, arith, sym, subst, true, None, is_at_line}
use Rattle.fax_feeds.specs.RowFeeds.{Feeding, StaysShort, no_gap}
use Rattle.std.proofs.lemmas.Bool.{false_from_ne_true}
use Rattle.fax_bits.proofs.BitReading.BitLists.{length-bits_in}
use Rattle.fax_feeds.proofs.Names.{length}
use Rattle.fax_feeds.proofs.row_feed.RowFeed.stays_within_line.Goals.{After-is_still_short}
use Rattle.fax_feeds.proofs.row_feed.RowFeed.stays_within_line.Goals as goal
use Rattle.fax_feeds.proofs.Readings.FeedsWait.{part_known, row_after_line, row_waits}

module _ (c : After-is_still_short) where
  some : c.args.self.now.part ≢ None
  some = grind (arith, common_steps)

  known : (c.args.self.now.begun ≡ true) × (is_at_line c.args.self.now.rows.stand ≡ true)
  known = subst (λ (f : Feeding). (f.begun ≡ true) × (is_at_line f.rows.stand ≡ true)) c.self.view_is
      (part_known c.self.inside.part c.self.inside.begun c.self.inside.rows.stand c.self.inside.ctx.held _ _
      (subst (λ (f : Feeding). f.part ≢ None) (sym c.self.view_is) some) c.self.invariant.part)

  unknown : c.args.self.now.gap ≡ no_gap
  unknown = subst (λ (f : Feeding). f.gap ≡ no_gap) c.self.view_is
      (c.self.invariant.line (subst (λ (f : Feeding). is_at_line f.rows.stand ≡ true) (sym c.self.view_is) known.1)
      (false_from_ne_true c.self.inside.gap.at_zeros (λ zeros. subst (λ (f : Feeding). f.part ≢ None) (sym c.self.view_is) some
      (c.self.invariant.unkept zeros))))

  within : c.args.self.now.place ≤ length c.args.self.now.kept
  within = subst (λ (f : Feeding). f.place ≤ length f.kept) c.self.view_is
      (omega (arith, c.self.invariant.within, length-bits_in c.self.inside.order c.self.inside.«data».items))

pub returns-clause-more : goal.returns-clause-more
returns-clause-more c e =
    let here = (goal.at.returns-clause-more c).After-is_still_short in
    row_waits (known here).0 (known here).1 (unknown here) (within here)
    (subst (StaysShort c.args.self.now c.is_still_short.new.self) e c.is_still_short.ensures)

pub returns-clause-goes_on : goal.returns-clause-goes_on
returns-clause-goes_on c e next answer row =
    let here = (goal.at.returns-clause-goes_on c).After-is_still_short in
    row_after_line (known here).0 (known here).1 (unknown here) (within here)
    (subst (StaysShort c.args.self.now c.is_still_short.new.self) e c.is_still_short.ensures) (some here) row
