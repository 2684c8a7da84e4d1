use Rattle.fax_feeds.proofs.Names.{arith}
use Rattle.fax_feeds.proofs.Names.{common_steps}
use Rattle.fax_feeds.proofs.Names.{◌∙◌, ap, sym, subst, drop}
use Rattle.fax_feeds.proofs.Readings.PartsFed.{stays_by}
use Rattle.fax_feeds.proofs.Readings.PartsScanned.{part_follows}
use Rattle.fax_feeds.specs.RowFeeds.{Feeding, LineGoesOn, ScansLine, StaysShort}
use Rattle.fax_feeds.proofs.row_feed.RowFeed.go_on_by_call.Goals.{In-Some, After-go_on_from}
use Rattle.fax_feeds.proofs.row_feed.RowFeed.go_on_by_call.Goals as goal

-- the part that is kept, by what is seen
part_kept : (c : In-Some) → LineGoesOn c.args.self.now.begun c.args.self.now.rows.stand c.args.self.now.ctx.held
    (drop c.args.self.now.place c.args.self.now.kept) c.self.inside.line_read c.in-Some.part
part_kept c = grind (arith, common_steps)

pub go_on_from-requires : goal.go_on_from-requires
go_on_from-requires c = record {
  part = part_kept (goal.at.go_on_from-requires c).In-Some;
  gap = ap (λ (f : Feeding). f.gap.at_zeros) (sym c.self.view_is)
      ∙ part_follows c.self.inside c.in-Some.part c.self.invariant c.in-Some.is;
}

-- what the call leaves
module _ (c : After-go_on_from) (kept : LineGoesOn c.args.self.now.begun c.args.self.now.rows.stand c.args.self.now.ctx.held
    (drop c.args.self.now.place c.args.self.now.kept) c.self.inside.line_read c.in-Some.part) where
  goes_on : StaysShort c.args.self.now c.go_on_from.new.self c.go_on_from.result
  goes_on =
      let old = c.args.self.now in
      let part = c.in-Some.part in
      let read = ap (λ (f : Feeding). f.line_read) c.self.view_is in
      stays_by old c.go_on_from.new.self part c.go_on_from.result
      (ap (λ (f : Feeding). f.part) (sym c.self.view_is) ∙ c.in-Some.is)
      c.requires.more kept.none_drawn
      (subst (λ (n : _). ScansLine part.passed n old c.go_on_from.new.self c.go_on_from.result) read c.go_on_from.ensures.scans)

pub returns-then-go_on_from : goal.returns-then-go_on_from
returns-then-go_on_from c = subst (StaysShort c.args.self.now c.go_on_from.new.self) c.if-go_on_from.true
    (goes_on (goal.at.returns-then-go_on_from c).After-go_on_from (part_kept (goal.at.returns-then-go_on_from c).In-Some))

pub returns : goal.returns
returns c = subst (StaysShort c.args.self.now c.go_on_from.new.self) c.if-go_on_from.false
    (goes_on (goal.at.returns c).After-go_on_from (part_kept (goal.at.returns c).In-Some))
