use Rattle.fax_feeds.proofs.Names.{inl, inr, ap, refl, Held, Bool, DecodeError, Result, Ok, Err, true, false}
use Rattle.fax_feeds.specs.declared.row_feed.Fed.TheVariants.{NeedsMore}
use Rattle.fax_feeds.proofs.Names.{◌≡◌, ◌∙◌, ◌+◌, ◌<◌, ◌≤◌, sym, subst, false≢true}
use Rattle.std.specs.Prelude.{◌^◌}
use Rattle.fax_feeds.proofs.Readings.FeedsOn.{line_feeds, row_fits}
use Rattle.fax_feeds.proofs.Readings.PartsFed.{scanned_before, settled_not, stays_short}
use Rattle.fax_feeds.specs.RowFeeds.{Feeding, StaysShort, fed_row}
use Rattle.fax_feeds.proofs.row_feed.RowFeed.read_here.Goals.{After-is_still_short}
use Rattle.fax_feeds.proofs.row_feed.RowFeed.read_here.Goals as goal

-- what is held isn't changed where a part is read on
held_is : (c : After-is_still_short) → c.is_still_short.new.self.ctx.held ≡ c.args.self.now.ctx.held
held_is c = ap (λ (f : Feeding). f.ctx.held) c.is_still_short.ensures.scans.frame

pub returns-then-is_still_short-clause-reads : goal.returns-then-is_still_short-clause-reads
returns-then-is_still_short-clause-reads c whole tried feed =
    line_feeds (Ok false) (stays_short (subst (StaysShort c.args.self.now c.is_still_short.new.self) c.if-is_still_short.true
    c.is_still_short.ensures) c.requires.begun)
    (λ e none still. absurd (false≢true (sym (c.is_still_short.ensures.unkept none).0 ∙ c.if-is_still_short.true)))
    c.requires.begun c.requires.line feed

pub returns-then-not-can_take_row-clause-reads : goal.returns-then-not-can_take_row-clause-reads
returns-then-not-can_take_row-clause-reads c whole tried feed =
    let fits = row_fits c.requires.begun c.requires.line feed in
    let held : c.self.inside.ctx.held ≡ c.args.self.now.ctx.held
    = ap (λ (f : Feeding). f.ctx.held) c.self.view_is
    ∙ held_is (goal.at.returns-then-not-can_take_row-clause-reads c).After-is_still_short in
    absurd (false≢true (sym c.if-not-can_take_row.true ∙ c.can_take_row.ensures.room
    (subst (λ (h : Held). h.taken + 1 < 2 ^ 64) (sym held) fits.0)
    (subst (λ (h : Held). h.repairs.rows ≤ h.taken) (sym held) fits.1)))

pub returns-clause-reads : goal.returns-clause-reads
returns-clause-reads c whole tried feed =
    let stays = subst (StaysShort c.args.self.now c.is_still_short.new.self) c.if-is_still_short.false
    c.is_still_short.ensures in
    rw c.fed_row.ensures (line_feeds c.read_line-row.result
    (scanned_before c.read_line-row.result stays c.requires.begun c.read_line-row.ensures.reads)
    (λ e none still.
    let unkept = c.is_still_short.ensures.unkept none in
    elim (c.read_line-row.ensures.unread e still) [
      | inl uncounted ↦ inl (uncounted ∙ unkept.1)
      | inr first ↦ inr (λ tried. first.0 (c.is_still_short.ensures.tried ∙ tried), first.1)
    ])
    c.requires.begun c.requires.line feed)

-- a line that was tried is left as short
left_short : (row : Result Bool DecodeError) → fed_row row ≡ Ok NeedsMore → row ≡ Ok false
left_short (Ok true) e = absurd cc
left_short (Ok false) e = refl
left_short (Err error) e = absurd cc

pub returns-clause-waits : goal.returns-clause-waits
returns-clause-waits c e some =
    let stays = subst (StaysShort c.args.self.now c.is_still_short.new.self) c.if-is_still_short.false
    c.is_still_short.ensures in
    absurd (settled_not stays c.read_line-row.ensures.reads (left_short c.read_line-row.result (sym c.fed_row.ensures ∙ e))
    (stays.settled refl some))
