use Rattle.fax_feeds.proofs.Names.{common_steps, refl, ◌≡◌, ◌∙◌, ◌+◌, ap, sym, subst, arith, length-drop, drop, bits_in}
use Rattle.fax_bits.proofs.BitReading.BitLists.{length-bits_in}
use Rattle.fax_feeds.proofs.Readings.PartsScanned.{kept_short, kept_whole, short_scans, whole_scans}
use Rattle.fax_feeds.specs.RowFeeds.{Feeding, LineGoesOn}
use Rattle.fax_feeds.proofs.row_feed.RowFeed.go_on_from.Goals.{After-deref, After-continue_line-is_short}
use Rattle.fax_feeds.proofs.row_feed.RowFeed.go_on_from.Goals as goal

kept : (c : After-deref) → LineGoesOn c.self.inside.begun c.self.inside.rows.stand c.self.inside.ctx.held
    (drop c.self.inside.place (bits_in c.self.inside.order c.self.inside.«data».items)) c.args.read c.args.part
kept c = subst (λ (f : Feeding). LineGoesOn f.begun f.rows.stand f.ctx.held (drop f.place f.kept) c.args.read c.args.part)
    (sym c.self.view_is) c.requires.part

pub overflow_add-self-inside : goal.overflow_add-self-inside
overflow_add-self-inside c =
    grind (arith, common_steps, length-bits_in, length-drop, kept ((goal.at.overflow_add-self-inside c).After-deref))

pub scanner_at-reader-requires-clause-within : goal.scanner_at-reader-requires-clause-within
scanner_at-reader-requires-clause-within c =
    grind (
      arith,
      common_steps,
      length-bits_in,
      length-drop,
      kept ((goal.at.scanner_at-reader-requires-clause-within c).After-deref),
    )

starts_at : (c : After-continue_line-is_short) → c.scanner_at-reader.result
    ≡ record { bits = bits_in c.self.inside.order c.self.inside.«data».items; place = c.self.inside.place + c.args.read }
starts_at c = grind (arith, common_steps)

pub invariant_of-self : goal.invariant_of-self
invariant_of-self c =
    let at = goal.at.invariant_of-self c in
    let on = c.continue_line-is_short.ensures in
    kept_short c.self.invariant (starts_at at.After-continue_line-is_short) on.goes_on (kept at.After-deref) _ refl on.within
    c.if-is_short.true (ap (λ (f : Feeding). f.gap.at_zeros) c.self.view_is ∙ c.requires.gap)

pub invariant_of-self-2 : goal.invariant_of-self-2
invariant_of-self-2 c =
    let at = goal.at.invariant_of-self-2 c in
    kept_whole c.self.invariant (starts_at at.After-continue_line-is_short) c.continue_line-is_short.ensures.goes_on
    (kept at.After-deref)

pub returns-then-is_short : goal.returns-then-is_short
returns-then-is_short c =
    let at = goal.at.returns-then-is_short c in
    let on = c.continue_line-is_short.ensures in
    rw (← c.self.view_is) (record {
      scans = short_scans c.self.invariant (starts_at at.After-continue_line-is_short) on.goes_on (kept at.After-deref) _ refl
          on.within c.if-is_short.true;
    })

pub returns : goal.returns
returns c =
    let at = goal.at.returns c in
    rw (← c.self.view_is) (record {
      scans = whole_scans c.self.invariant (starts_at at.After-continue_line-is_short) c.continue_line-is_short.ensures.goes_on
          (kept at.After-deref) c.if-is_short.false;
    })
