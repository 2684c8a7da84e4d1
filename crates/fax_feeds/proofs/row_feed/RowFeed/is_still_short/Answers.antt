use Rattle.fax_feeds.proofs.Names.{common_steps, ◌≡◌, ◌+◌, arith, drop, refl, bits_in}
use Rattle.fax_bits.proofs.BitReading.BitLists.{length-bits_in}
use Rattle.fax_feeds.proofs.Readings.PartsScanned.{kept_short, part_follows, part_within, short_stays, whole_stays}
use Rattle.fax_feeds.specs.RowFeeds.{LineGoesOn}
use Rattle.fax_feeds.proofs.row_feed.RowFeed.is_still_short.Goals.{After-continue_line-is_short}
use Rattle.fax_feeds.proofs.row_feed.RowFeed.is_still_short.Goals as goal

pub overflow_add-place : goal.overflow_add-place
overflow_add-place c = omega (arith, part_within c.self.inside c.self.invariant, c.self.invariant.fit)

pub scanner_near_end-requires-clause-within : goal.scanner_near_end-requires-clause-within
scanner_near_end-requires-clause-within c =
    omega (
      arith,
      part_within c.self.inside c.self.invariant,
      length-bits_in c.self.inside.order c.self.inside.«data».items,
    )

module _ (c : After-continue_line-is_short) where
  kept : LineGoesOn c.self.inside.begun c.self.inside.rows.stand c.self.inside.ctx.held
      (drop c.self.inside.place (bits_in c.self.inside.order c.self.inside.«data».items)) c.self.inside.line_read
      c.in-Some-part.part
  kept = grind (arith, common_steps)

  starts_at : c.in-Some.reader ≡ record {
    bits = bits_in c.self.inside.order c.self.inside.«data».items;
    place = c.self.inside.place + c.self.inside.line_read;
  }
  starts_at = grind (arith, common_steps)

pub invariant_of-self-then-is_short : goal.invariant_of-self-then-is_short
invariant_of-self-then-is_short c =
    let at = (goal.at.invariant_of-self-then-is_short c).After-continue_line-is_short in
    let on = c.continue_line-is_short.ensures in
    kept_short c.self.invariant (starts_at at) on.goes_on (kept at) _ refl on.within c.if-is_short.true
    (part_follows c.self.inside c.in-Some-part.part c.self.invariant c.in-Some-part.is)

pub returns-then-is_short : goal.returns-then-is_short
returns-then-is_short c =
    let at = (goal.at.returns-then-is_short c).After-continue_line-is_short in
    let on = c.continue_line-is_short.ensures in
    rw (← c.self.view_is) (short_stays c.self.invariant (starts_at at) on.goes_on (kept at) _ refl on.within c.if-is_short.true
    c.in-Some-part.is refl c.if-self.false)

pub returns : goal.returns
returns c =
    let at = (goal.at.returns c).After-continue_line-is_short in
    rw (← c.self.view_is) (whole_stays c.self.invariant (starts_at at) c.continue_line-is_short.ensures.goes_on (kept at)
    c.in-Some-part.is refl c.if-self.false c.if-is_short.false)
