use Rattle.fax_feeds.proofs.Names.{common_steps, ◌≡◌, ◌∙◌, ◌+◌, ◌-◌, ◌*◌, ◌≤◌, ap, arith, length, length-drop, drop}
use Rattle.fax_feeds.proofs.Names.{bits_in, BitsAt, refl}
use Rattle.fax_bits.proofs.BitReading.BitLists.{length-bits_in}
use Rattle.fax_feeds.proofs.Readings.PartsScanned.{kept_short, part_follows, part_within, short_stays, whole_stays}
use Rattle.fax_feeds.specs.RowFeeds.{Feeding, LineGoesOn}
use Rattle.fax_feeds.proofs.row_feed.RowFeed.read_on_1d.Goals.{After-continue_runs, After-bits_left}
use Rattle.fax_feeds.proofs.row_feed.RowFeed.read_on_1d.Goals as goal

pub overflow_sub-known-2 : goal.overflow_sub-known-2
overflow_sub-known-2 c = grind (arith, common_steps, part_within c.self.inside c.self.invariant)

module _ (c : After-continue_runs) where
  kept : LineGoesOn c.self.inside.begun c.self.inside.rows.stand c.self.inside.ctx.held
      (drop c.self.inside.place (bits_in c.self.inside.order c.self.inside.«data».items)) c.self.inside.line_read c.in-Some.part
  kept = grind (arith, common_steps)

  starts_at : c.in-Some-scanner_of_last.reader ≡ record {
    bits = bits_in c.self.inside.order c.self.inside.«data».items;
    place = c.self.inside.place + c.self.inside.line_read;
  }
  starts_at = grind (
    arith,
    common_steps,
    ap (λ (f : Feeding). f.order) c.self.view_is,
    length-bits_in c.self.inside.order c.self.inside.«data».items,
    length-drop c.self.inside.place (bits_in c.self.inside.order c.self.inside.«data».items),
    kept,
  )

-- where the part ends that is reached
module _ (c : After-bits_left) (starts : c.in-Some-scanner_of_last.reader ≡ record {
  bits = bits_in c.self.inside.order c.self.inside.«data».items;
  place = c.self.inside.place + c.self.inside.line_read;
}) where
  ends : length c.continue_runs.new.reader.bits ≡ c.len.result * 8
  ends = grind (
    arith,
    common_steps,
    ap (λ (b : BitsAt). b.bits) starts,
    length-bits_in c.self.inside.order c.self.inside.«data».items,
  )

  begun : c.self.inside.place ≤ c.continue_runs.new.reader.place
  begun = omega (arith, c.continue_runs.ensures.onward, ap (λ (b : BitsAt). b.place) starts)

  reached : c.len.result * 8 - c.self.inside.place - c.bits_left.result ≡ c.continue_runs.new.reader.place - c.self.inside.place
  reached = omega (arith, ends, begun, c.bits_left.ensures.left)

  inside : c.continue_runs.new.reader.place ≤ length c.continue_runs.new.reader.bits
  inside = omega (arith, c.bits_left.ensures.left)

pub overflow_sub-self : goal.overflow_sub-self
overflow_sub-self c =
    let at = (goal.at.overflow_sub-self c).After-continue_runs in
    omega (arith, ends c (starts_at at), begun c (starts_at at), c.bits_left.ensures.left)

pub invariant_of-self-then-continue_runs : goal.invariant_of-self-then-continue_runs
invariant_of-self-then-continue_runs c =
    let at = starts_at (goal.at.invariant_of-self-then-continue_runs c).After-continue_runs in
    let left = (goal.at.invariant_of-self-then-continue_runs c).After-bits_left in
    kept_short c.self.invariant at c.continue_runs.ensures
    (kept (goal.at.invariant_of-self-then-continue_runs c).After-continue_runs) _ (reached left at) (inside left at)
    c.if-continue_runs.true (part_follows c.self.inside c.in-Some.part c.self.invariant c.in-Some.is)

pub returns-then-continue_runs : goal.returns-then-continue_runs
returns-then-continue_runs c =
    let at = starts_at (goal.at.returns-then-continue_runs c).After-continue_runs in
    let left = (goal.at.returns-then-continue_runs c).After-bits_left in
    rw (← c.self.view_is) (short_stays c.self.invariant at c.continue_runs.ensures
    (kept (goal.at.returns-then-continue_runs c).After-continue_runs) _ (reached left at) (inside left at)
    c.if-continue_runs.true c.in-Some.is refl (ap (λ (f : Feeding). f.finished) c.self.view_is ∙ c.requires.more))

pub returns : goal.returns
returns c =
    let at = (goal.at.returns c).After-continue_runs in
    rw (← c.self.view_is) (whole_stays c.self.invariant (starts_at at) c.continue_runs.ensures (kept at) c.in-Some.is refl
    (ap (λ (f : Feeding). f.finished) c.self.view_is ∙ c.requires.more) c.if-continue_runs.false)
