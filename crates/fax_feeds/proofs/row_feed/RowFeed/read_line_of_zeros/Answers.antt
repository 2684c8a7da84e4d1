use Rattle.fax_feeds.proofs.Names.{◌∙◌, ap, sym, arith, false≢true, refl, is_at_line}
use Rattle.fax_feeds.proofs.Readings.ZerosRead.{KeepsZeros, zeros_full, zeros_kept, zeros_line_row}
use Rattle.fax_feeds.specs.RowFeeds.{Feeding}
use Rattle.fax_feeds.proofs.row_feed.RowFeed.read_line_of_zeros.Goals.{After-can_take_row}
use Rattle.fax_feeds.proofs.row_feed.RowFeed.read_line_of_zeros.Goals as goal

pub overflow_add-self-inside : goal.overflow_add-self-inside
overflow_add-self-inside c = omega (arith, c.self.invariant.within, c.self.invariant.fit)

pub try_line_of_zeros-row-requires-clause-enough : goal.try_line_of_zeros-row-requires-clause-enough
try_line_of_zeros-row-requires-clause-enough c =
    (c.self.invariant.counted.zeros (ap (λ (f : Feeding). f.gap.at_zeros) c.self.view_is ∙ c.requires.zeros)).0

keeps : (c : After-can_take_row) → KeepsZeros c.self.inside
keeps c = record {
  kept = c.self.invariant;
  begun = ap (λ (f : Feeding). f.begun) c.self.view_is ∙ c.requires.begun;
  none = ap (λ (f : Feeding). f.part) c.self.view_is ∙ c.requires.none_kept;
  zeros = ap (λ (f : Feeding). f.gap.at_zeros) c.self.view_is ∙ c.requires.zeros;
}

pub returns-then-not-can_take_row : goal.returns-then-not-can_take_row
returns-then-not-can_take_row c =
    rw (← c.self.view_is) (zeros_full (keeps (goal.at.returns-then-not-can_take_row c).After-can_take_row)
    (ap (λ (f : Feeding). is_at_line f.rows.stand) c.self.view_is ∙ c.requires.line)
    (λ fits few. false≢true (sym c.if-not-can_take_row.true ∙ c.can_take_row.ensures.room fits few)) _)

pub invariant_of-self : goal.invariant_of-self
invariant_of-self c =
    (zeros_kept c.try_line_of_zeros-row.new.ctx c.try_line_of_zeros-row.new.rows c.self.inside.gap.count
    (keeps (goal.at.invariant_of-self c).After-can_take_row) refl).kept

pub returns : goal.returns
returns c =
    let at = (goal.at.returns c).After-can_take_row in
    let call = c.try_line_of_zeros-row in
    rw (← c.self.view_is, c.fed_row.ensures) (zeros_line_row (keeps at)
    (ap (λ (f : Feeding). is_at_line f.rows.stand) c.self.view_is ∙ c.requires.line) c.begin_line.ensures.frame
    c.begin_line.ensures.width (λ wide tagged. rw (← c.saturating_sub-start.ensures) (call.ensures.tries wide tagged))
    call.ensures.counts call.ensures.stand call.ensures.left (c.can_take_row.ensures.rows c.if-not-can_take_row.false))
