use Rattle.fax_feeds.proofs.Names.{◌≡◌, ◌∙◌, ap, sym, subst, false, is_at_line}
use Rattle.fax_feeds.proofs.Names.{ended, None}
use Rattle.fax_feeds.proofs.Readings.RowsFed.{line_said}
use Rattle.fax_feeds.proofs.Readings.ZerosRead.{KeepsZeros, zeros_gap_row, zeros_row_on}
use Rattle.fax_feeds.specs.RowFeeds.{Feeding, feeding_of, offset_of}
use Rattle.fax_feeds.proofs.row_feed.RowFeed.read_zeros.Goals.{After-is_some_line}
use Rattle.fax_feeds.proofs.Names.{ℕ, Bits}
use Rattle.fax_rows.specs.declared.gap_count.GapCount.{GapCount}
use Rattle.fax_rows.specs.ZerosLast.{EndsInZeros, PassesZeros}
use Rattle.fax_feeds.proofs.row_feed.RowFeed.read_zeros.Goals as goal

module _ (c : After-is_some_line) where
  keeps : KeepsZeros c.self.inside
  keeps = record {
    kept = c.self.invariant;
    begun = ap (λ (f : Feeding). f.begun) c.self.view_is ∙ c.requires.begun;
    none = ap (λ (f : Feeding). f.part) c.self.view_is ∙ c.requires.none_kept;
    zeros = ap (λ (f : Feeding). f.gap.at_zeros) c.self.view_is ∙ c.requires.zeros;
  }

  unended : ended c.self.inside.rows.stand ≡ None
  unended = ap (λ (f : Feeding). ended f.rows.stand) c.self.view_is ∙ c.requires.unended

  away : is_at_line c.self.inside.rows.stand ≡ false
  away = sym c.is_at_line.ensures ∙ c.if-is_at_line.false

  count_is : c.pass_to_zeros-passed.new.count ≡ record c.self.inside.gap.count { eols = 0 }
  count_is = c.pass_to_zeros-passed.ensures.count

  passes : (from : ℕ) (whole : Bits) → EndsInZeros from c.self.inside.rows c.self.inside.ctx whole
      (offset_of (feeding_of c.self.inside)) (record c.self.inside.gap.count { eols = 0 })
      → PassesZeros from c.self.inside.rows c.pass_to_zeros-passed.new.rows c.self.inside.ctx c.pass_to_zeros-passed.new.ctx whole
      (offset_of (feeding_of c.self.inside)) (record c.self.inside.gap.count { eols = 0 }) c.pass_to_zeros-passed.result
  passes from whole ends =
      subst (λ (n : GapCount). PassesZeros from c.self.inside.rows c.pass_to_zeros-passed.new.rows c.self.inside.ctx
      c.pass_to_zeros-passed.new.ctx whole (offset_of (feeding_of c.self.inside)) n c.pass_to_zeros-passed.result) count_is
      (c.pass_to_zeros-passed.ensures.passes from whole (offset_of (feeding_of c.self.inside)) ends
      (λ none. sym c.saturating_sub-start.ensures))

pub returns-then-not-is_some_line : goal.returns-then-not-is_some_line
returns-then-not-is_some_line c =
    let at = (goal.at.returns-then-not-is_some_line c).After-is_some_line in
    let call = c.pass_to_zeros-passed in
    rw (← c.self.view_is, c.fed_without_row.ensures, c.of_settled_gap-line.ensures)
    (zeros_gap_row (keeps at) (unended at) (away at) (count_is at) (passes at) call.ensures.frame.held call.ensures.frame.ticks
    call.ensures.frame.space (λ e. ap is_at_line (call.ensures.stand e)) call.ensures.only_code
    (λ e. c.is_some_line.ensures.none c.if-not-is_some_line.true (c.of_settled_gap-line.ensures ∙ e)))

pub returns : goal.returns
returns c =
    let at = (goal.at.returns c).After-is_some_line in
    let call = c.pass_to_zeros-passed in
    let is = sym c.of_settled_gap-line.ensures ∙ c.is_some_line.ensures.here c.if-not-is_some_line.false in
    rw (← c.self.view_is)
    (zeros_row_on (keeps at) (unended at) (away at) (count_is at) (passes at) call.ensures.frame.held call.ensures.frame.ticks
    call.ensures.frame.space (λ e. ap is_at_line (call.ensures.stand e)) call.ensures.only_code is
    (ap is_at_line (call.ensures.stand (line_said call.result is))) c.read_line_of_zeros-2.ensures)
