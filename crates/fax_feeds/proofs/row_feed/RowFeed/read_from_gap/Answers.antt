use Rattle.fax_feeds.proofs.Names.{common_steps}
use Rattle.fax_feeds.proofs.Names.{◌≡◌, ◌≢◌, ◌∙◌, ap, sym, subst, arith, false≢true, false, true, BitsAt, bits_in}
use Rattle.fax_feeds.proofs.Names.{None, Held, White, [], length, redrawn}
use Rattle.fax_bits.proofs.BitReading.BitLists.{length-bits_in}
use Rattle.fax_rows.specs.RowsTried.{IsUnread}
use Rattle.fax_feeds.proofs.Names.{Context, Ok, is_at_line, drop, ended, refl}
use Rattle.fax_feeds.proofs.Readings.FeedTurns.{IsReadBy, full_row, gap_read_by, gap_row, line_read_by, line_row}
use Rattle.fax_feeds.proofs.Readings.FeedTurns.{can_go_on, past_gap, past_line, seen_by, turn_reads, zeros_row}
use Rattle.fax_feeds.proofs.Readings.PartsFed.{scanned_after, unread_line}
use Rattle.fax_feeds.specs.RowFeeds.{Feeding, FeedsRow, KeepsPart, ReadsInFeed, fed_row, feeding_of, no_gap}
use Rattle.fax_feeds.specs.declared.row_feed.RowFeed.TheInside.{Inside}
use Rattle.fax_feeds.proofs.row_feed.RowFeed.read_from_gap.Goals.{After-is_some_line}
use Rattle.fax_feeds.proofs.row_feed.RowFeed.read_from_gap.Goals.{After-is_unsettled, then-is_unsettled, else-is_unsettled}
use Rattle.fax_feeds.proofs.row_feed.RowFeed.read_from_gap.Goals as goal

-- ---- The gap

reader_is_at : (c : After-is_some_line) → c.placed_at-reader.result
    ≡ record { bits = bits_in c.self.inside.order c.self.inside.«data».items; place = c.self.inside.place }
reader_is_at c = grind (arith, common_steps)

feed_by : (c : After-is_some_line) → IsReadBy c.self.inside c.placed_at-reader.result
feed_by c = grind (arith, common_steps, reader_is_at c)

unended_feed : (c : After-is_some_line) → ended c.self.inside.rows.stand ≡ None
unended_feed c = ap (λ (f : Feeding). ended f.rows.stand) c.self.view_is ∙ c.requires.unended

-- the feed where the gap was passed
abbrev after_gap : After-is_some_line → Inside
after_gap c = past_gap c.self.inside c.come_to_counted_line-line.new.ctx c.come_to_counted_line-line.new.rows
    c.bit_pos-self-inside.result c.come_to_counted_line-line.new.gap

gap_kept : (c : After-is_some_line) → IsReadBy (after_gap c) c.come_to_counted_line-line.new.reader
gap_kept c = gap_read_by (feed_by c) c.bit_pos-self-inside.ensures.place c.if-self.false c.come_to_counted_line-line.ensures
    (unended_feed c)

pub come_to_counted_line-line-requires-clause-seen : goal.come_to_counted_line-line-requires-clause-seen
come_to_counted_line-line-requires-clause-seen c = grind (arith, common_steps, seen_by)

pub come_to_counted_line-line-requires-clause-line : goal.come_to_counted_line-line-requires-clause-line
come_to_counted_line-line-requires-clause-line c = λ line. c.self.invariant.line line c.if-self.false

pub come_to_counted_line-line-requires-clause-on : goal.come_to_counted_line-line-requires-clause-on
come_to_counted_line-line-requires-clause-on c =
    let is : c.placed_at-reader.result ≡ record {
      bits = bits_in c.self.inside.order c.self.inside.«data».items;
      place = c.self.inside.place;
    } = grind (arith, common_steps) in
    can_go_on c.self.invariant c.if-self.false (ap (λ (b : BitsAt). drop b.place b.bits) is)

pub come_to_counted_line-line-requires-clause-fits : goal.come_to_counted_line-line-requires-clause-fits
come_to_counted_line-line-requires-clause-fits c =
    let is : c.placed_at-reader.result ≡ record {
      bits = bits_in c.self.inside.order c.self.inside.«data».items;
      place = c.self.inside.place;
    } = grind (arith, common_steps) in
    omega (
      arith,
      c.self.invariant.fit,
      ap (λ (b : BitsAt). length b.bits) is,
      length-bits_in c.self.inside.order c.self.inside.«data».items,
    )

pub invariant_of-self : goal.invariant_of-self
invariant_of-self c = (gap_kept (goal.at.invariant_of-self c).After-is_some_line).kept

pub returns-then-not-is_some_line : goal.returns-then-not-is_some_line
returns-then-not-is_some_line c =
    let here = (goal.at.returns-then-not-is_some_line c).After-is_some_line in
    rw (← c.self.view_is, c.fed_without_row.ensures)
    (gap_row (feed_by here) c.bit_pos-self-inside.ensures.place c.if-self.false c.come_to_counted_line-line.ensures
    (unended_feed here) (c.is_some_line.ensures.none c.if-not-is_some_line.true))

-- ---- Zeros with which the data ends

pub invariant_of-self-then-self-2 : goal.invariant_of-self-then-self-2
invariant_of-self-then-self-2 c = (gap_kept (goal.at.invariant_of-self-then-self-2 c).After-is_some_line).kept

pub returns-then-self-2 : goal.returns-then-self-2
returns-then-self-2 c =
    let here = (goal.at.returns-then-self-2 c).After-is_some_line in
    rw (← c.self.view_is)
    (zeros_row (feed_by here) c.bit_pos-self-inside.ensures.place c.if-self.false c.come_to_counted_line-line.ensures
    (unended_feed here) (c.is_some_line.ensures.here c.if-not-is_some_line.false)
    c.read_zeros-then-self-2.ensures)

-- ---- The line

pub invariant_of-self-then-not-can_take_row : goal.invariant_of-self-then-not-can_take_row
invariant_of-self-then-not-can_take_row c =
    (gap_kept (goal.at.invariant_of-self-then-not-can_take_row c).After-is_some_line).kept

pub returns-then-not-can_take_row : goal.returns-then-not-can_take_row
returns-then-not-can_take_row c =
    let here = (goal.at.returns-then-not-can_take_row c).After-is_some_line in
    rw (← c.self.view_is)
    (full_row (feed_by here) c.bit_pos-self-inside.ensures.place c.if-self.false c.come_to_counted_line-line.ensures
    (unended_feed here) (c.is_some_line.ensures.here c.if-not-is_some_line.false)
    (λ fits few. false≢true (sym c.if-not-can_take_row.true ∙ c.can_take_row.ensures.room fits few)) _)

pub overflow_add-line_start : goal.overflow_add-line_start
overflow_add-line_start c =
    let kept = (gap_kept (goal.at.overflow_add-line_start c).After-is_some_line).kept in
    omega (arith, kept.within, kept.fit)

module _ (c : After-is_unsettled) where
  abbrev here_gap : After-is_some_line
  here_gap = (c.before.before.before.before.before.before.before.before.before.before.before.before.before.before.before.before)

  line_is_at : is_at_line c.come_to_counted_line-line.new.rows.stand ≡ true
  line_is_at = c.come_to_counted_line-line.ensures.line (c.is_some_line.ensures.here c.if-not-is_some_line.false)

  unknown : (after_gap here_gap).gap ≡ no_gap
  unknown = c.come_to_counted_line-line.ensures.known.passed
      (λ none. let never = sym (c.is_some_line.ensures.here c.if-not-is_some_line.false) ∙ none in absurd cc) c.if-self-2.false

  -- the feed where the line was read, or left
  abbrev following_line : Inside
  following_line = past_line (after_gap here_gap) c.try_line-row.new.ctx c.try_line-row.new.rows c.bit_pos-self-inside-2.result

  line_kept : IsReadBy following_line c.try_line-row.new.reader
  line_kept = line_read_by (gap_kept here_gap) unknown line_is_at c.bit_pos-self-inside-2.ensures.place
      c.begin_line.ensures.frame c.try_line-row.ensures.tries

  line_reads : ReadsInFeed (feeding_of (after_gap here_gap)) (feeding_of following_line) c.try_line-row.result
  line_reads = turn_reads (gap_kept here_gap) unknown line_is_at c.bit_pos-self-inside-2.ensures.place
      c.begin_line.ensures.frame c.try_line-row.ensures.tries c.begin_line.ensures.width

pub keep_part-requires-clause-none_drawn : goal.keep_part-requires-clause-none_drawn
keep_part-requires-clause-none_drawn c =
    let at = (goal.at.keep_part-requires-clause-none_drawn c).After-is_unsettled in
    let short = c.is_unsettled.ensures.short c.if-is_unsettled.true in
    let held = ((line_reads at).left (subst IsUnread (sym short) refl)).2 in
    ap (λ (h : Held). redrawn h [] White) held ∙ sym held

pub invariant_of-self-then-is_unsettled : goal.invariant_of-self-then-is_unsettled
invariant_of-self-then-is_unsettled c = (line_kept (goal.at.invariant_of-self-then-is_unsettled c).After-is_unsettled).kept

pub invariant_of-self-else-is_unsettled : goal.invariant_of-self-else-is_unsettled
invariant_of-self-else-is_unsettled c = (line_kept (goal.at.invariant_of-self-else-is_unsettled c).After-is_unsettled).kept

-- the line was read, or failed
whole_feeds : (c : After-is_unsettled) → c.try_line-row.result ≢ Ok false
    → FeedsRow (feeding_of c.self.inside) (feeding_of (following_line c)) (fed_row c.try_line-row.result)
whole_feeds c other = line_row (feed_by (here_gap c)) c.bit_pos-self-inside.ensures.place c.if-self.false
    c.come_to_counted_line-line.ensures (unended_feed (here_gap c)) (c.is_some_line.ensures.here c.if-not-is_some_line.false)
    c.if-self-2.false (c.can_take_row.ensures.rows c.if-not-can_take_row.false) (line_reads c) (λ e none. absurd (other e))

-- it is short, and its part is kept
short_feeds : (c : After-is_unsettled) {new : Feeding} → c.try_line-row.result ≡ Ok false
    → KeepsPart (feeding_of (following_line c)) new → FeedsRow (feeding_of c.self.inside) new (fed_row c.try_line-row.result)
short_feeds c {new} is keeps =
    let gap = feeding_of (after_gap (here_gap c)) in
    let short = subst (ReadsInFeed gap (feeding_of (following_line c))) is (line_reads c) in
    let kept = subst (ReadsInFeed gap new) (sym is)
    (scanned_after short (gap_kept (here_gap c)).none (line_kept c).none keeps) in
    line_row (feed_by (here_gap c)) c.bit_pos-self-inside.ensures.place c.if-self.false c.come_to_counted_line-line.ensures
    (unended_feed (here_gap c)) (c.is_some_line.ensures.here c.if-not-is_some_line.false)
    c.if-self-2.false (c.can_take_row.ensures.rows c.if-not-can_take_row.false) kept
    (λ e still. unread_line short refl (λ tagged end. c.try_line-row.ensures.no_tag
    (ap (λ (x : Context). x.held.settings.encoding) c.begin_line.ensures.frame ∙ tagged)
    (ap (λ (b : BitsAt). drop b.place b.bits) (gap_kept (here_gap c)).is ∙ end) is
    ∙ ap (λ (x : Context). x.ticks) c.begin_line.ensures.frame) keeps still)

pub returns : goal.returns
returns c =
    let here = (goal.at.returns c).After-is_unsettled in
    rw (← c.self.view_is, c.fed_row.ensures) (elim c.if-is_unsettled.branch [
      | then-is_unsettled w ↦
          rw w.self-is (short_feeds here (c.is_unsettled.ensures.short w.if-is_unsettled.true) w.keep_part.ensures)
      | else-is_unsettled w ↦
          rw w.self-is (whole_feeds here (c.is_unsettled.ensures.other w.if-is_unsettled.false))
    ])
