use Rattle.fax_feeds.proofs.Names.{common_steps}
use Rattle.fax_feeds.proofs.Names.{◌≡◌, ◌∙◌, ap, sym, refl, arith, false≢true, true, bits_in, is_at_line}
use Rattle.fax_bits.proofs.BitReading.BitLists.{length-bits_in}
use Rattle.fax_feeds.proofs.Readings.FeedsOn.{feed_reads}
use Rattle.fax_feeds.proofs.Readings.LooksKept.{fresh_look}
use Rattle.fax_feeds.proofs.Readings.PartsFed.{none_kept}
use Rattle.fax_feeds.specs.RowFeeds.{Feeding}
use Rattle.fax_feeds.proofs.row_feed.RowFeed.read_whole_line.Goals.{After-try_line-row}
use Rattle.fax_feeds.specs.declared.counted_gaps.GapSoFar.{GapSoFar}
use Rattle.fax_feeds.specs.RowFeeds.{no_gap}
use Rattle.fax_feeds.proofs.Readings.LooksKept.{none_counted_of}
use Rattle.fax_feeds.proofs.row_feed.RowFeed.read_whole_line.Goals as goal

-- what begun is
line_begun : (c : After-try_line-row) → c.self.inside.begun ≡ true
line_begun c = ap (λ (f : Feeding). f.begun) c.self.view_is ∙ c.requires.begun

line_is_at : (c : After-try_line-row) → c.placed_at-reader.result
    ≡ record { bits = bits_in c.self.inside.order c.self.inside.«data».items; place = c.self.inside.place }
line_is_at c = grind (arith, common_steps)

-- of the gap after the line nothing is known
no_gap_here : (c : After-try_line-row) → c.self.inside.gap ≡ no_gap
no_gap_here c = ap (λ (f : Feeding). f.gap) c.self.view_is ∙ c.requires.gap

pub invariant_of-self : goal.invariant_of-self
invariant_of-self c =
    let at = (goal.at.invariant_of-self c).After-try_line-row in
    record {
      within = grind (arith, common_steps, length-bits_in, line_is_at at);
      fit = c.self.invariant.fit;
      bytes = c.self.invariant.bytes;
      unbegun = λ e. absurd (false≢true (sym e ∙ line_begun at));
      seen = fresh_look _ _ (ap (λ (g : GapSoFar). g.look) (no_gap_here at));
      line = λ e follows. no_gap_here at;
      over = λ e follows. no_gap_here at;
      counted = none_counted_of (no_gap_here at);
      unkept = λ zeros. absurd (false≢true (sym (ap (λ (g : GapSoFar). g.at_zeros) (no_gap_here at)) ∙ zeros));
      last = λ zeros. absurd (false≢true (sym (ap (λ (g : GapSoFar). g.at_zeros) (no_gap_here at)) ∙ zeros));
      part = grind (arith, common_steps, none_kept);
    }

pub returns-clause-reads : goal.returns-clause-reads
returns-clause-reads c =
    let at = (goal.at.returns-clause-reads c).After-try_line-row in
    rw (← c.self.view_is) (feed_reads _ _ c.placed_at-reader.result c.try_line-row.new.reader (line_is_at at)
    (record { order = refl; finished = refl; kept = refl; dropped = refl; room = refl }) c.bit_pos-self-inside.ensures.place
    (line_begun at) (line_begun at) c.begin_line.new.ctx c.begin_line.ensures.frame c.begin_line.ensures.width
    (ap (λ (f : Feeding). is_at_line f.rows.stand) c.self.view_is ∙ c.requires.line)
    (ap (λ (f : Feeding). f.part) c.self.view_is ∙ c.requires.none_kept) refl refl refl
    (ap (λ (f : Feeding). f.part) c.self.view_is ∙ c.requires.none_kept)
    (omega (arith, c.self.invariant.within, length-bits_in c.self.inside.order c.self.inside.«data».items))
    c.try_line-row.result c.try_line-row.ensures.tries)
