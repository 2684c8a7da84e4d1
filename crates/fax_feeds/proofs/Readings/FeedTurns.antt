-- A turn of a feed: the gap before the next line is passed, and its row is read.
use Rattle.fax_feeds.proofs.Names.{common_steps}
use Rattle.fax_feeds.proofs.Names.{◌≡◌, ◌≢◌, ◌∙◌, ◌+◌, ◌<◌, ◌≤◌, ◌⊎◌, [], ap, sym, subst, refl, arith, length, drop, false≢true}
use Rattle.fax_feeds.proofs.Names.{Bool, true, false, Option, None, Some, Result, Ok, Err, ℕ}
use Rattle.fax_feeds.proofs.Names.{Bits, BitsAt, Context, Held, White}
use Rattle.fax_feeds.proofs.Names.{DecodeError, bits_in, here, is_at_line, ended, redrawn}
use Rattle.std.specs.Prelude.{◌^◌}
use Rattle.fax_bits.proofs.BitReading.BitLists.{length-bits_in}
use Rattle.fax_feeds.proofs.Readings.FeedsCounted.{IsCountedBy, counted_comes}
use Rattle.fax_feeds.proofs.Readings.FeedsFramed.{fed_of, framed, next_of, plain_of}
use Rattle.fax_feeds.proofs.Readings.FeedsOn.{at_line_unended, feed_reads, gap_feeds, line_feeds, none_row, reached_here}
use Rattle.fax_feeds.proofs.Readings.FeedsOn.{row_fits}
use Rattle.fax_feeds.proofs.Readings.LooksKept.{IsLawfulGap, counted_lawful, fresh_look, none_counted_of, seen_begun, seen_there}
use Rattle.fax_feeds.proofs.Readings.PartsFed.{none_kept}
use Rattle.fax_feeds.proofs.Readings.RowsPassed.{counts_on, counts_row, line_was_needed}
use Rattle.fax_feeds.specs.CountedGaps.{ComesCounted}
use Rattle.fax_feeds.specs.GapsSeen.{IsSeen, rules_for}
use Rattle.fax_feeds.specs.declared.counted_gaps.GapSoFar.{GapSoFar}
use Rattle.fax_feeds.specs.declared.row_feed.Fed.{Fed}
use Rattle.fax_feeds.specs.declared.row_feed.RowFeed.TheInside.{Inside}
use Rattle.fax_rows.specs.declared.row_reader.RowState.{RowState}
use Rattle.fax_rows.specs.GapsCounted.{CanGoOn}
use Rattle.fax_feeds.proofs.Names.{length-drop}
use Rattle.fax_feeds.specs.RowFeeds.{Feeding, FeedsRow, IsCounted, IsFeedOf, IsKept, KeepsBits, no_gap}
use Rattle.fax_feeds.specs.RowFeeds.{ReadsInFeed, TriesLine, fed_without_row, fed_row, feeding_of}

-- A feed that has begun, and keeps no part of a line, is read by this reader of its bits.
pub record IsReadBy (f : Inside) (reader : BitsAt) : Type 0 where
  pub kept : IsKept f
  pub begun : f.begun ≡ true
  pub none : f.part ≡ None
  pub is : reader ≡ record { bits = bits_in f.order f.«data».items; place = f.place }

-- what was seen of the gap
pub seen_by : {f : Inside} {reader : BitsAt} → IsReadBy f reader → IsSeen (rules_for true f.ctx.held) f.gap.look (here reader)
seen_by {f} {reader} by = seen_begun f.ctx.held by.begun (seen_there (ap here (sym by.is)) by.kept.seen)

-- the reader of the same bits at another place
pub same_bits_at : {reader : BitsAt} {bits : Bits} {from place : ℕ} (after : BitsAt)
    → reader ≡ record { bits = bits; place = from }
    → after.bits ≡ reader.bits → place ≡ after.place → after ≡ record { bits = bits; place = place }
same_bits_at {reader} {bits} {from} {place} after is same there = grind (arith, common_steps)

pub within_bits : {f : Inside} → IsKept f → f.place ≤ length (bits_in f.order f.«data».items)
within_bits {f} kept = omega (arith, kept.within, length-bits_in f.order f.«data».items)

-- the bits that are next can be counted too
pub can_go_on : {f : Inside} {here : Bits} → IsKept f → f.gap.at_zeros ≡ false
    → here ≡ drop f.place (bits_in f.order f.«data».items) → CanGoOn f.gap.count here
can_go_on {f} kept more is = record {
  tidy = kept.counted.tidy more;
  fits = omega (
    arith,
    kept.counted.few more,
    kept.fit,
    ap length is,
    within_bits kept,
    length-drop f.place (bits_in f.order f.«data».items),
    length-bits_in f.order f.«data».items,
  );
}

-- ---- Where it goes on

-- the feed where a gap was passed
abbrev pub past_gap : Inside → Context → RowState → ℕ → GapSoFar → Inside
past_gap f ctx rows place gap = record f { ctx = ctx; rows = rows; place = place; gap = gap }

-- it is read by the reader of the same bits at another place
pub read_on_by : {f : Inside} {before after : BitsAt} {ctx : Context} {rows : RowState} {place : ℕ} {gap : GapSoFar}
    → IsReadBy f before → place ≡ after.place → after.bits ≡ before.bits → place ≤ length after.bits
    → IsLawfulGap f.is_last (f.dropped + place) rows ctx.held gap (here after)
    → IsReadBy (past_gap f ctx rows place gap) after
read_on_by {f} {before} {after} {ctx} {rows} {place} {gap} by there same within lawful =
    let is = same_bits_at after by.is same there in
    record {
      kept = record {
        within = omega (
          arith,
          within,
          ap length same,
          ap (λ (b : BitsAt). length b.bits) by.is,
          length-bits_in f.order f.«data».items,
        );
        fit = by.kept.fit;
        bytes = by.kept.bytes;
        unbegun = λ e. absurd (false≢true (sym e ∙ by.begun));
        seen = seen_begun ctx.held (sym by.begun) (seen_there (ap here is) lawful.seen);
        line = lawful.line;
        over = lawful.over;
        counted = lawful.counted;
        unkept = λ zeros. by.none;
        last = lawful.last;
        part = none_kept f.part _ _ _ _ _ _ _ _ _ by.none by.kept.part;
      };
      begun = by.begun;
      none = by.none;
      is = is;
    }

-- ---- The gap

module _ {f : Inside} {before after : BitsAt} {rows : RowState} {ctx : Context} {gap : GapSoFar} {place : ℕ}
    {line : Result (Option Bool) DecodeError} (by : IsReadBy f before) (there : place ≡ after.place)
    (follows : f.gap.at_zeros ≡ false)
    (on : ComesCounted f.is_last f.dropped f.rows rows f.gap gap f.ctx ctx before after line) where
  abbrev passed : Inside
  passed = past_gap f ctx rows place gap

  at_before : before.place ≡ f.place
  at_before = ap (λ (b : BitsAt). b.place) by.is

  before_within : before.place ≤ length before.bits
  before_within = omega (arith, at_before, within_bits by.kept, ap (λ (b : BitsAt). length b.bits) by.is)

  pub gap_read_by : ended f.rows.stand ≡ None → IsReadBy passed after
  gap_read_by unended = read_on_by by there on.same_bits (omega (arith, there, on.within))
      (counted_lawful line on (subst (λ (n : ℕ). IsCounted f.gap (f.dropped + n)) (sym at_before) by.kept.counted) follows
      before_within (omega (arith, there)) unended)

  keeps_gap : KeepsBits (feeding_of f) (feeding_of passed)
  keeps_gap = record { order = refl; finished = refl; kept = refl; dropped = refl; room = refl }

  counted_by : {whole : Bits} {tried : ℕ} → IsFeedOf whole tried (feeding_of f)
      → IsCountedBy whole tried (feeding_of f) (feeding_of passed) before after
  counted_by fed = record {
    fed = fed;
    within = within_bits by.kept;
    before_is = by.is;
    ends = there;
    keeps = keeps_gap;
    begun = by.begun;
    still = by.begun;
    tried_at = refl;
    looked = refl;
    looked_now = refl;
    some = follows;
  }

  -- no line is reached
  pub gap_row : ended f.rows.stand ≡ None → line ≢ Ok (Some true)
      → FeedsRow (feeding_of f) (feeding_of passed) (fed_without_row line)
  gap_row unended other = record {
    reads = λ whole tried _ fed.
        let comes = counted_comes (counted_by fed) line on in
        next_of (gap_feeds line comes.0 other by.begun unended by.none by.none) comes.1.known comes.1.lie;
    keeps = keeps_gap;
    over = λ end e. let never = sym unended ∙ e in absurd cc;
    counts = record {
      settings = ap (λ (h : Held). h.settings) on.frame;
      taken = λ e. absurd (none_row line e);
      width = λ e. absurd (none_row line e);
      stands = λ e. absurd (none_row line e);
      unlooked = λ e. absurd (none_row line e);
      few = λ e away none. omega (
        arith,
        on.known.few (line_was_needed line e) none,
        there,
        ap length on.same_bits,
        ap (λ (b : BitsAt). length b.bits) by.is,
        length-drop after.place after.bits,
      );
    };
  }

  -- one is, and no more rows can be counted: these are rows of no data
  pub full_row : ended f.rows.stand ≡ None → line ≡ Ok (Some true)
      → (ctx.held.taken + 1 < 2 ^ 64 → ctx.held.repairs.rows ≤ ctx.held.taken → ⊥) → (error : DecodeError)
      → FeedsRow (feeding_of f) (feeding_of passed) (Err error)
  full_row unended is full error = record {
    reads = λ whole tried _ fed.
        let comes = counted_comes (counted_by fed) line on in
        let fits = row_fits by.begun (on.line is) comes.0.stands in absurd (full fits.0 fits.1);
    keeps = keeps_gap;
    over = λ end e. let never = sym unended ∙ e in absurd cc;
    counts = record {
      settings = ap (λ (h : Held). h.settings) on.frame;
      taken = λ e. cc;
      stands = λ e. cc;
      width = λ e. cc;
      unlooked = λ e. cc;
      few = λ e. cc;
    };
  }

  passed_gap : line ≡ Ok (Some true) → gap.at_zeros ≡ false → gap ≡ no_gap
  passed_gap is more = on.known.passed (λ none. let never = sym is ∙ none in absurd cc) more

  -- its row is read, or it is left
  pub line_row : {new : Feeding} {answer : Result Bool DecodeError} → ended f.rows.stand ≡ None → line ≡ Ok (Some true)
      → gap.at_zeros ≡ false → ctx.held.taken + 1 < 2 ^ 64 → ReadsInFeed (feeding_of passed) new answer
      → (answer ≡ Ok false → new.part ≡ None → (new.ctx.ticks ≡ ctx.ticks)
      ⊎ ((f.tried ≢ new.dropped + new.place) × (new.tried_at ≡ new.dropped + new.place)))
      → FeedsRow (feeding_of f) new (fed_row answer)
  line_row {new} {answer} unended is more room reads unread =
      let none = passed_gap is more in
      record {
        reads = λ whole tried _ fed.
            let comes = counted_comes (counted_by fed) line on in
            let gap_none : gap.passed ≡ 0 = ap (λ (g : GapSoFar). g.passed) none in
            let mid = plain_of comes.1 gap_none in
            let next = line_feeds answer reads (λ e none. unread e) by.begun (on.line is) mid in
            let now = fed_of next.stands (reads.gap ∙ none) reads.within in
            next_of (reached_here line comes.0 is by.none by.none (framed next comes.1 now
            (within_bits (gap_read_by unended).kept) reads.within gap_none (ap (λ (g : GapSoFar). g.passed) (reads.gap ∙ none))
            reads.keeps) by.begun) now.known now.lie;
        keeps = grind (arith, common_steps);
        over = λ end e. let never = sym unended ∙ e in absurd cc;
        counts = counts_row answer (ap (λ (h : Held). h.settings) on.frame) (ap (λ (h : Held). h.taken) on.frame) room
            (λ follows. none) (on.line is) reads;
      }

  -- its row is that of zeros with which the data ends
  pub zeros_row : {new : Feeding} {answer : Result Fed DecodeError} → ended f.rows.stand ≡ None → line ≡ Ok (Some true)
      → FeedsRow (feeding_of passed) new answer → FeedsRow (feeding_of f) new answer
  zeros_row {new} {answer} unended is row = record {
    reads = λ whole tried _ fed.
        let comes = counted_comes (counted_by fed) line on in
        let next = row.reads whole (tried + comes.0.extra) (at_line_unended rows.stand (on.line is)) comes.1 in
        next_of (reached_here line comes.0 is by.none by.none next.plainly by.begun) next.stands.known next.stands.lie;
    keeps = grind (arith, common_steps, row.keeps);
    over = λ end e. let never = sym unended ∙ e in absurd cc;
    counts = counts_on answer (ap (λ (h : Held). h.settings) on.frame) (ap (λ (h : Held). h.taken) on.frame) row.counts;
  }

-- ---- The line

-- the feed where the line was read, or left
abbrev pub past_line : Inside → Context → RowState → ℕ → Inside
past_line f ctx rows place = record f { ctx = ctx; rows = rows; place = place }

module _ {f : Inside} {before after : BitsAt} {begin ctx : Context} {rows : RowState} {place : ℕ}
    {answer : Result Bool DecodeError} (by : IsReadBy f before) (unknown : f.gap ≡ no_gap)
    (line : is_at_line f.rows.stand ≡ true) (there : place ≡ after.place)
    (frame : begin ≡ record f.ctx { held = redrawn f.ctx.held [] White; passed = 0; cut = false })
    (tries : TriesLine f.is_last (f.dropped + f.place) f.rows rows begin ctx before after answer) where
  pub turn_reads : length f.ctx.held.reference ≡ f.ctx.held.settings.columns
      → ReadsInFeed (feeding_of f) (feeding_of (past_line f ctx rows place)) answer
  turn_reads width =
      feed_reads _ _ before after by.is (record { order = refl; finished = refl; kept = refl; dropped = refl; room = refl }) there
      by.begun by.begun begin frame width line by.none refl refl refl by.none (within_bits by.kept) answer tries

  pub line_read_by : IsReadBy (past_line f ctx rows place) after
  line_read_by = read_on_by by there tries.same_bits (omega (arith, there, tries.within)) (record {
    seen = fresh_look _ _ (ap (λ (g : GapSoFar). g.look) unknown);
    line = λ line follows. unknown;
    over = λ over follows. unknown;
    counted = none_counted_of unknown;
    last = λ zeros. absurd (false≢true (sym (ap (λ (g : GapSoFar). g.at_zeros) unknown) ∙ zeros));
  })
