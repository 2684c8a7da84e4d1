-- Rows from data that comes in pieces: a line that is read on before the call that reads the next row.
use Rattle.fax_feeds.proofs.Names.{common_steps, ◌≡◌, ◌≢◌, ◌∙◌, ◌+◌, ◌-◌, ◌≤◌, ◌⊎◌, ◌&&◌, ℕ, Bool, true, false, Result, Ok, Err}
use Rattle.fax_feeds.proofs.Names.{None, Some, Option, refl, sym, ap, subst, arith, inl, inr, false≢true, drop, Bits, Held}
use Rattle.fax_feeds.proofs.Names.{line_here, DecodeError, RowsRead, IfErr-weaker, is_at_line, Stand}
use Rattle.fax_reading.specs.Continuations.{is_short}
use Rattle.fax_feeds.specs.declared.line_parts.KeptPart.{KeptPart}
use Rattle.fax_feeds.specs.declared.row_feed.Fed.{Fed}
use Rattle.fax_feeds.specs.RowFeeds.{Feeding, FeedsPlainly, FeedsRow, IsPlainFeedOf, KeepsBits, PartIsKept, StaysShort}
use Rattle.fax_feeds.specs.RowFeeds.{StaysThere}
use Rattle.fax_feeds.specs.RowFeeds.{fed_over, line_of_feed, most_for_line, paid_for_line}
use Rattle.fax_feeds.proofs.Readings.CompletedOn.{keeps_completed}
use Rattle.fax_feeds.proofs.Readings.FeedsCompleted.{full_gap}
use Rattle.fax_feeds.proofs.Readings.FeedsFramed.{fed_of, framed, next_of, plain_of}
use Rattle.fax_feeds.proofs.Readings.FeedsOn.{line_feeds, at_line_unended}
use Rattle.std.proofs.lemmas.List.{nil_from_length}
use Rattle.fax_feeds.proofs.Names.{◌++◌, length, take}
use Rattle.fax_feeds.specs.declared.counted_gaps.GapSoFar.{GapSoFar}
use Rattle.fax_feeds.specs.RowFeeds.{IsFeedOf, completed, fed_bits, no_gap, offset_of}
use Rattle.fax_feeds.proofs.Readings.FeedsPaid.{open_at_line}
use Rattle.fax_feeds.proofs.Readings.PartsFed.{later_next, scanned_fed, stays_short}

-- a feed in which so much more was counted, and no part is kept
abbrev later : Feeding → ℕ → ℕ → Feeding
later old more read = record old {
  ctx = record old.ctx { ticks = old.ctx.ticks + more };
  part = None;
  line_read = read;
}

-- what was there before is there still
stays_there : (old new : RowsRead) (ticks : ℕ) → old.ticks ≤ ticks → StaysThere (record old { ticks = ticks }) new
    → StaysThere old new
stays_there old new ticks le stays = grind (arith, common_steps)

-- a line that is settled isn't waited for
line_is_read : {whole : Bits} {tried : ℕ} {old next : Feeding} → old.begun ≡ true → is_at_line old.rows.stand ≡ true
    → KeepsBits old next → FeedsPlainly whole tried old next (Ok Fed.NeedsMore)
    → (old.finished ≡ true) ⊎ (is_short (line_of_feed old) ≡ false) → ⊥
line_is_read {old = old} {next = next} begun line keeps n (inl finished) =
    false≢true (sym (n.unsettled refl).0 ∙ keeps.finished ∙ finished)
line_is_read {old = old} {next = next} begun line keeps n (inr whole) =
    let stays = n.none refl in
    let at_line : (old.begun && is_at_line old.rows.stand) ≡ true = grind (arith, common_steps) in
    let place = n.goes_on.stays refl at_line in
    let still : next.begun ≡ true = grind (arith, common_steps, n.goes_on.unbegun) in
    let waits = open_at_line next.begun next.rows.stand next.ctx (drop next.place next.kept) still (stays.line line)
    (n.unsettled refl).1 in
    let same : line_here old.ctx.held.settings old.ctx.held.reference (drop old.place old.kept)
    ≡ line_here next.ctx.held.settings next.ctx.held.reference (drop next.place next.kept) =
    grind (arith, common_steps, stays.settings, stays.row, keeps.kept) in
    false≢true (sym whole ∙ ap is_short same ∙ waits)

-- A call that reads the next row leaves the same where the line was read on before.
next_later : {whole : Bits} {tried : ℕ} {old next : Feeding} (more read : ℕ) (answer : Result Fed DecodeError) → old.part ≢ None
    → more + paid_for_line old ≤ most_for_line old + 4 → (answer ≡ Ok Fed.NeedsMore → ⊥)
    → FeedsPlainly whole (tried + more) (later old more read) next answer → FeedsPlainly whole tried old next answer
next_later {whole} {tried} {old} {next} more read answer some paid settled n =
    let work = n.line_work in
    let on = n.goes_on in
    let before = fed_over whole old in
    let after = fed_over whole next in
    let ticks = old.ctx.ticks + more in
    record {
      row = λ e. later_next before after ticks (Ok true) (omega arith) (n.row e);
      end = λ e. later_next before after ticks (Ok false) (omega arith) (n.end e);
      fault = IfErr-weaker answer _ _ (λ e reads other. later_next before after ticks (Err e) (omega arith) (reads other))
          n.fault;
      none = λ none. stays_there before after ticks (omega arith) (n.none none);
      unsettled = n.unsettled;
      memory = n.memory;
      paints = n.paints;
      extra = more + n.extra;
      stands = subst (λ (m : ℕ). IsPlainFeedOf whole m next) (omega arith) n.stands;
      gap = n.gap;
      line_extra = more + n.line_extra;
      extra_is = omega (arith, n.extra_is);
      looks = n.looks;
      looked = n.looked;
      line_work = record {
        goes_on = λ e kept. absurd (settled e);
        begins = λ e none. absurd (some none);
        read = λ other. omega (arith, paid, work.at_once other refl);
        at_once = λ other none. absurd (some none);
        some = λ e kept. absurd (settled e);
        unread = λ e none unkept. absurd (some none);
        failed = λ e. omega (arith, paid, work.failed_at_once e refl);
        failed_at_once = λ e none. absurd (some none);
      };
      goes_on = record {
        counts = omega (arith, on.counts);
        stored = λ e. omega (arith, on.stored e);
        draws = λ e. let draws = on.draws e in record {
          start = draws.start;
          onward = draws.onward;
          past_eol = draws.past_eol;
          most = draws.most;
          drawn = draws.drawn;
        };
        onward = on.onward;
        near = on.near;
        last = on.last;
        zeros = on.zeros;
        stays = on.stays;
        row_is = on.row_is;
        past_eol = on.past_eol;
        after = on.after;
        tried = on.tried;
        sought = on.sought;
        waits = on.waits;
        within = on.within;
        paid = on.paid;
        unkept = on.unkept;
        unbegun = on.unbegun;
        space = on.space;
      };
    }

module _ {old mid : Feeding} (begun : old.begun ≡ true) (line : is_at_line old.rows.stand ≡ true) (unknown : old.gap ≡ no_gap)
    (within : old.place ≤ length old.kept) where
  -- the line still is short
  pub row_waits : StaysShort old mid true → FeedsRow old mid (Ok Fed.NeedsMore)
  row_waits stays = record {
    reads = λ whole tried unended feed.
        let reads = stays_short stays begun in
        let next = line_feeds (Ok false) reads (λ e none still. absurd (false≢true (sym (stays.unkept none).0))) begun line
        (plain_of feed (ap (λ (g : GapSoFar). g.passed) unknown)) in
        let now = fed_of next.stands (reads.gap ∙ unknown) reads.within in
        next_of (framed next feed now within reads.within (ap (λ (g : GapSoFar). g.passed) unknown)
        (ap (λ (g : GapSoFar). g.passed) (reads.gap ∙ unknown)) reads.keeps) now.known now.lie;
    keeps = (stays_short stays begun).keeps;
    over = λ end e. absurd (let never = sym (at_line_unended old.rows.stand line) ∙ e in cc);
    counts = record {
      settings = ap (λ (f : Feeding). f.ctx.held.settings) stays.scans.frame;
      taken = λ e. cc;
      width = λ e. cc;
      stands = λ e. cc;
      unlooked = λ e. cc;
      few = λ e away.
          absurd (false≢true (sym away ∙ ap (λ (f : Feeding). is_at_line f.rows.stand) stays.scans.frame ∙ line));
    };
  }

  -- or the next row is read after that
  module _ (stays : StaysShort old mid false) (some : old.part ≢ None) {next : Feeding} {answer : Result Fed DecodeError}
      (row : FeedsRow mid next answer) where
    abbrev more : ℕ
    more = mid.ctx.ticks - old.ctx.ticks

    mid_is : mid ≡ later old more mid.line_read
    mid_is =
        stays.scans.frame
        ∙ ap (λ (p : Option KeptPart). record old {
          ctx = record old.ctx { ticks = mid.ctx.ticks };
          part = p;
          line_read = mid.line_read;
          tried_at = mid.tried_at;
        }) (stays.none refl)
        ∙ ap (λ (n : ℕ). record old {
          ctx = record old.ctx { ticks = n };
          part = None;
          line_read = mid.line_read;
          tried_at = mid.tried_at;
        }) (omega (arith, stays.scans.counts))
        ∙ ap (λ (n : ℕ). record (later old more mid.line_read) { tried_at = n }) stays.tried

    settled_there : (whole : Bits) → drop (offset_of old) (take (fed_bits old) whole) ≡ drop old.place old.kept
        → (old.finished ≡ true) ⊎ (is_short (line_of_feed old) ≡ false)
        → (old.finished ≡ true) ⊎ (is_short (line_of_feed (completed whole old)) ≡ false)
    settled_there whole here (inl finished) = inl finished
    settled_there whole here (inr settled) = inr (ap (λ (b : Bits). is_short (line_here old.ctx.held.settings
        old.ctx.held.reference b))
        here ∙ settled)

    later_row : FeedsRow (later old more mid.line_read) next answer
    later_row = subst (λ (f : Feeding). FeedsRow f next answer) mid_is row

    pub row_after_line : FeedsRow old next answer
    row_after_line = record {
      reads = λ whole tried unended feed.
          let frame = stays.scans.frame in
          let mid_within : mid.place ≤ length mid.kept =
          omega (arith, within, ap (λ (f : Feeding). f.place) frame, ap (λ (f : Feeding). length f.kept) frame) in
          let fed : IsFeedOf whole (tried + more) (later old more mid.line_read) =
          subst (IsFeedOf whole (tried + more)) mid_is (fed_of (scanned_fed stays.scans begun
          (plain_of feed (ap (λ (g : GapSoFar). g.passed) unknown)))
          (ap (λ (f : Feeding). f.gap) frame ∙ unknown) mid_within) in
          let n = later_row.reads whole (tried + more) unended fed in
          let here : drop (offset_of old) (take (fed_bits old) whole) ≡ drop old.place old.kept = full_gap feed within
          ∙ ap (λ (b : Bits). b ++ drop old.place old.kept)
          (nil_from_length feed.known.gone (omega (arith, feed.known.long, (ap (λ (g : GapSoFar). g.passed) unknown)))) in
          next_of (next_later {old = completed whole old} {next = completed whole next} more mid.line_read answer some
          (omega (arith, stays.most, stays.scans.counts, ap length here))
          (λ e. line_is_read begun line (keeps_completed whole later_row.keeps)
          (subst (FeedsPlainly whole (tried + more) (later (completed whole old) more mid.line_read) (completed whole next))
          e n.plainly) (settled_there whole here (stays.settled refl some))) n.plainly) n.stands.known n.stands.lie;
      keeps = let keeps = later_row.keeps in record {
        order = keeps.order;
        finished = keeps.finished;
        kept = keeps.kept;
        dropped = keeps.dropped;
        room = keeps.room;
      };
      over = λ end e. absurd (let never = sym (at_line_unended old.rows.stand line) ∙ e in cc);
      counts = let counts = later_row.counts in record {
        settings = counts.settings;
        taken = counts.taken;
        width = counts.width;
        stands = counts.stands;
        unlooked = counts.unlooked;
        few = counts.few;
      };
    }

-- where a part is kept, a line is here
pub part_known : (part : Option KeptPart) (begun : Bool) (stand : Stand) (held : Held) (bits : Bits) (read : ℕ) → part ≢ None
    → PartIsKept part begun stand held bits read → (begun ≡ true) × (is_at_line stand ≡ true)
part_known None begun stand held bits read some kept = absurd (some refl)
part_known (Some part) begun stand held bits read some kept = (kept.is_begun, kept.at_line)
