-- What is kept of a short line in data that comes in pieces.
use Rattle.fax_feeds.proofs.Names.{common_steps}
use Rattle.fax_feeds.proofs.Names.{◌⊎◌, inl, inr}
use Rattle.fax_feeds.proofs.Names.{◌≡◌, ◌≢◌, ◌∙◌, ◌+◌, ◌-◌, ◌*◌, ◌≤◌, [], ℕ, Bool, true, false, Result, Ok, None, Some}
use Rattle.fax_feeds.proofs.Names.{Option, refl, sym, ap, subst, arith, length, drop, Bits, BitsAt, Held, Context}
use Rattle.fax_feeds.proofs.Names.{DecodeError, Group3_2D, White}
use Rattle.std.proofs.lemmas.Bool.{cases_eq}
use Rattle.fax_feeds.proofs.Names.{redrawn, here, Stand, false≢true, length-drop}
use Rattle.fax_feeds.proofs.Names.{drop-drop, ◌++◌, append_assoc, length-append}
use Rattle.fax_feeds.proofs.Names.{changes, line_here}
use Rattle.fax_feeds.specs.declared.line_parts.KeptPart.{KeptPart}
use Rattle.fax_reading.specs.Continuations.{is_short}
use Rattle.fax_feeds.specs.LineParts.{ContinuesLine, IsPartOf}
use Rattle.fax_feeds.proofs.Readings.FeedsOn.{none_paid}
use Rattle.fax_feeds.specs.RowFeeds.{KeepsPart, Feeding, IsPlainFeedOf, LineGoesOn, PartIsKept, ReadsInFeed, Scans, ScansLine}
use Rattle.fax_feeds.specs.RowFeeds.{StandsIn}
use Rattle.fax_feeds.specs.RowFeeds.{StaysShort, fed_over, line_of_feed, most_for_line, most_to_find, paid_by}
use Rattle.fax_reading.specs.Answers.{HasBlack}
use Rattle.fax_feeds.proofs.Names.{RowsRead, ReadsNext, front_of}
use Rattle.fax_feeds.proofs.Readings.RowsFed.{stands_later}

-- where no part is kept, none is known
pub none_kept : (part : Option KeptPart) (begun begun' : Bool) (stand stand' : Stand) (held held' : Held) (bits bits' : Bits)
    (read : ℕ) → part ≡ None → PartIsKept part begun stand held bits read → PartIsKept part begun' stand' held' bits' read
none_kept None begun begun' stand stand' held held' bits bits' read none kept = kept
none_kept (Some part) begun begun' stand stand' held held' bits bits' read none kept = absurd cc

-- no more bits were read than are kept
pub read_within : (part : Option KeptPart) (begun : Bool) (stand : Stand) (held : Held) (bits : Bits) (read : ℕ)
    → PartIsKept part begun stand held bits read → read ≤ length bits
read_within None begun stand held bits read none = omega (arith, none)
read_within (Some part) begun stand held bits read kept = kept.within

-- before the first line none is
pub unbegun_none : (part : Option KeptPart) (begun : Bool) (stand : Stand) (held : Held) (bits : Bits) (read : ℕ)
    → begun ≡ false → PartIsKept part begun stand held bits read → part ≡ None
unbegun_none None begun stand held bits read unbegun kept = refl
unbegun_none (Some part) begun stand held bits read unbegun kept = absurd (false≢true (sym unbegun ∙ kept.is_begun))

-- the same part, where more bits are known
pub kept_longer : (part : Option KeptPart) (begun : Bool) (stand : Stand) (held : Held) (bits : Bits) (read : ℕ) (more : Bits)
    → PartIsKept part begun stand held bits read → PartIsKept part begun stand held (bits ++ more) read
kept_longer None begun stand held bits read more kept = kept
kept_longer (Some part) begun stand held bits read more kept = grind (arith, common_steps, length-append, append_assoc)

-- what a call leaves that reads on from a part
module _ (old new : Feeding) (part next : KeptPart) (read : ℕ) (before after : BitsAt) (short : Bool)
    (before_is : before ≡ record { bits = old.kept; place = old.place + read })
    (within : old.place ≤ length old.kept)
    (on : ContinuesLine part next old.ctx new.ctx before after short)
    (kept : LineGoesOn old.begun old.rows.stand old.ctx.held (drop old.place old.kept) read part) where
  starts : here before ≡ drop read (drop old.place old.kept)
  starts = ap here before_is ∙ sym (drop-drop read old.place old.kept)

  begins : IsPartOf old.ctx.held.settings old.ctx.held.reference (drop old.place old.kept) part (here before)
  begins = subst (IsPartOf old.ctx.held.settings old.ctx.held.reference (drop old.place old.kept) part) (sym starts) kept.line

  bits_are : after.bits ≡ old.kept
  bits_are = on.same_bits ∙ ap (λ (b : BitsAt). b.bits) before_is

  ends : after.place ≤ length after.bits → here after ≡ drop (after.place - old.place) (drop old.place old.kept)
  ends inside = grind (arith, common_steps, bits_are, drop-drop)

  -- the part that is reached is kept
  pub part_reached : after.place ≤ length after.bits → short ≡ true → LineGoesOn old.begun old.rows.stand new.ctx.held
      (drop old.place old.kept) (after.place - old.place) next
  part_reached inside e = grind (arith, common_steps, length-drop, bits_are, ends, begins)

  pub said_short : is_short (line_of_feed old) ≡ short
  said_short = on.said (drop old.place old.kept) begins

  -- its work
  left_before : length (here before) + read ≡ length (drop old.place old.kept)
  left_before = omega (arith, ap length starts, length-drop read (drop old.place old.kept), kept.within)

  pub scan_work : after.place ≤ length after.bits → new.ctx.ticks + (part.passed + 2 * read)
      ≤ old.ctx.ticks + (next.passed + 2 * (after.place - old.place) + 2)
  scan_work inside = grind (arith, common_steps, left_before, length-drop, bits_are)

  -- no more is paid for it than the whole line's most
  pub scan_paid : after.place ≤ length after.bits → next.passed + 2 * (after.place - old.place) + 2
      ≤ length (changes old.ctx.held.reference) + 2 * length (drop old.place old.kept) + 2
  scan_paid inside = grind (arith, common_steps, bits_are, length-drop)

  pub scan_most : new.ctx.ticks + (part.passed + 2 * read) ≤ old.ctx.ticks + most_for_line old + 2
  scan_most = omega (arith, on.work, left_before, on.lawful.passed.within)

  -- the line is short, and goes on from the part that is reached
  pub scans_short : after.place ≤ length after.bits → short ≡ true → ScansLine part.passed read old
      (record old { ctx = new.ctx; part = Some next; line_read = after.place - old.place }) true
  scans_short inside e = grind (arith, common_steps, said_short, false≢true, scan_paid, scan_work, scan_most)

  -- or it is whole
  pub scans_whole : short ≡ false → ScansLine part.passed read old
      (record old { ctx = new.ctx; part = None; line_read = 0 }) false
  scans_whole e = grind (arith, common_steps, said_short, false≢true, scan_most)

-- the part that was kept is read on from
pub stays_by : (old new : Feeding) (part : KeptPart) (short : Bool) → old.part ≡ Some part → old.finished ≡ false
    → redrawn old.ctx.held [] White ≡ old.ctx.held → ScansLine part.passed old.line_read old new short → StaysShort old new short
stays_by old new part short is unfinished none_drawn scans = grind (arith, common_steps)

-- ---- A line that is read on before it is read, or after it was left

module _ {whole : Bits} {tried : ℕ} {old new : Feeding} (scans : Scans old new) (begun : old.begun ≡ true) where
  -- what was read on is counted as tried
  pub scanned_fed : IsPlainFeedOf whole tried old → IsPlainFeedOf whole (tried + (new.ctx.ticks - old.ctx.ticks)) new
  scanned_fed feed =
      let more = new.ctx.ticks - old.ctx.ticks in
      let at : BitsAt = record { bits = whole; place = old.dropped + old.place } in
      let ctx : Context = record old.ctx { ticks = new.ctx.ticks } in
      subst (IsPlainFeedOf whole (tried + more)) (sym scans.frame) (record {
        fit = feed.fit;
        lie = feed.lie;
        stands = subst (λ (b : Bool). StandsIn b (tried + more) old.rows ctx at) (sym begun)
            (stands_later tried more old.rows old.ctx ctx at refl (omega (arith, scans.counts))
            (subst (λ (b : Bool). StandsIn b tried old.rows old.ctx at) begun feed.stands));
      })

-- a reading is the same where less was counted before
pub later_next : (old new : RowsRead) (ticks : ℕ) (r : Result Bool DecodeError) → old.ticks ≤ ticks
    → ReadsNext (record old { ticks = ticks }) new r → ReadsNext old new r
later_next old new ticks r le reads = grind (arith, common_steps)

-- a line that is settled isn't left as short
pub settled_not : {old mid new : Feeding} {answer : Result Bool DecodeError} → StaysShort old mid false
    → ReadsInFeed mid new answer → answer ≡ Ok false → (old.finished ≡ true) ⊎ (is_short (line_of_feed old) ≡ false) → ⊥
settled_not {old} {mid} {new} {answer} stays reads e (inl last) = grind (arith, common_steps, false≢true)
settled_not {old} {mid} {new} {answer} stays reads e (inr whole) = grind (arith, common_steps, false≢true)

-- the line is read on, and then read
pub scanned_before : {old mid new : Feeding} (answer : Result Bool DecodeError) → StaysShort old mid false → old.begun ≡ true
    → ReadsInFeed mid new answer → ReadsInFeed old new answer
scanned_before {old} {mid} {new} answer stays begun reads =
    let scans = stays.scans in
    let none = stays.none refl in
    let frame = scans.frame in
    let more = mid.ctx.ticks - old.ctx.ticks in
    record {
      extra = more + reads.extra;
      keeps = grind (arith, common_steps);
      begun = reads.begun;
      counts = omega (arith, reads.counts, scans.counts);
      left = λ left. grind (arith, common_steps, reads.left left);
      unsettled = λ e. grind (arith, common_steps, reads.unsettled e);
      memory = λ e. subst (λ (f : Feeding). HasBlack (front_of (line_here new.ctx.held.settings new.ctx.held.reference
          (drop f.place f.kept)))) frame (reads.memory e);
      paints = λ whole tried e feed. reads.paints whole (tried + more) e (scanned_fed scans begun feed);
      reads = λ whole tried other feed. later_next (fed_over whole old) (fed_over whole new) mid.ctx.ticks answer scans.counts
          (subst (λ (f : Feeding). ReadsNext (fed_over whole f) (fed_over whole new) answer) frame
          (reads.reads whole (tried + more) other (scanned_fed scans begun feed)));
      stands = λ whole tried feed.
          let same : (tried + more) + reads.extra ≡ tried + (more + reads.extra) = omega arith in
          subst (λ (n : ℕ). IsPlainFeedOf whole n new) same (reads.stands whole (tried + more) (scanned_fed scans begun feed));
      most = grind (arith, common_steps);
      counted = omega (arith, reads.counted, scans.counts);
      stored = λ e. omega (arith, reads.stored e, scans.counts);
      looked = reads.looked ∙ ap (λ (f : Feeding). f.looked) frame;
      gap = reads.gap ∙ ap (λ (f : Feeding). f.gap) frame;
      done = reads.done;
      tried = grind (arith, common_steps);
      after = reads.after;
      within = reads.within;
      paid = reads.paid;
      row_is = λ whole tried e feed. grind (
        arith,
        common_steps,
        scanned_fed,
        reads.row_is whole (tried + more) e (scanned_fed scans begun feed),
      );
      work = record {
        goes_on = λ e some. absurd (settled_not stays reads e (stays.settled refl some));
        begins = λ e unkept. omega (
          arith,
          (stays.unkept unkept).1,
          reads.work.begins e none,
          ap (λ (f : Feeding). length (drop f.place f.kept)) frame,
          ap (λ (f : Feeding). length (changes f.ctx.held.reference)) frame,
        );
        read = λ other. omega (arith, reads.work.at_once other none, stays.most, scans.counts);
        at_once = λ other unkept. omega (arith, reads.work.at_once other none, (stays.unkept unkept).1);
        some = λ e some. absurd (settled_not stays reads e (stays.settled refl some));
        failed = λ e. omega (
          arith,
          reads.work.failed_at_once e none,
          stays.most,
          scans.counts,
          ap (λ (f : Feeding). most_to_find f) frame,
        );
        failed_at_once = λ e unkept. omega (
          arith,
          reads.work.failed_at_once e none,
          (stays.unkept unkept).1,
          ap (λ (f : Feeding). most_to_find f) frame,
        );
      };
      width = λ e. reads.width e ∙ ap (λ (f : Feeding). f.ctx.held.settings.columns) frame;
      settings = reads.settings ∙ ap (λ (f : Feeding). f.ctx.held.settings) frame;
      taken = λ e. omega (arith, reads.taken e, ap (λ (f : Feeding). f.ctx.held.taken) frame);
    }

part_paid : (part : Option KeptPart) (read : ℕ) {most : ℕ} → (part ≢ None → paid_by part read ≤ most) → paid_by part read ≤ most
part_paid None read known = omega arith
part_paid (Some part) read known = known (λ e. cc)

-- the line was left, since it is short, and is read on
pub scanned_after : {old mid new : Feeding} → ReadsInFeed old mid (Ok false) → old.part ≡ None → mid.part ≡ None
    → KeepsPart mid new
    → ReadsInFeed old new (Ok false)
scanned_after {old} {mid} {new} reads none unkept keeps_part =
    let scans = keeps_part.scans in
    let frame = scans.frame in
    let more = new.ctx.ticks - mid.ctx.ticks in
    let left = reads.left refl in
    record {
      extra = reads.extra + more;
      keeps = grind (arith, common_steps);
      begun = ap (λ (f : Feeding). f.begun) frame ∙ reads.begun;
      counts = omega (arith, reads.counts, scans.counts);
      left = λ e. grind (arith, common_steps);
      unsettled = λ e. grind (arith, common_steps, reads.unsettled refl);
      memory = λ e. cc;
      paints = λ whole tried e feed. cc;
      reads = λ whole tried other feed. absurd (other refl);
      stands = λ whole tried feed.
          let same : (tried + reads.extra) + more ≡ tried + (reads.extra + more) = omega arith in
          subst (λ (n : ℕ). IsPlainFeedOf whole n new) same (scanned_fed scans reads.begun (reads.stands whole tried feed));
      most = omega (arith, reads.most, ap (λ (f : Feeding). f.ctx.space) frame);
      counted = omega (arith, reads.counted, scans.counts);
      stored = λ e. cc;
      looked = ap (λ (f : Feeding). f.looked) frame ∙ reads.looked;
      gap = ap (λ (f : Feeding). f.gap) frame ∙ reads.gap;
      done = λ e. absurd (e refl);
      tried = grind (arith, common_steps);
      after = λ e. cc;
      within = grind (arith, common_steps);
      paid = part_paid new.part new.line_read keeps_part.paid;
      row_is = λ whole tried e feed. cc;
      work = grind (arith, common_steps, begins, none_paid, reads.work.begins refl none, reads.unsettled refl);
      width = λ e. cc;
      settings = ap (λ (f : Feeding). f.ctx.held.settings) frame ∙ reads.settings;
      taken = λ e. cc;
    }

-- a line that was short, and of which no part is kept, was tried for the first time, or nothing was counted for it
pub unread_line : {old left new : Feeding} → ReadsInFeed old left (Ok false) → left.tried_at ≡ old.tried_at
    → (old.ctx.held.settings.encoding ≡ Group3_2D → drop old.place old.kept ≡ [] → left.ctx.ticks ≡ old.ctx.ticks)
    → KeepsPart left new → new.part ≡ None
    → (new.ctx.ticks ≡ old.ctx.ticks) ⊎ ((old.tried_at ≢ new.dropped + new.place) × (new.tried_at ≡ new.dropped + new.place))
unread_line {old} {left} {new} reads tried no_tag keeps_part none = grind (arith, common_steps, cases_eq)

-- the line still is short
pub stays_short : {old new : Feeding} → StaysShort old new true → old.begun ≡ true → ReadsInFeed old new (Ok false)
stays_short {old} {new} stays begun =
    let frame = stays.scans.frame in
    let said = stays.said refl in
    record {
      extra = new.ctx.ticks - old.ctx.ticks;
      keeps = grind (arith, common_steps);
      begun = ap (λ (f : Feeding). f.begun) frame ∙ begun;
      counts = stays.scans.counts;
      left = λ e. grind (arith, common_steps);
      unsettled = λ e. grind (arith, common_steps);
      memory = λ e. cc;
      paints = λ whole tried e feed. cc;
      reads = λ whole tried other feed. absurd (other refl);
      stands = λ whole tried feed. scanned_fed stays.scans begun feed;
      most = omega (arith, ap (λ (f : Feeding). f.ctx.space) frame);
      counted = omega (arith, stays.scans.counts);
      stored = λ e. cc;
      looked = ap (λ (f : Feeding). f.looked) frame;
      gap = ap (λ (f : Feeding). f.gap) frame;
      done = λ e. absurd (e refl);
      tried = inl stays.tried;
      after = λ e. cc;
      within = (stays.kept refl).0;
      paid = (stays.kept refl).1;
      row_is = λ whole tried e feed. cc;
      work = record {
        goes_on = λ e some. omega (arith, stays.work refl, stays.scans.counts);
        begins = λ e none. absurd (false≢true (sym (stays.unkept none).0));
        read = λ other. absurd (other refl);
        at_once = λ other none. absurd (other refl);
        some = λ e some. stays.some refl;
        failed = λ e. cc;
        failed_at_once = λ e none. cc;
      };
      width = λ e. cc;
      settings = ap (λ (f : Feeding). f.ctx.held.settings) frame;
      taken = λ e. cc;
    }
