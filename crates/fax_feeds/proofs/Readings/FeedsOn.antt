-- Rows from data that comes in pieces: what the steps of a call leave of a feed.
use Rattle.fax_feeds.proofs.Names.{common_steps, ◌≡◌, ◌≢◌, ◌∙◌, ◌+◌, ◌-◌, ◌≤◌, [], ℕ, Bool, true, false, Result, Ok, Err}
use Rattle.fax_feeds.proofs.Names.{None, Some, Option, refl, sym, ap, subst, arith, length, drop, cond, Bits, BitsAt, Held}
use Rattle.fax_feeds.proofs.Names.{Context, DecodeError, White, redrawn, front_of, here, lines_of, ◌&&◌, IsStanding}
use Rattle.fax_feeds.proofs.Names.{IsStandingAtLine, ReachesNextLine, ReadsNext, is_at_line, seen, line_here, DecodeSettings}
use Rattle.fax_feeds.proofs.Names.{Stand, AtLine, AfterRow, AtEnd, AtFault, ended, is_some, ◌++◌}
use Rattle.fax_feeds.proofs.Names.{◌⊎◌, inl, inr, IfErr-weaker, RowsRead, false≢true, ◌<◌}
use Rattle.fax_feeds.proofs.Names.{length-drop}
use Rattle.std.specs.Prelude.{◌^◌}
use Rattle.fax_rows.proofs.Readings.RowByRow.{at_line_stands, begun_is, few, paints_at_line, reads_on}
use Rattle.fax_feeds.proofs.Readings.RowsDrawn.{row_drawn}
use Rattle.fax_feeds.proofs.Readings.RowsFed.{stands_later, left_is, left_not, from_place}
use Rattle.fax_lines.proofs.Work.RoomTaken.{row_enough}
use Rattle.fax_rows.specs.declared.row_reader.RowState.{RowState}
use Rattle.fax_feeds.proofs.Readings.BlackGoesOn.{black_goes_on}
use Rattle.fax_reading.specs.Answers.{HasBlack, PaintsBlack}
use Rattle.fax_reading.specs.Continuations.{is_short}
use Rattle.fax_reading.specs.GapsContinued.{gap_is_settled}
use Rattle.fax_rows.specs.RowsTried.{CanCome, IsUnread, StandsFirst, TriesRow, front_is_settled}
use Rattle.fax_feeds.specs.RowFeeds.{ComesInFeed, Feeding, IsPlainFeedOf, KeepsBits, LieIn, ReadsInFeed, StandsIn}
use Rattle.fax_feeds.specs.RowFeeds.{HasNone, LooksAhead, TriesLine, came, fed_over, zeros_left}
use Rattle.fax_feeds.specs.declared.counted_gaps.GapSoFar.{GapSoFar}
use Rattle.fax_feeds.specs.RowFeeds.{FeedsPlainly, IsAtFront, IsOpenAt, StaysThere, fed_without_row}
use Rattle.fax_feeds.specs.RowFeeds.{LineWork, fed_row, is_unread, line_first, paid_by}
use Rattle.fax_feeds.proofs.Names.{changes}
use Rattle.fax_reading.proofs.Work.WordsPay.{found_within}
use Rattle.fax_reading.proofs.Work.TurnsPaid.{row_shorter}
use Rattle.fax_feeds.proofs.Names.{append-nil, row_of_line}
use Rattle.fax_feeds.specs.RowFeeds.{Begins, CallGoesOn, DrawsRow, ReachesLine, line_of_feed, most_to_find}
use Rattle.fax_feeds.proofs.Names.{IfErr, and_parts}
use Rattle.fax_feeds.specs.declared.line_parts.KeptPart.{KeptPart}
use Rattle.fax_bits.specs.declared.error.DecodeError.TheVariants.{InvalidCode, OutOfMemory}
use Rattle.fax_feeds.specs.declared.row_feed.Fed.{Fed}
use Rattle.fax_bits.proofs.ErrorKinds.{by_kind}
use Rattle.std.proofs.lemmas.Bool.{and_from}
use Rattle.fax_feeds.proofs.Readings.RowsPassed.{line_was_read}
use Rattle.fax_rows.proofs.Readings.RowsPushed.{none_missed}

-- where no part is kept, nothing is paid
pub none_paid : (part : Option KeptPart) (read : ℕ) → part ≡ None → paid_by part read ≡ 0
none_paid None read none = refl
none_paid (Some part) read none = absurd cc

at_most : (b : Bool) (n : ℕ) → cond b n 0 ≤ n
at_most true n = omega arith
at_most false n = omega arith

at_none : (b : Bool) (n : ℕ) → b ≡ false → cond b n 0 ≡ 0
at_none true n e = absurd (false≢true (sym e))
at_none false n e = refl

-- a line that wasn't left isn't said to be
unleft : (answer : Result Bool DecodeError) → (IsUnread answer → ⊥) → is_unread answer ≡ false
unleft answer other = grind (arith, common_steps, left_is)

module _ (old new : Feeding) (before after : BitsAt) (before_is : before ≡ record { bits = old.kept; place = old.place })
    (keeps : KeepsBits old new) (ends : new.place ≡ after.place) (begun : old.begun ≡ true) (still : new.begun ≡ true) where
  abbrev at : ℕ
  at = old.dropped + old.place

  starts : at ≡ old.dropped + before.place
  starts = ap (λ (n : ℕ). old.dropped + n) (sym (ap (λ (b : BitsAt). b.place) before_is))

  -- where the reading is in the whole data
  module _ {whole : Bits} {tried : ℕ} (feed : IsPlainFeedOf whole tried old) where
    pub lies : LieIn whole old.dropped old.finished before.bits
    lies = subst (λ (b : Bits). LieIn whole old.dropped old.finished b) (sym (ap (λ (b : BitsAt). b.bits) before_is)) feed.lie

    pub stood : IsStanding tried old.rows old.ctx (record { bits = whole; place = at })
    stood = subst (λ (b : Bool). StandsIn b tried old.rows old.ctx (record { bits = whole; place = at })) begun feed.stands

    pub stays_fed : (more : ℕ)
        → IsStanding (tried + more) new.rows new.ctx (record { bits = whole; place = old.dropped + after.place })
        → IsPlainFeedOf whole (tried + more) new
    stays_fed more stands = grind (arith, common_steps)

  place_is : old.dropped + after.place ≡ new.dropped + new.place
  place_is = omega (arith, keeps.dropped, ends)

  -- the line is read, or left
  module _ (mid : Context)
      (frame : mid ≡ record old.ctx { held = redrawn old.ctx.held [] White; passed = 0; cut = false })
      (width : length old.ctx.held.reference ≡ old.ctx.held.settings.columns) (line : is_at_line old.rows.stand ≡ true)
      (unkept : old.part ≡ None) (same_look : new.looked ≡ old.looked) (same_gap : new.gap ≡ old.gap)
      (same_tried : new.tried_at ≡ old.tried_at)
      (none_new : new.part ≡ None) (inside : old.place ≤ length old.kept)
      (answer : Result Bool DecodeError)
      (tries : TriesLine old.finished at old.rows new.rows mid new.ctx before after answer) where
    counted : old.ctx.ticks ≤ new.ctx.ticks
    counted = omega (arith, tries.tried.counts, ap (λ (x : Context). x.ticks) frame)

    left_held : IsUnread answer → new.ctx.held ≡ redrawn old.ctx.held [] White
    left_held left = tries.tried.left left ∙ ap (λ (x : Context). redrawn x.held [] White) frame

    same_line : (P : DecodeSettings → Bits → Bits → Type 0) → IsUnread answer
        → P mid.held.settings mid.held.reference (here before) → P new.ctx.held.settings new.ctx.held.reference
        (drop old.place old.kept)
    same_line P left known = grind (arith, common_steps)

    -- no bits follow
    no_more : CanCome old.finished []
    no_more = record { bytes = refl; none = λ e. refl }

    module _ {whole : Bits} {tried : ℕ} (feed : IsPlainFeedOf whole tried old) where
      same : mid.held ≡ old.ctx.held
      same = grind (arith, common_steps, begun_is, at_line_stands, stood)

      mid_is : mid ≡ record old.ctx { passed = 0; cut = false }
      mid_is = frame ∙ ap (λ (h : Held). record old.ctx { held = h; passed = 0; cut = false })
          (sym (ap (λ (x : Context). x.held) frame) ∙ same)

      begins_there : IsStandingAtLine tried old.rows mid (record { bits = whole; place = at })
      begins_there = grind (arith, common_steps, mid_is, stood)

      line_fed : (IsUnread answer → ⊥) → ReadsNext (fed_over whole old) (fed_over whole new) answer
      line_fed read =
          subst (λ (n : ℕ). ReadsNext (fed_over whole old) (seen new.rows new.ctx (record { bits = whole; place = n })) answer)
          place_is
          (subst (λ (x : Context). ReadsNext (seen old.rows x (record { bits = whole; place = at }))
          (seen new.rows new.ctx (record { bits = whole; place = old.dropped + after.place })) answer) mid_is
          (tries.reads tried whole old.dropped read (lies feed) starts begins_there))

      -- the line there paints a black pixel, whatever bits follow those kept
      line_paints : answer ≡ Err OutOfMemory → PaintsBlack (lines_of new.ctx.held.settings whole) new.ctx.held.taken
      line_paints e =
          let left : IsUnread answer = subst IsUnread (sym e) refl in
          let stays = (tries.tried.left left) ∙ ap (λ (h : Held). redrawn h [] White) same in
          let lie = lies feed in
          let within : before.place ≤ length before.bits = grind (arith, common_steps, tries.left left) in
          let there = ap (λ (n : ℕ). drop n whole) starts ∙ from_place lie before.place within in
          let black = subst (λ (h : Held). HasBlack (front_of (line_here h.settings h.reference (here before)))) same
          (tries.tried.memory e) in
          subst (λ (h : Held). PaintsBlack (lines_of h.settings whole) h.taken) (sym stays)
          (paints_at_line (at_line_stands old.rows.stand old.ctx.held.settings whole old.ctx.held at line (stood feed).0)
          (subst (λ (b : Bits). HasBlack (front_of (line_here old.ctx.held.settings old.ctx.held.reference b))) (sym there)
          (black_goes_on old.ctx.held.settings old.ctx.held.reference (here before) lie.more black)))

      line_stays_fed : (b : Bool) → is_unread answer ≡ b
          → IsPlainFeedOf whole (tried + cond b (new.ctx.ticks - old.ctx.ticks) 0) new
      line_stays_fed true left_so =
          let left = left_is answer left_so in
          let more = new.ctx.ticks - old.ctx.ticks in
          stays_fed feed more (subst (λ (b : BitsAt). IsStanding (tried + more) new.rows new.ctx
          (record { bits = whole; place = old.dropped + b.place })) (sym (tries.left left).1)
          (subst (λ (n : ℕ). IsStanding (tried + more) new.rows new.ctx (record { bits = whole; place = n })) starts
          (subst (λ (r : RowState). IsStanding (tried + more) r new.ctx (record { bits = whole; place = at })) (sym
          (tries.left left).0)
          (stands_later tried more old.rows old.ctx new.ctx (record { bits = whole; place = at })
          (left_held left ∙ sym (ap (λ (x : Context). x.held) frame) ∙ same) (omega (arith, counted)) (stood feed)))))
      line_stays_fed false read_so =
          let none : tried + 0 ≡ tried = omega arith in
          stays_fed feed 0 (subst (λ (n : ℕ). IsStanding n new.rows new.ctx
          (record { bits = whole; place = old.dropped + after.place })) (sym none)
          (tries.stands tried whole old.dropped (left_not answer read_so) (lies feed) starts begins_there))

      -- what the line yields, of the bits kept
      line_row : answer ≡ Ok true
          → (row_of_line old.ctx.held.settings old.ctx.held.has_eols (drop old.place old.kept) (line_of_feed old)
          ≡ Ok (new.ctx.held.reference, drop new.place new.kept)) × (old.place ≤ new.place)
          × (new.ctx.held.has_eols ≡ old.ctx.held.has_eols)
      line_row e =
          let row = (tries.tried.read e [] no_more).row.taken in
          let here_is : here before ≡ drop old.place old.kept = ap here before_is in
          let following : here after ≡ drop new.place new.kept =
          ap (drop after.place) (tries.same_bits ∙ ap (λ (b : BitsAt). b.bits) before_is ∙ sym keeps.kept)
          ∙ ap (λ (n : ℕ). drop n new.kept) (sym ends) in
          let is : row_of_line mid.held.settings mid.held.has_eols (here before)
          (line_here mid.held.settings mid.held.reference (here before)) ≡ Ok (new.ctx.held.reference, here after) =
          grind (arith, common_steps, append-nil) in
          let yields = subst (λ (h : Held). row_of_line h.settings h.has_eols (drop old.place old.kept)
          (line_here h.settings h.reference (drop old.place old.kept)) ≡ Ok (new.ctx.held.reference, drop new.place new.kept))
          same (subst (λ (b : Bits). row_of_line mid.held.settings mid.held.has_eols (drop old.place old.kept)
          (line_here mid.held.settings mid.held.reference (drop old.place old.kept)) ≡ Ok (new.ctx.held.reference, b)) following
          (subst (λ (b : Bits). row_of_line mid.held.settings mid.held.has_eols b
          (line_here mid.held.settings mid.held.reference b) ≡ Ok (new.ctx.held.reference, here after)) here_is is)) in
          let wide = (at_line_stands old.rows.stand old.ctx.held.settings whole old.ctx.held at line (stood feed).0).wide in (
            yields,
            omega (
              arith,
              row_shorter old.ctx.held.settings old.ctx.held.has_eols old.ctx.held.reference (drop old.place old.kept)
                  (drop new.place new.kept) new.ctx.held.reference wide yields,
              inside,
              length-drop old.place old.kept,
              length-drop new.place new.kept,
              ap length keeps.kept,
              tries.within,
              ap length tries.same_bits,
              ap (λ (b : BitsAt). length b.bits) before_is,
              ends,
            ),
            ap (λ (h : Held). h.has_eols) row.held ∙ ap (λ (h : Held). h.has_eols) same,
          )

    line_stored : answer ≡ Ok true → length (changes new.ctx.held.reference)
        + (old.ctx.ticks + cond (is_unread answer) (new.ctx.ticks - old.ctx.ticks) 0) ≤ new.ctx.ticks + 1
    line_stored e =
        let reads = tries.tried.read e [] no_more in
        omega (
          arith,
          reads.at_least,
          reads.stored,
          ap (λ (x : Context). x.ticks) frame,
          at_none (is_unread answer) (new.ctx.ticks - old.ctx.ticks) (ap is_unread e),
        )

    line_found : cond (is_unread answer) (new.ctx.ticks - old.ctx.ticks) 0 ≤ most_to_find old + 2
    line_found = grind (arith, common_steps, found_within, at_most)

    -- no line changes the settings
    line_settings : (said : Result Bool DecodeError) → TriesRow old.finished mid new.ctx said before after
        → new.ctx.held.settings ≡ old.ctx.held.settings
    line_settings (Ok true) tried =
        ap (λ (h : Held). h.settings) (tried.read refl [] no_more).row.taken.held ∙ ap (λ (x : Context). x.held.settings) frame
    line_settings (Ok false) tried = ap (λ (h : Held). h.settings) (tried.left refl) ∙ ap (λ (x : Context). x.held.settings) frame
    line_settings (Err error) tried = by_kind (λ (e : DecodeError). TriesRow old.finished mid new.ctx (Err e) before after
        → new.ctx.held.settings ≡ old.ctx.held.settings)
        (λ e fault tried. ap (λ (h : Held). h.settings) (tried.failed fault [] no_more).row.held
        ∙ ap (λ (x : Context). x.held.settings) frame)
        (λ tried. ap (λ (h : Held). h.settings) (tried.left refl) ∙ ap (λ (x : Context). x.held.settings) frame)
        (λ tried. absurd (tried.not_refused refl)) error tried

    pub feed_reads : ReadsInFeed old new answer
    feed_reads = record {
      extra = cond (is_unread answer) (new.ctx.ticks - old.ctx.ticks) 0;
      keeps = keeps;
      begun = still;
      left = λ left. grind (arith, common_steps, left_held, tries.left left);
      unsettled = λ e. grind (arith, common_steps, same_line, tries.tried.short e);
      memory = λ e. same_line (λ s r b. HasBlack (front_of (line_here s r b))) (subst IsUnread (sym e) refl)
          (tries.tried.memory e);
      paints = λ whole tried e feed. line_paints feed e;
      reads = λ whole tried read feed. line_fed feed read;
      stands = λ whole tried feed. line_stays_fed feed (is_unread answer) refl;
      most = grind (arith, common_steps, row_enough);
      counts = counted;
      counted = omega (arith, counted, at_most (is_unread answer) (new.ctx.ticks - old.ctx.ticks));
      stored = λ e. line_stored e;
      looked = same_look;
      gap = same_gap;
      done = λ e. none_new;
      tried = inl same_tried;
      after = tries.stand;
      within = grind (arith, common_steps);
      paid = omega (arith, none_paid new.part new.line_read none_new);
      row_is = λ whole tried e feed. line_row feed e;
      work = grind (arith, common_steps, at_most, found_within, at_none, unleft, none_paid, line_found);
      width = λ e. (tries.tried.read e [] no_more).width ∙ ap (λ (x : Context). x.held.settings.columns) frame;
      settings = line_settings answer tries.tried;
      taken = λ e.
          omega (
            arith,
            ap (λ (h : Held). h.taken) (tries.tried.read e [] no_more).row.taken.held,
            ap (λ (x : Context). x.held.taken) frame,
          );
    }

-- ---- What is before the first line

module _ (old new : Feeding) (mid : Context) (stand : Stand) (more : ℕ)
    (rows_are : new.rows ≡ record old.rows { stand = stand }) (same : mid.held ≡ old.ctx.held)
    (ticks : mid.ticks ≡ old.ctx.ticks + more) {whole : Bits} {tried at : ℕ} (next : ℕ)
    (first : StandsFirst stand mid new.ctx (record { bits = whole; place = 0 }) (record { bits = whole; place = next }))
    (taken : new.ctx.held.taken ≡ mid.held.taken)
    (settings_are : new.ctx.held.settings ≡ mid.held.settings) (counts : mid.ticks ≤ new.ctx.ticks)
    (unfailed : (error : DecodeError) → ended stand ≢ Some (Err error))
    (at_line : is_some (ended stand) ≡ false → is_at_line stand ≡ true)
    (front : IsAtFront tried old.rows old.ctx at) where
  front_ticks : mid.ticks ≡ tried + more
  front_ticks = omega (arith, ticks, front.ticks)

  all_bits : whole ++ [] ≡ whole
  all_bits = append-nil whole

  none_before : old.ctx.held.taken ≡ 0
  none_before = ap (λ (h : Held). h.taken) front.fresh

  none_taken : new.ctx.held.taken ≡ 0
  none_taken = taken ∙ ap (λ (h : Held). h.taken) same ∙ none_before

  front_standing : IsStanding (tried + more)
      (record { started_at = 0; damage = None; cut = false; missed = None; stand = stand })
      new.ctx (record { bits = whole; place = next })
  front_standing = grind (
    arith,
    common_steps,
    front_ticks,
    none_missed,
    all_bits,
    none_taken,
    first.stands [] (inl refl),
    first.damage [],
    first.paid [] (inl refl),
  )

  rows_now : new.rows ≡ record { started_at = 0; damage = None; cut = false; missed = None; stand = stand }
  rows_now = rows_are ∙ ap (λ (r : RowState). record r { stand = stand }) front.state

  pub front_stood : IsStanding (tried + more) new.rows new.ctx (record { bits = whole; place = next })
  front_stood = subst (λ (r : RowState). IsStanding (tried + more) r new.ctx (record { bits = whole; place = next }))
      (sym rows_now) front_standing

  same_settings : new.ctx.held.settings ≡ old.ctx.held.settings
  same_settings = settings_are ∙ ap (λ (h : Held). h.settings) same

  pub front_reaches : ReachesNextLine (seen old.rows old.ctx (record { bits = whole; place = at }))
      (seen new.rows new.ctx (record { bits = whole; place = next })) (line_first new.rows.stand)
  front_reaches = grind (arith, common_steps, rows_now, same_settings, front_stood, none_before, none_taken, same)

-- before the first line nothing has begun
pub at_front : (begun : Bool) (tried : ℕ) (rows : RowState) (ctx : Context) (at : BitsAt) → begun ≡ false
    → StandsIn begun tried rows ctx at → IsAtFront tried rows ctx at.place
at_front begun tried rows ctx at none stands = subst (λ (b : Bool). StandsIn b tried rows ctx at) none stands

-- ---- The steps of a call, one after the other

-- where a gap leads to no line, no row is read
pub none_after : {old new : RowsRead} (answer : Result Bool DecodeError) → answer ≢ Ok true → ReachesNextLine old new answer
    → ReadsNext old new answer
none_after (Ok true) other reached = absurd (other refl)
none_after (Ok false) other reached = grind (arith, common_steps)
none_after (Err error) other reached = grind (arith, common_steps)

-- a line was reached, and the call went on from there
pub feeds_on : {whole : Bits} {tried : ℕ} (more : ℕ) {old mid new : Feeding} {answer : Result Fed DecodeError}
    → LooksAhead (old.begun && is_at_line old.rows.stand) old.looked (drop old.place old.kept) more
    → old.part ≡ None → mid.part ≡ None → mid.begun ≡ true
    → ReachesNextLine (fed_over whole old) (fed_over whole mid) (Ok true) → ReachesLine old mid more
    → FeedsPlainly whole (tried + more) mid new answer → FeedsPlainly whole tried old new answer
feeds_on {whole} {tried} more {old} {mid} {new} {answer} looks unkept none begun reached reaches next = record {
  row = λ e. reads_on (fed_over whole old) (fed_over whole mid) (fed_over whole new) (Ok true) reached (next.row e);
  end = λ e. reads_on (fed_over whole old) (fed_over whole mid) (fed_over whole new) (Ok false) reached (next.end e);
  fault = IfErr-weaker answer _ _ (λ e known fault.
      reads_on (fed_over whole old) (fed_over whole mid) (fed_over whole new) (Err e) reached (known fault)) next.fault;
  none = λ left.
      let stays = next.none left in
      record {
        settings = stays.settings ∙ reached.settings;
        bits = refl;
        counts = omega (arith, stays.counts, reached.counts);
        taken = stays.taken ∙ reached.taken;
        row = stays.row ∙ reached.last.0;
        damage = stays.damage ∙ reached.last.1;
        cut = stays.cut ∙ reached.last.2;
        line_start = stays.line_start ∙ reached.last_start;
        unended = stays.unended;
        line = λ line. stays.line (reached.line refl);
      };
  unsettled = next.unsettled;
  memory = next.memory;
  paints = next.paints;
  extra = more + next.extra;
  line_extra = next.line_extra;
  extra_is = grind (
    arith,
    common_steps,
    and_from,
    next.looks.line (and_from mid.begun (is_at_line mid.rows.stand) begun (reached.line refl)),
    reached.line refl,
  );
  line_work = record {
    goes_on = λ e some. absurd (some unkept);
    begins = λ e kept. next.line_work.begins e none;
    read = λ other. omega (arith, next.line_work.at_once other none, none_paid old.part old.line_read unkept);
    at_once = λ other kept. next.line_work.at_once other none;
    some = λ e some. absurd (some unkept);
    unread = λ e kept still. elim (next.line_work.unread e none still) [
      | inl nothing ↦ inl nothing
      | inr first ↦ inr (record {
        untried = λ same. first.untried (reaches.tried ∙ same);
        tried = first.tried;
        at_line = first.at_line;
      })
    ];
    failed = λ e. omega (arith, next.line_work.failed_at_once e none, none_paid old.part old.line_read unkept);
    failed_at_once = λ e kept. next.line_work.failed_at_once e none;
  };
  stands = let same : (tried + more) + next.extra ≡ tried + (more + next.extra) = omega arith in
      subst (λ (n : ℕ). IsPlainFeedOf whole n new) same next.stands;
  gap = more;
  looks = looks;
  looked = λ e away.
      let stays = next.none (subst HasNone (sym e) refl) in absurd (false≢true (sym away ∙ stays.line (reached.line refl)));
  goes_on = record {
    counts = omega (arith, reaches.counts, next.goes_on.counts);
    stored = λ e. omega (arith, reaches.counts, next.goes_on.stored e);
    draws = λ e.
        let row = next.goes_on.draws e in
        record {
          start = row.start;
          onward = omega (arith, reaches.onward, row.onward);
          past_eol = λ unfinished was_begun no_line sought.
              let eol = reaches.past_eol unfinished was_begun no_line sought in
              record {
                fill = eol.fill;
                after = eol.after;
                place = eol.place;
                passed = omega (arith, eol.passed, row.onward);
              };
          most = row.most;
          drawn = row.drawn;
        };
    onward = λ unended. omega (arith, reaches.onward, next.goes_on.onward unended);
    near = λ was_begun unfinished unended.
        omega (arith, reaches.near was_begun unfinished, next.goes_on.onward unended);
    last = λ was_begun finished unended. omega (
      arith,
      reaches.last was_begun finished,
      next.goes_on.onward unended,
      next.goes_on.zeros unended (and_from mid.begun (is_at_line mid.rows.stand) begun (reached.line refl)),
    );
    zeros = λ unended at.
        next.goes_on.zeros unended (and_from mid.begun (is_at_line mid.rows.stand) begun (reached.line refl))
        ∙ reaches.zeros at;
    stays = λ left at. next.goes_on.stays left (and_from mid.begun (is_at_line mid.rows.stand) begun (reached.line refl))
        ∙ (reaches.at_line at).0;
    row_is = λ e at.
        let same = reaches.at_line at in
        let there : drop mid.place mid.kept ≡ drop old.place old.kept =
        ap (λ (n : ℕ). drop n mid.kept) same.0 ∙ ap (drop old.place) same.2 in
        subst (λ (b : Bits). row_of_line old.ctx.held.settings old.ctx.held.has_eols b
        (line_here old.ctx.held.settings old.ctx.held.reference b) ≡ Ok (new.ctx.held.reference, drop new.place new.kept))
        there (subst (λ (h : Held). row_of_line h.settings h.has_eols (drop mid.place mid.kept)
        (line_here h.settings h.reference (drop mid.place mid.kept)) ≡ Ok (new.ctx.held.reference, drop new.place new.kept))
        same.1 (next.goes_on.row_is e (and_from mid.begun (is_at_line mid.rows.stand) begun (reached.line refl))));
    tried = λ left at.
        elim (next.goes_on.tried left (and_from mid.begun (is_at_line mid.rows.stand) begun (reached.line refl))) [
          | inl same ↦ inl (same ∙ reaches.tried)
          | inr here ↦ inr here
        ];
    past_eol = λ unfinished was_begun no_line sought unended waits.
        let eol = reaches.past_eol unfinished was_begun no_line sought in
        record {
          fill = eol.fill;
          after = eol.after;
          place = eol.place;
          passed = omega (arith, eol.passed, next.goes_on.onward unended);
        };
    after = next.goes_on.after;
    sought = λ e at. next.goes_on.sought e (and_from mid.begun (is_at_line mid.rows.stand) begun (reached.line refl))
        ∙ ap (λ (h : Held). h.has_eols) (reaches.at_line at).1;
    waits = λ e away.
        let stays = next.none (subst HasNone (sym e) refl) in
        absurd (false≢true (sym away ∙ stays.line (reached.line refl)));
    within = next.goes_on.within;
    paid = next.goes_on.paid;
    unkept = next.goes_on.unkept;
    unbegun = λ e. absurd (false≢true (sym (next.goes_on.unbegun e).0 ∙ begun));
    space = omega (
      arith,
      next.goes_on.space,
      reaches.space,
      ap (λ (s : DecodeSettings). s.columns) reaches.settings,
    );
  };
}

-- at a line, and after a row, nothing has ended
pub at_line_unended : (stand : Stand) → is_at_line stand ≡ true → ended stand ≡ None
at_line_unended AtLine is = refl
at_line_unended AfterRow is = refl
at_line_unended AtEnd is = absurd (false≢true is)
at_line_unended (AtFault error) is = absurd (false≢true is)

open_line : (begun : Bool) (stand : Stand) (ctx : Context) (next : Bits) → begun ≡ true → is_at_line stand ≡ true
    → is_short (line_here ctx.held.settings ctx.held.reference next) ≡ true → IsOpenAt begun stand ctx next
open_line false stand ctx next begun line short = absurd (false≢true begun)
open_line true AtLine ctx next begun line short = short
open_line true AfterRow ctx next begun line short = absurd (false≢true line)
open_line true AtEnd ctx next begun line short = absurd (false≢true line)
open_line true (AtFault error) ctx next begun line short = absurd (false≢true line)

open_gap : (begun : Bool) (stand : Stand) (ctx : Context) (next : Bits) → begun ≡ true → is_at_line stand ≡ false
    → ended stand ≡ None
    → gap_is_settled ctx.held.settings ctx.held.taken ctx.held.has_eols next ≡ false → IsOpenAt begun stand ctx next
open_gap false stand ctx next begun line unended gap = absurd (false≢true begun)
open_gap true AtLine ctx next begun line unended gap = absurd (false≢true (sym line))
open_gap true AfterRow ctx next begun line unended gap = gap
open_gap true AtEnd ctx next begun line unended gap = absurd cc
open_gap true (AtFault error) ctx next begun line unended gap = absurd cc

-- a line that is left changes nothing
line_left : {whole : Bits} {old new : Feeding} (answer : Result Bool DecodeError) → ReadsInFeed old new answer → IsUnread answer
    → is_at_line old.rows.stand ≡ true → StaysThere (fed_over whole old) (fed_over whole new)
line_left {whole} {old} {new} answer reads left line = grind (arith, common_steps, at_line_unended)

next_is : {old new : Feeding} → KeepsBits old new → new.place ≡ old.place → drop old.place old.kept ≡ drop new.place new.kept
next_is {old} {new} keeps place = ap (λ (n : ℕ). drop n old.kept) (sym place) ∙ ap (drop new.place) (sym keeps.kept)

-- at a line no gap is looked at
pub none_looked : (line : Bool) (looked : ℕ) (gap : Bits) → LooksAhead line looked gap 0
none_looked line looked gap = grind (arith, common_steps)

-- once begun
looks_begun : (begun : Bool) {line : Bool} {looked counted : ℕ} {gap : Bits} → begun ≡ true
    → LooksAhead line looked gap counted → LooksAhead (begun && line) looked gap counted
looks_begun true is looks = looks
looks_begun false is looks = absurd (false≢true is)

-- what is counted for the line
line_paid : {old new : Feeding} (answer : Result Bool DecodeError) → (reads : ReadsInFeed old new answer)
    → (answer ≡ Ok false → old.part ≡ None → new.part ≡ None → (new.ctx.ticks ≡ old.ctx.ticks)
    ⊎ ((old.tried_at ≢ new.dropped + new.place) × (new.tried_at ≡ new.dropped + new.place)))
    → is_at_line old.rows.stand ≡ true → LineWork old new (fed_row answer) reads.extra
line_paid {old} {new} (Ok true) reads unread line = grind (arith, common_steps)
line_paid {old} {new} (Ok false) reads unread line = grind (arith, common_steps)
line_paid {old} {new} (Err error) reads unread line = grind (arith, common_steps, next_is)

left_as_none : (answer : Result Bool DecodeError) → HasNone (fed_row answer) → IsUnread answer
left_as_none (Ok true) left = cc
left_as_none (Ok false) left = refl
left_as_none (Err error) left = left

-- a reading that failed has ended
fault_ends : {old new : RowsRead} {error : DecodeError} → ReadsNext old new (Err error) → new.end ≡ None → ⊥
fault_ends reads unended = let never = sym reads.error.0 ∙ unended in cc

line_onward : {whole : Bits} {tried : ℕ} {old new : Feeding} (answer : Result Bool DecodeError) → ReadsInFeed old new answer
    → IsPlainFeedOf whole tried old → ended new.rows.stand ≡ None → old.place ≤ new.place
line_onward {whole} {tried} {old} {new} (Ok true) reads feed unended = (reads.row_is whole tried refl feed).1
line_onward {whole} {tried} {old} {new} (Ok false) reads feed unended = omega (arith, (reads.left refl).1)
line_onward {whole} {tried} {old} {new} (Err error) reads feed unended = by_left (is_unread (Err error)) refl
  where
    by_left : (b : Bool) → is_unread (Err error) ≡ b → old.place ≤ new.place
    by_left true e = omega (arith, (reads.left (left_is (Err error) e)).1)
    by_left false e = absurd (fault_ends (reads.reads whole tried (left_not (Err error) e) feed) unended)

-- the row of a line has no more changes than the line's bits pay
line_draws : {whole : Bits} {tried : ℕ} {old new : Feeding} (answer : Result Bool DecodeError) → ReadsInFeed old new answer
    → old.begun ≡ true → is_at_line old.rows.stand ≡ true → IsPlainFeedOf whole tried old → answer ≡ Ok true → DrawsRow old new
line_draws {whole} {tried} {old} {new} answer reads begun line feed e =
    let held = old.ctx.held in
    let row = reads.row_is whole tried e feed in
    let from = row_drawn held.settings held.has_eols held.reference (drop old.place old.kept) (drop new.place new.kept)
    new.ctx.held.reference wide row.0 in
    record {
      start = old.dropped + old.place;
      onward = omega arith;
      past_eol = λ unfinished begun no_line sought. absurd (false≢true (sym no_line ∙ line));
      most = grind (arith, common_steps, same);
      drawn = grind (arith, common_steps, same);
    }
  where
    wide : 0 < old.ctx.held.settings.columns
    wide = grind (arith, common_steps, at_line_stands)

    same : length new.kept ≡ length old.kept
    same = ap length reads.keeps.kept

    before : length (drop old.place old.kept) ≡ length old.kept - old.place
    before = length-drop old.place old.kept

    following : length (drop new.place new.kept) ≡ length new.kept - new.place
    following = length-drop new.place new.kept

line_goes_on : {whole : Bits} {tried : ℕ} {old new : Feeding} (answer : Result Bool DecodeError)
    → (reads : ReadsInFeed old new answer) → old.begun ≡ true → is_at_line old.rows.stand ≡ true → IsPlainFeedOf whole tried old
    → CallGoesOn old new (fed_row answer) 0 reads.extra
line_goes_on {whole} {tried} {old} {new} answer reads begun line feed = record {
  counts = reads.counted;
  stored = λ e. reads.stored (line_was_read answer e);
  draws = λ e. line_draws answer reads begun line feed (line_was_read answer e);
  onward = λ unended. omega (arith, line_onward answer reads feed unended, reads.keeps.dropped);
  near = λ was_begun unfinished unended.
      omega (arith, line_onward answer reads feed unended, reads.keeps.dropped, reads.looked);
  last = λ was_begun finished unended.
      omega (arith, line_onward answer reads feed unended, reads.keeps.dropped, same_zeros);
  zeros = λ unended at. same_zeros;
  stays = λ left at. (reads.left (left_as_none answer left)).1;
  row_is = λ e at. (reads.row_is whole tried (line_was_read answer e) feed).0;
  tried = λ left at. reads.tried;
  past_eol = λ unfinished was_begun no_line sought unended waits. absurd (false≢true (sym no_line ∙ line));
  after = λ e. ap is_at_line (reads.after (line_was_read answer e));
  sought = λ e at. (reads.row_is whole tried (line_was_read answer e) feed).2;
  waits = λ e away. absurd (false≢true (sym away ∙ still_at_line answer reads e));
  within = reads.within;
  paid = reads.paid;
  unkept = λ away. line_unkept answer reads away;
  unbegun = λ none. absurd (false≢true (sym none ∙ reads.begun));
  space = reads.most;
}
  where
    same_zeros : zeros_left new ≡ zeros_left old
    same_zeros = ap (λ (g : GapSoFar). cond g.at_zeros g.passed 0) reads.gap

    still_at_line : (answer : Result Bool DecodeError) → ReadsInFeed old new answer → fed_row answer ≡ Ok Fed.NeedsMore
        → is_at_line new.rows.stand ≡ true
    still_at_line (Ok true) reads e = cc
    still_at_line (Ok false) reads e = ap (λ (r : RowState). is_at_line r.stand) (reads.left refl).0 ∙ line
    still_at_line (Err error) reads e = cc

    line_unkept : (answer : Result Bool DecodeError) → ReadsInFeed old new answer
        → (fed_row answer ≡ Ok Fed.NeedsMore → is_at_line new.rows.stand ≡ false) → new.part ≡ None
    line_unkept (Ok true) reads away = reads.done (λ e. cc)
    line_unkept (Ok false) reads away = grind (arith, common_steps, false≢true)
    line_unkept (Err error) reads away = reads.done (λ e. cc)

-- what the answers are of a line, and of its call
no_end : (answer : Result Bool DecodeError) → fed_row answer ≢ Ok Fed.End
no_end answer e = grind (arith, common_steps)

line_failed : (answer : Result Bool DecodeError) → fed_row answer ≡ Err OutOfMemory → answer ≡ Err OutOfMemory
line_failed answer e = grind (arith, common_steps)

row_of_line_read : {old new : RowsRead} (answer : Result Bool DecodeError) → answer ≡ Ok true
    → ((IsUnread answer → ⊥) → ReadsNext old new answer) → ReadsNext old new (Ok true)
row_of_line_read {old} {new} answer is reads = subst (ReadsNext old new) is (reads (λ left. grind (arith, common_steps)))

line_fault : {old new : RowsRead} (answer : Result Bool DecodeError) → ((IsUnread answer → ⊥) → ReadsNext old new answer)
    → IfErr (fed_row answer) (λ e. e ≢ OutOfMemory → ReadsNext old new (Err e))
line_fault (Ok true) reads = tt
line_fault (Ok false) reads = tt
line_fault (Err error) reads = reads

-- the line is read, or left
pub line_feeds : {whole : Bits} {tried : ℕ} {old new : Feeding} (answer : Result Bool DecodeError) → ReadsInFeed old new answer
    → (answer ≡ Ok false → old.part ≡ None → new.part ≡ None → (new.ctx.ticks ≡ old.ctx.ticks)
    ⊎ ((old.tried_at ≢ new.dropped + new.place) × (new.tried_at ≡ new.dropped + new.place))) → old.begun ≡ true
    → is_at_line old.rows.stand ≡ true → IsPlainFeedOf whole tried old → FeedsPlainly whole tried old new
    (fed_row answer)
line_feeds {whole} {tried} {old} {new} answer reads unread begun line feed = record {
  row = λ e. row_of_line_read answer (line_was_read answer e) (λ whole_line. reads.reads whole tried whole_line feed);
  end = λ e. absurd (no_end answer e);
  fault = line_fault answer (λ other. reads.reads whole tried other feed);
  none = λ left. line_left answer reads (left_as_none answer left) line;
  unsettled = λ e. grind (arith, common_steps, open_line, next_is);
  memory = λ e.
      subst (λ (b : Bits). HasBlack (front_of (line_here new.ctx.held.settings new.ctx.held.reference b)))
      (next_is reads.keeps (reads.left (left_as_none answer (subst HasNone (sym e) refl))).1)
      (reads.memory (line_failed answer e));
  paints = λ e. reads.paints whole tried (line_failed answer e) feed;
  extra = reads.extra;
  line_extra = reads.extra;
  extra_is = omega arith;
  line_work = line_paid answer reads unread line;
  goes_on = line_goes_on answer reads begun line feed;
  stands = reads.stands whole tried feed;
  gap = 0;
  looks = none_looked (old.begun && is_at_line old.rows.stand) old.looked (drop old.place old.kept);
  looked = λ e away. grind (arith, common_steps, false≢true);
}

-- without a line nothing is counted for it
pub no_line_paid : {old new : Feeding} {answer : Result Fed DecodeError} → old.part ≡ None → LineWork old new answer 0
no_line_paid {old} {new} {answer} unkept = grind (arith, common_steps, none_paid)

-- where the reading ends in a gap
gap_ended : {old new : Feeding} {answer : Result Fed DecodeError} {extra : ℕ} → old.ctx.ticks + extra ≤ new.ctx.ticks
    → new.ctx.space ≡ old.ctx.space → old.part ≡ None → (ended new.rows.stand ≡ None → ⊥) → (HasNone answer → ⊥)
    → answer ≢ Ok Fed.Row → new.part ≡ None → new.begun ≡ true → new.place ≤ length new.kept
    → CallGoesOn old new answer extra extra
gap_ended {new = new} {answer = answer} counts space unkept over some other none begun within =
    grind (arith, common_steps, none_paid, false≢true)

-- no row is read where no line is reached
pub none_row : (line : Result (Option Bool) DecodeError) → fed_without_row line ≢ Ok Fed.Row
none_row (Ok None) e = cc
none_row (Ok (Some line)) e = cc
none_row (Err error) e = cc

gap_end : {old new : RowsRead} (answer : Result (Option Bool) DecodeError) → answer ≢ Ok (Some true)
    → fed_without_row answer ≡ Ok Fed.End → ReachesNextLine old new (came answer) → ReadsNext old new (Ok false)
gap_end (Ok None) other e reached = absurd cc
gap_end (Ok (Some true)) other e reached = absurd (other refl)
gap_end (Ok (Some false)) other e reached = none_after (Ok false) (λ is. cc) reached
gap_end (Err error) other e reached = absurd cc

-- the reading ends before a line
over_feeds : {whole : Bits} {tried : ℕ} {old new : Feeding} (answer : Result (Option Bool) DecodeError) (more : ℕ)
    → answer ≢ Ok None → answer ≢ Ok (Some true) → answer ≢ Err OutOfMemory
    → ReachesNextLine (fed_over whole old) (fed_over whole new) (came answer) → IsPlainFeedOf whole (tried + more) new
    → LooksAhead (old.begun && is_at_line old.rows.stand) old.looked (drop old.place old.kept) more
    → old.part ≡ None → CallGoesOn old new (fed_without_row answer) more more
    → FeedsPlainly whole tried old new (fed_without_row answer)
over_feeds {whole} {tried} {old} {new} answer more waits line memory reached stands looks unkept goes_on = record {
  row = λ e. absurd (none_row answer e);
  end = λ e. gap_end answer line e reached;
  fault = grind (arith, common_steps, none_after);
  none = λ left. grind (arith, common_steps);
  unsettled = λ e. grind (arith, common_steps);
  memory = λ e. grind (arith, common_steps);
  paints = λ e. grind (arith, common_steps);
  extra = more;
  line_extra = 0;
  extra_is = omega arith;
  line_work = no_line_paid unkept;
  goes_on = goes_on;
  stands = stands;
  gap = more;
  looks = looks;
  looked = λ e. grind (arith, common_steps);
}

-- no line is reached: more data is needed, or it is the end
pub gap_feeds : {whole : Bits} {tried : ℕ} {old new : Feeding} (answer : Result (Option Bool) DecodeError)
    → ComesInFeed whole tried old new answer
    → answer ≢ Ok (Some true) → old.begun ≡ true → ended old.rows.stand ≡ None → old.part ≡ None → new.part ≡ None
    → FeedsPlainly whole tried old new (fed_without_row answer)
gap_feeds {whole} {tried} {old} {new} (Ok None) comes other begun unended unkept none =
    let w = comes.waits refl in
    record {
      row = λ e. cc;
      end = λ e. cc;
      fault = tt;
      none = λ left. grind (arith, common_steps);
      unsettled = λ e. grind (arith, common_steps, open_gap, next_is);
      memory = λ e. cc;
      paints = λ e. cc;
      extra = comes.extra;
      line_extra = 0;
      extra_is = omega arith;
      line_work = no_line_paid unkept;
      goes_on = grind (arith, common_steps, false≢true, and_parts, at, none_paid, comes.looked refl);
      stands = comes.stands;
      gap = comes.extra;
      looks = looks_begun old.begun begun comes.looks;
      looked = λ e away. comes.looked refl;
    }
gap_feeds {whole} {tried} {old} {new} (Ok (Some true)) comes other begun unended unkept none = absurd (other refl)
gap_feeds {whole} {tried} {old} {new} (Ok (Some false)) comes other begun unended unkept none =
    over_feeds (Ok (Some false)) comes.extra (λ e. cc) (λ e. cc) (λ e. cc) (comes.comes (λ is. cc)) comes.stands
    (looks_begun old.begun begun comes.looks) unkept (grind (arith, common_steps, gap_ended))
gap_feeds {whole} {tried} {old} {new} (Err error) comes other begun unended unkept none =
    over_feeds (Err error) comes.extra (λ e. cc) (λ e. cc)
    (λ e. let never : InvalidCode ≡ OutOfMemory = sym comes.only_code ∙ cc in cc) (comes.comes (λ is. cc)) comes.stands
    (looks_begun old.begun begun comes.looks) unkept (grind (arith, common_steps, gap_ended))

-- there is room for the row of a line
pub row_fits : {whole : Bits} {tried : ℕ} {feed : Feeding} → feed.begun ≡ true → is_at_line feed.rows.stand ≡ true
    → IsPlainFeedOf whole tried feed → (feed.ctx.held.taken + 1 < 2 ^ 64) × (feed.ctx.held.repairs.rows ≤ feed.ctx.held.taken)
row_fits {whole} {tried} {feed} begun line is = grind (arith, common_steps, few, at_line_stands)

pub first_line_is : (stand : Stand) {old new : RowsRead} → is_some (ended stand) ≡ false → ReachesNextLine old new
    (line_first stand)
    → ReachesNextLine old new (Ok true)
first_line_is AtLine is reached = reached
first_line_is AfterRow is reached = reached
first_line_is AtEnd is reached = absurd cc
first_line_is (AtFault error) is reached = absurd cc

-- a line was reached, and is read
pub reached_here : {whole : Bits} {tried : ℕ} {old mid new : Feeding} {answer : Result Fed DecodeError}
    (line : Result (Option Bool) DecodeError) → (comes : ComesInFeed whole tried old mid line) → line ≡ Ok (Some true)
    → old.part ≡ None → mid.part ≡ None → FeedsPlainly whole (tried + comes.extra) mid new answer → old.begun ≡ true
    → FeedsPlainly whole tried old new answer
reached_here {whole} {tried} {old} {mid} {new} line comes is unkept none reads begun =
    let some : line ≢ Ok None = λ none. let never = sym is ∙ none in absurd cc in
    let reached = subst (λ (r : Result (Option Bool) DecodeError). ReachesNextLine (fed_over whole old) (fed_over whole mid)
    (came r)) is (comes.comes some) in
    feeds_on comes.extra (looks_begun old.begun begun comes.looks) unkept none comes.begun reached (comes.reaches is) reads

-- nothing has begun
pub unbegun_looks : (begun line : Bool) {looked counted : ℕ} {gap : Bits} → begun ≡ false
    → LooksAhead false looked gap counted → LooksAhead (begun && line) looked gap counted
unbegun_looks false line is looks = looks
unbegun_looks true line is looks = absurd (false≢true (sym is))

open_front : (begun : Bool) (stand : Stand) (ctx : Context) (next : Bits) → begun ≡ false
    → front_is_settled ctx.held.settings next ≡ false → IsOpenAt begun stand ctx next
open_front false stand ctx next unbegun waits = waits
open_front true stand ctx next unbegun waits = absurd (false≢true (sym unbegun))

not_begun : (begun line : Bool) → begun ≡ false → (begun && line) ≡ true → ⊥
not_begun false line is e = false≢true e
not_begun true line is e = false≢true (sym is)

-- what is before the first line waits for more data
pub front_waits_feeds : {whole : Bits} {tried : ℕ} {old new : Feeding} → Begins whole tried old new false → old.begun ≡ false
    → old.part ≡ None → new.part ≡ None → IsPlainFeedOf whole tried old
    → FeedsPlainly whole tried old new (Ok Fed.NeedsMore)
front_waits_feeds {whole} {tried} {old} {new} begins unbegun unkept none feed =
    let w = begins.waits refl in
    let front = at_front old.begun tried old.rows old.ctx
    (record { bits = whole; place = old.dropped + old.place }) unbegun feed.stands in
    let none_passed : new.place ≡ 0 = omega (arith, w.3, front.start) in
    let there : old.kept ≡ drop new.place new.kept =
    ap (λ (n : ℕ). drop n old.kept) (sym none_passed)
    ∙ ap (drop new.place) (sym begins.keeps.kept) in
    record {
      row = λ e. cc;
      end = λ e. cc;
      fault = tt;
      none = λ left. grind (arith, common_steps);
      unsettled = λ e. grind (arith, common_steps, open_front);
      memory = λ e. cc;
      paints = λ e. cc;
      extra = begins.extra;
      line_extra = 0;
      extra_is = omega arith;
      line_work = no_line_paid unkept;
      stands = begins.stands;
      gap = begins.extra;
      looks = unbegun_looks old.begun (is_at_line old.rows.stand) unbegun begins.looks;
      looked = λ e away. begins.looked refl;
      goes_on = grind (arith, common_steps, false≢true, not_begun, at, none_paid);
    }

first_line_ends : (stand : Stand) → is_some (ended stand) ≡ true → ((error : DecodeError) → ended stand ≢ Some (Err error))
    → line_first stand ≡ Ok false
first_line_ends AtLine is unfailed = absurd cc
first_line_ends AfterRow is unfailed = absurd cc
first_line_ends AtEnd is unfailed = refl
first_line_ends (AtFault error) is unfailed = absurd (unfailed error refl)

-- the reading ends there
pub front_ends_feeds : {whole : Bits} {tried : ℕ} {old new : Feeding} → Begins whole tried old new true → old.begun ≡ false
    → old.part ≡ None → new.part ≡ None → is_some (ended new.rows.stand) ≡ true
    → FeedsPlainly whole tried old new (Ok Fed.End)
front_ends_feeds {whole} {tried} {old} {new} begins unbegun unkept none over =
    let reached = subst (ReachesNextLine (fed_over whole old) (fed_over whole new))
    (first_line_ends new.rows.stand over (begins.unfailed refl)) (begins.passes refl) in
    over_feeds (Ok (Some false)) begins.extra (λ e. cc) (λ e. cc) (λ e. cc) reached begins.stands
    (unbegun_looks old.begun (is_at_line old.rows.stand) unbegun begins.looks) unkept
    (grind (arith, common_steps, gap_ended, begins.reaches refl, reached.end refl))

pub unended_stand : (stand : Stand) → is_some (ended stand) ≡ false → ended stand ≡ None
unended_stand AtLine is = refl
unended_stand AfterRow is = refl
unended_stand AtEnd is = absurd cc
unended_stand (AtFault error) is = absurd cc
