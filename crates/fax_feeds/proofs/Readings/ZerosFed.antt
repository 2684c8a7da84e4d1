-- What is read of the zeros with which the data ends, of which a feed keeps the number alone.
use Rattle.fax_feeds.proofs.Names.{◌≡◌, ◌∙◌, ◌+◌, ◌≤◌, ◌<◌, ◌++◌, [], ap, sym, subst, refl, arith}
use Rattle.fax_feeds.proofs.Names.{length, drop}
use Rattle.fax_feeds.proofs.Names.{take, true, false, ℕ, Bool, Ok, None, Result, Bits, Context}
use Rattle.fax_feeds.proofs.Names.{Held, White}
use Rattle.fax_feeds.proofs.Names.{DecodeError, DecodeSettings, Group3_2D, InvalidCode, IfErr, IsStanding, ReachesNextLine}
use Rattle.fax_feeds.proofs.Names.{and_parts}
use Rattle.fax_feeds.proofs.Names.{append-nil, false≢true, is_at_line, length-drop, redrawn, seen}
use Rattle.fax_rows.specs.GapsCounted.{left_before}
use Rattle.fax_rows.specs.ZerosLast.{EndsInZeros, PassesZeros, zeros_at}
use Rattle.fax_rows.proofs.Readings.RowByRow.{at_line_stands}
use Rattle.fax_rows.proofs.Readings.ZerosLast.{zeros_again}
use Rattle.fax_feeds.specs.RowFeeds.{ComesInFeed, Feeding, FeedsPlainly, IsFeedOf, IsPlainFeedOf, KnowsGap, LieIn}
use Rattle.fax_feeds.specs.RowFeeds.{ReadsInFeed, StandsIn, TriesLine, came, completed, fed_bits, fed_over, fed_row, offset_of}
use Rattle.fax_feeds.specs.RowFeeds.{of_settled_gap}
use Rattle.fax_feeds.specs.GapsSeen.{nothing_seen}
use Rattle.fax_feeds.specs.declared.gap_look.GapLook.{GapLook}
use Rattle.fax_feeds.proofs.Readings.FeedsCompleted.{at_within, full_is_plain, full_long, known_bits, known_long, rest_to_come}
use Rattle.fax_feeds.proofs.Names.{length-append}
use Rattle.std.proofs.lemmas.List.{take-append-drop}
use Rattle.fax_feeds.proofs.Readings.FeedsFramed.{moved}
use Rattle.fax_feeds.proofs.Readings.FeedsOn.{feed_reads, line_feeds}
use Rattle.fax_feeds.proofs.Readings.RowsFed.{after_none, came_said, code_said, line_said, passed_some}

-- A feed that has come to the zeros with which the data ends.
pub record IsAtZeros (whole : Bits) (tried : ℕ) (feed : Feeding) : Type 0 where
  pub fed : IsFeedOf whole tried feed
  pub within : feed.place ≤ length feed.kept
  pub begun : feed.begun ≡ true
  pub none : feed.part ≡ None
  pub zeros : feed.gap.at_zeros ≡ true
  pub unlooked : feed.gap.look ≡ nothing_seen

module _ {whole : Bits} {tried : ℕ} {feed : Feeding} (at : IsAtZeros whole tried feed) where
  abbrev left : Bits
  left = left_before feed.gap.count []

  zeros_are : (feed.finished ≡ true) × (drop (offset_of feed) whole ≡ left)
      × (feed.gap.count.tag ≡ true → feed.ctx.held.settings.encoding ≡ Group3_2D)
  zeros_are = at.fed.known.zeros at.zeros

  pub zeros_stood : IsStanding tried feed.rows feed.ctx (record { bits = whole; place = offset_of feed })
  zeros_stood = subst (λ (b : Bool). StandsIn b tried feed.rows feed.ctx (record { bits = whole; place = offset_of feed }))
      at.begun at.fed.stands

  pub start_within : offset_of feed ≤ length whole
  start_within = omega (arith, at_within at.fed at.within)

  -- all bits were fed
  none_follow : at.fed.lie.more ≡ []
  none_follow = at.fed.lie.can_come.none zeros_are.0

  pub all_fed : fed_bits feed ≡ offset_of feed + length left
  all_fed = omega (
    arith,
    known_long at.fed at.within,
    ap length (sym (known_bits at.fed at.within) ∙ zeros_are.1),
    length-append (at.fed.known.gone ++ drop feed.place feed.kept) at.fed.lie.more,
    ap length none_follow,
  )

  pub full_here : drop (offset_of feed) (take (fed_bits feed) whole) ≡ left
  full_here =
      let all : take (fed_bits feed) whole ≡ whole =
      sym (append-nil (take (fed_bits feed) whole))
      ∙ ap (λ (b : Bits). take (fed_bits feed) whole ++ b) (sym (rest_to_come at.fed ∙ none_follow))
      ∙ take-append-drop (fed_bits feed) whole in
      ap (drop (offset_of feed)) all ∙ zeros_are.1

  -- ---- The line

  -- the feed of the zeros alone
  abbrev pub zeros_alone : Feeding
  zeros_alone = record feed { kept = left; dropped = offset_of feed; place = 0 }

  pub alone_plain : IsPlainFeedOf whole tried zeros_alone
  alone_plain = record {
    fit = at.fed.fit;
    lie = record {
      within = start_within;
      more = [];
      bits = zeros_are.1 ∙ sym (append-nil left);
      can_come = record { bytes = refl; none = λ last. refl };
    };
    stands = subst (λ (n : ℕ). StandsIn feed.begun tried feed.rows feed.ctx (record { bits = whole; place = n }))
        (omega arith) at.fed.stands;
  }

  module _ {new : Feeding} {begin : Context} {answer : Result Bool DecodeError} (line : is_at_line feed.rows.stand ≡ true)
      (frame : begin ≡ record feed.ctx { held = redrawn feed.ctx.held [] White; passed = 0; cut = false })
      (width : length feed.ctx.held.reference ≡ feed.ctx.held.settings.columns)
      (new_is : new ≡ record feed { ctx = new.ctx; rows = new.rows })
      (tries : 0 < begin.held.settings.columns → (feed.gap.count.tag ≡ true → begin.held.settings.encoding ≡ Group3_2D)
      → TriesLine true (offset_of feed) feed.rows new.rows begin new.ctx (zeros_at feed.gap.count.tag feed.gap.count.zeros)
      (zeros_at feed.gap.count.tag feed.gap.count.zeros) answer) where
    abbrev after : Feeding
    after = record feed { ctx = new.ctx; rows = new.rows }

    abbrev alone_after : Feeding
    alone_after = record zeros_alone { ctx = new.ctx; rows = new.rows }

    tried_line : TriesLine zeros_alone.finished (zeros_alone.dropped + zeros_alone.place) feed.rows new.rows begin new.ctx
        (zeros_at feed.gap.count.tag feed.gap.count.zeros) (zeros_at feed.gap.count.tag feed.gap.count.zeros) answer
    tried_line =
        let held = feed.ctx.held in
        let wide = (at_line_stands feed.rows.stand held.settings whole held (offset_of feed) line zeros_stood.0).wide in
        let settings_are : begin.held.settings ≡ feed.ctx.held.settings = ap (λ (c : Context). c.held.settings) frame in
        let all = tries (subst (λ (s : DecodeSettings). 0 < s.columns) (sym settings_are) wide)
        (λ tag. ap (λ (s : DecodeSettings). s.encoding) settings_are ∙ zeros_are.2 tag) in
        subst (λ (n : ℕ). TriesLine zeros_alone.finished n feed.rows new.rows begin new.ctx
        (zeros_at feed.gap.count.tag feed.gap.count.zeros) (zeros_at feed.gap.count.tag feed.gap.count.zeros) answer)
        (omega arith)
        (subst (λ (b : Bool). TriesLine b (offset_of feed) feed.rows new.rows begin new.ctx
        (zeros_at feed.gap.count.tag feed.gap.count.zeros) (zeros_at feed.gap.count.tag feed.gap.count.zeros) answer)
        (sym zeros_are.0) all)

    reads_alone : ReadsInFeed zeros_alone alone_after answer
    reads_alone = feed_reads zeros_alone alone_after (zeros_at feed.gap.count.tag feed.gap.count.zeros)
        (zeros_at feed.gap.count.tag feed.gap.count.zeros) refl
        (record { order = refl; finished = refl; kept = refl; dropped = refl; room = refl }) refl at.begun at.begun begin frame
        width line at.none refl refl refl at.none (omega arith) answer tried_line

    -- no line of zeros is short
    never_short : answer ≡ Ok false → ⊥
    never_short e = false≢true (sym (reads_alone.unsettled e).0 ∙ zeros_are.0)

    alone_feeds : FeedsPlainly whole tried zeros_alone alone_after (fed_row answer)
    alone_feeds = line_feeds answer reads_alone (λ e kept still. absurd (never_short e)) at.begun line alone_plain

    stood_after : IsPlainFeedOf whole (tried + alone_feeds.extra) (completed whole after)
    stood_after =
        let full = full_is_plain at.fed in
        record {
          fit = full.fit;
          lie = full.lie;
          stands = subst (λ (n : ℕ). StandsIn feed.begun (tried + alone_feeds.extra) new.rows new.ctx
              (record { bits = whole; place = n })) (omega arith) alone_feeds.stands.stands;
        }

    pub zeros_line : FeedsPlainly whole tried (completed whole feed) (completed whole new) (fed_row answer)
    zeros_line = subst (λ (f : Feeding). FeedsPlainly whole tried (completed whole feed) (completed whole f) (fed_row answer))
        (sym new_is)
        (moved alone_feeds (take (fed_bits feed) whole) (take (fed_bits feed) whole) (offset_of feed) (offset_of feed)
        (omega arith) (omega arith) full_here full_here (omega (arith, full_long at.fed, all_fed)) (omega arith) refl
        stood_after)

    -- the zeros are next as before
    pub zeros_stay_known : KnowsGap whole new
    zeros_stay_known = subst (KnowsGap whole) (sym new_is) (record {
      gone = at.fed.known.gone;
      are = at.fed.known.are;
      place = at.fed.known.place;
      long = at.fed.known.long;
      counted = λ more. absurd (false≢true (sym more ∙ at.zeros));
      zeros = λ zeros. (
        zeros_are.0,
        zeros_are.1,
        λ tag. ap (λ (s : DecodeSettings). s.encoding) reads_alone.settings ∙ zeros_are.2 tag,
      );
      missed = λ some. absurd (omega (arith, some, ap (λ (l : GapLook). l.bits) at.unlooked));
    })

    pub zeros_lie : LieIn whole new.dropped new.finished new.kept
    zeros_lie = subst (λ (f : Feeding). LieIn whole f.dropped f.finished f.kept) (sym new_is) at.fed.lie

  -- ---- The gap

  module _ {new : Feeding} {passed : Result Bool DecodeError} (away : is_at_line feed.rows.stand ≡ false)
      (new_is : new ≡ record feed {
        ctx = new.ctx;
        rows = new.rows;
        gap = record feed.gap { count = record feed.gap.count { eols = 0 } };
      })
      (passes : EndsInZeros tried feed.rows feed.ctx whole (offset_of feed) (record feed.gap.count { eols = 0 })
      → PassesZeros tried feed.rows new.rows feed.ctx new.ctx whole (offset_of feed) (record feed.gap.count { eols = 0 }) passed)
      (frame : new.ctx.held ≡ record feed.ctx.held { has_eols = new.ctx.held.has_eols; repairs = new.ctx.held.repairs })
      (ticks : new.ctx.ticks ≡ feed.ctx.ticks) (space : new.ctx.space ≡ feed.ctx.space)
      (stand : passed ≡ Ok true → is_at_line new.rows.stand ≡ true) (code : IfErr passed (λ e. e ≡ InvalidCode)) where
    abbrev mid : Feeding
    mid = record feed {
      ctx = new.ctx;
      rows = new.rows;
      gap = record feed.gap { count = record feed.gap.count { eols = 0 } };
    }

    passed_here : PassesZeros tried feed.rows new.rows feed.ctx new.ctx whole (offset_of feed)
        (record feed.gap.count { eols = 0 }) passed
    passed_here = passes (zeros_again zeros_stood start_within zeros_are.1 refl)

    same_place : passed_here.place ≡ offset_of feed
    same_place = omega (
      arith,
      passed_here.onward,
      passed_here.within,
      ap length passed_here.here,
      ap length zeros_are.1,
      length-drop passed_here.place whole,
      length-drop (offset_of feed) whole,
    )

    none_more : tried + 0 ≡ tried
    none_more = omega arith

    mid_fed : IsFeedOf whole (tried + 0) mid
    mid_fed = record {
      fit = at.fed.fit;
      lie = at.fed.lie;
      stands = subst (λ (n : ℕ). StandsIn feed.begun n new.rows new.ctx (record { bits = whole; place = offset_of feed }))
          (sym none_more) (subst (λ (b : Bool). StandsIn b tried new.rows new.ctx
          (record { bits = whole; place = offset_of feed })) (sym at.begun)
          (subst (λ (n : ℕ). IsStanding tried new.rows new.ctx (record { bits = whole; place = n })) same_place
          passed_here.stands));
      known = record {
        gone = at.fed.known.gone;
        are = at.fed.known.are;
        place = at.fed.known.place;
        long = at.fed.known.long;
        counted = λ more. absurd (false≢true (sym more ∙ at.zeros));
        zeros = λ zeros. (
          zeros_are.0,
          zeros_are.1,
          λ tag. ap (λ (h : Held). h.settings.encoding) frame ∙ zeros_are.2 tag,
        );
        missed = λ some. absurd (omega (arith, some, ap (λ (l : GapLook). l.bits) at.unlooked));
      };
    }

    reaches_mid : ReachesNextLine (fed_over whole (completed whole feed)) (fed_over whole (completed whole mid))
        (came (of_settled_gap passed))
    reaches_mid = subst (λ (n : ℕ). ReachesNextLine (seen feed.rows feed.ctx (record { bits = whole; place = n }))
        (fed_over whole (completed whole mid)) (came (of_settled_gap passed))) (sym (after_none (offset_of feed)))
        (subst (λ (n : ℕ). ReachesNextLine (seen feed.rows feed.ctx (record { bits = whole; place = offset_of feed }))
        (seen new.rows new.ctx (record { bits = whole; place = n })) (came (of_settled_gap passed)))
        (same_place ∙ sym (after_none (offset_of feed)))
        (subst (ReachesNextLine (seen feed.rows feed.ctx (record { bits = whole; place = offset_of feed }))
        (seen new.rows new.ctx (record { bits = whole; place = passed_here.place }))) (sym (came_said passed))
        passed_here.reaches))

    zeros_come_mid : (comes : ComesInFeed whole tried (completed whole feed) (completed whole mid) (of_settled_gap passed))
        × IsFeedOf whole (tried + comes.extra) mid
    zeros_come_mid = (
      record {
        extra = 0;
        looks = record { line = λ line. refl; within = λ none. absurd (omega (arith, none)) };
        looked = λ e. absurd (passed_some passed e);
        keeps = record { order = refl; finished = refl; kept = refl; dropped = refl; room = refl };
        begun = at.begun;
        within = omega (arith, full_long at.fed, all_fed);
        space = space;
        waits = λ e. absurd (passed_some passed e);
        comes = λ other. reaches_mid;
        stands = full_is_plain mid_fed;
        line = λ e. stand (line_said passed e);
        counts = omega (arith, ticks);
        reaches = λ e. record {
          counts = omega (arith, ticks);
          onward = omega arith;
          near = λ begun more. absurd (false≢true (sym more ∙ zeros_are.0));
          last = λ begun finished. omega arith;
          past_eol = λ more. absurd (false≢true (sym more ∙ zeros_are.0));
          at_line = λ both.
              absurd (false≢true (sym away ∙ (and_parts feed.begun (is_at_line feed.rows.stand) both).1));
          zeros = λ both. refl;
          tried = refl;
          space = space;
          settings = ap (λ (h : Held). h.settings) frame;
        };
        only_code = code_said passed code;
      },
      mid_fed,
    )

    pub zeros_come_on : (comes : ComesInFeed whole tried (completed whole feed) (completed whole new) (of_settled_gap passed))
        × IsFeedOf whole (tried + comes.extra) new
    zeros_come_on = subst (λ (f : Feeding). (comes : ComesInFeed whole tried (completed whole feed) (completed whole f)
        (of_settled_gap passed)) × IsFeedOf whole (tried + comes.extra) f) (sym new_is) zeros_come_mid
