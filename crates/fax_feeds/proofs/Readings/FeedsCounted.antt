-- What a call that passes the gap before the next line leaves of a feed, where the first bits of the gap may have been counted.
use Rattle.fax_feeds.proofs.Names.{◌≡◌, ◌≢◌, ◌∙◌, ◌+◌, ◌-◌, ◌≤◌, ◌++◌, ap, sym, subst}
use Rattle.fax_feeds.proofs.Names.{arith, length, drop, take, ℕ, Bool, true, false, refl, Some, None, Ok, Err, Result, Option}
use Rattle.fax_feeds.proofs.Names.{Bits, BitsAt, DecodeError, Held, here, is_at_line}
use Rattle.fax_feeds.proofs.Names.{IsStanding}
use Rattle.fax_feeds.proofs.Names.{ReachesNextLine, and_parts, false≢true, seen}
use Rattle.fax_reading.specs.GapsContinued.{gap_is_settled}
use Rattle.fax_rows.specs.declared.row_reader.RowState.{RowState}
use Rattle.fax_rows.specs.GapsCounted.{counted_by, none_counted}
use Rattle.fax_feeds.specs.declared.counted_gaps.GapSoFar.{GapSoFar}
use Rattle.fax_feeds.specs.CountedGaps.{CameSoFar, ComesCounted, ComesSoFar, PassesNear, StandsSoFar}
use Rattle.fax_feeds.specs.RowFeeds.{ComesInFeed, Feeding, IsFeedOf, KeepsBits, LacksEol, LieIn, ReachesLine}
use Rattle.fax_feeds.specs.RowFeeds.{StandsIn, came}
use Rattle.fax_feeds.specs.RowFeeds.{PassesEol, completed, fed_bits, fed_over, gap_rules, offset_of, zeros_left}
use Rattle.fax_feeds.proofs.Readings.FeedsCompleted.{at_within, full_gap, full_is_plain, full_long, gap_long}
use Rattle.fax_feeds.proofs.Readings.FeedsCompleted.{knows_passed}
use Rattle.fax_feeds.proofs.Readings.RowsFed.{after_none, place_within}
use Rattle.std.proofs.Common.{◌<◌, cond}

-- The parts of a counted call that a feed makes.
pub record IsCountedBy (whole : Bits) (tried : ℕ) (old new : Feeding) (before after : BitsAt) : Type 0 where
  pub fed : IsFeedOf whole tried old
  pub within : old.place ≤ length old.kept
  pub before_is : before ≡ record { bits = old.kept; place = old.place }
  pub ends : new.place ≡ after.place
  pub keeps : KeepsBits old new
  pub begun : old.begun ≡ true
  pub still : new.begun ≡ true
  pub tried_at : new.tried_at ≡ old.tried_at
  pub looked : old.looked ≡ old.gap.passed + old.gap.look.bits
  pub looked_now : new.looked ≡ new.gap.passed + new.gap.look.bits
  pub some : old.gap.at_zeros ≡ false

module _ {whole : Bits} {tried : ℕ} {old new : Feeding} {before after : BitsAt}
    (by : IsCountedBy whole tried old new before after) {answer : Result (Option Bool) DecodeError}
    (on : ComesCounted old.finished old.dropped old.rows new.rows old.gap new.gap old.ctx new.ctx before after answer) where
  abbrev fed : IsFeedOf whole tried old
  fed = by.fed

  at_before : before.place ≡ old.place
  at_before = ap (λ (b : BitsAt). b.place) by.before_is

  bits_before : before.bits ≡ old.kept
  bits_before = ap (λ (b : BitsAt). b.bits) by.before_is

  abbrev at : ℕ
  at = old.dropped + before.place

  at_old : at ≡ old.dropped + old.place
  at_old = omega (arith, at_before)

  at_new : old.dropped + after.place ≡ new.dropped + new.place
  at_new = omega (arith, by.keeps.dropped, by.ends)

  new_within : new.place ≤ length new.kept
  new_within = omega (arith, by.ends, on.within, ap length on.same_bits, ap length bits_before, ap length by.keeps.kept)

  same_fed : fed_bits new ≡ fed_bits old
  same_fed = omega (arith, by.keeps.dropped, ap length by.keeps.kept)

  lies : LieIn whole old.dropped old.finished before.bits
  lies = subst (LieIn whole old.dropped old.finished) (sym bits_before) fed.lie

  lies_new : LieIn whole new.dropped new.finished new.kept
  lies_new = subst (λ (n : ℕ). LieIn whole n new.finished new.kept) (sym by.keeps.dropped)
      (subst (λ (b : Bool). LieIn whole old.dropped b new.kept) (sym by.keeps.finished)
      (subst (LieIn whole old.dropped old.finished) (sym by.keeps.kept) fed.lie))

  pub there : StandsSoFar tried old.rows old.ctx whole at old.gap
  there = record {
    in_gap = record {
      start = offset_of old;
      gone = fed.known.gone;
      are = fed.known.are ∙ ap (λ (n : ℕ). fed.known.gone ++ drop n whole) (sym at_old);
      place = omega (arith, at_old, fed.known.place);
      within = omega (arith, at_old, at_within fed by.within);
      is = subst (λ (b : Bool). counted_by (gap_rules b old.ctx.held.settings) none_counted fed.known.gone
          ≡ Some old.gap.count) by.begun (fed.known.counted by.some);
      stands = subst (λ (b : Bool). StandsIn b tried old.rows old.ctx (record { bits = whole; place = offset_of old })) by.begun
          fed.stands;
    };
    passed = omega (arith, at_old, fed.known.place, fed.known.long);
    missed = λ some. (fed.known.missed some).1;
  }

  -- the bits of the gap that are known
  gap_bits : drop (offset_of old) (take (fed_bits old) whole) ≡ fed.known.gone ++ here before
  gap_bits = full_gap fed by.within ∙ ap (λ (b : BitsAt). fed.known.gone ++ here b) (sym by.before_is)

  same_full : take (fed_bits new) whole ≡ take (fed_bits old) whole
  same_full = ap (λ (n : ℕ). take n whole) same_fed

  keeps_full : KeepsBits (completed whole old) (completed whole new)
  keeps_full = record {
    order = by.keeps.order;
    finished = by.keeps.finished;
    kept = same_full;
    dropped = refl;
    room = by.keeps.room;
  }

  starts : offset_of old + old.gap.passed ≡ at
  starts = omega (arith, fed.known.place, fed.known.long, at_old)

  -- none were looked at but those that are known, and few more
  looks_within : 0 < on.extra → on.extra + old.looked ≤ length (drop (offset_of old) (take (fed_bits old) whole)) + 16
  looks_within some = omega (
    arith,
    on.looks some,
    by.looked,
    starts,
    gap_long fed by.within,
    at_before,
    ap length bits_before,
  )

  -- the feed where the gap waits
  module _ (waits : CameSoFar (Ok None) (tried + on.extra) old.rows new.rows old.ctx new.ctx whole (offset_of old)
      (old.dropped + after.place) new.gap after) (needs : answer ≡ Ok None) where
    abbrev stands_now : StandsSoFar (tried + on.extra) old.rows new.ctx whole (old.dropped + after.place) new.gap
    stands_now = waits.0.stands

    none_left : new.gap.at_zeros ≡ false
    none_left = (on.known.waits needs).1

    same_start : offset_of new ≡ stands_now.in_gap.start
    same_start = omega (arith, stands_now.passed, at_new)

    waits_fed : IsFeedOf whole (tried + on.extra) new
    waits_fed = record {
      fit = fed.fit;
      lie = lies_new;
      stands = subst (λ (b : Bool). StandsIn b (tried + on.extra) new.rows new.ctx
          (record { bits = whole; place = offset_of new })) (sym by.still)
          (subst (λ (r : RowState). IsStanding (tried + on.extra) r new.ctx (record { bits = whole; place = offset_of new }))
          (sym waits.1) (subst (λ (n : ℕ). IsStanding (tried + on.extra) old.rows new.ctx (record { bits = whole; place = n }))
          (sym same_start) stands_now.in_gap.stands));
      known = record {
        gone = stands_now.in_gap.gone;
        are = ap (λ (n : ℕ). drop n whole) same_start ∙ stands_now.in_gap.are
            ∙ ap (λ (n : ℕ). stands_now.in_gap.gone ++ drop n whole) at_new;
        place = omega (arith, same_start, stands_now.in_gap.place, at_new);
        long = omega (arith, stands_now.in_gap.place, stands_now.passed);
        counted = λ e. subst (λ (b : Bool). counted_by (gap_rules b new.ctx.held.settings) none_counted stands_now.in_gap.gone
            ≡ Some new.gap.count) (sym by.still) stands_now.in_gap.is;
        zeros = λ zeros. absurd (false≢true (sym none_left ∙ zeros));
        missed = λ some. (
          by.still,
          subst (λ (n : ℕ). LacksEol new.ctx.held (drop n whole)) (sym same_start) (stands_now.missed some),
        );
      };
    }

    same_offset : offset_of new ≡ offset_of old
    same_offset = same_start ∙ waits.0.start_is

    here_after : here after ≡ drop new.place new.kept
    here_after = ap (drop after.place) (on.same_bits ∙ bits_before ∙ sym by.keeps.kept)
        ∙ ap (λ (n : ℕ). drop n new.kept) (sym by.ends)

    full_here : drop (offset_of old) (take (fed_bits old) whole) ≡ stands_now.in_gap.gone ++ here after
    unfolding waits_fed
    full_here = ap (λ (n : ℕ). drop n (take (fed_bits old) whole)) (sym same_offset)
        ∙ ap (λ (b : Bits). drop (offset_of new) b) (sym same_full) ∙ full_gap waits_fed new_within
        ∙ ap (λ (b : Bits). stands_now.in_gap.gone ++ b) (sym here_after)

    no_line : is_at_line old.rows.stand ≡ false
    no_line = by_line (is_at_line old.rows.stand) refl
      where
        by_line : (b : Bool) → is_at_line old.rows.stand ≡ b → b ≡ false
        by_line false e = refl
        by_line true e = let never : Ok None ≡ Ok (Some true) = sym needs ∙ (on.at_line e).0 in absurd cc

    pub waits_in_feed : (comes : ComesInFeed whole tried (completed whole old) (completed whole new) answer)
        × IsFeedOf whole (tried + comes.extra) new
    waits_in_feed =
        let held = (on.waits needs).0 in (
          record {
            extra = on.extra;
            looks = record { line = λ line. absurd (false≢true (sym no_line ∙ line)); within = looks_within };
            looked = λ e. omega (
              arith,
              on.near needs,
              by.looked,
              by.looked_now,
              starts,
              same_offset,
              at_new,
              stands_now.passed,
              same_start,
            );
            keeps = keeps_full;
            begun = by.still;
            within = omega (arith, full_long fed, same_fed, ap length same_full, new_within, at_new);
            space = on.space;
            waits = λ e. (
              held,
              (on.waits needs).1,
              waits.1,
              same_offset,
              (on.waits needs).2,
              no_line,
              ap (gap_is_settled old.ctx.held.settings old.ctx.held.taken old.ctx.held.has_eols) full_here
                  ∙ ap (λ (h : Held). gap_is_settled h.settings h.taken h.has_eols (stands_now.in_gap.gone ++ here after))
                  (sym held) ∙ waits.0.unsettled,
            );
            comes = λ other. absurd (other needs);
            stands = full_is_plain waits_fed;
            line = λ e. let never = sym needs ∙ e in absurd cc;
            counts = on.counts;
            reaches = λ e. let never = sym needs ∙ e in absurd cc;
            only_code = on.only_code;
          },
          waits_fed,
        )

  -- the feed where it was passed
  module _ (answered : Result Bool DecodeError) (comes : ComesSoFar (tried + on.extra) old.rows new.rows old.ctx new.ctx whole
      (offset_of old) (old.dropped + after.place) new.gap answered) (said : came answer ≡ answered)
      (passed : answer ≢ Ok None) where
    new_offset : offset_of new ≡ comes.place
    new_offset = omega (arith, comes.place_is, at_new)

    new_at_within : new.dropped + new.place ≤ length whole
    new_at_within = omega (arith, place_within lies_new new.place new_within)

    passed_fed : IsFeedOf whole (tried + on.extra) new
    passed_fed = record {
      fit = fed.fit;
      lie = lies_new;
      stands = subst (λ (b : Bool). StandsIn b (tried + on.extra) new.rows new.ctx
          (record { bits = whole; place = offset_of new })) (sym by.still)
          (subst (λ (n : ℕ). IsStanding (tried + on.extra) new.rows new.ctx (record { bits = whole; place = n }))
          (sym new_offset) comes.stands);
      known = knows_passed whole new (omega (arith, comes.place_is, at_new)) new_at_within (on.known.passed passed)
          (λ zeros. (
            by.keeps.finished ∙ (on.known.zeros zeros).0,
            ap (λ (n : ℕ). drop n whole) new_offset ∙ (comes.zeros zeros).0,
            (comes.zeros zeros).1,
          )) (λ zeros. (on.known.zeros zeros).2);
    }

    passed_reaches : ReachesNextLine (fed_over whole (completed whole old)) (fed_over whole (completed whole new)) (came answer)
    passed_reaches = subst (λ (n : ℕ). ReachesNextLine (seen old.rows old.ctx (record { bits = whole; place = n }))
        (fed_over whole (completed whole new)) (came answer)) (sym (after_none (offset_of old)))
        (subst (λ (n : ℕ). ReachesNextLine (seen old.rows old.ctx (record { bits = whole; place = offset_of old }))
        (seen new.rows new.ctx (record { bits = whole; place = n })) (came answer))
        (sym new_offset ∙ sym (after_none (offset_of new)))
        (subst (ReachesNextLine (seen old.rows old.ctx (record { bits = whole; place = offset_of old }))
        (seen new.rows new.ctx (record { bits = whole; place = comes.place }))) (sym said) comes.reaches))

    -- up to a line
    module _ (line : answer ≡ Ok (Some true)) where
      near : PassesNear old.finished old.rows (offset_of old) at (old.dropped + after.place - new.gap.passed) on.extra old.gap
          new.gap old.ctx (fed.known.gone ++ here before)
      unfolding there
      near = on.passes tried whole lies there line

      onward : offset_of old ≤ offset_of new
      onward = omega (arith, new_offset, comes.onward (sym said ∙ ap came line))

      next_place : old.dropped + after.place - new.gap.passed ≡ offset_of new
      next_place = omega (arith, at_new)

      none_looked : new.gap.at_zeros ≡ false → new.gap.passed ≡ 0
      none_looked e = ap (λ (g : GapSoFar). g.passed) (on.known.passed passed e)

      zeros_are : (b : Bool) → new.gap.at_zeros ≡ b → new.gap.passed ≤ zeros_left new
      zeros_are true e = rw (e) (omega arith)
      zeros_are false e = omega (arith, none_looked e)

      none_before : zeros_left old ≡ 0
      none_before = rw (by.some) refl

      eol : old.finished ≡ false → is_at_line old.rows.stand ≡ false → old.ctx.held.has_eols ≡ true
          → PassesEol (drop (offset_of old) (take (fed_bits old) whole)) (0 + offset_of old) (0 + offset_of new)
      eol unfinished no_line sought =
          let passes = near.past_eol unfinished no_line sought in
          record {
            fill = passes.fill;
            after = passes.after;
            place = gap_bits ∙ passes.place;
            passed = omega (arith, passes.passed, next_place);
          }

      pub passes_line : ReachesLine (completed whole old) (completed whole new) on.extra
      passes_line = record {
        counts = on.counts;
        onward = omega (arith, onward);
        near = λ begun unfinished. omega (arith, near.near unfinished, by.looked, starts, next_place);
        last = λ begun finished.
            omega (arith, near.last finished, next_place, none_before, zeros_are new.gap.at_zeros refl);
        past_eol = λ unfinished begun no_line sought. eol unfinished no_line sought;
        at_line = λ both.
            let at_line = on.at_line (and_parts old.begun (is_at_line old.rows.stand) both).1 in (
              omega (
                arith,
                by.ends,
                by.keeps.dropped,
                ap (λ (b : BitsAt). b.place) at_line.1,
                at_before,
                ap (λ (g : GapSoFar). g.passed) at_line.4,
              ),
              at_line.2,
              same_full,
            );
        zeros = λ both.
            let at_line = on.at_line (and_parts old.begun (is_at_line old.rows.stand) both).1 in
            ap (λ (g : GapSoFar). cond g.at_zeros g.passed 0) at_line.4;
        tried = by.tried_at;
        space = on.space;
        settings = ap (λ (h : Held). h.settings) on.frame;
      }

    pub passed_in_feed : (comes : ComesInFeed whole tried (completed whole old) (completed whole new) answer)
        × IsFeedOf whole (tried + comes.extra) new
    passed_in_feed = (
      record {
        extra = on.extra;
        looks = record { line = λ line. (on.at_line line).3; within = looks_within };
        looked = λ e. absurd (passed e);
        keeps = keeps_full;
        begun = by.still;
        within = omega (arith, full_long fed, same_fed, ap length same_full, new_within, at_new);
        space = on.space;
        waits = λ e. absurd (passed e);
        comes = λ other. passed_reaches;
        stands = full_is_plain passed_fed;
        line = on.line;
        counts = on.counts;
        reaches = passes_line;
        only_code = on.only_code;
      },
      passed_fed,
    )

-- whatever it comes to
pub counted_comes : {whole : Bits} {tried : ℕ} {old new : Feeding} {before after : BitsAt}
    (by : IsCountedBy whole tried old new before after) (answer : Result (Option Bool) DecodeError)
    (on : ComesCounted old.finished old.dropped old.rows new.rows old.gap new.gap old.ctx new.ctx before after answer)
    → (comes : ComesInFeed whole tried (completed whole old) (completed whole new) answer)
    × IsFeedOf whole (tried + comes.extra) new
unfolding there
counted_comes {whole} {tried} by (Ok None) on =
    waits_in_feed by on (on.leaves tried whole (lies by on) (there by on)) refl
counted_comes {whole} {tried} by (Ok (Some line)) on =
    passed_in_feed by on (Ok line) (on.leaves tried whole (lies by on) (there by on)) refl (λ e. cc)
counted_comes {whole} {tried} by (Err error) on =
    passed_in_feed by on (Err error) (on.leaves tried whole (lies by on) (there by on)) refl (λ e. cc)
