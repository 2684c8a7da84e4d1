-- What is before the first line of a feed, of which the first bits may have been counted.
use Rattle.fax_feeds.proofs.Names.{◌≡◌, ◌≢◌, ◌∙◌, ◌+◌, ◌-◌, ◌≤◌, ◌<◌, ◌++◌, ap, sym, subst, refl, arith}
use Rattle.fax_feeds.proofs.Names.{length, drop}
use Rattle.fax_feeds.proofs.Names.{take, true, false, not, ℕ, Bool, Ok, Err, Some, None, Result, Option, Bits, BitsAt}
use Rattle.fax_feeds.proofs.Names.{Context, Held}
use Rattle.fax_feeds.proofs.Names.{DecodeError, IsStanding, ReachesNextLine, Stand, and_parts}
use Rattle.fax_feeds.proofs.Names.{append_assoc, bits_in, ended, false≢true, here, inr, is_at_line, is_some}
use Rattle.fax_feeds.proofs.Names.{length-drop, seen}
use Rattle.fax_feeds.proofs.Names.{eqb, length-append, stand_after, IsPaid, ◌||◌}
use Rattle.fax_rows.specs.RowsRead.{DamageIsCounted, ReaderStands}
use Rattle.fax_reading.specs.GapsContinued.{first_gap_is_settled}
use Rattle.fax_rows.specs.FrontsCounted.{front_rules}
use Rattle.fax_rows.specs.GapsCounted.{counted_by, none_counted}
use Rattle.fax_feeds.specs.CountedGaps.{CameFirst}
use Rattle.fax_feeds.specs.RowFeeds.{gap_rules}
use Rattle.fax_bits.proofs.BitReading.BitLists.{length-bits_in}
use Rattle.fax_reading.specs.Context.{fresh}
use Rattle.fax_rows.specs.FrontsCounted.{CountsFront}
use Rattle.fax_rows.specs.RowsTried.{StandsFirst, TakesNone, front_is_settled}
use Rattle.fax_feeds.specs.declared.counted_gaps.GapSoFar.{GapSoFar}
use Rattle.fax_feeds.specs.declared.gap_look.GapLook.{GapLook}
use Rattle.fax_feeds.proofs.Readings.LooksKept.{fresh_look, none_counted_of, passed_lawful}
use Rattle.fax_feeds.proofs.Readings.PartsFed.{none_kept, unbegun_none}
use Rattle.fax_feeds.specs.declared.row_feed.RowFeed.TheInside.{Inside}
use Rattle.fax_feeds.specs.CountedGaps.{ComesFirst, PassesFirst, WaitsFirst}
use Rattle.fax_feeds.specs.RowFeeds.{BeginsCounted, IsAtFront, IsFeedOf, IsKept, LieIn}
use Rattle.fax_feeds.specs.RowFeeds.{StandsIn, completed, fed_bits, fed_over, feeding_of, line_first, no_gap, offset_of}
use Rattle.fax_feeds.proofs.Readings.FeedTurns.{within_bits}
use Rattle.fax_feeds.proofs.Readings.FeedsCompleted.{full_gap, full_is_plain, full_long, knows_passed}
use Rattle.fax_feeds.proofs.Readings.FeedsOn.{at_front, front_reaches, front_stood}
use Rattle.fax_feeds.proofs.Readings.RowsFed.{after_none, place_within}

-- A feed of which nothing was read, and this reader of its bits.
pub record IsFrontBy (f : Inside) (reader : BitsAt) : Type 0 where
  pub kept : IsKept f
  pub unbegun : f.begun ≡ false
  pub is : reader ≡ record { bits = bits_in f.order f.«data».items; place = f.place }

-- what is known of some data
module _ {f : Inside} {before : BitsAt} (by : IsFrontBy f before) {whole : Bits} {tried : ℕ}
    (fed : IsFeedOf whole tried (feeding_of f)) where
  pub passed_all : f.dropped + f.place ≡ f.gap.passed
  passed_all = (by.kept.unbegun by.unbegun).start

  pub starts_none : offset_of (feeding_of f) ≡ 0
  starts_none = omega (arith, passed_all)

  pub front : IsAtFront tried f.rows f.ctx (offset_of (feeding_of f))
  front = at_front f.begun tried f.rows f.ctx (record { bits = whole; place = offset_of (feeding_of f) }) by.unbegun fed.stands

  pub front_lies : LieIn whole f.dropped f.is_last before.bits
  front_lies = subst (λ (b : BitsAt). LieIn whole f.dropped f.is_last b.bits) (sym by.is) fed.lie

  pub counts_front : CountsFront f.ctx.held.settings whole (f.dropped + before.place) f.gap.count
  counts_front =
      let at : f.dropped + f.place ≡ f.dropped + before.place =
      ap (λ (b : BitsAt). f.dropped + b.place) (sym by.is) in
      record {
        gone = fed.known.gone;
        are = ap (λ (n : ℕ). drop n whole) (sym starts_none) ∙ fed.known.are ∙ ap (λ (n : ℕ). fed.known.gone ++ drop n whole) at;
        place = omega (arith, fed.known.place, starts_none, at);
        is = subst (λ (b : Bool). counted_by (gap_rules b f.ctx.held.settings) none_counted fed.known.gone ≡ Some f.gap.count)
            by.unbegun (fed.known.counted (by.kept.unbegun by.unbegun).some_follow);
      }

  pub all_known : length (take (fed_bits (feeding_of f)) whole) ≡ fed_bits (feeding_of f)
  all_known = full_long fed

-- ---- It is counted

none_said : (o : Option Bool) → ◌≡◌ {A = Result (Option Bool) DecodeError} (Ok o) (Ok None) → o ≡ None
none_said None e = refl
none_said (Some line) e = absurd cc

module _ {f : Inside} {before after : BitsAt} {ctx : Context} {gap : GapSoFar} {place : ℕ} {answer : Option Bool}
    (by : IsFrontBy f before) (there : place ≡ after.place)
    (on : ComesFirst f.is_last f.gap gap f.ctx ctx before after answer) where
  abbrev extra : ℕ
  extra = ctx.ticks - f.ctx.ticks

  ticks_are : ctx.ticks ≡ f.ctx.ticks + extra
  ticks_are = omega (arith, on.takes.counts)

  at_before : before.place ≡ f.place
  at_before = ap (λ (b : BitsAt). b.place) by.is

  bits_before : before.bits ≡ bits_in f.order f.«data».items
  bits_before = ap (λ (b : BitsAt). b.bits) by.is

  pub after_within : place ≤ length (bits_in f.order f.«data».items)
  after_within = omega (arith, there, on.within, ap length on.same_bits, ap length bits_before)

  none_looked : f.gap.look.bits ≡ 0
  none_looked = ap (λ (l : GapLook). l.bits) (by.kept.unbegun by.unbegun).unlooked

  module _ {whole : Bits} {tried : ℕ} (fed : IsFeedOf whole tried (feeding_of f)) where
    pub leaves : CameFirst answer f.ctx ctx whole (f.dropped + after.place) gap after
    leaves = on.leaves whole f.dropped (omega (arith, fed.fit)) (front_lies by fed) (counts_front by fed)
        (omega (arith, passed_all by fed, at_before))

    looks_within : extra + (f.gap.passed + f.gap.look.bits)
        ≤ length (drop (offset_of (feeding_of f)) (take (fed_bits (feeding_of f)) whole)) + 16
    looks_within = omega (
      arith,
      on.near,
      ticks_are,
      none_looked,
      passed_all by fed,
      at_before,
      there,
      after_within,
      length-drop (offset_of (feeding_of f)) (take (fed_bits (feeding_of f)) whole),
      starts_none by fed,
      all_known by fed,
    )

    -- it waits for more data
    module _ (is : answer ≡ None) (waits : WaitsFirst f.ctx.held.settings whole (f.dropped + after.place) gap (here after)) where
      abbrev waiting : Inside
      waiting = record f { ctx = ctx; gap = gap; place = place }

      held_same : ctx.held ≡ f.ctx.held
      held_same = (on.waits is).0

      none_before : offset_of (feeding_of waiting) ≡ 0
      none_before = omega (arith, there, waits.passed)

      more_follow : gap.at_zeros ≡ false
      more_follow = (on.known.waits (ap (λ (o : Option Bool). Ok o) is)).1

      waiting_fed : IsFeedOf whole (tried + extra) (feeding_of waiting)
      waiting_fed =
          let at : f.dropped + after.place ≡ f.dropped + place = omega (arith, there) in
          record {
            fit = fed.fit;
            lie = fed.lie;
            stands = subst (λ (b : Bool). StandsIn b (tried + extra) f.rows ctx
                (record { bits = whole; place = offset_of (feeding_of waiting) })) (sym by.unbegun) (record {
                  fresh = held_same ∙ (front by fed).fresh ∙ ap (λ (h : Held). fresh h.settings) (sym held_same);
                  ticks = omega (arith, ticks_are, (front by fed).ticks);
                  state = (front by fed).state;
                  start = none_before;
                });
            known = record {
              gone = waits.stands.gone;
              are = ap (λ (n : ℕ). drop n whole) none_before ∙ waits.stands.are
                  ∙ ap (λ (n : ℕ). waits.stands.gone ++ drop n whole) at;
              place = omega (arith, none_before, waits.stands.place, at);
              long = omega (arith, waits.stands.place, waits.passed);
              counted = λ e. subst (λ (b : Bool). counted_by (gap_rules b ctx.held.settings) none_counted waits.stands.gone
                  ≡ Some gap.count) (sym by.unbegun)
                  (subst (λ (h : Held). counted_by (front_rules h.settings) none_counted waits.stands.gone ≡ Some gap.count)
                  (sym held_same) waits.stands.is);
              zeros = λ zeros. absurd (false≢true (sym more_follow ∙ zeros));
              missed = λ some. absurd (omega (arith, some, ap (λ (l : GapLook). l.bits) on.unlooked));
            };
          }

      here_after : here after ≡ drop place (bits_in f.order f.«data».items)
      here_after = ap (drop after.place) (on.same_bits ∙ bits_before)
          ∙ ap (λ (n : ℕ). drop n (bits_in f.order f.«data».items)) (sym there)

      all_here : take (fed_bits (feeding_of f)) whole ≡ waits.stands.gone ++ here after
      unfolding waiting_fed
      all_here = ap (λ (n : ℕ). drop n (take (fed_bits (feeding_of f)) whole)) (sym none_before)
          ∙ full_gap waiting_fed after_within ∙ ap (λ (b : Bits). waits.stands.gone ++ b) (sym here_after)

      pub waits_first : BeginsCounted whole tried (feeding_of f) (feeding_of waiting) false
      waits_first = record {
        begins = record {
          extra = extra;
          looks = record { line = λ e. absurd (false≢true e); within = λ some. looks_within };
          looked = λ e. omega (arith, on.near, ticks_are, none_looked, passed_all by fed, at_before, waits.passed);
          keeps = record { order = refl; finished = refl; kept = refl; dropped = refl; room = refl };
          begun = by.unbegun;
          within = omega (arith, none_before);
          space = on.takes.space;
          settings = on.takes.settings;
          taken = on.takes.taken;
          waits = λ e. (
            held_same,
            ticks_are,
            refl,
            none_before ∙ sym (starts_none by fed),
            (on.waits is).1,
            ap (front_is_settled f.ctx.held.settings) all_here ∙ waits.unsettled,
          );
          reaches = λ e. cc;
          unfailed = λ e. cc;
          passes = λ e. cc;
          stands = full_is_plain waiting_fed;
        };
        stands = waiting_fed;
      }

  -- what is so of every feed stays so
  pub waiting_kept : answer ≡ None → 0 < f.ctx.held.settings.columns → IsKept (record f { ctx = ctx; gap = gap; place = place })
  waiting_kept is wide =
      let kept = by.kept in
      let was = kept.unbegun by.unbegun in
      let waits = on.known.waits (ap (λ (o : Option Bool). Ok o) is) in
      let held = (on.waits is).0 in
      let after_at = after_within in
      record {
        within = omega (arith, after_at, length-bits_in f.order f.«data».items);
        fit = kept.fit;
        bytes = kept.bytes;
        unbegun = λ e. record {
          fresh = held ∙ was.fresh ∙ ap (λ (h : Held). fresh h.settings) (sym held);
          start = omega (
            arith,
            on.passed is (omega (arith, was.start, at_before, there, after_at, kept.fit, length-bits_in f.order f.«data».items)),
            was.start,
            at_before,
            there,
          );
          unended = was.unended;
          rows = was.rows;
          unlooked = on.unlooked;
          some_follow = waits.1;
          narrow = λ none. absurd (omega (arith, wide, none, ap (λ (h : Held). h.settings.columns) held));
        };
        seen = fresh_look _ _ on.unlooked;
        line = λ line more. absurd (false≢true (sym was.rows ∙ line));
        over = λ over more. absurd (over was.unended);
        counted = record {
          tidy = λ more. waits.0;
          few = λ more. omega (
            arith,
            kept.counted.few was.some_follow,
            waits.2,
            at_before,
            there,
            within_bits kept,
            ap length bits_before,
            on.within,
            ap length on.same_bits,
            length-drop before.place before.bits,
            length-drop after.place after.bits,
          );
          zeros = λ zeros. absurd (false≢true (sym waits.1 ∙ zeros));
          missed = λ some. absurd (omega (arith, some, ap (λ (l : GapLook). l.bits) on.unlooked));
        };
        unkept = λ zeros. absurd (false≢true (sym waits.1 ∙ zeros));
        last = λ zeros. absurd (false≢true (sym waits.1 ∙ zeros));
        part = none_kept f.part _ _ _ _ _ _ _ _ _ (unbegun_none f.part _ _ _ _ _ by.unbegun kept.part) kept.part;
      }

  pub passed_kept : (stand : Stand) → answer ≢ None
      → IsKept (record f { ctx = ctx; gap = gap; place = place; rows = record f.rows { stand = stand }; begun = true })
  passed_kept stand some =
      let kept = by.kept in
      let none = unbegun_none f.part _ _ _ _ _ by.unbegun kept.part in
      let lawful = passed_lawful {at = f.dropped + place} {rows = record f.rows { stand = stand }} {held = ctx.held}
      (λ e. some (none_said answer e)) on.known in
      record {
        within = omega (arith, after_within, length-bits_in f.order f.«data».items);
        fit = kept.fit;
        bytes = kept.bytes;
        unbegun = λ e. absurd (false≢true (sym e));
        seen = fresh_look _ _ on.unlooked;
        line = lawful.line;
        over = lawful.over;
        counted = lawful.counted;
        unkept = λ zeros. none;
        last = lawful.last;
        part = none_kept f.part _ _ _ _ _ _ _ _ _ none kept.part;
      }

  -- it is passed
  module _ (line : Bool) (stand : Stand) (stand_is : stand ≡ stand_after (Ok (not line))) (is : answer ≡ Some line) where
    abbrev passed : Inside
    passed = record f { ctx = ctx; gap = gap; place = place; rows = record f.rows { stand = stand }; begun = true }

    unfailed_by : (l : Bool) (error : DecodeError) → ended (stand_after (Ok (not l))) ≢ Some (Err error)
    unfailed_by true error e = cc
    unfailed_by false error e = cc

    at_line_by : (l : Bool) → is_some (ended (stand_after (Ok (not l)))) ≡ false → is_at_line (stand_after (Ok (not l))) ≡ true
    at_line_by true e = refl
    at_line_by false e = absurd cc

    module _ {whole : Bits} {tried : ℕ} (fed : IsFeedOf whole tried (feeding_of f))
        (first : PassesFirst f.ctx ctx whole (f.dropped + after.place) gap line) where
      passed_at : offset_of (feeding_of passed) ≡ first.place
      passed_at = omega (arith, first.place_is, there)

      abbrev mid : Context
      mid = record f.ctx { ticks = ctx.ticks }

      stood : IsStanding (tried + extra) (record f.rows { stand = stand }) ctx (record { bits = whole; place = first.place })
      stood = subst (λ (s : Stand). IsStanding (tried + extra) (record f.rows { stand = s }) ctx
          (record { bits = whole; place = first.place })) (sym stand_is)
          (front_stood (feeding_of f)
          (feeding_of (record passed { rows = record f.rows { stand = stand_after (Ok (not line)) } })) mid
          (stand_after (Ok (not line))) extra refl refl ticks_are first.place first.passes on.takes.taken
          on.takes.settings (omega arith) (unfailed_by line) (at_line_by line) (front by fed))

      passed_fed : IsFeedOf whole (tried + extra) (feeding_of passed)
      passed_fed = record {
        fit = fed.fit;
        lie = fed.lie;
        stands = subst (λ (n : ℕ). IsStanding (tried + extra) (record f.rows { stand = stand }) ctx
            (record { bits = whole; place = n })) (sym passed_at) stood;
        known = knows_passed whole (feeding_of passed) (omega (arith, first.place_is, there))
            (place_within fed.lie place after_within)
            (on.known.passed (λ none. let never : Some line ≡ None = sym is ∙ none_said answer none in cc))
            (λ zeros. (
              (on.known.zeros zeros).0,
              ap (λ (n : ℕ). drop n whole) passed_at ∙ (first.zeros zeros).0,
              (first.zeros zeros).1,
            )) (λ zeros. on.unlooked);
      }

      reaches_first : ReachesNextLine (fed_over whole (completed whole (feeding_of f)))
          (fed_over whole (completed whole (feeding_of passed))) (line_first stand)
      reaches_first = subst (λ (s : Stand). ReachesNextLine (fed_over whole (completed whole (feeding_of f)))
          (seen (record f.rows { stand = s }) ctx (record { bits = whole; place = 0 + offset_of (feeding_of passed) }))
          (line_first s)) (sym stand_is)
          (subst (λ (n : ℕ). ReachesNextLine (seen f.rows f.ctx (record { bits = whole; place = n }))
          (seen (record f.rows { stand = stand_after (Ok (not line)) }) ctx
          (record { bits = whole; place = 0 + offset_of (feeding_of passed) })) (line_first (stand_after (Ok (not line)))))
          (sym (after_none (offset_of (feeding_of f))))
          (subst (λ (n : ℕ). ReachesNextLine (seen f.rows f.ctx (record { bits = whole; place = offset_of (feeding_of f) }))
          (seen (record f.rows { stand = stand_after (Ok (not line)) }) ctx (record { bits = whole; place = n }))
          (line_first (stand_after (Ok (not line))))) (sym passed_at ∙ sym (after_none (offset_of (feeding_of passed))))
          (front_reaches (feeding_of f) (feeding_of (record passed {
            rows = record f.rows {
              stand = stand_after (Ok (not line));
            };
          })) mid (stand_after (Ok (not line))) extra refl refl ticks_are first.place first.passes on.takes.taken
          on.takes.settings (omega arith) (unfailed_by line) (at_line_by line) (front by fed))))

      pub passes_first : BeginsCounted whole tried (feeding_of f) (feeding_of passed) true
      passes_first = record {
        begins = record {
          extra = extra;
          looks = record { line = λ e. absurd (false≢true e); within = λ some. looks_within fed };
          looked = λ e. cc;
          keeps = record { order = refl; finished = refl; kept = refl; dropped = refl; room = refl };
          begun = refl;
          within = omega (arith, all_known by fed, first.place_is, passed_at, there, after_within);
          space = on.takes.space;
          settings = on.takes.settings;
          taken = on.takes.taken;
          waits = λ e. cc;
          reaches = λ e. record {
            counts = omega (arith, ticks_are);
            onward = omega (arith, starts_none by fed);
            near = λ begun more. absurd (false≢true (sym by.unbegun ∙ begun));
            last = λ begun finished. absurd (false≢true (sym by.unbegun ∙ begun));
            past_eol = λ more begun. absurd (false≢true (sym by.unbegun ∙ begun));
            at_line = λ both. absurd (false≢true (sym by.unbegun ∙ (and_parts f.begun (is_at_line f.rows.stand) both).0));
            zeros = λ both. absurd (false≢true (sym by.unbegun ∙ (and_parts f.begun (is_at_line f.rows.stand) both).0));
            tried = refl;
            space = on.takes.space;
            settings = on.takes.settings;
          };
          unfailed = λ e error. subst (λ (s : Stand). ended s ≢ Some (Err error)) (sym stand_is) (unfailed_by line error);
          passes = λ e. reaches_first;
          stands = full_is_plain passed_fed;
        };
        stands = passed_fed;
      }

-- ---- There are no columns

module _ {f : Inside} {before after : BitsAt} {ctx : Context} {place : ℕ} {stand : Stand} (by : IsFrontBy f before)
    (narrow : f.ctx.held.settings.columns ≡ 0) (there : place ≡ after.place)
    (first : StandsFirst stand f.ctx ctx before after) (takes : TakesNone f.ctx ctx before after)
    (unfailed : (error : DecodeError) → ended stand ≢ Some (Err error))
    (at_line : is_some (ended stand) ≡ false → is_at_line stand ≡ true) where
  abbrev ended_feed : Inside
  ended_feed = record f { ctx = ctx; place = place; rows = record f.rows { stand = stand }; begun = true }

  pub none_known : f.gap ≡ no_gap
  none_known = (by.kept.unbegun by.unbegun).narrow narrow

  none_passed : f.gap.passed ≡ 0
  none_passed = ap (λ (g : GapSoFar). g.passed) none_known

  narrow_place : f.dropped + f.place ≡ 0
  narrow_place = omega (arith, (by.kept.unbegun by.unbegun).start, none_passed)

  pub narrow_within : place ≤ length (bits_in f.order f.«data».items)
  narrow_within = omega (
    arith,
    there,
    first.within,
    ap length takes.same_bits,
    ap (λ (b : BitsAt). length b.bits) by.is,
  )

  pub narrow_kept : IsKept ended_feed
  narrow_kept =
      let kept = by.kept in
      record {
        within = omega (arith, narrow_within, length-bits_in f.order f.«data».items);
        fit = kept.fit;
        bytes = kept.bytes;
        unbegun = λ e. absurd (false≢true (sym e));
        seen = fresh_look _ _ (ap (λ (g : GapSoFar). g.look) none_known);
        line = λ line more. none_known;
        over = λ over more. none_known;
        counted = none_counted_of none_known;
        unkept = λ zeros. absurd (false≢true (sym (ap (λ (g : GapSoFar). g.at_zeros) none_known) ∙ zeros));
        last = λ zeros. absurd (false≢true (sym (ap (λ (g : GapSoFar). g.at_zeros) none_known) ∙ zeros));
        part = none_kept f.part _ _ _ _ _ _ _ _ _ (unbegun_none f.part _ _ _ _ _ by.unbegun kept.part) kept.part;
      }

  none_taken : ctx.held.taken ≡ f.ctx.held.taken
  none_taken = takes.none_taken
      ∙ sym (ap (λ (h : Held). h.taken) (by.kept.unbegun by.unbegun).fresh)

  settled : (bits : Bits) → front_is_settled f.ctx.held.settings bits ≡ true
  settled bits = ap (λ (n : ℕ). eqb n 0 || first_gap_is_settled f.ctx.held.settings.encoding f.ctx.held.settings bits) narrow

  module _ {whole : Bits} {tried : ℕ} (fed : IsFeedOf whole tried (feeding_of f)) where
    whole_is : whole ≡ before.bits ++ fed.lie.more
    whole_is =
        let none : 0 ≡ f.dropped = omega (arith, narrow_place) in
        ap (λ (n : ℕ). drop n whole) none ∙ fed.lie.bits
        ∙ ap (λ (b : BitsAt). b.bits ++ fed.lie.more) (sym by.is)

    with_more : (more : Bits) → before.bits ++ (fed.lie.more ++ more) ≡ whole ++ more
    with_more more = sym (append_assoc before.bits fed.lie.more more) ∙ ap (λ (b : Bits). b ++ more) (sym whole_is)

    at_whole : StandsFirst stand f.ctx ctx (record { bits = whole; place = 0 }) (record { bits = whole; place = after.place })
    at_whole = record {
      stands = λ more known. subst (λ (b : Bits). ReaderStands stand f.ctx.held.settings b ctx.held after.place) (with_more more)
          (first.stands (fed.lie.more ++ more) (inr (settled before.bits)));
      damage = λ more. subst (λ (b : Bits). DamageIsCounted stand f.ctx.held.settings b ctx.held) (with_more more)
          (first.damage (fed.lie.more ++ more));
      paid = λ more known. subst (λ (b : Bits). IsPaid f.ctx.ticks stand f.ctx.held.settings b ctx.held after.place ctx.ticks)
          (with_more more) (first.paid (fed.lie.more ++ more) (inr (settled before.bits)));
      within = omega (
        arith,
        first.within,
        ap length takes.same_bits,
        ap length whole_is,
        length-append before.bits fed.lie.more,
      );
      row = first.row;
      counts = first.counts;
    }

    ended_at : offset_of (feeding_of ended_feed) ≡ after.place
    ended_at = omega (arith, none_passed, narrow_place, there)

    ended_stood : IsStanding (tried + 0) (record f.rows { stand = stand }) ctx (record { bits = whole; place = after.place })
    ended_stood = front_stood (feeding_of f) (feeding_of ended_feed) f.ctx stand 0 refl refl (omega arith) after.place at_whole
        none_taken takes.settings first.counts unfailed at_line (front by fed)

    ended_fed : IsFeedOf whole (tried + 0) (feeding_of ended_feed)
    ended_fed = record {
      fit = fed.fit;
      lie = fed.lie;
      stands = subst (λ (n : ℕ). IsStanding (tried + 0) (record f.rows { stand = stand }) ctx
          (record { bits = whole; place = n })) (sym ended_at) ended_stood;
      known = knows_passed whole (feeding_of ended_feed) (omega (arith, none_passed))
          (place_within fed.lie place narrow_within) (λ e. none_known)
          (λ zeros. absurd (false≢true (sym (ap (λ (g : GapSoFar). g.at_zeros) none_known) ∙ zeros)))
          (λ zeros. ap (λ (g : GapSoFar). g.look) none_known);
    }

    reaches_end : ReachesNextLine (fed_over whole (completed whole (feeding_of f)))
        (fed_over whole (completed whole (feeding_of ended_feed))) (line_first stand)
    reaches_end = subst (λ (n : ℕ). ReachesNextLine (seen f.rows f.ctx (record { bits = whole; place = n }))
        (seen (record f.rows { stand = stand }) ctx (record { bits = whole; place = 0 + offset_of (feeding_of ended_feed) }))
        (line_first stand)) (sym (after_none (offset_of (feeding_of f))))
        (subst (λ (n : ℕ). ReachesNextLine (seen f.rows f.ctx (record { bits = whole; place = offset_of (feeding_of f) }))
        (seen (record f.rows { stand = stand }) ctx (record { bits = whole; place = n })) (line_first stand))
        (sym ended_at ∙ sym (after_none (offset_of (feeding_of ended_feed))))
        (front_reaches (feeding_of f) (feeding_of ended_feed) f.ctx stand 0 refl refl (omega arith) after.place at_whole
        none_taken takes.settings first.counts unfailed at_line (front by fed)))

    pub narrow_first : BeginsCounted whole tried (feeding_of f) (feeding_of ended_feed) true
    narrow_first = record {
      begins = record {
        extra = 0;
        looks = record { line = λ e. refl; within = λ none. absurd (omega (arith, none)) };
        looked = λ e. cc;
        keeps = record { order = refl; finished = refl; kept = refl; dropped = refl; room = refl };
        begun = refl;
        within = omega (arith, all_known by fed, none_passed, narrow_within);
        space = takes.space;
        settings = takes.settings;
        taken = none_taken;
        waits = λ e. cc;
        reaches = λ e. record {
          counts = omega (arith, first.counts);
          onward = omega (arith, starts_none by fed);
          near = λ begun more. absurd (false≢true (sym by.unbegun ∙ begun));
          last = λ begun finished. absurd (false≢true (sym by.unbegun ∙ begun));
          past_eol = λ more begun. absurd (false≢true (sym by.unbegun ∙ begun));
          at_line = λ both. absurd (false≢true (sym by.unbegun ∙ (and_parts f.begun (is_at_line f.rows.stand) both).0));
          zeros = λ both. absurd (false≢true (sym by.unbegun ∙ (and_parts f.begun (is_at_line f.rows.stand) both).0));
          tried = refl;
          space = takes.space;
          settings = takes.settings;
        };
        unfailed = λ e. unfailed;
        passes = λ e. reaches_end;
        stands = full_is_plain ended_fed;
      };
      stands = ended_fed;
    }
