-- What a call leaves of a feed at a line, of one with all bits that were fed.
use Rattle.fax_feeds.proofs.Names.{◌≡◌, ◌∙◌, ◌+◌, ◌≤◌, ◌++◌, ◌&&◌, inl, inr, ap, sym, subst}
use Rattle.fax_feeds.proofs.Names.{arith, length, drop, take, true, false, ℕ, Ok, Err}
use Rattle.fax_feeds.proofs.Names.{Result}
use Rattle.fax_feeds.proofs.Names.{Bits, DecodeError, IfErr-weaker, ReadsNext, RowsRead, front_of}
use Rattle.fax_feeds.proofs.Names.{is_at_line}
use Rattle.fax_feeds.proofs.Names.{line_here, row_of_line, seen}
use Rattle.fax_reading.specs.Answers.{HasBlack}
use Rattle.fax_feeds.specs.declared.counted_gaps.GapSoFar.{GapSoFar}
use Rattle.fax_feeds.specs.declared.row_feed.Fed.{Fed}
use Rattle.fax_feeds.specs.RowFeeds.{CallGoesOn, DrawsRow, Feeding, FeedsNext, FeedsPlainly, IsFeedOf, IsOpenAt, IsPlainFeedOf}
use Rattle.fax_feeds.specs.RowFeeds.{KeepsBits, KnowsGap, LieIn, LineWork, LooksAhead, PassesEol, StandsIn, StaysThere, completed}
use Rattle.fax_feeds.specs.RowFeeds.{fed_bits, fed_over, no_gap, offset_of}
use Rattle.fax_feeds.proofs.Readings.FeedsCompleted.{full_gap, full_is_plain, full_long, knows_none}
use Rattle.fax_feeds.proofs.Readings.GapsSoFar.{no_bits}
use Rattle.fax_feeds.proofs.Readings.RowsFed.{place_within}

-- no bits of a gap are gone
pub plain_of : {whole : Bits} {tried : ℕ} {feed : Feeding} → IsFeedOf whole tried feed → feed.gap.passed ≡ 0
    → IsPlainFeedOf whole tried feed
plain_of {whole} {tried} {feed} fed none = record {
  fit = fed.fit;
  lie = fed.lie;
  stands = subst (λ (n : ℕ). StandsIn feed.begun tried feed.rows feed.ctx (record { bits = whole; place = n }))
      (omega (arith, none)) fed.stands;
}

pub fed_of : {whole : Bits} {tried : ℕ} {feed : Feeding} → IsPlainFeedOf whole tried feed → feed.gap ≡ no_gap
    → feed.place ≤ length feed.kept → IsFeedOf whole tried feed
fed_of {whole} {tried} {feed} fed is within = record {
  fit = fed.fit;
  lie = fed.lie;
  stands = subst (λ (n : ℕ). StandsIn feed.begun tried feed.rows feed.ctx (record { bits = whole; place = n }))
      (omega (arith, ap (λ (g : GapSoFar). g.passed) is)) fed.stands;
  known = knows_none whole feed (place_within fed.lie feed.place within) is;
}

-- a call leaves a reading of the data, of whose gap this is known
pub next_of : {whole : Bits} {tried : ℕ} {old new : Feeding} {answer : Result Fed DecodeError}
    → FeedsPlainly whole tried (completed whole old) (completed whole new) answer → KnowsGap whole new
    → LieIn whole new.dropped new.finished new.kept → FeedsNext whole tried old new answer
next_of {whole} {tried} {old} {new} plainly known lie = record {
  plainly = plainly;
  stands = record {
    fit = plainly.stands.fit;
    lie = lie;
    stands = subst (λ (n : ℕ). StandsIn new.begun (tried + plainly.extra) new.rows new.ctx (record { bits = whole; place = n }))
        (omega arith) plainly.stands.stands;
    known = known;
  };
}

-- ---- With more bits before

module _ {whole : Bits} {tried : ℕ} {old new : Feeding} {answer : Result Fed DecodeError}
    (next : FeedsPlainly whole tried old new answer) (bits more : Bits) (from to : ℕ)
    (place_old : from ≡ old.dropped + old.place) (place_new : to ≡ new.dropped + new.place)
    (here_old : drop from bits ≡ drop old.place old.kept) (here_new : drop to more ≡ drop new.place new.kept)
    (long_new : length more ≡ new.dropped + length new.kept) (within_new : new.place ≤ length new.kept)
    (same_dropped : new.dropped ≡ old.dropped)
    (stood : IsPlainFeedOf whole (tried + next.extra) (record new { kept = more; dropped = 0; place = to })) where
  abbrev full_old : Feeding
  full_old = record old { kept = bits; dropped = 0; place = from }

  abbrev full_new : Feeding
  full_new = record new { kept = more; dropped = 0; place = to }

  both : (P : RowsRead → RowsRead → Type 0) → P (fed_over whole old) (fed_over whole new)
      → P (fed_over whole full_old) (fed_over whole full_new)
  both P known =
      subst (λ (n : ℕ). P (seen old.rows old.ctx (record { bits = whole; place = n })) (fed_over whole full_new))
      (omega (arith, place_old))
      (subst (λ (n : ℕ). P (fed_over whole old) (seen new.rows new.ctx (record { bits = whole; place = n })))
      (omega (arith, place_new)) known)

  eol_there : {to : ℕ} → PassesEol (drop old.place old.kept) (old.dropped + old.place) to
      → PassesEol (drop full_old.place full_old.kept) (full_old.dropped + full_old.place) to
  eol_there eol = record {
    fill = eol.fill;
    after = eol.after;
    place = here_old ∙ eol.place;
    passed = omega (arith, eol.passed, place_old);
  }

  eol_to : {to : ℕ} → to ≡ new.dropped + new.place
      → PassesEol (drop old.place old.kept) (old.dropped + old.place) (new.dropped + new.place)
      → PassesEol (drop full_old.place full_old.kept) (full_old.dropped + full_old.place) to
  eol_to is eol = record {
    fill = eol.fill;
    after = eol.after;
    place = here_old ∙ eol.place;
    passed = omega (arith, eol.passed, place_old, is);
  }

  new_there : 0 + full_new.place ≡ new.dropped + new.place
  new_there = omega (arith, place_new)

  framed_work : LineWork full_old full_new answer next.line_extra
  framed_work =
      let work = next.line_work in
      record {
        goes_on = work.goes_on;
        begins = λ e unkept. omega (arith, work.begins e unkept, ap length here_new);
        read = λ other. omega (arith, work.read other, ap length here_old);
        at_once = work.at_once;
        some = work.some;
        unread = λ e unkept still. elim (work.unread e unkept still) [
          | inl nothing ↦ inl nothing
          | inr first ↦ inr (record {
            untried = λ same. first.untried (same ∙ new_there);
            tried = first.tried ∙ sym new_there;
            at_line = first.at_line;
          })
        ];
        failed = λ e. omega (arith, work.failed e, ap length here_old, ap length here_new);
        failed_at_once = λ e unkept. omega (arith, work.failed_at_once e unkept, ap length here_new);
      }

  framed_draws : DrawsRow old new → DrawsRow full_old full_new
  framed_draws row = record {
    start = row.start;
    onward = omega (arith, row.onward, place_old);
    past_eol = λ more begun away sought. eol_there (row.past_eol more begun away sought);
    most = omega (arith, row.most, long_new);
    drawn = elim row.drawn [
      | inl passed ↦ inl (omega (arith, passed, place_new))
      | inr eol ↦ inr (
        eol.0,
        λ more fill after is. omega (
          arith,
          eol.1 more fill after (ap (λ (b : Bits). b ++ more) (sym here_new) ∙ is),
          place_new,
        ),
      )
    ];
  }

  framed_goes_on : CallGoesOn full_old full_new answer next.gap next.extra
  framed_goes_on =
      let goes = next.goes_on in
      record {
        counts = goes.counts;
        stored = goes.stored;
        draws = λ e. framed_draws (goes.draws e);
        onward = λ unended. omega (arith, goes.onward unended, place_old, place_new);
        near = λ begun more unended. omega (arith, goes.near begun more unended, place_old, place_new);
        last = λ begun finished unended. omega (arith, goes.last begun finished unended, place_old, place_new);
        zeros = goes.zeros;
        stays = λ left at. omega (arith, goes.stays left at, same_dropped, place_old, place_new);
        row_is = λ e at. subst (λ (b : Bits). row_of_line old.ctx.held.settings old.ctx.held.has_eols b
            (line_here old.ctx.held.settings old.ctx.held.reference b)
            ≡ Ok (new.ctx.held.reference, drop full_new.place full_new.kept)) (sym here_old)
            (subst (λ (b : Bits). row_of_line old.ctx.held.settings old.ctx.held.has_eols (drop old.place old.kept)
            (line_here old.ctx.held.settings old.ctx.held.reference (drop old.place old.kept))
            ≡ Ok (new.ctx.held.reference, b)) (sym here_new) (goes.row_is e at));
        past_eol = λ more begun away sought unended waits.
            eol_to new_there (goes.past_eol more begun away sought unended waits);
        after = goes.after;
        tried = λ left at. elim (goes.tried left at) [
          | inl same ↦ inl same
          | inr there ↦ inr (there ∙ sym new_there)
        ];
        sought = goes.sought;
        waits = λ e away. let w = goes.waits e away in (omega (arith, w.0, same_dropped, place_old, place_new), w.1);
        within = omega (arith, place_new, long_new, within_new);
        paid = omega (arith, goes.paid, ap length here_new);
        unkept = goes.unkept;
        unbegun = goes.unbegun;
        space = goes.space;
      }

  pub moved : FeedsPlainly whole tried full_old full_new answer
  moved = record {
    row = λ e. both (λ (a b : RowsRead). ReadsNext a b (Ok true)) (next.row e);
    end = λ e. both (λ (a b : RowsRead). ReadsNext a b (Ok false)) (next.end e);
    fault = IfErr-weaker answer _ _ (λ e known fault. both (λ (a b : RowsRead). ReadsNext a b (Err e)) (known fault)) next.fault;
    none = λ left. both StaysThere (next.none left);
    unsettled = λ e. (
      (next.unsettled e).0,
      subst (IsOpenAt new.begun new.rows.stand new.ctx) (sym here_new) (next.unsettled e).1,
    );
    memory = λ e. subst (λ (b : Bits). HasBlack (front_of (line_here new.ctx.held.settings new.ctx.held.reference b)))
        (sym here_new) (next.memory e);
    paints = next.paints;
    extra = next.extra;
    stands = stood;
    gap = next.gap;
    line_extra = next.line_extra;
    extra_is = next.extra_is;
    looks = subst (λ (b : Bits). LooksAhead (old.begun && is_at_line old.rows.stand) old.looked b next.gap) (sym here_old)
        next.looks;
    looked = next.looked;
    line_work = framed_work;
    goes_on = framed_goes_on;
  }

-- ---- At a line

pub framed : {whole : Bits} {tried : ℕ} {old new : Feeding} {answer : Result Fed DecodeError}
    (next : FeedsPlainly whole tried old new answer) (fed : IsFeedOf whole tried old)
    (now : IsFeedOf whole (tried + next.extra) new) (within : old.place ≤ length old.kept)
    (within_new : new.place ≤ length new.kept) (none : old.gap.passed ≡ 0) (none_new : new.gap.passed ≡ 0)
    (keeps : KeepsBits old new) → FeedsPlainly whole tried (completed whole old) (completed whole new) answer
framed {whole} {tried} {old} {new} next fed now within within_new none none_new keeps =
    moved next (take (fed_bits old) whole) (take (fed_bits new) whole) (offset_of old) (offset_of new) (omega (arith, none))
    (omega (arith, none_new))
    (full_gap fed within
    ∙ ap (λ (b : Bits). b ++ drop old.place old.kept) (no_bits fed.known.gone (omega (arith, fed.known.long, none))))
    (full_gap now within_new
    ∙ ap (λ (b : Bits). b ++ drop new.place new.kept) (no_bits now.known.gone (omega (arith, now.known.long, none_new))))
    (full_long now) within_new keeps.dropped (full_is_plain now)
