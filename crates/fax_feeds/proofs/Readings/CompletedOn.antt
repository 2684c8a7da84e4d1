-- A feed with all bits of the data that were fed, where more are.
use Rattle.fax_feeds.proofs.Names.{◌≡◌, ◌∙◌, ◌+◌, ◌-◌, ◌≤◌, ◌++◌, ap, sym, subst}
use Rattle.fax_feeds.proofs.Names.{arith, length, drop, take, ℕ, true, refl}
use Rattle.std.specs.Prelude.{if◌then◌else◌}
use Rattle.fax_feeds.proofs.Names.{Bool, false, Bits, length-append, length-drop, append_assoc}
use Rattle.std.proofs.Math.Seq.{drop-length, length-take-le}
use Rattle.std.proofs.lemmas.List.{drop-append-le, take-append-drop}
use Rattle.fax_feeds.specs.RowFeeds.{Feeding, HoldsMore, IsFeedOf, IsPlainFeedOf, KeepsBits, StandsIn, completed, fed_bits}
use Rattle.fax_feeds.specs.RowFeeds.{offset_of, zeros_left}
use Rattle.fax_feeds.specs.declared.counted_gaps.GapSoFar.{GapSoFar}
use Rattle.fax_feeds.proofs.Readings.FeedAccount.{KnowsMore}
use Rattle.fax_feeds.proofs.Readings.FeedsCompleted.{take_length}
use Rattle.fax_feeds.proofs.Readings.RowsFed.{from_place}

-- the bits up to an offset, and some more
take_past : (whole first rest : Bits) (at : ℕ) → at ≤ length whole → drop at whole ≡ first ++ rest
    → take (at + length first) whole ≡ take at whole ++ first
take_past whole first rest at within is =
    let long : at + length first ≡ length (take at whole ++ first) =
    omega (arith, length-append (take at whole) first, length-take-le at whole within) in
    let all : whole ≡ (take at whole ++ first) ++ rest =
    sym (take-append-drop at whole) ∙ ap (λ (b : Bits). take at whole ++ b) is ∙ sym (append_assoc (take at whole) first rest) in
    ap (λ (n : ℕ). take n whole) long ∙ ap (take (length (take at whole ++ first))) all
    ∙ take_length (take at whole ++ first) rest

module _ {whole : Bits} {tried : ℕ} {next : Bits} {old new : Feeding} (holds : HoldsMore next old new)
    (was : IsFeedOf whole tried old) (is : IsFeedOf whole tried new) where
  abbrev at : ℕ
  at = old.dropped + old.place

  new_within : new.place ≤ length new.kept
  new_within = omega (arith, holds.within, holds.fed, holds.place)

  here_old : drop at whole ≡ drop old.place old.kept ++ was.lie.more
  here_old = from_place was.lie old.place holds.within

  here_new : drop at whole ≡ (drop old.place old.kept ++ next) ++ is.lie.more
  here_new = ap (λ (n : ℕ). drop n whole) (sym holds.place) ∙ from_place is.lie new.place new_within
      ∙ ap (λ (b : Bits). b ++ is.lie.more) holds.unread

  at_within : at ≤ length whole
  at_within = omega (
    arith,
    was.lie.within,
    holds.within,
    ap length was.lie.bits,
    length-append old.kept was.lie.more,
    length-drop old.dropped whole,
  )

  before : take (fed_bits old) whole ≡ take at whole ++ drop old.place old.kept
  before = ap (λ (n : ℕ). take n whole) (omega (arith, holds.within, length-drop old.place old.kept))
      ∙ take_past whole (drop old.place old.kept) was.lie.more at at_within here_old

  -- the bits that were fed then, and these
  all_fed : take (fed_bits new) whole ≡ take (fed_bits old) whole ++ next
  all_fed =
      let long : fed_bits new ≡ at + length (drop old.place old.kept ++ next) = omega (
        arith,
        holds.fed,
        holds.within,
        length-drop old.place old.kept,
        length-append (drop old.place old.kept) next,
      ) in
      ap (λ (n : ℕ). take n whole) long ∙ take_past whole (drop old.place old.kept ++ next) is.lie.more at at_within here_new
      ∙ sym (append_assoc (take at whole) (drop old.place old.kept) next) ∙ ap (λ (b : Bits). b ++ next) (sym before)

  -- no more bits were counted than the data has from there on
  offset_most : offset_of old ≤ fed_bits old
  offset_most = omega (arith, holds.within)

  next_there : drop (offset_of old) (take (fed_bits new) whole) ≡ drop (offset_of old) (take (fed_bits old) whole) ++ next
  next_there = ap (drop (offset_of old)) all_fed ∙ drop-append-le (offset_of old) (take (fed_bits old) whole) next
      (omega (arith, offset_most, length-take-le (fed_bits old) whole fed_most))
    where
      fed_most : fed_bits old ≤ length whole
      fed_most = omega (
        arith,
        was.lie.within,
        ap length was.lie.bits,
        length-append old.kept was.lie.more,
        length-drop old.dropped whole,
      )

  same_offset : offset_of new ≡ offset_of old
  same_offset = omega (arith, holds.place, ap (λ (g : GapSoFar). g.passed) holds.gap)

  pub knows_more : KnowsMore next (completed whole old) (completed whole new)
  knows_more = record {
    unread = ap (λ (n : ℕ). drop n (take (fed_bits new) whole)) same_offset ∙ next_there;
    fed = omega (arith, ap length all_fed, length-append (take (fed_bits old) whole) next);
    place = omega (arith, same_offset);
    begun = holds.begun;
    looked = holds.looked;
    gap = holds.gap;
    part = holds.part;
    line_read = holds.line_read;
    tried_at = holds.tried_at;
    reading = holds.reading;
  }

-- ---- A feed with all bits that were fed

module _ {whole : Bits} {tried : ℕ} {feed : Feeding} (is : IsFeedOf whole tried feed) where
  all_fed_there : whole ≡ take (fed_bits feed) whole ++ is.lie.more
  all_fed_there =
      let last : drop (fed_bits feed) whole ≡ is.lie.more =
      from_place is.lie (length feed.kept) (omega arith) ∙ ap (λ (b : Bits). b ++ is.lie.more) (drop-length feed.kept) in
      sym (take-append-drop (fed_bits feed) whole) ∙ ap (λ (b : Bits). take (fed_bits feed) whole ++ b) last

  fed_long : length (take (fed_bits feed) whole) ≡ fed_bits feed
  fed_long = length-take-le (fed_bits feed) whole (omega (
    arith,
    is.lie.within,
    ap length is.lie.bits,
    length-append feed.kept is.lie.more,
    length-drop feed.dropped whole,
  ))

  -- It is a reading of the data.
  pub completed_fed : IsPlainFeedOf whole tried (completed whole feed)
  completed_fed = record {
    fit = is.fit;
    lie = record { within = omega arith; more = is.lie.more; bits = all_fed_there; can_come = is.lie.can_come };
    stands = subst (λ (n : ℕ). StandsIn feed.begun tried feed.rows feed.ctx (record { bits = whole; place = n })) (omega arith)
        is.stands;
  }

  -- The zeros that are left are among them.
  zeros_among : feed.gap.at_zeros ≡ true → feed.gap.passed ≤ fed_bits feed - offset_of feed
  zeros_among e =
      let none = is.lie.can_come.none (is.known.zeros e).0 in
      omega (
        arith,
        ap length is.known.are,
        is.known.long,
        length-append is.known.gone (drop (feed.dropped + feed.place) whole),
        length-drop (offset_of feed) whole,
        length-drop (feed.dropped + feed.place) whole,
        ap length all_fed_there,
        length-append (take (fed_bits feed) whole) is.lie.more,
        ap length none,
        fed_long,
      )

  pub zeros_known : zeros_left (completed whole feed) ≤ length (drop (completed whole feed).place (completed whole feed).kept)
  zeros_known = by_zeros feed.gap.at_zeros refl
    where
      by_zeros : (b : Bool) → feed.gap.at_zeros ≡ b → (if b then feed.gap.passed else 0)
          ≤ length (drop (offset_of feed) (take (fed_bits feed) whole))
      by_zeros true e = omega (arith, zeros_among e, length-drop (offset_of feed) (take (fed_bits feed) whole), fed_long)
      by_zeros false e = omega arith

-- No call that keeps the bits changes those that were fed.
pub keeps_completed : (whole : Bits) {old new : Feeding} → KeepsBits old new
    → KeepsBits (completed whole old) (completed whole new)
keeps_completed whole {old} {new} keeps =
    let same : fed_bits new ≡ fed_bits old = omega (arith, keeps.dropped, ap length keeps.kept) in
    record {
      order = keeps.order;
      finished = keeps.finished;
      kept = ap (λ (n : ℕ). take n whole) same;
      dropped = refl;
      room = keeps.room;
    }
