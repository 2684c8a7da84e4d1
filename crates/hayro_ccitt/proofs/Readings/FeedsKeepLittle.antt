-- What a feed keeps of the data is needed, and no more than a line or a gap needs, a piece, and seven bits.
use Rattle.hayro_ccitt.proofs.Names.{common_steps}
use Rattle.hayro_ccitt.proofs.Names.{◌≡◌, ◌∙◌, ◌+◌, ◌*◌, ◌≤◌, ◌++◌, ◌∷◌, [], ℕ, Bool, true, false, Option, None, Some}
use Rattle.hayro_ccitt.proofs.Names.{cases_lt, inl, inr, max, misses_eol}
use Rattle.fax_rows.specs.RowsRead.{is_at_line}
use Rattle.hayro_ccitt.proofs.Names.{Result, Ok, Err, refl, sym, ap, subst, arith, drop, length, length-append, length-drop}
use Rattle.hayro_ccitt.proofs.Names.{false≢true, Bits, Context, DecodeError, DecodeSettings, Held, Row}
use Rattle.hayro_ccitt.proofs.Names.{Stand, AtLine, AfterRow, AtEnd, AtFault, ReaderStands, StandsAtLine, StandsAfterRow, ended}
use Rattle.hayro_ccitt.proofs.Names.{line_here}
use Rattle.hayro_ccitt.specs.Continuations.{is_short, line_before}
use Rattle.fax_feeds.specs.FeedsKeepLittle.{AreNeeded, AreOpenFor, FeedsKeepLittle, IsFedInTurn}
use Rattle.hayro_ccitt.specs.GapsContinued.{gap_is_settled}
use Rattle.hayro_ccitt.specs.Lines.{Line}
use Rattle.fax_feeds.specs.RowFeeds.{CountsRow, Feeding, FeedsNext, FeedsPlainly, FeedsRow, HoldsMore, IsFeedOf, IsOpenAt}
use Rattle.fax_feeds.specs.RowFeeds.{IsPlainFeedOf, LacksEol, StandsIn, fed_end, offset_of}
use Rattle.fax_feeds.proofs.Readings.FeedsCompleted.{full_gap}
use Rattle.fax_feeds.specs.declared.row_feed.Fed.{Fed}
use Rattle.fax_feeds.proofs.Readings.OpenBits.{open_bits_are_read, open_front_before, open_gap_before}
use Rattle.fax_feeds.proofs.Readings.RowsFed.{from_place}
use Rattle.hayro_ccitt.proofs.Readings.RowsOfFeeds.{none_taken}
use Rattle.fax_reading.proofs.Continuations.LinesContinued.{line_settled}

-- ---- Each beginning of bits that leave something open leaves it open

still_settled : (more : Bits) (line : Line) → is_short line ≡ false → is_short (line_before more line) ≡ false
still_settled more (Line.whole row rest) is = refl
still_settled more (Line.broken front fault) is = is

open_line_before : (settings : DecodeSettings) (reference : Row) (first rest : Bits)
    → is_short (line_here settings reference (first ++ rest)) ≡ true → is_short (line_here settings reference first) ≡ true
open_line_before settings reference first rest waits =
    grind (arith, common_steps, false≢true, line_settled, settings, still_settled)

open_before_it : (begun : Bool) (stand : Stand) (ctx : Context) (first rest : Bits)
    → IsOpenAt begun stand ctx (first ++ rest) → IsOpenAt begun stand ctx first
open_before_it false stand ctx first rest waits =
    open_front_before ctx.held.settings first rest waits
open_before_it true AtLine ctx first rest waits = open_line_before ctx.held.settings ctx.held.reference first rest waits
open_before_it true AfterRow ctx first rest waits =
    open_gap_before ctx.held.settings ctx.held.taken ctx.held.has_eols first rest waits
open_before_it true AtEnd ctx first rest waits = absurd waits
open_before_it true (AtFault error) ctx first rest waits = absurd waits

kept_is_needed : {whole : Bits} {tried : ℕ} {old new : Feeding} → FeedsPlainly whole tried old new (Ok Fed.NeedsMore)
    → AreNeeded new.begun new.rows.stand new.ctx (drop new.place new.kept)
kept_is_needed {new = new} next first rest is = open_before_it new.begun new.rows.stand new.ctx first rest
    (subst (IsOpenAt new.begun new.rows.stand new.ctx) is (next.unsettled refl).1)

-- ---- No more is open than of a line or a gap of the data

module _ {whole : Bits} {tried most : ℕ} {feed : Feeding} (stands : IsPlainFeedOf whole tried feed)
    (known : AreOpenFor most feed.ctx.held.taken feed.ctx.held.settings whole)
    (within : feed.place ≤ length feed.kept) where
  abbrev settings : DecodeSettings
  settings = feed.ctx.held.settings

  abbrev bits_next : Bits
  bits_next = drop feed.place feed.kept

  there : drop (feed.dropped + feed.place) whole ≡ bits_next ++ stands.lie.more
  there = from_place stands.lie feed.place within

  line_most : StandsAtLine settings whole feed.ctx.held (drop (feed.dropped + feed.place) whole)
      → is_short (line_here settings feed.ctx.held.reference bits_next) ≡ true → length bits_next ≤ most
  line_most at waits = known.line at.so_far bits_next stands.lie.more
      (record { first = at.first; begins = at.begins; reaches = at.reaches })
      (omega (arith, ap (λ (h : Held). h.taken) at.held_is))
      (sym at.rest_is ∙ there)
      (ap (λ (h : Held). is_short (line_here settings h.reference bits_next)) (sym at.held_is) ∙ waits)

  gap_most : StandsAfterRow settings whole feed.ctx.held (drop (feed.dropped + feed.place) whole)
      → gap_is_settled settings feed.ctx.held.taken feed.ctx.held.has_eols bits_next ≡ false
      → LacksEol feed.ctx.held (drop (feed.dropped + feed.place) whole) → length bits_next ≤ most
  gap_most at waits misses =
      let taken : feed.ctx.held.taken ≡ length at.so_far.rows + 1 =
      ap (λ (h : Held). h.taken) at.held_is ∙ length-append at.so_far.rows (at.row ∷ []) in
      known.gap at.so_far at.row (drop (feed.dropped + feed.place) whole) bits_next stands.lie.more
      (record { first = at.first; begins = at.begins; reaches = at.reaches }) (omega (arith, taken)) at.row_is there
      (ap (λ (n : ℕ). misses_eol settings n at.so_far.has_eols (drop (feed.dropped + feed.place) whole)) (sym taken)
      ∙ ap (λ (h : Held). misses_eol settings feed.ctx.held.taken h.has_eols (drop (feed.dropped + feed.place) whole))
      (sym at.held_is) ∙ misses)
      (ap (λ (n : ℕ). gap_is_settled settings n at.so_far.has_eols bits_next) (sym taken)
      ∙ ap (λ (h : Held). gap_is_settled settings feed.ctx.held.taken h.has_eols bits_next) (sym at.held_is) ∙ waits)

  by_stand : (stand : Stand) → feed.rows.stand ≡ stand → IsOpenAt true stand feed.ctx bits_next
      → ReaderStands stand settings whole feed.ctx.held (feed.dropped + feed.place)
      → (is_at_line stand ≡ false → LacksEol feed.ctx.held (drop (feed.dropped + feed.place) whole)) → length bits_next ≤ most
  by_stand AtLine is waits at misses = line_most at waits
  by_stand AfterRow is waits at misses = gap_most at waits (misses refl)
  by_stand AtEnd is waits at misses = absurd waits
  by_stand (AtFault error) is waits at misses = absurd waits

  by_begun : (begun : Bool) → begun ≡ true → IsOpenAt begun feed.rows.stand feed.ctx bits_next
      → StandsIn begun tried feed.rows feed.ctx (record { bits = whole; place = feed.dropped + feed.place })
      → (is_at_line feed.rows.stand ≡ false → LacksEol feed.ctx.held (drop (feed.dropped + feed.place) whole))
      → length bits_next ≤ most
  by_begun false is waits at misses = absurd (false≢true is)
  by_begun true is waits at misses = by_stand feed.rows.stand refl waits at.0 misses

  open_most : feed.begun ≡ true → IsOpenAt feed.begun feed.rows.stand feed.ctx bits_next
      → (is_at_line feed.rows.stand ≡ false → LacksEol feed.ctx.held (drop (feed.dropped + feed.place) whole))
      → length bits_next ≤ most
  open_most begun waits misses = by_begun feed.begun begun waits stands.stands misses

-- ---- What is called

-- how a call leaves a reading of some data: it is one still, of no fewer rows
record GoesOn (whole : Bits) (old new : Feeding) : Type 0 where
  pub tried : ℕ
  pub stands : IsFeedOf whole tried new
  pub onward : old.ctx.held.taken ≤ new.ctx.held.taken

rows_onward : {whole : Bits} {tried : ℕ} {old new : Feeding} (answer : Result Fed DecodeError)
    → FeedsNext whole tried old new answer → CountsRow old new answer → old.ctx.held.taken ≤ new.ctx.held.taken
rows_onward (Ok Fed.Row) next counts = omega (arith, (counts.taken refl).0)
rows_onward (Ok Fed.NeedsMore) next counts = omega (arith, none_taken (Ok Fed.NeedsMore) (λ e. cc) next)
rows_onward (Ok Fed.End) next counts = omega (arith, none_taken (Ok Fed.End) (λ e. cc) next)
rows_onward (Err error) next counts = omega (arith, none_taken (Err error) (λ e. cc) next)

call_goes_on : {whole : Bits} {tried : ℕ} {old new : Feeding} (answer : Result Fed DecodeError) → FeedsRow old new answer
    → IsFeedOf whole tried old → GoesOn whole old new
call_goes_on {whole} {tried} {old} {new} answer call stands = by_end (ended old.rows.stand) refl
  where
    by_end : (end : Option (Result (Unit {0}) DecodeError)) → ended old.rows.stand ≡ end → GoesOn whole old new
    by_end None unended =
        let next = call.reads whole tried unended stands in
        record { tried = tried + next.plainly.extra; stands = next.stands; onward = rows_onward answer next call.counts }
    by_end (Some end) over =
        let same = (call.over end over).0 in
        record {
          tried = tried;
          stands = subst (IsFeedOf whole tried) (sym same) stands;
          onward = omega (arith, ap (λ (f : Feeding). f.ctx.held.taken) same);
        }

never_ended : (end : Result (Unit {0}) DecodeError) → Ok Fed.NeedsMore ≡ fed_end end → ⊥
never_ended (Ok x) e = cc
never_ended (Err error) e = cc

unended : {old new : Feeding} → FeedsRow old new (Ok Fed.NeedsMore) → ended old.rows.stand ≡ None
unended {old} {new} call = by_end (ended old.rows.stand) refl
  where
    by_end : (end : Option (Result (Unit {0}) DecodeError)) → ended old.rows.stand ≡ end → end ≡ None
    by_end None is = refl
    by_end (Some end) over = absurd (never_ended end (call.over end over).1)

-- few bits are kept from the next one on where more data is needed
waiting_most : {whole : Bits} {tried most : ℕ} {old mid : Feeding} → FeedsNext whole tried old mid (Ok Fed.NeedsMore)
    → CountsRow old mid (Ok Fed.NeedsMore) → AreOpenFor most mid.ctx.held.taken mid.ctx.held.settings whole
    → mid.place ≤ length mid.kept → length (drop mid.place mid.kept) ≤ max most 16
waiting_most {whole} {tried} {most} {old} {mid} needs counts known within = by_stand (is_at_line mid.rows.stand) refl
  where
    open_bits : mid.begun ≡ true → (is_at_line mid.rows.stand ≡ false → LacksEol mid.ctx.held (drop (offset_of mid) whole))
        → length (drop mid.place mid.kept) ≤ max most 16
    open_bits begun misses =
        let place_is : 0 + offset_of mid ≡ offset_of mid = omega arith in
        let few = open_most needs.plainly.stands known needs.plainly.goes_on.within begun (needs.plainly.unsettled refl).1
        (λ away. subst (λ (n : ℕ). LacksEol mid.ctx.held (drop n whole)) (sym place_is) (misses away)) in
        omega (
          arith,
          few,
          ap length (full_gap needs.stands within),
          length-append needs.stands.known.gone (drop mid.place mid.kept),
        )

    begun_at_line : (begun : Bool) → mid.begun ≡ begun → is_at_line mid.rows.stand ≡ true → begun ≡ true
    begun_at_line true is line = refl
    begun_at_line false is line = absurd (false≢true (sym (needs.plainly.goes_on.unbegun is).2 ∙ line))

    by_stand : (line : Bool) → is_at_line mid.rows.stand ≡ line → length (drop mid.place mid.kept) ≤ max most 16
    by_stand true line =
        open_bits (begun_at_line mid.begun refl line) (λ away. absurd (false≢true (sym away ∙ line)))
    by_stand false away = elim (cases_lt 0 mid.gap.look.bits) [
      | inl some ↦ let missed = needs.stands.known.missed some in open_bits missed.0 (λ e. missed.1)
      | inr none ↦ omega (arith, counts.few refl away (omega (arith, none)), length-drop mid.place mid.kept)
    ]

-- what is kept after a piece
fed_most : {next : Bits} {old new : Feeding} → HoldsMore next old new
    → length new.kept ≤ length (drop old.place old.kept) + length next + 7
fed_most {next} {old} {new} holds = grind (arith, common_steps, length-append, length-drop)

module _ (whole : Bits) (most piece : ℕ) where
  abbrev KnownFor : ℕ → DecodeSettings → Type 0
  KnownFor taken settings = AreOpenFor most taken settings whole

  -- the bound of what is kept, and of the room for it
  abbrev limit : ℕ
  limit = max most 16 + piece + 7

  abbrev AreWithin : Bits → ℕ → Type 0
  AreWithin kept room = (length kept ≤ limit) × (8 * room ≤ 2 * limit)

  -- what is known of a feed: of the data, and that it keeps few bits
  record KeepsFew (feed : Feeding) : Type 0 where
    pub tried : ℕ
    pub stands : IsFeedOf whole tried feed
    pub few : KnownFor feed.ctx.held.taken feed.ctx.held.settings → AreWithin feed.kept feed.room

  -- bits are fed, of which no more are held then
  holds_within : {next : Bits} {old new : Feeding} → HoldsMore next old new → AreWithin old.kept old.room
      → length new.kept ≤ limit → AreWithin new.kept new.room
  holds_within holds before few = (few, omega (arith, few, holds.room, before.1))

  -- the same bits are held
  same_within : {was kept : Bits} {before room : ℕ} → kept ≡ was → room ≡ before → AreWithin was before
      → AreWithin kept room
  same_within same still within = (omega (arith, within.0, ap length same), omega (arith, within.1, still))

  -- what is known of later lines is of those before
  known_before : {m n : ℕ} {s t : DecodeSettings} → m ≤ n → s ≡ t → KnownFor n s → KnownFor m t
  known_before {m} {n} {s} {t} le is known = subst (KnownFor m) is (record {
    line = λ turn first rest there among. known.line turn first rest there (omega (arith, among, le));
    gap = λ turn row after first rest there among. known.gap turn row after first rest there (omega (arith, among, le));
  })

  keeps_few : (feed : Feeding) → IsFedInTurn whole piece feed → KeepsFew feed
  keeps_few feed (IsFedInTurn.opens tried stands none no_room) =
      record { tried = tried; stands = stands; few = λ known. (omega (arith, ap length none), omega (arith, no_room)) }
  keeps_few feed (IsFedInTurn.begins {old = old} next was none holds stays short) =
      let before = keeps_few old was in
      record {
        tried = before.tried;
        stands = stays before.tried before.stands;
        few = λ known. grind (arith, common_steps, holds_within, KnownFor, fed_most, length-drop);
      }
  keeps_few feed (IsFedInTurn.reads {old = old} answer was call) =
      let before = keeps_few old was in
      let goes = call_goes_on answer call before.stands in
      record {
        tried = goes.tried;
        stands = goes.stands;
        few = λ known. same_within call.keeps.kept call.keeps.room
            (before.few (known_before goes.onward call.counts.settings known));
      }
  keeps_few feed (IsFedInTurn.feeds {old = old} {mid = mid} next was call holds stays short) =
      let before = keeps_few old was in
      let needs = call.reads whole before.tried (unended call) before.stands in
      record {
        tried = before.tried + needs.plainly.extra;
        stands = stays (before.tried + needs.plainly.extra) needs.stands;
        few = λ known.
            let known_mid = subst (λ (c : Context). KnownFor c.held.taken c.held.settings) holds.reading.0 known in
            holds_within holds
            (same_within call.keeps.kept call.keeps.room (before.few (known_before
            (rows_onward (Ok Fed.NeedsMore) needs call.counts) call.counts.settings known_mid)))
            (omega (arith, short, fed_most holds, waiting_most needs call.counts known_mid holds.within));
      }
  keeps_few feed (IsFedInTurn.finishes {old = old} was is stays) =
      let before = keeps_few old was in
      record {
        tried = before.tried;
        stands = stays before.tried before.stands;
        few = λ known. same_within (ap (λ (f : Feeding). f.kept) is) (ap (λ (f : Feeding). f.room) is)
            (before.few (subst (λ (c : Context). KnownFor c.held.taken c.held.settings) (ap (λ (f : Feeding). f.ctx) is) known));
      }

-- the law
pub feeds_keep_little : FeedsKeepLittle
feeds_keep_little = record {
  needed = λ whole tried old new next. kept_is_needed next.plainly;
  read = open_bits_are_read;
  kept = λ whole most piece feed turn. (keeps_few whole most piece feed turn).few;
}
