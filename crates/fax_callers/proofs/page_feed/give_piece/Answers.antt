use Rattle.hayro_ccitt.proofs.Names.{◌≡◌, ◌≢◌, ◌∙◌, ◌+◌, ◌*◌, ◌<◌, ◌≤◌, ◌++◌, ℕ, List, Some, Err, arith, ap, sym, subst}
use Rattle.hayro_ccitt.proofs.Names.{rules, drop, length, take, inl, inr, Context, DecodeSettings, OutOfMemory, ended, true}
use Rattle.hayro_ccitt.proofs.Names.{false, is_some}
use Rattle.std.specs.Prelude.{◌^◌}
use Rattle.std.specs.Option.{unwrap_or}
use Rattle.std.proofs.lemmas.List.{length-take-le}
use Rattle.std.proofs.Math.Seq.{take-length}
use Rattle.hayro_ccitt.specs.RowFeeds.{Feeding, fed_bits}
use Rattle.hayro_ccitt.specs.RowState.{RowState}
use Rattle.fax_callers.specs.PageFeeds.{IsPageReading}
use Rattle.fax_callers.specs.Rtc.{GoesOnAfter, page_size}
use Rattle.fax_callers.proofs.PageReadings.{bytes_are, count_within, front_length, kept_page, longer, longer_within, none_all}
use Rattle.fax_callers.proofs.PageReadings.{none_is}
use Rattle.fax_callers.proofs.PageReadings.{page_finished, page_goes_on, reads_on, some_is}
use Rattle.fax_callers.proofs.PagesPaid.{finished_paid, given_paid, kept_paid, paid_more}
use Rattle.fax_callers.proofs.page_feed.give_piece.Goals.{After-feed}
use Rattle.fax_callers.proofs.page_feed.give_piece.Goals as goal

-- the number of bytes that are fed
module _ (c : After-feed) where
  abbrev n : ℕ
  n = c.unwrap_or-count.result

  abbrev size : ℕ
  size = length c.args.piece.now

  n_is : n ≡ unwrap_or c.find_page_end-end.result size
  n_is = c.unwrap_or-count.ensures

  within : n ≤ size
  within = count_within _ c.find_page_end-end.result n size n_is c.find_page_end-end.ensures.found

  piece_length : length (take n c.args.piece.now) ≡ n
  piece_length = length-take-le n c.args.piece.now within

  -- the page goes on after all of them
  after : (bytes rest : List ℕ) (given : ℕ) (page : IsPageReading c.args.order bytes given c.args.seen.now c.args.page.now)
      → drop given bytes ≡ c.args.piece.now ++ rest → n ≡ size
      → ((front : List ℕ) → GoesOnAfter c.settings.result.encoding c.args.order front c.args.seen.now
      → GoesOnAfter c.settings.result.encoding c.args.order (front ++ c.args.piece.now) c.find_page_end-end.new.seen)
      → GoesOnAfter c.args.page.now.ctx.held.settings.encoding c.args.order (take (given + n) bytes) c.find_page_end-end.new.seen
  after bytes rest given page split all passes =
      let whole : take (given + n) bytes ≡ take given bytes ++ c.args.piece.now
      = longer bytes c.args.piece.now rest given page.within split n within
      ∙ ap (λ (k : ℕ). take given bytes ++ take k c.args.piece.now) all
      ∙ ap (λ (l : List ℕ). take given bytes ++ l) (take-length c.args.piece.now) in
      subst (λ (l : List ℕ). GoesOnAfter c.args.page.now.ctx.held.settings.encoding c.args.order l c.find_page_end-end.new.seen)
      (sym whole) (subst (λ (s : DecodeSettings). GoesOnAfter s.encoding c.args.order (take given bytes ++ c.args.piece.now)
      c.find_page_end-end.new.seen) c.settings.ensures (passes (take given bytes)
      (subst (λ (s : DecodeSettings). GoesOnAfter s.encoding c.args.order (take given bytes) c.args.seen.now)
      (sym c.settings.ensures) (page.sought c.requires.unfinished))))

pub returns-in_err-feed : goal.returns-in_err-feed
returns-in_err-feed c =
    let at = (goal.at.returns-in_err-feed c).After-feed in
    let is : c.from_residual.result ≡ Err c.in_err-feed.field-0.0 = search rules in
    rw is (record {
      within = tt;
      kept = omega (arith, c.in_err-feed.ensures.kept.fed);
      ctx = c.in_err-feed.ensures.kept.reading.0;
      rows = c.in_err-feed.ensures.kept.reading.1;
      given = λ bytes rest given page split. tt;
      failed = λ bytes rest given page split. (
        elim c.in_err-feed.ensures.only [
          | inl memory ↦ memory
          | inr long ↦ absurd (omega (
            arith,
            c.in_err-feed.ensures.too_long.0 (ap Err long),
            page.counted,
            page.fit,
            piece_length at,
            longer_within bytes c.args.piece.now rest given page.within split (n at) (within at),
          ))
        ],
        kept_page page (λ whole tried feed. (tried, c.in_err-feed.ensures.refused whole tried feed))
            (ap (λ (x : Context). x.held.settings) c.in_err-feed.ensures.kept.reading.0) c.in_err-feed.ensures.kept.order
            c.in_err-feed.ensures.kept.reading.2 (omega (arith, c.in_err-feed.ensures.kept.fed))
            (subst (λ (r : RowState). ended r.stand ≢ Some (Err OutOfMemory)) (sym c.in_err-feed.ensures.kept.reading.1)
            page.has_memory),
      );
      paid = λ bytes rest given calls lost page split paid. tt;
      unpaid = λ bytes given calls lost. kept_paid c.in_err-feed.ensures.kept c.in_err-feed.ensures.refused;
    })

pub returns-then-is_some : goal.returns-then-is_some
returns-then-is_some c =
    let at = (goal.at.returns-then-is_some c).After-feed in
    let feed = c.in_ok-feed.ensures in
    let frame = c.finish.ensures.same in
    let count : fed_bits c.feed.new.self ≡ fed_bits c.args.page.now + 8 * n at = omega (arith, feed.counts, piece_length at) in
    let fits = feed.fit (λ long. cc) in
    let room : fed_bits c.finish.new.self < 2 ^ 64 = omega (arith, ap fed_bits frame, count, fits, piece_length at) in
    let found : is_some c.find_page_end-end.result ≡ true = sym c.is_some.ensures ∙ c.if-is_some.true in
    record {
      within = (within at, ap fed_bits frame ∙ count, inr (ap (λ (f : Feeding). f.finished) frame), room);
      kept = tt;
      ctx = ap (λ (f : Feeding). f.ctx) frame ∙ feed.held.reading.0;
      rows = ap (λ (f : Feeding). f.rows) frame ∙ feed.held.reading.1;
      given = λ bytes rest given page split.
          let ends = (some_is _ c.find_page_end-end.result (n at) (size at) (n_is at) found c.find_page_end-end.ensures.found).1
          (take given bytes) rest (subst (λ (s : DecodeSettings). GoesOnAfter s.encoding c.args.order (take given bytes)
          c.args.seen.now) (sym c.settings.ensures) (page.sought c.requires.unfinished)) in
          page_finished page.fit (longer_within bytes c.args.piece.now rest given page.within split (n at) (within at))
          (feed.held.order ∙ page.order_is) (omega (arith, count, page.counted))
          (reads_on bytes c.args.piece.now rest given page split c.requires.unfinished (n at)
          (within at) feed.fed count feed.held.reading.0
          feed.held.reading.1 feed.held.order)
          (sym (ap (λ (b : List ℕ). page_size c.settings.result.encoding c.args.order b)
          (bytes_are bytes c.args.piece.now rest given page.within split)
          ∙ ends ∙ ap (λ (k : ℕ). k + n at) (front_length bytes c.args.piece.now rest given page.within split))
          ∙ ap (λ (s : DecodeSettings). page_size s.encoding c.args.order bytes) c.settings.ensures
          ∙ ap (λ (x : Context). page_size x.held.settings.encoding c.args.order bytes) (sym feed.held.reading.0)) (subst (λ
          (r : RowState). ended r.stand ≢ Some (Err OutOfMemory)) (sym feed.held.reading.1) page.has_memory)
          c.finish.ensures.finished frame;
      failed = λ bytes rest given page split. tt;
      paid = λ bytes rest given calls lost page split paid.
          paid_more (omega arith) (finished_paid (omega (arith, count, page.counted)) c.finish.ensures.finished frame
          (feed.held.reading.2 ∙ c.requires.unfinished) (given_paid bytes c.args.piece.now rest given page split
          c.requires.unfinished (n at) (within at) feed.fed feed.held (calls + 1) lost paid));
      unpaid = λ bytes given calls lost paid. tt;
    }

pub returns-else-is_some : goal.returns-else-is_some
returns-else-is_some c =
    let at = (goal.at.returns-else-is_some c).After-feed in
    let feed = c.in_ok-feed.ensures in
    let count : fed_bits c.feed.new.self ≡ fed_bits c.args.page.now + 8 * n at = omega (arith, feed.counts, piece_length at) in
    let fits = feed.fit (λ long. cc) in
    let none : is_some c.find_page_end-end.result ≡ false = sym c.is_some.ensures ∙ c.if-is_some.false in
    let all : n at ≡ size at = none_all c.find_page_end-end.result (n at) (size at) (n_is at) none in
    record {
      within = (within at, count, inl (omega (arith, all, c.requires.some)), omega (arith, count, fits, piece_length at));
      kept = tt;
      ctx = feed.held.reading.0;
      rows = feed.held.reading.1;
      given = λ bytes rest given page split.
          page_goes_on bytes c.args.piece.now rest given page split c.requires.unfinished (n at) (within at) feed.fed count
          feed.held.reading.0 feed.held.reading.1 feed.held.order c.find_page_end-end.new.seen
          (feed.held.reading.2 ∙ c.requires.unfinished)
          (after at bytes rest given page split all (none_is _ c.find_page_end-end.result none
          c.find_page_end-end.ensures.none));
      failed = λ bytes rest given page split. tt;
      paid = λ bytes rest given calls lost page split paid.
          paid_more (omega (arith, all, c.requires.some)) (given_paid bytes c.args.piece.now rest given page split
          c.requires.unfinished (n at) (within at) feed.fed feed.held (calls + 1) lost paid);
      unpaid = λ bytes given calls lost paid. tt;
    }
