use Rattle.hayro_ccitt.proofs.Names.{◌≡◌, ◌∙◌, ◌++◌, ◌+◌, ◌-◌, ◌<◌, ◌≤◌, List, ℕ, Err, ap, sym, subst, refl, drop, length, take}
use Rattle.hayro_ccitt.proofs.Names.{arith, rules, max, min, length-drop, Context, cond}
use Rattle.std.proofs.lemmas.List.{take_rest}
use Rattle.hayro_ccitt.specs.RowFeeds.{Feeding}
use Rattle.fax_callers.specs.PageFeeds.{IsPageFeedOf, page_feeding_of}
use Rattle.fax_callers.proofs.PagesFed.{all_given, less_to_give, page_moves, piece_comes, stays_on}
use Rattle.fax_callers.proofs.PagesPaid.{finished_paid, paid_more}
use Rattle.fax_callers.proofs.page_feed.PageFeed.give.Goals.{After-give_piece}
use Rattle.fax_callers.proofs.page_feed.PageFeed.give.Goals as goal

-- the bytes that are given are the next ones held
module _ (c : After-give_piece) where
  abbrev waiting : List ℕ
  waiting = drop c.self.inside.next c.self.inside.held.items

  abbrev many : ℕ
  many = min (length waiting) (max 64 (min c.self.inside.given 4096))

  piece_is : c.first_piece-piece.result.now ≡ take many waiting
  piece_is = c.first_piece-piece.ensures.first
      ∙ ap (λ (l : List ℕ). take (min (length l) (max 64 (min c.self.inside.given 4096))) l)
      (take_rest c.deref.result.now c.self.inside.next ∙ ap (drop c.self.inside.next) c.deref.ensures.value)

  piece_within : c.self.inside.next + length c.first_piece-piece.result.now ≤ length c.self.inside.held.items
  piece_within = omega (
    arith,
    c.first_piece-piece.ensures.length,
    ap length (take_rest c.deref.result.now c.self.inside.next),
    ap length c.deref.ensures.value,
    length-drop c.self.inside.next c.deref.result.now,
    c.self.invariant.within,
  )

  few_given : length c.first_piece-piece.result.now ≤ max 64 (min c.self.inside.given 4096)
  few_given = omega (arith, c.first_piece-piece.ensures.length)

  comes : (whole : List ℕ) (start : ℕ) (is : IsPageFeedOf whole start (page_feeding_of c.self.inside))
      → drop c.self.inside.given (drop start whole) ≡ c.first_piece-piece.result.now ++ (drop many waiting ++ is.more)
  comes whole start is =
      piece_comes is many ∙ ap (λ (l : List ℕ). l ++ (drop many waiting ++ is.more)) (sym piece_is)

pub overflow_add-self-2 : goal.overflow_add-self-2
overflow_add-self-2 c = omega (arith, c.in_ok-count.ensures.within.1, c.in_ok-count.ensures.within.3, c.self.invariant.counted)

pub returns-then-self-len : goal.returns-then-self-len
returns-then-self-len c =
    let last = c.if-not-self.false in
    rw (← c.self.view_is) (record {
      stays = λ whole start is.
          all_given c.finish.new.self refl c.finish.ensures.same (sym c.if-is_finished.ensures) c.finish.ensures.finished last
          (omega (arith, c.if-self-len.true, c.len.ensures)) is;
      only_memory = λ whole start is. tt;
      order = refl;
      finished = refl;
      none = λ e. absurd cc;
      smaller = λ e.
          subst (λ (f : Feeding). (length c.self.inside.held.items - c.self.inside.next) + cond f.finished 0 1
          < (length c.self.inside.held.items - c.self.inside.next) + cond c.self.inside.page.finished 0 1)
          (sym c.finish.ensures.same) (rw (sym c.if-is_finished.ensures) (omega arith));
      few = omega arith;
      paid = λ whole start calls lost e is paid.
          paid_more (omega arith) (finished_paid is.page.counted c.finish.ensures.finished c.finish.ensures.same
          (sym c.if-is_finished.ensures) paid);
      unpaid = λ whole start calls lost other. absurd (other refl);
    })

pub returns-in_err-count : goal.returns-in_err-count
returns-in_err-count c =
    let at = (goal.at.returns-in_err-count c).After-give_piece in
    let is_err : c.from_residual.result ≡ Err c.in_err-count.field-0.0 = search rules in
    rw (is_err, ← c.self.view_is) (record {
      stays = λ whole start is.
          let failed = c.in_err-count.ensures.failed (drop start whole) _ c.self.inside.given is.page (comes at whole start is) in
          stays_on (page_moves c.give_piece.new.page c.give_piece.new.seen c.self.inside.next c.self.inside.given 0 refl is
          (omega arith) (omega arith) is.next failed.1 (ap (λ (x : Context). x.held.settings) c.in_err-count.ensures.ctx))
          c.in_err-count.ensures.ctx c.in_err-count.ensures.rows refl refl;
      only_memory = λ whole start is.
          (c.in_err-count.ensures.failed (drop start whole) _ c.self.inside.given is.page (comes at whole start is)).0;
      order = refl;
      finished = refl;
      none = λ e. absurd cc;
      smaller = λ e. absurd cc;
      few = omega arith;
      paid = λ whole start calls lost e. absurd cc;
      unpaid = λ whole start calls lost other.
          c.in_err-count.ensures.unpaid (drop start whole) c.self.inside.given calls lost;
    })

pub returns : goal.returns
returns c =
    let at = (goal.at.returns c).After-give_piece in
    let gives = c.in_ok-count.ensures in
    let within : c.self.inside.next + c.in_ok-count.count ≤ length c.self.inside.held.items =
    omega (arith, piece_within at, gives.within.0) in
    rw (← c.self.view_is) (record {
      stays = λ whole start is.
          let reading = gives.given (drop start whole) _ c.self.inside.given is.page (comes at whole start is) in
          stays_on (page_moves c.give_piece.new.page c.give_piece.new.seen (c.self.inside.next + c.in_ok-count.count)
          (c.self.inside.given + c.in_ok-count.count) c.in_ok-count.count refl is refl refl within reading
          (ap (λ (x : Context). x.held.settings) gives.ctx)) gives.ctx gives.rows refl refl;
      only_memory = λ whole start is. tt;
      order = refl;
      finished = refl;
      none = λ e. absurd cc;
      smaller = λ e.
          less_to_give (length c.self.inside.held.items) c.self.inside.next c.in_ok-count.count c.self.inside.page.finished
          c.give_piece.new.page.finished (sym c.if-is_finished.ensures) within gives.within.2;
      few = omega (arith, gives.within.0, few_given at);
      paid = λ whole start calls lost e is.
          gives.paid (drop start whole) _ c.self.inside.given calls lost is.page (comes at whole start is);
      unpaid = λ whole start calls lost other. absurd (other refl);
    })
