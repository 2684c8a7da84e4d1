use Rattle.hayro_ccitt.proofs.Names.{◌≡◌, ◌≢◌, ◌+◌, ◌∙◌, refl, true, Result, ℕ, List, Ok, Err, ap, arith, cond, rules, subst}
use Rattle.hayro_ccitt.proofs.Names.{sym, inl, inr, false≢true}
use Rattle.hayro_ccitt.proofs.Names.{Bool, length}
use Rattle.hayro_ccitt.specs.DecodeError.{DecodeError}
use Rattle.hayro_ccitt.specs.DecodeSettings.{DecodeSettings}
use Rattle.fax_callers.specs.PageFeeds.{FewGiven, GivesNext, HasFailed, IsPageFeedOf, IsPaidFrom, PageFeeding, Stays}
use Rattle.fax_callers.specs.PageFeeds.{left_to_give}
use Rattle.fax_callers.specs.PageFeeds.{settings_of}
use Rattle.fax_callers.specs.Pages.{ReadsPages}
use Rattle.fax_callers.specs.PagesPaid.{PaysNext}
use Rattle.fax_callers.specs.declared.page_feed.PageFed.{PageFed}
use Rattle.fax_callers.specs.declared.page_feed.PageFed.TheVariants.{NeedsMore, PageEnd}
use Rattle.fax_callers.proofs.PagesInTurn.{at_old}
use Rattle.fax_callers.proofs.PagesInTurn.{gives_later, given_page, needs_stays, stays_fails, stays_later, stays_needs}
use Rattle.fax_callers.proofs.PagesPaid.{paid_more, pays_here, pays_later, pays_still}
use Rattle.fax_callers.proofs.page_feed.PageFeed.next_row.Goals.{After-read_page-answer, After-give}
use Rattle.fax_callers.proofs.page_feed.PageFeed.next_row.Goals as goal

module _ (c : After-read_page-answer) where
  law : ReadsPages (settings_of c.args.self.now) c.args.self.now.order
  law = subst (λ (f : PageFeeding). ReadsPages (settings_of f) f.order) c.self.view_is
      (subst (λ (s : DecodeSettings). ReadsPages s c.self.inside.order) c.settings.ensures c.pages_are_read.ensures)

  gives : (whole : List ℕ) (start : ℕ) → IsPageFeedOf whole start c.args.self.now
      → GivesNext whole start c.args.self.now c.read_page-answer.new.self c.read_page-answer.result
  gives whole start is =
      let stays = c.loop-answer.invariant.stays whole start is in
      gives_later stays c.read_page-answer.result (c.read_page-answer.ensures.gives whole start stays.is)

  -- a page that has a fault keeps it
  failed : (error : DecodeError) → HasFailed c.args.self.now error
      → (c.read_page-answer.new.self ≡ c.args.self.now) × (c.read_page-answer.result ≡ Err error)
  failed error e =
      let same = c.loop-answer.invariant.failed error e in
      let again = c.read_page-answer.ensures.failed error
      (subst (λ (f : PageFeeding). HasFailed f error) (sym same) e) in
      (again.0 ∙ same, again.1)

-- the page's reading was given more, or there was no memory
module _ (c : After-give) where
  more : c.read_page-answer.result ≡ Ok NeedsMore
  more = c.needs_more.ensures.more c.if-not-needs_more.false

  stays_before : (whole : List ℕ) (start : ℕ) → IsPageFeedOf whole start c.args.self.now
      → Stays whole start c.args.self.now c.read_page-answer.new.self
  stays_before whole start is =
      let stays = c.loop-answer.invariant.stays whole start is in
      stays_later stays (needs_stays stays.is (c.read_page-answer.ensures.waits more)
      (subst (GivesNext whole start c.loop-answer.self c.read_page-answer.new.self) more
      (c.read_page-answer.ensures.gives whole start stays.is)))

  stays_now : (whole : List ℕ) (start : ℕ) → IsPageFeedOf whole start c.args.self.now
      → Stays whole start c.args.self.now c.give.new.self
  stays_now whole start is =
      let before = stays_before whole start is in
      stays_later before (c.give.ensures.stays whole start before.is)

  -- one call is to be paid
  paid_before : (whole : List ℕ) (start : ℕ) → IsPageFeedOf whole start c.args.self.now → (calls before : ℕ)
      → IsPaidFrom whole start calls before c.args.self.now
      → IsPaidFrom whole start (calls + 1) before c.read_page-answer.new.self
  paid_before whole start is calls before paid =
      let stays = c.loop-answer.invariant.stays whole start is in
      pays_here (c.read_page-answer.ensures.pays whole start stays.is) (λ e. let never = sym more ∙ e in cc)
      (λ e. let never = sym more ∙ e in cc) calls before (c.loop-answer.invariant.paid whole start is calls before paid)

  -- of the bytes that the page has all but one were given before
  few_now : (whole : List ℕ) (start : ℕ) → IsPageFeedOf whole start c.args.self.now
      → FewGiven (settings_of c.args.self.now) c.args.self.now.order whole start c.give.new.self.given
  few_now whole start is =
      let stays = c.loop-answer.invariant.stays whole start is in
      at_old stays (λ s o. FewGiven s o whole start c.give.new.self.given) (λ four unlimited size some read.
      let waits = c.read_page-answer.ensures.waits more in
      omega (arith, waits.near whole start stays.is four unlimited size some read, c.give.ensures.few))

  -- it is still, unless more was given
  pays : (whole : List ℕ) (start : ℕ) → IsPageFeedOf whole start c.args.self.now → c.give.result ≢ Ok true
      → (answer : Result PageFed DecodeError) → answer ≢ Ok PageEnd → PaysNext whole start c.args.self.now c.give.new.self answer
  pays whole start is other answer still =
      let stays = stays_now whole start is in
      pays_still answer stays.rows.counts (stays.rows.settings, stays.order) (λ before. few_now whole start is) still
      (λ calls before paid.
      c.give.ensures.unpaid whole start (calls + 1) before other (paid_before whole start is calls before paid))

  -- as much could be given before
  left_same : left_to_give c.read_page-answer.new.self ≡ left_to_give c.loop-answer.self
  left_same =
      let waits = c.read_page-answer.ensures.waits more in
      omega (
        arith,
        ap length waits.held,
        waits.next,
        ap {B = ℕ} (λ (b : Bool). cond b 0 1) waits.reading,
      )

pub returns-then-not-needs_more-clause-gives : goal.returns-then-not-needs_more-clause-gives
returns-then-not-needs_more-clause-gives c = gives (goal.at.returns-then-not-needs_more-clause-gives c).After-read_page-answer

pub returns-then-not-needs_more-clause-pages : goal.returns-then-not-needs_more-clause-pages
returns-then-not-needs_more-clause-pages c = λ whole start rows count is page.
    let at = (goal.at.returns-then-not-needs_more-clause-pages c).After-read_page-answer in
    given_page c.read_page-answer.result (gives at whole start is) (law at) rows count page

pub returns-then-not-needs_more-clause-failed : goal.returns-then-not-needs_more-clause-failed
returns-then-not-needs_more-clause-failed c = λ error e some.
    failed (goal.at.returns-then-not-needs_more-clause-failed c).After-read_page-answer error e

pub returns-in_err-give-clause-failed : goal.returns-in_err-give-clause-failed
returns-in_err-give-clause-failed c = λ error e some.
    let at = (goal.at.returns-in_err-give-clause-failed c).After-give in
    absurd (let never = sym (more at)
    ∙ (failed (goal.at.returns-in_err-give-clause-failed c).After-read_page-answer error e).1 in cc)

pub returns-then-not-branch-clause-failed : goal.returns-then-not-branch-clause-failed
returns-then-not-branch-clause-failed c = λ error e some.
    let at = (goal.at.returns-then-not-branch-clause-failed c).After-give in
    absurd (let never = sym (more at)
    ∙ (failed (goal.at.returns-then-not-branch-clause-failed c).After-read_page-answer error e).1 in cc)

pub returns-in_err-give-clause-gives : goal.returns-in_err-give-clause-gives
returns-in_err-give-clause-gives c =
    let at = (goal.at.returns-in_err-give-clause-gives c).After-give in
    let is_err : c.from_residual.result ≡ Err c.in_err-give.field-0.0 = search rules in
    rw is_err (λ whole start is.
    stays_fails c.in_err-give.field-0.0 (c.in_err-give.ensures.only_memory whole start (stays_before at whole start is).is)
    (stays_now at whole start is))

pub returns-in_err-give-clause-pages : goal.returns-in_err-give-clause-pages
returns-in_err-give-clause-pages c = λ whole start rows count is page.
    given_page c.from_residual.result (returns-in_err-give-clause-gives c whole start is)
    (law (goal.at.returns-in_err-give-clause-pages c).After-read_page-answer) rows count page

pub returns-then-not-branch-clause-gives : goal.returns-then-not-branch-clause-gives
returns-then-not-branch-clause-gives c = λ whole start is.
    let at = (goal.at.returns-then-not-branch-clause-gives c).After-give in
    subst (GivesNext whole start c.args.self.now c.give.new.self) (sym (more at)) (stays_needs (stays_now at whole start is))

pub returns-then-not-branch-clause-needs_more : goal.returns-then-not-branch-clause-needs_more
returns-then-not-branch-clause-needs_more c = λ whole start is e.
    let at = (goal.at.returns-then-not-branch-clause-needs_more c).After-give in
    let stays = c.loop-answer.invariant.stays whole start is in
    elim (c.give.ensures.none (c.in_ok-give.was ∙ ap Ok c.if-not-branch.true)) [
      | inl finished ↦
          absurd (false≢true (sym ((c.read_page-answer.ensures.waits (more at)).unfinished whole start stays.is) ∙ finished))
      | inr unfinished ↦ c.give.ensures.finished ∙ unfinished
    ]

pub returns-then-not-branch-clause-pages : goal.returns-then-not-branch-clause-pages
returns-then-not-branch-clause-pages c = λ whole start rows count is page.
    given_page c.read_page-answer.result (returns-then-not-branch-clause-gives c whole start is)
    (law (goal.at.returns-then-not-branch-clause-pages c).After-read_page-answer) rows count page

pub returns-then-has_no_page-clause-pays : goal.returns-then-has_no_page-clause-pays
returns-then-has_no_page-clause-pays c = λ whole start is.
    pays_still _ (omega arith) (refl, refl) (λ few. few) (λ e. cc) (λ calls before. paid_more (omega arith))

pub returns-then-not-needs_more-clause-pays : goal.returns-then-not-needs_more-clause-pays
returns-then-not-needs_more-clause-pays c = λ whole start is.
    let stays = c.loop-answer.invariant.stays whole start is in
    pays_later stays (c.loop-answer.invariant.few whole start is) (c.loop-answer.invariant.paid whole start is)
    (c.read_page-answer.ensures.pays whole start stays.is)

pub returns-in_err-give-clause-pays : goal.returns-in_err-give-clause-pays
returns-in_err-give-clause-pays c =
    let at = (goal.at.returns-in_err-give-clause-pays c).After-give in
    let is_err : c.from_residual.result ≡ Err c.in_err-give.field-0.0 = search rules in
    rw is_err (λ whole start is. pays at whole start is (λ e. let never = sym c.in_err-give.was ∙ e in cc) _ (λ e. cc))

pub returns-then-not-branch-clause-pays : goal.returns-then-not-branch-clause-pays
returns-then-not-branch-clause-pays c = λ whole start is.
    let at = (goal.at.returns-then-not-branch-clause-pays c).After-give in
    pays at whole start is (λ e. let never = sym (c.in_ok-give.was ∙ ap Ok c.if-not-branch.true) ∙ e in cc) _
    (λ e. let never = sym (more at) ∙ e in cc)

pub loop-answer-preserved : goal.loop-answer-preserved
loop-answer-preserved c =
    let at = (goal.at.loop-answer-preserved c).After-give in
    record {
      stays = stays_now at;
      order = c.give.ensures.order ∙ c.read_page-answer.ensures.order ∙ c.loop-answer.invariant.order;
      finished = c.give.ensures.finished ∙ c.read_page-answer.ensures.finished ∙ c.loop-answer.invariant.finished;
      failed = λ error e. absurd (let never = sym (more at) ∙ (failed
          (goal.at.loop-answer-preserved c).After-read_page-answer error e).1
          in cc);
      paid = λ whole start is calls before paid.
          c.give.ensures.paid whole start calls before (c.in_ok-give.was ∙ ap Ok c.if-not-branch.false)
          (stays_before at whole start is).is (paid_before at whole start is calls before paid);
      few = λ whole start is before. few_now at whole start is;
    }

pub loop-answer-smaller : goal.loop-answer-smaller
loop-answer-smaller c =
    let at = (goal.at.loop-answer-smaller c).After-give in
    omega (arith, left_same at, c.give.ensures.smaller (c.in_ok-give.was ∙ ap Ok c.if-not-branch.false))
