use Rattle.std.proofs.Common.{◌≡◌, length, refl, ap, ◌∙◌, arith}
use Rattle.std.proofs.lemmas.Result.{err_from_is_err_and}
use Rattle.hayro_ccitt.specs.DecodeSettings.{DecodeSettings}
use Rattle.fax_callers.specs.Pages.{PageFrom, page_by}
use Rattle.fax_callers.proofs.PagesCut.{one_page_more, same_pages}
use Rattle.fax_callers.proofs.pages_by.page_ends_by.Goals as goal
use Rattle.fax_callers.proofs.pages_by.page_ends_by.Goals.{else-loop-begin-test, then-loop-begin-test+in_ok-count+then-count-eq0}

pub loop-begin-preserved : goal.loop-begin-preserved
loop-begin-preserved c =
    let cut = one_page_more (page_by c.args.settings c.args.order c.args.«data».now) (length c.args.«data».now)
    0 c.loop-begin.ends.items c.loop-begin.begin
    c.in_ok-count.count c.loop-begin.invariant.0 (omega (arith, c.if-count-eq0.false)) c.in_ok-count.ensures.within
    (c.in_ok-count.ensures.page
    ∙ ap (λ (s : DecodeSettings). page_by s c.args.order c.args.«data».now c.loop-begin.begin) c.loop-begin.invariant.2) in
    (rw (c.in_ok-push.ensures.items) cut, c.in_ok-count.ensures.within, c.read_page.ensures.settings ∙ c.loop-begin.invariant.2)

pub returns-in_err-count-clause-closed : goal.returns-in_err-count-clause-closed
returns-in_err-count-clause-closed c = λ all stand.
    let answer = err_from_is_err_and c.from_residual-in_err-count.result c.from_residual-in_err-count.ensures.1 in
    rw (answer.1, answer.2) (λ fault.
    let same = same_pages (page_by c.args.settings c.args.order c.args.«data».now) (length c.args.«data».now)
    (PageFrom c.args.settings c.args.order c.args.«data».now)
    (λ begin count page. (c.pages_are_read.ensures c.args.«data».now begin page.0 count page.1).0)
    0 c.loop-begin.begin c.loop-begin.ends.items all c.loop-begin.invariant.0 (λ count some within read.
    let never = c.in_err-count.ensures.page fault
    ∙ ap (λ (s : DecodeSettings). page_by s c.args.order c.args.«data».now c.loop-begin.begin) c.loop-begin.invariant.2
    ∙ read in cc) stand in
    absurd (omega (arith, same.1, c.loop-begin-test.true)))

pub returns-clause-closed : goal.returns-clause-closed
returns-clause-closed c = λ all stand. (
  refl,
  (same_pages (page_by c.args.settings c.args.order c.args.«data».now) (length c.args.«data».now)
      (PageFrom c.args.settings c.args.order c.args.«data».now)
      (λ begin count page. (c.pages_are_read.ensures c.args.«data».now begin page.0 count page.1).0)
      0 c.loop-begin.begin c.loop-begin.ends.items
      all c.loop-begin.invariant.0 (λ count some within read. elim c.loop-begin-test.branch [
        | else-loop-begin-test w ↦ omega (arith, some, within, w.loop-begin-test.false)
        | then-loop-begin-test+in_ok-count+then-count-eq0 w ↦
            let zero : w.in_ok-count.count ≡ count = let same =
            w.in_ok-count.ensures.page
            ∙ ap (λ (s : DecodeSettings). page_by s c.args.order c.args.«data».now c.loop-begin.begin) c.loop-begin.invariant.2
            ∙ read in cc in
            omega (arith, zero, some, w.if-count-eq0.true)
      ]) stand).0,
)
