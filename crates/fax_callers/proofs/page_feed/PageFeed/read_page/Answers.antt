use Rattle.hayro_ccitt.proofs.Names.{◌≡◌, ◌∙◌, Err, Ok, ap, refl, rules, subst, sym}
use Rattle.hayro_ccitt.specs.DecodeError.{DecodeError}
use Rattle.hayro_ccitt.specs.RowFeeds.{Feeding}
use Rattle.fax_callers.specs.PageFeeds.{HasFailed, PageFeeding, page_feeding_of}
use Rattle.fax_callers.proofs.PageTurns.{gives_end, gives_fault, gives_none, gives_row, waits_few, waits_unended}
use Rattle.fax_callers.proofs.PageTurns.{waits_unfinished}
use Rattle.fax_callers.proofs.PagesPaid.{pays_end, pays_error, pays_read}
use Rattle.fax_callers.proofs.page_feed.PageFeed.read_page.Goals.{After-next_row}
use Rattle.fax_callers.proofs.page_feed.PageFeed.read_page.Goals as goal

-- a page that has a fault keeps it
failed : (c : After-next_row) (error : DecodeError) → HasFailed c.args.self.now error
    → (c.next_row.new.self ≡ c.self.inside.page) × (c.next_row.result ≡ Err error)
failed c error e = c.next_row.ensures.ended (Err error) (subst (λ (f : PageFeeding). HasFailed f error) (sym c.self.view_is) e)

pub returns-in_err-next_row-clause-failed : goal.returns-in_err-next_row-clause-failed
returns-in_err-next_row-clause-failed c = λ error e.
    let again = failed (goal.at.returns-in_err-next_row-clause-failed c).After-next_row error e in
    let is_err : c.from_residual.result ≡ Err c.in_err-next_row.field-0.0 = search rules in (
      ap (λ (p : Feeding). record (page_feeding_of c.self.inside) { page = p }) again.0 ∙ c.self.view_is,
      is_err ∙ (let same : c.in_err-next_row.field-0.0 ≡ error = let both = sym c.in_err-next_row.was
          ∙ again.1 in cc in ap Err same),
    )

pub returns-in-Row-clause-failed : goal.returns-in-Row-clause-failed
returns-in-Row-clause-failed c = λ error e.
    let again = failed (goal.at.returns-in-Row-clause-failed c).After-next_row error e in
    absurd (let never = sym c.in_ok-next_row.was ∙ again.1 in cc)

pub returns-in-NeedsMore-clause-failed : goal.returns-in-NeedsMore-clause-failed
returns-in-NeedsMore-clause-failed c = λ error e.
    let again = failed (goal.at.returns-in-NeedsMore-clause-failed c).After-next_row error e in
    absurd (let never = sym c.in_ok-next_row.was ∙ again.1 in cc)

pub returns-in-End-clause-failed : goal.returns-in-End-clause-failed
returns-in-End-clause-failed c = λ error e.
    let again = failed (goal.at.returns-in-End-clause-failed c).After-next_row error e in
    absurd (let never = sym c.in_ok-next_row.was ∙ again.1 in cc)

pub returns-in_err-next_row-clause-gives : goal.returns-in_err-next_row-clause-gives
returns-in_err-next_row-clause-gives c =
    let is_err : c.from_residual.result ≡ Err c.in_err-next_row.field-0.0 = search rules in
    rw (is_err, ← c.self.view_is) (λ whole start is.
    gives_fault (page_feeding_of c.self.inside) c.next_row.new.self c.next_row.result c.next_row.ensures.keeps
    c.next_row.ensures.reads c.next_row.ensures.ended whole start is c.in_err-next_row.field-0.0 c.in_err-next_row.was)

pub returns-in-Row-clause-gives : goal.returns-in-Row-clause-gives
returns-in-Row-clause-gives c = rw (← c.self.view_is) (λ whole start is.
    gives_row (page_feeding_of c.self.inside) c.next_row.new.self c.next_row.result c.next_row.ensures.keeps
    c.next_row.ensures.reads c.next_row.ensures.ended whole start is (c.in_ok-next_row.was ∙ ap Ok c.in-Row.is))

pub returns-in-NeedsMore-clause-gives : goal.returns-in-NeedsMore-clause-gives
returns-in-NeedsMore-clause-gives c = rw (← c.self.view_is) (λ whole start is.
    gives_none (page_feeding_of c.self.inside) c.next_row.new.self c.next_row.result c.next_row.ensures.keeps
    c.next_row.ensures.reads c.next_row.ensures.ended whole start is (c.in_ok-next_row.was ∙ ap Ok c.in-NeedsMore.is))

pub returns-in-NeedsMore-clause-waits : goal.returns-in-NeedsMore-clause-waits
returns-in-NeedsMore-clause-waits c = rw (← c.self.view_is) (λ e. record {
  held = refl;
  next = refl;
  given = refl;
  reading = c.next_row.ensures.keeps.finished;
  order = refl;
  finished = refl;
  unended = λ whole start is.
      waits_unended (page_feeding_of c.self.inside) c.next_row.new.self c.next_row.result c.next_row.ensures.keeps
      c.next_row.ensures.reads c.next_row.ensures.ended whole start is (c.in_ok-next_row.was ∙ ap Ok c.in-NeedsMore.is);
  unfinished = λ whole start is.
      waits_unfinished (page_feeding_of c.self.inside) c.next_row.new.self c.next_row.result c.next_row.ensures.keeps
      c.next_row.ensures.reads c.next_row.ensures.ended whole start is (c.in_ok-next_row.was ∙ ap Ok c.in-NeedsMore.is);
  near = λ whole start is.
      waits_few (page_feeding_of c.self.inside) c.next_row.new.self c.next_row.result c.next_row.ensures.keeps
      c.next_row.ensures.reads c.next_row.ensures.ended whole start is (c.in_ok-next_row.was ∙ ap Ok c.in-NeedsMore.is);
})

pub returns-in-End-clause-gives : goal.returns-in-End-clause-gives
returns-in-End-clause-gives c = rw (← c.self.view_is) (λ whole start is.
    gives_end (page_feeding_of c.self.inside) c.next_row.new.self c.next_row.result c.next_row.ensures.keeps
    c.next_row.ensures.reads c.next_row.ensures.ended whole start is (c.in_ok-next_row.was ∙ ap Ok c.in-End.is) c.end_page.result
    c.end_page.ensures)

pub returns-in_err-next_row-clause-pays : goal.returns-in_err-next_row-clause-pays
returns-in_err-next_row-clause-pays c =
    let is_err : c.from_residual.result ≡ Err c.in_err-next_row.field-0.0 = search rules in
    rw (is_err, ← c.self.view_is) (λ whole start is.
    pays_error (page_feeding_of c.self.inside) c.next_row.new.self c.next_row.result c.next_row.ensures.keeps
    c.next_row.ensures.reads c.next_row.ensures.ended whole start is c.in_err-next_row.field-0.0 c.in_err-next_row.was)

pub returns-in-Row-clause-pays : goal.returns-in-Row-clause-pays
returns-in-Row-clause-pays c = rw (← c.self.view_is) (λ whole start is.
    pays_read (page_feeding_of c.self.inside) c.next_row.new.self c.next_row.result c.next_row.ensures.keeps
    c.next_row.ensures.reads c.next_row.ensures.ended whole start is _
    (λ memory. let both = sym c.in_ok-next_row.was ∙ memory in cc) (λ e. cc))

pub returns-in-NeedsMore-clause-pays : goal.returns-in-NeedsMore-clause-pays
returns-in-NeedsMore-clause-pays c = rw (← c.self.view_is) (λ whole start is.
    pays_read (page_feeding_of c.self.inside) c.next_row.new.self c.next_row.result c.next_row.ensures.keeps
    c.next_row.ensures.reads c.next_row.ensures.ended whole start is _
    (λ memory. let both = sym c.in_ok-next_row.was ∙ memory in cc) (λ e. cc))

pub returns-in-End-clause-pays : goal.returns-in-End-clause-pays
returns-in-End-clause-pays c = rw (← c.self.view_is) (λ whole start is.
    pays_end (page_feeding_of c.self.inside) c.next_row.new.self c.next_row.result c.next_row.ensures.keeps
    c.next_row.ensures.reads c.next_row.ensures.ended whole start is (c.in_ok-next_row.was ∙ ap Ok c.in-End.is) c.end_page.result
    c.end_page.ensures)
