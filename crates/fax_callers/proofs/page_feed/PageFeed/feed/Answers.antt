use Rattle.hayro_ccitt.proofs.Names.{◌≡◌, ◌∙◌, ◌++◌, ◌+◌, List, ℕ, ap, sym, subst, drop}
use Rattle.std.proofs.lemmas.Result.{err_from_is_err_and}
use Rattle.fax_callers.specs.PageFeeds.{IsPageFeedOf, PageFeeding, page_feeding_of}
use Rattle.fax_callers.proofs.PagesFed.{page_drops, page_holds, drops_count}
use Rattle.fax_callers.proofs.page_feed.PageFeed.feed.Goals as goal

pub returns-in_err-extend_from_slice-clause-refused : goal.returns-in_err-extend_from_slice-clause-refused
returns-in_err-extend_from_slice-clause-refused c =
    let answer = err_from_is_err_and c.from_residual.result c.from_residual.ensures.1 in
    let same : page_feeding_of (record c.self.inside { held = c.extend_from_slice.new.self }) ≡ c.drop_read.new.self
    = ap (λ (items : List ℕ). record (page_feeding_of c.self.inside) { held = items }) c.in_err-extend_from_slice.ensures.items
    ∙ c.self.view_is in
    rw answer.1 (λ whole start feed. subst (IsPageFeedOf whole start) (sym same) (page_drops c.drop_read.ensures feed))

pub returns-clause-fed : goal.returns-clause-fed
returns-clause-fed c = λ whole start is come.
    let same = ap (λ (items : List ℕ). record (page_feeding_of c.self.inside) { held = items })
    c.in_ok-extend_from_slice.ensures.items
    ∙ ap (λ (f : PageFeeding). record f { held = f.held ++ c.args.bytes.now }) c.self.view_is in
    page_holds c.args.bytes.now same (ap (λ (f : PageFeeding). f.finished) c.drop_read.ensures.frame ∙ c.requires.unfinished)
    (page_drops c.drop_read.ensures is)
    (come.0, ap (λ (n : ℕ). drop (start + n) whole) (drops_count c.drop_read.ensures is.next) ∙ come.1)
