use Rattle.faxrows_lib.proofs.Names.{DecodeError, Option, ◌-◌, ◌≡◌, ◌∙◌, Bool, List, None, ℕ, Some, ap, subst, sym, PutsText}
use Rattle.faxrows_lib.proofs.Names.{line_of_damage, used}
use Rattle.faxrows_lib.proofs.damage.put_last_row.Goals as goal

-- the line is that of the row's damage
pub returns-in-Some : goal.returns-in-Some
returns-in-Some g c =
    let rows = c.args.rows.now in
    let start = c.line_start-start.result in
    let fault = c.in-Some.fault in
    let line : line_of_damage (c.rows_read-row.result - 1) start (Some fault) rows.cut
    ≡ line_of_damage (rows.taken - 1) rows.line_start rows.damage rows.cut
    = ap (λ (n : ℕ). line_of_damage (n - 1) start (Some fault) rows.cut) c.rows_read-row.ensures
    ∙ ap (λ (s : ℕ). line_of_damage (rows.taken - 1) s (Some fault) rows.cut) c.line_start-start.ensures
    ∙ ap (λ (f : Option DecodeError). line_of_damage (rows.taken - 1) rows.line_start f rows.cut)
    (sym c.in-Some.is ∙ c.damage.ensures) in
    subst (λ (l : List ℕ). PutsText l c.args.waiting.now.items c.put_fault.new.waiting.items
    (used g.W.Write.contents c.args.writer.now c.put_fault.new.writer) c.put_fault.result) line c.put_fault.ensures
