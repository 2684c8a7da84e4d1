use Rattle.faxrows_lib.proofs.Names.{◌++◌, ◌≡◌, ◌∙◌, List, ℕ, ap, subst, sym, OnErr, codes, failed_at, PutsText, used}
use Rattle.faxrows_lib.proofs.Names.{end_with_fault}
use Rattle.faxrows_lib.proofs.Names.{last_line_of_damage, numbered, Outcome}
use Rattle.faxrows_lib.proofs.damage.put_end.Goals as goal

-- the line is that of the fault
pub returns-in-Err : goal.returns-in-Err
returns-in-Err g c =
    let rows = c.args.rows.now in
    let start = c.line_start-start.result in
    let end = end_with_fault c.in-Err.error in
    let failed : rows.line_start ≡ failed_at rows.settings rows.bits rows.taken = subst
    (λ (o : Outcome). OnErr o (rows.line_start ≡ failed_at rows.settings rows.bits rows.taken)) c.in-Err.is c.requires.fails in
    let line : numbered (codes "error ") c.rows_read-in-Err.result start ++ end
    ≡ last_line_of_damage rows.settings rows.bits rows.taken c.args.outcome.now
    = ap (λ (n : ℕ). numbered (codes "error ") n start ++ end) c.rows_read-in-Err.ensures
    ∙ ap (λ (s : ℕ). numbered (codes "error ") rows.taken s ++ end) (c.line_start-start.ensures ∙ failed)
    ∙ ap (last_line_of_damage rows.settings rows.bits rows.taken) (sym c.in-Err.is) in
    subst (λ (l : List ℕ). PutsText l c.args.waiting.now.items c.put_fault.new.waiting.items
    (used g.W.Write.contents c.args.writer.now c.put_fault.new.writer) c.put_fault.result) line c.put_fault.ensures
