use Rattle.faxrows_lib.proofs.Names.{◌∙◌, ◌-◌, List, ℕ, subst, arith, drop, length-drop, take_all, sym, ap, PutsText, used}
use Rattle.faxrows_lib.proofs.Names.{line_of_outcome}
use Rattle.faxrows_lib.proofs.output.put_last_line.Goals as goal

pub returns-in-Ok : goal.returns-in-Ok
returns-in-Ok g c =
    let start = c.put_ok-start.result in
    let line = c.put_ok-start.new.line in
    subst (λ (text : List ℕ). PutsText text c.args.waiting.now.items c.put.new.waiting.items
    (used g.W.Write.contents c.args.writer.now c.put.new.writer) c.put.result)
    (take_all (24 - start) (drop start line) (omega (arith, length-drop start line, c.put_ok-start.array_long))
    ∙ c.put_ok-start.ensures.line ∙ ap line_of_outcome (sym c.in-Ok.is)) c.put.ensures

pub returns-in-Err : goal.returns-in-Err
returns-in-Err g c =
    subst (λ (text : List ℕ). PutsText text c.args.waiting.now.items c.put-in-Err.new.waiting.items
    (used g.W.Write.contents c.args.writer.now c.put-in-Err.new.writer) c.put-in-Err.result)
    (c.error_line.ensures ∙ ap line_of_outcome (sym c.in-Err.is)) c.put-in-Err.ensures
