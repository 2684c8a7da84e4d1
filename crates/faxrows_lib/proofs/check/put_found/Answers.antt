use Rattle.faxrows_lib.proofs.Names.{rules, ◌≡◌, Err, List, ℕ, ap, subst, sym, PutsText, line_of_check, line_of_violation, used}
use Rattle.faxrows_lib.proofs.Outputs.{puts_neither, puts_then}
use Rattle.faxrows_lib.proofs.check.put_found.Goals as goal

pub returns-in_err-put : goal.returns-in_err-put
returns-in_err-put g c =
    let is : c.from_residual.result ≡ Err c.in_err-put.field-0.0 = search rules in
    subst (λ (line : List ℕ). PutsText line c.args.waiting.now.items c.put-2.new.waiting.items
    (used g.W.Write.contents c.args.writer.now c.put-2.new.writer) c.from_residual.result) (ap line_of_check (sym c.in-Some.is))
    (puts_neither _ c.from_residual.result c.in_err-put.field-0.0 is c.in_err-put.ensures)

pub returns-in_err-put_number : goal.returns-in_err-put_number
returns-in_err-put_number g c =
    let result = c.from_residual-in_err-put_number.result in
    let is : result ≡ Err c.in_err-put_number.field-0.0 = search rules in
    subst (λ (line : List ℕ). PutsText line c.args.waiting.now.items c.put_number.new.waiting.items
    (used g.W.Write.contents c.args.writer.now c.put_number.new.writer) result) (ap line_of_check (sym c.in-Some.is))
    (puts_then c.in_ok-put.ensures (puts_neither _ result c.in_err-put_number.field-0.0 is c.in_err-put_number.ensures))

pub returns : goal.returns
returns g c =
    subst (λ (line : List ℕ). PutsText line c.args.waiting.now.items c.put-3.new.waiting.items
    (used g.W.Write.contents c.args.writer.now c.put-3.new.writer) c.put-3.result) (ap line_of_check (sym c.in-Some.is))
    (puts_then c.in_ok-put.ensures (puts_then c.in_ok-put_number.ensures
    (subst (λ (text : List ℕ). PutsText text c.put_number.new.waiting.items c.put-3.new.waiting.items
    (used g.W.Write.contents c.put_number.new.writer c.put-3.new.writer) c.put-3.result) c.rule_and_end.ensures
    c.put-3.ensures)))
