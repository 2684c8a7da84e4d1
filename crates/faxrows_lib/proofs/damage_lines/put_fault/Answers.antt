use Rattle.faxrows_lib.proofs.Names.{rules, ◌≡◌, Err, List, ℕ, subst, PutsText, used}
use Rattle.faxrows_lib.proofs.Outputs.{puts_neither, puts_then}
use Rattle.faxrows_lib.proofs.damage_lines.put_fault.Goals as goal

pub returns-in_err-put_numbers : goal.returns-in_err-put_numbers
returns-in_err-put_numbers g c =
    let is : c.from_residual.result ≡ Err c.in_err-put_numbers.field-0.0 = search rules in
    puts_neither _ c.from_residual.result c.in_err-put_numbers.field-0.0 is c.in_err-put_numbers.ensures

pub returns : goal.returns
returns g c =
    puts_then c.in_ok-put_numbers.ensures
    (subst (λ (text : List ℕ). PutsText text c.put_numbers.new.waiting.items c.put.new.waiting.items
    (used g.W.Write.contents c.put_numbers.new.writer c.put.new.writer) c.put.result) c.fault_and_end.ensures c.put.ensures)
