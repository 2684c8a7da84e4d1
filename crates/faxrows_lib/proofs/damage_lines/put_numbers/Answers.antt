use Rattle.faxrows_lib.proofs.Names.{rules, ◌≡◌, Err}
use Rattle.faxrows_lib.proofs.Outputs.{puts_neither, puts_then}
use Rattle.faxrows_lib.proofs.damage_lines.put_numbers.Goals as goal

pub returns-in_err-put : goal.returns-in_err-put
returns-in_err-put g c =
    let is : c.from_residual.result ≡ Err c.in_err-put.field-0.0 = search rules in
    puts_neither _ c.from_residual.result c.in_err-put.field-0.0 is c.in_err-put.ensures

pub returns-in_err-put_number : goal.returns-in_err-put_number
returns-in_err-put_number g c =
    let is : c.from_residual-in_err-put_number.result ≡ Err c.in_err-put_number.field-0.0 = search rules in
    puts_then c.in_ok-put.ensures
    (puts_neither _ c.from_residual-in_err-put_number.result c.in_err-put_number.field-0.0 is c.in_err-put_number.ensures)

pub returns : goal.returns
returns g c = puts_then c.in_ok-put.ensures (puts_then c.in_ok-put_number.ensures c.put_number-2.ensures)
