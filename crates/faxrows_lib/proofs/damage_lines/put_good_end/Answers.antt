use Rattle.faxrows_lib.proofs.Names.{rules, ◌≡◌, Err}
use Rattle.faxrows_lib.proofs.Outputs.{puts_neither, puts_then}
use Rattle.faxrows_lib.proofs.damage_lines.put_good_end.Goals as goal

pub returns-in_err-put_numbers : goal.returns-in_err-put_numbers
returns-in_err-put_numbers g c =
    let is : c.from_residual.result ≡ Err c.in_err-put_numbers.field-0.0 = search rules in
    puts_neither _ c.from_residual.result c.in_err-put_numbers.field-0.0 is c.in_err-put_numbers.ensures

pub returns : goal.returns
returns g c = puts_then c.in_ok-put_numbers.ensures c.put_number.ensures
