use Rattle.fax_encode.proofs.Names.{◌-◌, ◌%◌, sym}
use Rattle.fax_encode.proofs.WrittenBits.{zero_bits}
use Rattle.fax_encode.proofs.ComparedBits.{compared_as}
use Rattle.fax_encode.proofs.procedure.pass_fill.Goals as goal

pub returns-clause-compares : goal.returns-clause-compares
returns-clause-compares c = compared_as (sym (zero_bits ((8 - c.args.bits % 8) % 8))) c.pass_code_word.ensures.compares
