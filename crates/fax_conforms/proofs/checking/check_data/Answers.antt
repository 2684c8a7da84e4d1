use Rattle.hayro_ccitt.proofs.Names.{err_from_is_err_and, arith}
use Rattle.hayro_ccitt.specs.Bits.{bits_in}
use Rattle.fax_conforms.proofs.ProcedureReadable.{readable_in_grade}
use Rattle.fax_conforms.proofs.Stopped.{stops_in_grade}
use Rattle.fax_conforms.proofs.checking.check_data.Goals as goal

pub returns-in_err-read_data-clause-checks : goal.returns-in_err-read_data-clause-checks
returns-in_err-read_data-clause-checks c =
    let p = err_from_is_err_and c.from_residual.result c.from_residual.ensures.1 in
    rw (p.1, p.2) (λ broken conforms. c.in_err-read_data.ensures.none broken (readable_in_grade c.args.grade c.args.settings
    (bits_in c.args.order c.args.«data».now) (record { columns = omega arith; rows = omega arith }) conforms))

pub returns-in_err-read_data-clause-at : goal.returns-in_err-read_data-clause-at
returns-in_err-read_data-clause-at c =
    let p = err_from_is_err_and c.from_residual.result c.from_residual.ensures.1 in
    rw (p.1, p.2)
    (stops_in_grade c.args.grade c.args.settings (bits_in c.args.order c.args.«data».now) _ c.in_err-read_data.ensures.none
    c.in_err-read_data.ensures.at)
