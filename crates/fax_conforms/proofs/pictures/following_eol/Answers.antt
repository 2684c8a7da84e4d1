use Rattle.hayro_ccitt.proofs.Names.{here}
use Rattle.fax_conforms.proofs.EolsHere.{no_eol_by_zeros, eol_by_zeros, no_eol_at_end}
use Rattle.fax_conforms.proofs.pictures.following_eol.Goals as goal

pub returns-then-zeros-lt11-clause-none : goal.returns-then-zeros-lt11-clause-none
returns-then-zeros-lt11-clause-none c = no_eol_by_zeros c.zero_run-zeros.result.1 c.zero_run-zeros.result.0
    (here c.args.reader.now)
    c.if-zeros-lt11.true c.zero_run-zeros.ensures.eol c.zero_run-zeros.ensures.no_eol

pub returns-clause-found : goal.returns-clause-found
returns-clause-found c = eol_by_zeros c.zero_run-zeros.result.1 c.zero_run-zeros.result.0 (here c.args.reader.now) _
    c.if-zeros-lt11.false c.zero_run-zeros.ensures.one

pub returns-clause-none : goal.returns-clause-none
returns-clause-none c = no_eol_at_end c.zero_run-zeros.result.1 (here c.args.reader.now) c.zero_run-zeros.ensures.no_eol
