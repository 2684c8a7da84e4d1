use Rattle.hayro_ccitt.proofs.Names.{ap, sym, subst, Bits, BitsAt, IfErr, here}
use Rattle.fax_conforms.specs.ByProcedure.{ConformsByProcedure}
use Rattle.fax_conforms.specs.Checks.{Checks}
use Rattle.fax_conforms.specs.Conforming.{Conforms}
use Rattle.fax_conforms.specs.Departures.{EndsByProcedure}
use Rattle.fax_conforms.proofs.checking.check_by_procedure.Goals as goal

pub returns-clause-checks : goal.returns-clause-checks
returns-clause-checks c = subst (λ (bits : Bits). Checks (ConformsByProcedure c.args.settings c.args.k bits)
    c.follow_procedure-followed.result) (ap here c.reader_of-reader.ensures) c.follow_procedure-followed.ensures.checks

pub returns-clause-at : goal.returns-clause-at
returns-clause-at c = subst (λ (r : BitsAt). IfErr c.follow_procedure-followed.result
    (EndsByProcedure c.args.settings c.args.k r.bits))
    c.reader_of-reader.ensures c.follow_procedure-followed.ensures.at

pub follow_procedure-followed-requires-clause-readable : goal.follow_procedure-followed-requires-clause-readable
follow_procedure-followed-requires-clause-readable c =
    subst (Conforms c.args.settings) (sym (ap here c.reader_of-reader.ensures)) c.requires.readable
