use Rattle.hayro_ccitt.proofs.Names.{◌∙◌, sym}
use Rattle.fax_conforms.proofs.ClosingsDepart.{rtc_departs, no_rtc_departs}
use Rattle.fax_conforms.proofs.ProcedureEnds.{is_group3}
use Rattle.fax_conforms.proofs.procedure.wrong_closing.Goals as goal

pub returns-in-Group3_1D-clause-found : goal.returns-in-Group3_1D-clause-found
returns-in-Group3_1D-clause-found c =
    rtc_departs c.args.asked.settings c.args.asked.has_eols c.args.taken c.args.reader.now c.fill_in_rtc.result
    (sym c.is_closed.ensures ∙ c.if-not-is_closed.false) (is_group3 c.args.asked.settings.encoding c.in-Group3_1D.is)
    c.if-taken-gt0.true c.fill_in_rtc.ensures.found

pub returns-in-Group3_1D-clause-none : goal.returns-in-Group3_1D-clause-none
returns-in-Group3_1D-clause-none c =
    no_rtc_departs c.args.asked.settings c.args.asked.has_eols c.args.taken c.args.reader.now c.fill_in_rtc.result
    c.in_default.ensures.none c.fill_in_rtc.ensures.none
