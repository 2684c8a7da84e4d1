use Rattle.hayro_ccitt.proofs.Names.{true, false}
use Rattle.fax_callers.proofs.RtcPassed.{ends_found}
use Rattle.fax_callers.proofs.rtc.find_page_end.Goals as goal

pub returns-in-Group3_1D-clause-found : goal.returns-in-Group3_1D-clause-found
returns-in-Group3_1D-clause-found c =
    rw c.in-Group3_1D.is (ends_found c.find_rtc.result false c.args.order c.args.piece.now c.args.seen.now
    c.find_rtc.ensures.found)

pub returns-in-Group3_2D-clause-found : goal.returns-in-Group3_2D-clause-found
returns-in-Group3_2D-clause-found c =
    rw c.in-Group3_2D.is
    (ends_found c.find_rtc-in-Group3_2D.result true c.args.order c.args.piece.now c.args.seen.now
    c.find_rtc-in-Group3_2D.ensures.found)
