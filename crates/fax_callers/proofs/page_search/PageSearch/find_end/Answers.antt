use Rattle.fax_callers.proofs.RtcPassed.{ends_found, page_found, passes_found}
use Rattle.fax_callers.proofs.page_search.PageSearch.find_end.Goals as goal

pub returns-clause-found : goal.returns-clause-found
returns-clause-found c = ends_found c.find_rtc.result c.args.self.now.two_dimensional c.args.self.now.order c.args.piece.now
    c.args.self.now.seen c.find_rtc.ensures.found

pub returns-clause-none : goal.returns-clause-none
returns-clause-none c = passes_found c.find_rtc.result c.args.self.now.two_dimensional c.args.self.now.order c.args.piece.now
    c.args.self.now.seen c.find_rtc.new.seen c.find_rtc.ensures.none

pub returns-clause-closed : goal.returns-clause-closed
returns-clause-closed c = page_found c.find_rtc.result c.args.self.now.two_dimensional c.args.self.now.order c.args.piece.now
    c.args.self.now.seen c.find_rtc.new.seen c.find_rtc.ensures.found c.find_rtc.ensures.none
