use Rattle.fax_callers.proofs.PagesPaid.{pages_are_paid}
use Rattle.fax_callers.proofs.laws.pages_paid.Goals as goal

pub returns : goal.returns
returns c = pages_are_paid
