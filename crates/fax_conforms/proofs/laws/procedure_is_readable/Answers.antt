use Rattle.fax_conforms.proofs.ProcedureReadable.{procedure_is_readable}
use Rattle.fax_conforms.proofs.laws.procedure_is_readable.Goals as goal

pub returns : goal.returns
returns c = procedure_is_readable
