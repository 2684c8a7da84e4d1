use Rattle.fax_conforms.proofs.ProcedureEncoded.{procedure_is_encoded}
use Rattle.fax_conforms.proofs.laws.procedure_is_encoded.Goals as goal

pub returns : goal.returns
returns c = procedure_is_encoded
