use Rattle.fax_lines.proofs.Names.{rules}
use Rattle.fax_lines.proofs.context.DecoderContext.new.Goals as goal

pub returns-clause-made : goal.returns-clause-made
returns-clause-made c = search rules
