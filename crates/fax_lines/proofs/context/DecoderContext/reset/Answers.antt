use Rattle.fax_lines.proofs.Names.{rules}
use Rattle.fax_lines.proofs.context.DecoderContext.reset.Goals as goal

pub returns : goal.returns
returns c = search rules
