use Rattle.hayro_ccitt.proofs.Names.{here}
use Rattle.fax_conforms.proofs.WordsPaid.{mode_has_bits}
use Rattle.fax_conforms.proofs.words.Words.mode.Goals as goal

pub returns-in-Ok-clause-shorter : goal.returns-in-Ok-clause-shorter
returns-in-Ok-clause-shorter c =
    mode_has_bits (here c.args.reader.now) _ (here c.decode_mode.new.self) c.in-Ok.ensures.mode
