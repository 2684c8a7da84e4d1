use Rattle.hayro_ccitt.proofs.Names.{◌∙◌, sym, pixels}
use Rattle.fax_conforms.proofs.PensDrawn.{b2_same}
use Rattle.fax_conforms.proofs.lines.find_above.Goals as goal

pub returns-clause-b2 : goal.returns-clause-b2
returns-clause-b2 c =
    b2_same (pixels c.args.columns c.args.reference.now) c.args.pen c.requires.black c.requires.start
    ∙ c.b1_index-index.ensures.b2 ∙ sym c.change_or_end-2.ensures
