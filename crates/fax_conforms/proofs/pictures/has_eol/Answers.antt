use Rattle.hayro_ccitt.proofs.Names.{◌∙◌, sym}
use Rattle.fax_conforms.proofs.EolsHere.{none_there}
use Rattle.fax_conforms.proofs.pictures.has_eol.Goals as goal

pub returns-clause-none : goal.returns-clause-none
returns-clause-none c = λ e. none_there c.following_eol.result _ (sym c.is_some.ensures ∙ e) c.following_eol.ensures.none
