use Rattle.fax_bitmap.proofs.Names.{◌∙◌}
use Rattle.fax_bitmap.proofs.TurnedWords.{ones_at}
use Rattle.fax_bitmap.proofs.pixel_words.ones_from.Goals as goal

pub returns : goal.returns
returns c = c.word_of.ensures ∙ ones_at c.args.offset c.requires
