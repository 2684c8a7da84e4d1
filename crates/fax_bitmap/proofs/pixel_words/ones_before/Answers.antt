use Rattle.fax_bitmap.proofs.Names.{◌∙◌, ap, low_bits}
use Rattle.fax_bitmap.proofs.TurnedWords.{ones_before_at}
use Rattle.fax_bitmap.proofs.pixel_words.ones_before.Goals as goal

pub returns : goal.returns
returns c = ap (low_bits 64) c.word_of.ensures ∙ ones_before_at c.args.zeros c.requires
