use Rattle.fax_reading.proofs.EncodedPictures.PicturesT6.{pictures_come_to_eofb}
use Rattle.fax_reading.proofs.EncodedPictures.PicturesT6.{after_eofb as the_lemma}
use Rattle.fax_reading.proofs.laws.after_eofb.Goals as goal

pub returns-clause-law : goal.returns-clause-law
returns-clause-law c = the_lemma

pub returns-clause-pictures : goal.returns-clause-pictures
returns-clause-pictures c = pictures_come_to_eofb
