use Rattle.fax_reading.proofs.{EncodedPictures.PicturesT4.one_picture_t4, EncodedPictures.PicturesT6.one_picture_t6}
use Rattle.fax_reading.proofs.laws.one_picture.Goals as goal

pub returns-clause-t6 : goal.returns-clause-t6
returns-clause-t6 c = one_picture_t6

pub returns-clause-t4 : goal.returns-clause-t4
returns-clause-t4 c = one_picture_t4
