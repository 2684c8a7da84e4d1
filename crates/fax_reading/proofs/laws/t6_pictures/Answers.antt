use Rattle.fax_reading.proofs.EncodedPictures.PicturesT6.{closed_picture_t6, limited_rows_t6}
use Rattle.fax_reading.proofs.laws.t6_pictures.Goals as goal

pub returns-clause-closed : goal.returns-clause-closed
returns-clause-closed c = closed_picture_t6

pub returns-clause-limited : goal.returns-clause-limited
returns-clause-limited c = limited_rows_t6
