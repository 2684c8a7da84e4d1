use Rattle.fax_reading.proofs.EncodedPictures.PicturesT4.{limited_rows_t4}
use Rattle.fax_reading.proofs.EncodedPictures.PicturesT4.{closed_picture_t4, limited_picture_t4}
use Rattle.fax_reading.proofs.laws.t4_pictures.Goals as goal

pub returns-clause-closed : goal.returns-clause-closed
returns-clause-closed c = closed_picture_t4

pub returns-clause-limited : goal.returns-clause-limited
returns-clause-limited c = limited_picture_t4

pub returns-clause-body : goal.returns-clause-body
returns-clause-body c = limited_rows_t4
