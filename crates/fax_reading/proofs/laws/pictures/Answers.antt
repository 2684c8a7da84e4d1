use Rattle.fax_reading.proofs.EncodedPictures.PicturesOfEachKind.{closed_pictures, limited_pictures}
use Rattle.fax_reading.proofs.laws.pictures.Goals as goal

pub returns-clause-closed : goal.returns-clause-closed
returns-clause-closed c = closed_pictures

pub returns-clause-limited : goal.returns-clause-limited
returns-clause-limited c = limited_pictures
