use Rattle.fax_reading.proofs.EncodedPictures.EncodingsExist.{bytes_begin_with_any_bits}
use Rattle.fax_reading.proofs.EncodedPictures.EncodingsExist.{every_picture_has_an_encoding as the_lemma}
use Rattle.fax_reading.proofs.laws.every_picture_has_an_encoding.Goals as goal

pub returns-clause-bits : goal.returns-clause-bits
returns-clause-bits c = the_lemma

pub returns-clause-bytes : goal.returns-clause-bytes
returns-clause-bytes c = bytes_begin_with_any_bits
