use Rattle.fax_bitmap.proofs.ScannedWords.{word_of_bytes}
use Rattle.fax_bitmap.proofs.pixel_words.first_pixels.Goals as goal

pub returns : goal.returns
returns c = word_of_bytes c.args.bytes.now c.from_be_bytes.result (λ i. (c.type_inv.bytes i).fits) c.from_be_bytes.ensures
