use Rattle.fax_bitmap.proofs.Names.{bit_of}
use Rattle.fax_bitmap.proofs.TurnedWords.{pixels_after}
use Rattle.fax_bitmap.proofs.turned_words.after.Goals as goal

pub returns : goal.returns
returns c =
    let after = pixels_after (bit_of c.args.color 0) c.args.color c.args.word c.requires in
    record { pixels = after.0; last = after.1 }
