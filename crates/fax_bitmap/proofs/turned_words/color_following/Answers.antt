use Rattle.fax_bitmap.proofs.Names.{refl}
use Rattle.fax_bitmap.proofs.TurnedWords.{color_of_last}
use Rattle.fax_bitmap.proofs.turned_words.color_following.Goals as goal

pub returns : goal.returns
returns c =
    let is = color_of_last c.args.word _ refl in
    record { plain = is.0; same = is.1 }
