use Rattle.fax_bitmap.proofs.Names.{◌≡◌, ◌+◌, ◌*◌, ◌/◌, ◌%◌, ℕ, ap, ◌∙◌, arith, false, joined_pixels, turned_from}
use Rattle.fax_bitmap.proofs.TurnedWords.{word_turned}
use Rattle.fax_bitmap.proofs.turned_words.turn_following.Goals as goal

pub returns-clause-turned : goal.returns-clause-turned
returns-clause-turned c =
    let place : ℕ = c.args.place in
    let split : 64 * (place / 64) + place % 64 ≡ place = omega arith in
    word_turned false (place / 64) (place % 64) _ c.args.words.now c.requires (omega arith) c.ones_from.ensures
    ∙ ap (λ (n : ℕ). turned_from n (joined_pixels false c.args.words.now)) split
