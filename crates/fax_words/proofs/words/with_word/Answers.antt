use Rattle.fax_words.proofs.Names.{◌≡◌, ◌+◌, ◌*◌, ◌%◌, ◌^◌, ◌<◌, ℕ, sym, ap, subst, ◌∙◌, arith, bit_or, low_bits}
use Rattle.fax_words.proofs.WrittenBits.{two_words_bits, two_words_fit}
use Rattle.fax_words.proofs.words.with_word.Goals.{After-from-2}
use Rattle.fax_words.proofs.words.with_word.Goals as goal

-- the number that is returned
number_joined : (c : After-from-2) → bit_or (c.args.before.bits * 2 ^ c.args.word.count % 2 ^ 64) c.from-2.result
    ≡ bit_or (c.args.before.bits * 2 ^ c.args.word.count % 2 ^ 64) c.args.word.bits
number_joined c = ap (λ (n : ℕ). bit_or (c.args.before.bits * 2 ^ c.args.word.count % 2 ^ 64) n) c.from-2.ensures

pub returns-clause-fits : goal.returns-clause-fits
returns-clause-fits c =
    let fit = two_words_fit c.args.before.bits c.args.before.count c.args.word.bits c.args.word.count _
    (omega (arith, c.requires.room)) c.requires.fits.0 c.requires.fits.1 (number_joined c) in
    subst (λ (n : ℕ). bit_or (c.args.before.bits * 2 ^ c.args.word.count % 2 ^ 64) c.from-2.result < 2 ^
    (c.args.before.count + n))
    (sym c.from.ensures) fit

pub returns-clause-spells : goal.returns-clause-spells
returns-clause-spells c =
    let bits : ℕ = bit_or (c.args.before.bits * 2 ^ c.args.word.count % 2 ^ 64) c.from-2.result in
    ap (λ (n : ℕ). low_bits (c.args.before.count + n) bits) c.from.ensures
    ∙ two_words_bits c.args.before.bits c.args.before.count c.args.word.bits c.args.word.count bits
    (omega (arith, c.requires.room)) c.requires.fits.0 c.requires.fits.1 (number_joined c)
