use Rattle.fax_bitmap.proofs.Names.{◌*◌, ℕ, take, ap, ◌∙◌, sym, bits_of, low_bits}
use Rattle.fax_words.proofs.WordBytes.{bits_of-take, bits_of_word}
use Rattle.fax_bitmap.proofs.painting.put_bytes.Goals as goal

pub returns : goal.returns
returns c =
    let count : ℕ = c.args.count in
    ap bits_of c.copy_from_slice.ensures.after ∙ bits_of-take count c.to_be_bytes.result
    ∙ ap (take (8 * count)) (ap bits_of c.to_be_bytes.ensures ∙ bits_of_word c.args.word)
    ∙ ap (λ (n : ℕ). take (8 * n) (low_bits 64 c.args.word)) (sym c.requires.all)
