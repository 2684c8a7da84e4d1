use Rattle.fax_bitmap.proofs.Names.{◌≡◌, ◌+◌, ◌-◌, ◌++◌, ℕ, List, take, drop, ap, ◌∙◌, arith, put_mid, Bits, bits_of}
use Rattle.fax_bitmap.proofs.BlackRuns.{bits_of-put_mid}
use Rattle.fax_words.proofs.WordBytes.{bits_of_word}
use Rattle.fax_bitmap.proofs.pixel_words.put_pixels.Goals as goal

pub returns-clause-written : goal.returns-clause-written
returns-clause-written c =
    let row : List ℕ = c.args.bytes.now in
    let start : ℕ = c.args.start in
    let count : start + 8 - start ≡ 8 = omega arith in
    ap (λ (n : ℕ). bits_of (put_mid start n row c.copy_from_slice.new.self)) count
    ∙ bits_of-put_mid start 8 row c.copy_from_slice.new.self
    ∙ ap (λ (b : Bits). bits_of (take start row) ++ (b ++ bits_of (drop (start + 8) row)))
    (ap bits_of c.copy_from_slice.ensures.after ∙ ap bits_of c.to_be_bytes.ensures ∙ bits_of_word c.args.word)
