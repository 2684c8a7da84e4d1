use Rattle.fax_bitmap.proofs.Names.{◌≡◌, ◌-◌, ◌≤◌, ◌%◌, ◌^◌, ℕ, length, ap, ◌∙◌, arith, bit_xor, low_bits}
use Rattle.fax_bitmap.proofs.PaintedWords.{turned_following}
use Rattle.fax_bitmap.proofs.painting.turned.Goals as goal

pub returns-clause-word : goal.returns-clause-word
returns-clause-word c = λ front len e.
    let in_word : c.args.place % 64 ≡ length front =
    omega (arith, c.requires.stands.begun, c.requires.stands.from, c.requires.stands.below) in
    let few : length front ≤ 64 = omega arith in
    let mask : c.ones_from.result ≡ 2 ^ (64 - length front) - 1 =
    c.ones_from.ensures ∙ ap (λ (k : ℕ). 2 ^ (64 - k) - 1) in_word in
    ap (λ (m : ℕ). low_bits 64 (bit_xor c.args.brush.word m)) mask
    ∙ turned_following front (64 - length front) c.args.brush.word 64 c.args.brush.is_black (omega arith) e
