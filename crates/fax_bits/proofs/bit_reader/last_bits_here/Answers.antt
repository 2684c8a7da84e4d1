use Rattle.fax_bits.proofs.Names.{◌≡◌, ℕ, ◌+◌, ◌-◌, ◌*◌, ◌<◌, ◌∙◌, ap, get_or, false, length, arith, take_rest}
use Rattle.fax_bits.proofs.Names.{Bits, bit_of, bits_in}
use Rattle.fax_bits.proofs.BitReading.{BitLists.length-bits_in, FilledWindows.all_after, WindowWords.bits_in-drop}
use Rattle.fax_bits.proofs.bit_reader.last_bits_here.Goals as goal

none_before : (j : ℕ) → j ≡ 0 + j
none_before j = omega arith

pub returns-then-data-lt8 : goal.returns-then-data-lt8
returns-then-data-lt8 c = λ k h.
    let bytes = c.args.«data».now in
    let bits : Bits = bits_in c.args.order bytes in
    let size = length-bits_in c.args.order bytes in
    let shift : ℕ = length bytes * 8 - c.args.left in
    let at : 0 + shift + k ≡ 8 * length bytes - c.args.left + k = omega arith in
    all_after bits 0 shift c.few_bytes.result (omega (arith, size, c.if-data-lt8.true)) (λ j lt. c.few_bytes.ensures j lt
    ∙ ap (λ (n : ℕ). get_or bits n false) (none_before j)) k h
    ∙ ap (λ (n : ℕ). get_or bits n false) at

pub returns : goal.returns
returns c = λ k h.
    let bytes = c.args.«data».now in
    let bits : Bits = bits_in c.args.order bytes in
    let start : ℕ = length bytes - 8 in
    let shift : ℕ = 63 - c.args.left in
    let whole = c.if-data-lt8.false in
    let size = length-bits_in c.args.order bytes in
    let word : (k : ℕ) → k < 64
    → bit_of c.whole_word.result (63 - k) ≡ get_or bits (8 * start + k) false = grind (arith, take_rest, bits_in-drop) in
    let less = all_after bits (8 * start) 1 c.whole_word.result (omega (arith, size, whole)) word in
    let at : 8 * start + 1 + shift + k ≡ 8 * length bytes - c.args.left + k = omega (arith, whole, c.requires.few) in
    all_after bits (8 * start + 1) shift _ (omega (arith, size, whole)) less k h ∙ ap (λ (n : ℕ). get_or bits n false) at
