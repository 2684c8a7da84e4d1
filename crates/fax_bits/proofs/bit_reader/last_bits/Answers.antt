use Rattle.fax_bits.proofs.Names.{common_steps, ◌≡◌, ℕ, ◌+◌, ◌-◌, ◌*◌, ◌<◌, get_or, false, length, arith, take_rest, Bits, bit_of}
use Rattle.fax_bits.proofs.Names.{bits_in}
use Rattle.fax_bits.proofs.BitReading.{BitLists.length-bits_in, FilledWindows.all_after, WindowWords.bits_in-drop}
use Rattle.fax_bits.proofs.bit_reader.last_bits.Goals as goal

pub returns-then-data-lt8 : goal.returns-then-data-lt8
returns-then-data-lt8 c = λ k h. let bytes = c.args.«data».now in
    let bits : Bits = bits_in c.args.order bytes in
    grind (arith, common_steps, all_after bits (8 * 0), length-bits_in c.args.order bytes)

pub returns : goal.returns
returns c = λ k h. let bytes = c.args.«data».now in
    let bits : Bits = bits_in c.args.order bytes in
    let start : ℕ = length bytes - 8 in
    let shift : ℕ = 64 - c.args.left in
    let whole = c.if-data-lt8.false in
    let word : (k : ℕ) → k < 64
    → bit_of c.whole_word.result (63 - k) ≡ get_or bits (8 * start + k) false = grind (arith, take_rest, bits_in-drop) in
    let at : 8 * start + shift + k ≡ 8 * length bytes - c.args.left + k = omega (arith, whole, c.requires.few) in
    grind (arith, all_after, length-bits_in)
