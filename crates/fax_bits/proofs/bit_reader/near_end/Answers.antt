use Rattle.fax_bits.proofs.Names.{◌≡◌, ℕ, ◌+◌, ◌-◌, ◌*◌, ◌<◌, get_or, false, length, arith, take_rest, Bits, bit_of, bits_in}
use Rattle.fax_bits.proofs.BitReading.{BitLists.length-bits_in, FilledWindows.all_after, WindowWords.bits_in-drop}
use Rattle.fax_bits.proofs.bit_reader.near_end.Goals as goal

pub returns : goal.returns
returns c k h = let bytes = c.args.«data».now in
    let bits : Bits = bits_in c.args.order bytes in
    let start : ℕ = length bytes - 8 in
    let most : ℕ = 8 * (c.args.byte - start - 1) in
    let size = length-bits_in c.args.order bytes in
    let word : (k : ℕ) → k < 64
    → bit_of c.whole_word.result (63 - k) ≡ get_or bits (8 * start + k) false = grind (arith, take_rest, bits_in-drop) in
    let less = all_after bits (8 * start) most c.whole_word.result (omega (arith, size, c.requires.whole)) word in
    let at : 8 * start + most + 8 + k ≡ 8 * c.args.byte + k = omega (arith, c.requires.whole, c.requires.near) in
    grind (arith, all_after)
