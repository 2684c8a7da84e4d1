use Rattle.fax_bits.proofs.Names.{eqb-true, ◌≡◌, ◌-◌, ◌≤◌, arith, Bits, bits_in}
use Rattle.fax_bits.proofs.BitReading.{BitLists.length-bits_in, FilledWindows.all_after, WindowWords.filled}
use Rattle.fax_bits.proofs.bit_reader.scanner_over.Goals as goal

pub invariant_of-result : goal.invariant_of-result
invariant_of-result c = let order = c.args.order in
    let bytes = c.args.«data».now in
    let place = c.args.place in
    let word = c.args.word in
    let limit = c.min-limit.result in
    let bits : Bits = bits_in order bytes in
    let size = length-bits_in order bytes in
    let least : place ≤ limit = omega (arith, c.min-limit.ensures, c.requires.within) in
    let back : limit - (limit - place) ≡ place = omega (arith, least) in
    grind (arith, filled, all_after, eqb-true)
