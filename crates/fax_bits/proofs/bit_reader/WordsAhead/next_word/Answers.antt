use Rattle.fax_bits.proofs.BitReading.WindowWords.{filled, bit_at-shr, bits_in-drop}
use Rattle.fax_bits.proofs.Names.{◌≡◌, ◌+◌, ◌*◌, ◌/◌, ◌%◌, ◌^◌, ◌<◌, arith, bits_in, bit_of, ℕ, get_or, false, take_rest}
use Rattle.fax_bits.proofs.BitReading.BitLists.{length-bits_in}
use Rattle.fax_bits.specs.Window.{position_of}
use Rattle.fax_bits.proofs.bit_reader.WordsAhead.next_word.Goals as goal

pub returns-in-HighestFirst : goal.returns-in-HighestFirst
returns-in-HighestFirst c = let r = c.self.inside in
    let bytes = r.«data».now in
    let held : (k : ℕ) → k < 57 → bit_of (c.whole_word.result * 2 ^ (r.place % 8) % 2 ^ 64) (position_of r.order k) ≡ get_or
    (bits_in r.order bytes) (r.place + k) false = grind (arith, filled, take_rest, bits_in-drop) in
    rw (← c.self.view_is) grind (arith, length-bits_in)

pub returns-in-LowestFirst : goal.returns-in-LowestFirst
returns-in-LowestFirst c = let r = c.self.inside in
    let bytes = r.«data».now in
    let held : (k : ℕ) → k < 57 → bit_of (c.low_word.result / 2 ^ (r.place % 8)) (position_of r.order k) ≡ get_or
    (bits_in r.order bytes) (r.place + k) false = grind (arith, bit_at-shr, take_rest, bits_in-drop) in
    rw (← c.self.view_is) grind (arith, length-bits_in)
