use Rattle.fax_bits.proofs.Names.{common_steps, arith, ◌∙◌, ◌-◌, ◌*◌, ◌/◌, ◌%◌, ◌^◌, ap, subst, sym, BitOrder, from_be_bytes, w64}
use Rattle.fax_bits.proofs.BitReading.PlacedBits.{bytes_of_word, placed_high, placed_low, turned_low}
use Rattle.fax_bits.proofs.BitReading.WindowWords.{IsBytes}
use Rattle.fax_bits.specs.Window.{ArePlaced, WordsAt}
use Rattle.std.proofs.lemmas.Nat.{from_be_bytes-to_be_bytes_8}
use Rattle.fax_bits.proofs.bit_reader.WordsAhead.placed.Goals as goal

pub returns-in-HighestFirst : goal.returns-in-HighestFirst
returns-in-HighestFirst c = grind (arith, common_steps, placed_high c.args.count c.args.bits c.requires.some c.requires.few)

pub returns-in-LowestFirst : goal.returns-in-LowestFirst
returns-in-LowestFirst c = let order = sym c.in-LowestFirst.is ∙ ap (λ (w : WordsAt). w.order) c.self.view_is in
    let turned = c.bytes_turned.result in
    subst (λ (o : BitOrder). ArePlaced o c.args.count c.args.bits
    (record { count = c.args.count; mask = (2 ^ 64 - 1) / 2 ^ (64 - c.args.count); word = c.low_word.result })) order
    (placed_low c.args.count c.args.bits c.low_word.result c.requires.some c.requires.few (λ k h. c.low_word.ensures k h
    ∙ turned_low c.to_be_bytes.result (c.args.bits * 2 ^ (64 - c.args.count) % 2 ^ 64) turned k
    (subst IsBytes (sym c.to_be_bytes.ensures) (bytes_of_word turned)) h (ap (from_be_bytes w64) c.to_be_bytes.ensures
    ∙ from_be_bytes-to_be_bytes_8 turned c.bytes_turned.type_inv) c.bytes_turned.ensures))
