use Rattle.fax_bits.proofs.Names.{common_steps, arith}
use Rattle.fax_bits.proofs.BitReading.BitLists.{length-bits_in}
use Rattle.fax_bits.proofs.bit_reader.go_on_at.Goals as goal

pub at_place-requires-clause-within : goal.at_place-requires-clause-within
at_place-requires-clause-within c = let r = c.reader.inside in
    let w = c.words.inside in
    grind (arith, common_steps, length-bits_in w.order w.«data».now, length-bits_in r.order r.«data».now)
