use Rattle.fax_bits.proofs.Names.{◌-◌, sym, ap, ◌∙◌, here}
use Rattle.fax_bits.proofs.BitReading.OnesLeft.{one_after}
use Rattle.fax_bits.proofs.bit_reader.BitReader.holds_far_one.Goals as goal

pub returns : goal.returns
returns c = let next = c.pass_zeros.new.self in
    let start = c.copy-reader.result in
    one_after (here c.args.self.now) (next.place - start.place) next.bits next.place c.pass_zeros.result
    (ap here (sym c.copy-reader.ensures.value) ∙ c.pass_zeros.ensures.zeros) c.pass_zeros.ensures.one c.pass_zeros.ensures.end
