use Rattle.fax_bits.proofs.Names.{◌+◌, ◌-◌, ◌*◌, ◌%◌, ◌^◌, ◌≤◌, arith, Bits, bits_in, moved, common_steps}
use Rattle.fax_bits.proofs.BitReading.{BitLists.length-bits_in, BitPlaces.bits_at, WindowWords.holds_on, PeekedBits.first_twelve}
use Rattle.fax_bits.proofs.bit_reader.Window.peek_12.Goals as goal

pub returns-clause-bits : goal.returns-clause-bits
returns-clause-bits c = let r = c.self.inside in
    let n = c.args.skip in
    let bits : Bits = bits_in r.order r.«data».now in
    let within : n + 12 ≤ r.left = rw (← c.self.view_is) at c.requires.within in
    rw (← c.self.view_is) (first_twelve (moved n (bits_at bits (r.limit - r.left))) (r.window * 2 ^ n % 2 ^ 64) (λ k h. holds_on
    bits (r.limit - r.left) n r.left r.window c.self.invariant.few c.self.invariant.held k (omega (arith, h, within))))

pub returns-clause-there : goal.returns-clause-there
returns-clause-there c = grind (arith, common_steps, length-bits_in)
