use Rattle.fax_bits.proofs.Names.{◌+◌, ◌-◌, ◌*◌, ◌%◌, ◌^◌, ◌≤◌, ℕ, arith, Bits, bits_in, moved, common_steps, lookup_bits}
use Rattle.fax_bits.proofs.CodeWords.LookedUp.{few_bits}
use Rattle.fax_bits.proofs.BitReading.{BitLists.length-bits_in, BitPlaces.bits_at, WindowWords.holds_on, PeekedBits.first_index}
use Rattle.fax_bits.proofs.bit_reader.Window.run_index.Goals as goal

pub returns-clause-bits : goal.returns-clause-bits
returns-clause-bits c = let r = c.self.inside in
    let n = c.args.skip in
    let count : ℕ = lookup_bits c.args.color in
    let fits : count ≤ 13 = few_bits c.args.color in
    let bits : Bits = bits_in r.order r.«data».now in
    let within : n + 13 ≤ r.left = rw (← c.self.view_is) at c.requires.within in
    rw (← c.self.view_is, c.lookup_bits.ensures.value) (first_index (moved n (bits_at bits (r.limit - r.left)))
    (r.window * 2 ^ n % 2 ^ 64) count (omega (arith, fits)) (λ k h. holds_on bits (r.limit - r.left) n r.left r.window
    c.self.invariant.few c.self.invariant.held k (omega (arith, h, fits, within))))

pub returns-clause-there : goal.returns-clause-there
returns-clause-there c = grind (arith, common_steps, length-bits_in)

pub returns-clause-few : goal.returns-clause-few
returns-clause-few c = grind (arith, common_steps)
