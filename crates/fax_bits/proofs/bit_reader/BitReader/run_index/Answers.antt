use Rattle.fax_bits.proofs.Names.{common_steps, ◌*◌, ◌%◌, ◌≤◌, ◌^◌, ℕ, arith, Bits, bits_in, moved, lookup_bits}
use Rattle.fax_bits.proofs.CodeWords.LookedUp.{few_bits}
use Rattle.fax_bits.proofs.BitReading.{BitPlaces.bits_at, WindowWords.holds_on, PeekedBits.first_index}
use Rattle.fax_bits.proofs.bit_reader.BitReader.run_index.Goals as goal

pub returns-clause-bits : goal.returns-clause-bits
returns-clause-bits c = let r = c.self.inside in
    let n = c.args.skip in
    let count : ℕ = lookup_bits c.args.color in
    let few : count ≤ 13 = few_bits c.args.color in
    let bits : Bits = bits_in r.order r.«data».now in
    let filled = c.self.invariant in
    rw (← c.self.view_is, c.lookup_bits.ensures.value) (first_index (moved n (bits_at bits r.place)) (r.window * 2 ^ n % 2 ^ 64)
    count (omega (arith, few)) (λ k h. holds_on bits r.place n 33 r.window (omega arith)
    (λ j lt. filled.held j (omega (arith, lt, filled.within))) k (omega (arith, h, few, c.requires.near))))

pub returns-clause-few : goal.returns-clause-few
returns-clause-few c = grind (arith, common_steps)
