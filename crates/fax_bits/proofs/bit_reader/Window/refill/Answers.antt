use Rattle.fax_bits.proofs.Names.{common_steps, ◌≡◌, ◌+◌, ◌-◌, ◌*◌, ◌/◌, ◌<◌, ℕ, false, get_or, arith, take_rest, Bits, bit_of}
use Rattle.fax_bits.proofs.Names.{bits_in}
use Rattle.fax_bits.proofs.BitReading.WindowWords.{filled, filled_after, bits_in-drop}
use Rattle.fax_bits.proofs.bit_reader.Window.refill.Goals as goal

pub invariant_of-self : goal.invariant_of-self
invariant_of-self c = let r = c.self.inside in
    let place = r.limit - r.left in
    let bits : Bits = bits_in r.order r.«data».now in
    let word = c.whole_word-word.result in
    let fresh : (j : ℕ) → j < 64
    → bit_of word (63 - j) ≡ get_or bits (8 * (place / 8) + j) false = grind (arith, take_rest, bits_in-drop) in
    record {
      fit = c.self.invariant.fit;
      some = omega arith;
      few = omega arith;
      before_end = omega arith;
      held = λ k h. grind (arith, common_steps, filled r.order r.«data».now place word fresh k (omega (arith, h)));
      after = λ k h past. filled_after r.order r.«data».now place word fresh k h (omega (arith, past));
    }
