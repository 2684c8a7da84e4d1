use Rattle.fax_bits.proofs.Names.{◌≡◌, ◌+◌, ◌-◌, ◌*◌, ◌/◌, ◌<◌, ℕ, get_or, false, arith, take_rest, bit_of, bits_in}
use Rattle.fax_bits.proofs.BitReading.WindowWords.{bits_in-drop, filled, filled_after}
use Rattle.fax_bits.proofs.bit_reader.BitReader.move_far.Goals as goal

pub invariant_of-self : goal.invariant_of-self
invariant_of-self c =
    let r = c.self.inside in
    let bytes = r.«data».now in
    let place = c.args.place in
    let word = c.whole_word-ahead.result in
    let fresh : (k : ℕ) → k < 64 → bit_of word (63 - k) ≡ get_or (bits_in r.order bytes) (8 * (place / 8) + k) false =
    grind (arith, take_rest, bits_in-drop) in
    record {
      fit = c.self.invariant.fit;
      within = omega arith;
      before_end = omega (arith, c.if-edge-self.false);
      near = omega arith;
      held = λ k h. filled r.order bytes place word fresh k (omega (arith, h));
      after = λ k h past. filled_after r.order bytes place word fresh k h (omega (arith, past));
      ahead = fresh;
      reached = omega arith;
      near_edge = omega arith;
      inside = λ h. omega (arith, c.if-edge-self.false);
    }
