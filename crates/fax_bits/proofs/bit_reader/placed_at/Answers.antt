use Rattle.fax_bits.proofs.Names.{arith}
use Rattle.fax_bits.proofs.BitReading.WindowWords.{filled, filled_after}
use Rattle.fax_bits.proofs.bit_reader.placed_at.Goals as goal

pub invariant_of-result : goal.invariant_of-result
invariant_of-result c = let order = c.args.order in
    let bytes = c.args.«data».now in
    let place = c.args.place in
    let word = c.word_at-ahead.result in
    record {
      fit = c.requires.fit;
      within = omega arith;
      before_end = omega arith;
      near = omega arith;
      held = λ k h. filled order bytes place word c.word_at-ahead.ensures k (omega (arith, h));
      after = λ k h past. filled_after order bytes place word c.word_at-ahead.ensures k h (omega (arith, past));
      ahead = c.word_at-ahead.ensures;
      reached = omega arith;
      near_edge = omega arith;
      inside = λ h. omega (arith, c.requires.within);
    }
