use Rattle.fax_bits.proofs.Names.{◌≡◌, ◌+◌, ◌-◌, ◌≤◌, ℕ, false, get_or, ap, ◌∙◌, arith, Bits, bits_in}
use Rattle.fax_bits.proofs.BitReading.WindowWords.{holds_on, zeros_after}
use Rattle.fax_bits.proofs.bit_reader.Window.pass.Goals as goal

pub invariant_of-self : goal.invariant_of-self
invariant_of-self c = let r = c.self.inside in
    let n = c.args.n in
    let bits : Bits = bits_in r.order r.«data».now in
    let within : n ≤ r.left = rw (← c.self.view_is) at c.requires.within in
    let held = c.self.invariant in
    record {
      fit = held.fit;
      some = omega (arith, held.some);
      few = omega (arith, held.few);
      before_end = held.before_end;
      held = λ k h. let at : r.limit - r.left + n + k ≡ r.limit - (r.left - n) + k = omega (arith, within, held.some) in
          holds_on bits (r.limit - r.left) n r.left r.window held.few held.held k (omega (arith, h, within))
          ∙ ap (λ (i : ℕ). get_or bits i false) at;
      after = λ k h past. zeros_after n r.left r.window held.after k h (omega (arith, past, within));
    }
