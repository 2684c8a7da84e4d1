use Rattle.fax_bits.proofs.Names.{common_steps, ◌≡◌, ◌+◌, ◌-◌, ◌*◌, ◌/◌, ◌<◌, ℕ, get_or, false, length, ap, ◌∙◌, sym, arith}
use Rattle.fax_bits.proofs.Names.{take_rest, bit_of, bits_in}
use Rattle.fax_bits.proofs.BitReading.BitLists.{length-bits_in}
use Rattle.fax_bits.proofs.BitReading.WindowWords.{bits_in-drop}
use Rattle.fax_bits.proofs.bit_reader.go_on_with.Goals as goal

pub invariant_of-reader : goal.invariant_of-reader
invariant_of-reader c =
    let r = c.reader.inside in
    let h = c.window.inside in
    let same : bits_in h.order h.«data».now ≡ bits_in r.order r.«data».now = grind (arith, common_steps) in
    let long : 8 * length h.«data».now ≡ 8 * length r.«data».now =
    sym (length-bits_in h.order h.«data».now) ∙ ap length same ∙ length-bits_in r.order r.«data».now in
    let edge : ℕ = (h.limit + 7) / 8 - 8 in
    let place : c.bit_pos-reader-inside.result ≡ h.limit - h.left = grind (arith, common_steps) in
    let few = c.window.invariant.few in
    let some = c.window.invariant.some in
    let word = c.whole_word-reader-inside.result in
    let fresh : (k : ℕ) → k < 64 → bit_of word (63 - k) ≡ get_or (bits_in r.order r.«data».now) (8 * edge + k) false =
    grind (arith, take_rest, bits_in-drop) in
    record {
      fit = c.reader.invariant.fit;
      within = omega (arith, c.if-window-ge33.true, place, some);
      before_end = omega (arith, long, c.window.invariant.before_end);
      near = omega (arith, place, few, some, c.if-window-ge33.true);
      held = λ k lt. rw (← same, place) (c.window.invariant.held k (omega (arith, lt, place, some, c.if-window-ge64.true)));
      after = λ k lt past. c.window.invariant.after k lt (omega (arith, past, place, some, c.if-window-ge64.true));
      ahead = fresh;
      reached = omega arith;
      near_edge = omega arith;
      inside = λ lt. omega (arith);
    }
