use Rattle.hayro_ccitt.proofs.Names.{◌≡◌, ◌≤◌, ◌++◌, ℕ, length, length-drop, drop, ap, sym, ◌∙◌, arith, here, Bits, BitsAt}
use Rattle.hayro_ccitt.proofs.Names.{bits_in, Some}
use Rattle.hayro_ccitt.proofs.BitReading.BitLists.{length-bits_in}
use Rattle.fax_callers.specs.Rtc.{after_rtc}
use Rattle.fax_callers.proofs.rtc.find_rtc.Goals as goal

module _ (c : goal.After-div_ceil) where
  abbrev bits : Bits
  bits = bits_in c.args.order c.args.«data».now

  abbrev place : ℕ
  place = c.pass_rtc.new.reader.place

  same_bits : c.pass_rtc.new.reader.bits ≡ bits
  same_bits = c.pass_rtc.ensures.same_bits ∙ ap (λ (at : BitsAt). at.bits) c.reader_of-reader.ensures

  within : place ≤ length bits
  within = omega (arith, c.bit_pos.ensures.within, c.bit_pos.ensures.place, ap (λ (b : Bits). length b) same_bits)

  after : (more : Bits) → after_rtc c.args.tags c.args.seen.now (bits ++ more) ≡ Some (drop place bits ++ more)
  after more =
      ap (λ (at : BitsAt). after_rtc c.args.tags c.args.seen.now (here at ++ more)) (sym c.reader_of-reader.ensures)
      ∙ c.pass_rtc.ensures.found c.if-not-pass_rtc.false more ∙ ap (λ (b : Bits). Some (drop place b ++ more)) same_bits

pub returns-clause-found : goal.returns-clause-found
returns-clause-found c =
    let size = length-bits_in c.args.order c.args.«data».now in
    let left = length-drop (place c) (bits c) in (
      omega (arith, within c, size, c.div_ceil.ensures, c.bit_pos.ensures.place),
      (
        drop (place c) (bits c),
        after c,
        omega (arith, left, size),
        omega (arith, left, size, within c, c.div_ceil.ensures, c.bit_pos.ensures.place),
      ),
    )
