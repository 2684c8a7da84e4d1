-- Bits that are in the window.
use Rattle.fax_bits.proofs.Names.{◌≡◌, ℕ, ◌+◌, ◌-◌, ◌/◌, ◌≤◌, ◌^◌, ◌++◌, [], length, drop, sym, ap, ◌∙◌, arith, append-nil}
use Rattle.fax_bits.proofs.Names.{drop-drop, length-drop, bits_in, low_bits, padded, Bits, BitsAt, here, moved}
use Rattle.fax_bits.proofs.BitReading.PeekedBits.{highest_bits}
use Rattle.fax_bits.proofs.CodeWords.LooksAhead.{length-padded, stands_in_padded}
use Rattle.fax_bits.specs.declared.bit_reader.BitReader.TheInside.{Inside}
use Rattle.fax_bits.specs.Window.{IsFilled}

-- the highest bits of the window are the next ones, if they are within the data
module _ (r : Inside) (filled : IsFilled r) (count bits : ℕ) (few : count ≤ 33) (is : r.window / 2 ^ (64 - count) ≡ bits)
    (room : r.place + count ≤ length (bits_in r.order r.«data».now)) where
  abbrev at : BitsAt
  at = record { bits = bits_in r.order r.«data».now; place = r.place }

  next : low_bits count bits ≡ padded count (here at)
  next = ap (low_bits count) (sym is) ∙ highest_bits 64 at r.window count (omega arith)
      (λ k lt. filled.held k (omega (arith, filled.within)))

  pub there : here at ≡ low_bits count bits ++ here (moved count at)
  there = let word : Bits = padded count (here at) in
      let long : length word ≡ count = length-padded count (here at) in
      let left = length-drop r.place at.bits in
      let stands : here at ≡ word ++ drop (length word)
      (here at) = stands_in_padded count (here at) word [] (sym (append-nil word)) (omega (arith, long, left)) in
      grind (arith, drop-drop, next)
