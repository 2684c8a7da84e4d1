-- What the calls of a reader of bits return and leave.
use Rattle.std.specs.Prelude.{◌≡◌, ◌+◌, ◌-◌, ◌<◌, ◌≤◌, ℕ, List, length, get_or, false, Result, Ok, Err, MatchResult}
use Rattle.fax_bits.specs.Bits.{Bits, BitsAt, bit_of, bits_in, here}
use Rattle.fax_bits.specs.Ticks.{looked}
use Rattle.fax_bits.specs.Window.{AtHand}
use Rattle.fax_bits.specs.declared.bit_reader.BitOrder.{BitOrder}
use Rattle.fax_bits.specs.declared.error.DecodeError.{DecodeError}

-- A call returns what reading the bits here yields, and leaves the reader at what follows; or it returns the fault of the reading
-- (T.4, 4.1.1 and 4.2.1.3).
abbrev pub Reads : {V : Type 0} → (Bits → Result (V × Bits) DecodeError) → BitsAt → BitsAt → Result V DecodeError → Type 0
Reads reading old new answer =
    MatchResult answer (λ v. reading (here old) ≡ Ok (v, here new)) (λ e. reading (here old) ≡ Err e)

-- ---- auxiliary: readers and words of their bits

-- the bits of bytes, and an offset among them
abbrev pub at_offset : BitOrder → List ℕ → ℕ → BitsAt
at_offset order bytes place = record { bits = bits_in order bytes; place = place }

-- a word has the first 64 bits, the first in the highest position, and zeros past the end
abbrev pub HasFirstBits : Bits → ℕ → Type 0
HasFirstBits bits word = (k : ℕ) → k < 64 → bit_of word (63 - k) ≡ get_or bits k false

-- a word has the 64 bits from an offset on, the first in the highest position, and zeros past the end
abbrev pub HasBitsFrom : Bits → ℕ → ℕ → Type 0
HasBitsFrom bits place word = (k : ℕ) → k < 64 → bit_of word (63 - k) ≡ get_or bits (place + k) false

-- the bits in a window are bits of the data
abbrev pub AreThere : AtHand → Type 0
AreThere window = window.at.place + window.left ≤ length window.at.bits

-- ---- ticks of EOLs

-- each bit that is passed is a tick (T.4, 4.1.2)
abbrev pub CountsBits : BitsAt → BitsAt → ℕ → ℕ → Type 0
CountsBits old new before after = after + length (here new) ≡ before + length (here old)

-- each bit that is passed is a tick at least (T.4, 4.1.2 and 4.2.2)
abbrev pub CountsBitsAtLeast : BitsAt → BitsAt → ℕ → ℕ → Type 0
CountsBitsAtLeast old new before after = before + length (here old) ≤ after + length (here new)

-- if there is no EOL, the ticks are the bits that were looked at (T.4, 4.1.2)
abbrev pub CountsNoEol : BitsAt → ℕ → ℕ → ℕ → Type 0
CountsNoEol old count before after = count ≡ 0 → after ≡ before + looked (here old)
