-- The bits of the data.
use Rattle.std.specs.Prelude.{◌+◌, ◌*◌, ◌<◌, length, ℕ, zero, suc, drop, Bool, List, [], ◌∷◌, ◌^◌, ◌/◌, ◌%◌, ◌==◌, ◌≡◌, ◌++◌}
use Rattle.std.specs.Prelude.{true, false}
use Rattle.std.specs.List.{flat_map}
use Rattle.fax_bits.specs.declared.bit_reader.BitOrder.{BitOrder}
use Rattle.fax_bits.specs.declared.bit_reader.BitOrder.TheVariants.{HighestFirst, LowestFirst}

-- ---- auxiliary: bits in bytes, and bit offsets

-- bits in the order in which they are read
abbrev pub Bits : Type 0
Bits = List Bool

-- the bit of a number at a position, where position 0 is the lowest
abbrev pub bit_of : ℕ → ℕ → Bool
bit_of n k = (n / 2 ^ k) % 2 == 1

-- the eight bits of a byte, its highest or its lowest first: T.4 and T.6 speak of bits alone, and files and modems store
-- them in bytes in either order
abbrev pub bits_of_byte : BitOrder → ℕ → Bits
bits_of_byte HighestFirst n =
    bit_of n 7 ∷ bit_of n 6 ∷ bit_of n 5 ∷ bit_of n 4 ∷ bit_of n 3 ∷ bit_of n 2 ∷ bit_of n 1 ∷ bit_of n 0 ∷ []
bits_of_byte LowestFirst n =
    bit_of n 0 ∷ bit_of n 1 ∷ bit_of n 2 ∷ bit_of n 3 ∷ bit_of n 4 ∷ bit_of n 5 ∷ bit_of n 6 ∷ bit_of n 7 ∷ []

-- the bits of bytes, each byte's in this order
abbrev pub bits_in : BitOrder → List ℕ → Bits
bits_in order bytes = flat_map (bits_of_byte order) bytes

-- the bits of bytes, each byte's highest first
abbrev pub bits_of : List ℕ → Bits
bits_of bytes = bits_in HighestFirst bytes

-- the bits of bytes, each byte's lowest first
abbrev pub low_first_bits_of : List ℕ → Bits
low_first_bits_of bytes = bits_in LowestFirst bytes

-- as many bits as whole bytes have
abbrev pub AreWholeBytes : Bits → Type 0
AreWholeBytes bits = length bits % 8 ≡ 0

-- the lowest n bits of a number, the highest first
abbrev pub low_bits : ℕ → ℕ → Bits
low_bits zero n = []
low_bits (suc width) n = bit_of n width ∷ low_bits width n

-- Eight times the length and 64 more fit in a `usize`.
abbrev pub BitsFit : List ℕ → Type 0
BitsFit bytes = 8 * length bytes + 64 < 2 ^ 64

-- the bits of some data, and an offset among them
pub record BitsAt : Type 0 where
  pub bits : Bits
  pub place : ℕ

-- the bits from the offset on
abbrev pub here : BitsAt → Bits
here at = drop at.place at.bits

-- auxiliary: no bit is left
abbrev pub at_end : Bits → Bool
at_end [] = true
at_end (bit ∷ rest) = false

-- auxiliary: the bits from the next whole byte on, if the data is whole bytes
abbrev pub aligned : Bits → Bits
aligned rest = drop (length rest % 8) rest

-- a list is a prefix of another
abbrev pub IsPrefix : {A : Type 0} → List A → List A → Type 0
IsPrefix {A} prefix whole = (rest : List A) × (whole ≡ prefix ++ rest)
