-- Bytes with all bits inverted.
use Rattle.std.proofs.Common.{◌≡◌, ℕ, ◌-◌, ◌<◌, Bool, true, not, List, [], ◌∷◌, ◌++◌, map, refl, sym, ap, ◌∙◌}
use Rattle.std.specs.List.{flat_map}
use Rattle.std.proofs.lemmas.Bool.{agree_below_at}
use Rattle.std.proofs.lemmas.List.{map-append}
use Rattle.hayro_ccitt.specs.BitOrder.TheVariants.{HighestFirst}
use Rattle.hayro_ccitt.specs.Bits.{Bits, bits_of, bits_of_byte}
use Rattle.hayro_ccitt.proofs.BitReading.WhiteWordsListed.{same_bits, same_bits-true}

-- the bits of a byte, inverted
abbrev pub inverted_bits : ℕ → Bits
inverted_bits byte = map not (bits_of_byte HighestFirst byte)

abbrev byte_inverted : ℕ → Bool
byte_inverted byte = same_bits (bits_of_byte HighestFirst (255 - byte)) (inverted_bits byte)

pub inverted_byte : (byte : ℕ) → byte < 256 → bits_of_byte HighestFirst (255 - byte) ≡ inverted_bits byte
unfolding same_bits
inverted_byte byte lt = same_bits-true _ _ (agree_below_at byte_inverted (λ b. true) 256 byte refl lt)

-- the bits of all bytes, inverted
pub all_inverted : (bytes : List ℕ) → flat_map inverted_bits bytes ≡ map not (bits_of bytes)
all_inverted [] = refl
all_inverted (byte ∷ bytes) =
    ap (λ (b : Bits). inverted_bits byte ++ b) (all_inverted bytes)
    ∙ sym (map-append not (bits_of_byte HighestFirst byte) (bits_of bytes))
