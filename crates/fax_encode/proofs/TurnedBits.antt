-- Bytes with their bits in the other order.
use Rattle.fax_encode.proofs.Names.{◌≡◌, ℕ, zero, suc, ◌+◌, ◌<◌, Bool, true, ◌&&◌, List, [], ◌∷◌, length, get_or, refl, ap, ◌∙◌}
use Rattle.fax_encode.proofs.Names.{arith, and_parts, HighestFirst, LowestFirst, bits_of_byte, TURNED}
use Rattle.fax_bits.proofs.BitReading.WhiteWordsListed.{same_bits, same_bits-true}

-- whether a table has the bytes from one on with their bits in the other order
are_turned : ℕ → List ℕ → Bool
are_turned byte [] = true
are_turned byte (entry ∷ entries) =
    same_bits (bits_of_byte LowestFirst entry) (bits_of_byte HighestFirst byte) && are_turned (suc byte) entries

entry_turned : (byte : ℕ) (entries : List ℕ) (k : ℕ) → are_turned byte entries ≡ true → k < length entries
    → bits_of_byte LowestFirst (get_or entries k 0) ≡ bits_of_byte HighestFirst (byte + k)
unfolding are_turned
entry_turned byte [] k e lt = absurd (omega (arith, lt))
entry_turned byte (entry ∷ entries) zero e lt =
    same_bits-true _ _ (and_parts _ _ e).0 ∙ ap (bits_of_byte HighestFirst) (let same : byte ≡ byte + 0 = omega arith in same)
entry_turned byte (entry ∷ entries) (suc k) e lt =
    entry_turned (suc byte) entries k (and_parts _ _ e).1 (omega (arith, lt))
    ∙ ap (bits_of_byte HighestFirst) (let same : suc byte + k ≡ byte + suc k = omega arith in same)

table_turned : are_turned 0 TURNED ≡ true
unfolding are_turned same_bits
table_turned = refl

pub turned_byte : (byte : ℕ) → byte < 256 → bits_of_byte LowestFirst (get_or TURNED byte 0) ≡ bits_of_byte HighestFirst byte
turned_byte byte lt =
    entry_turned 0 TURNED byte table_turned lt ∙ ap (bits_of_byte HighestFirst) (let same : 0 + byte ≡ byte = omega arith in same)
