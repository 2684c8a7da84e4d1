-- Words of 64 bits that are stored as eight bytes.
use Rattle.fax_words.proofs.Names.{◌≡◌, ℕ, ◌+◌, ◌-◌, ◌*◌, ◌/◌, ◌%◌, ◌^◌, ◌<◌, ◌≤◌, List, ◌++◌, sym, ap, ◌∙◌, arith, append_assoc}
use Rattle.fax_words.proofs.Names.{to_be_bytes, w64, bit_or, flat_map-append, HighestFirst, Bits, bits_of, bits_of_byte}
use Rattle.fax_words.proofs.Names.{low_bits, low_bits-append}
use Rattle.fax_words.proofs.WordBytes.{bits_of_word}
use Rattle.fax_words.proofs.WrittenBits.{put_after}
use Rattle.std.proofs.lemmas.Nat.{shr_below}

-- 64 bits are full and stored, and the word's other bits are pending
pub stored : (old new : List ℕ) (waiting room width word full : ℕ) → room ≤ 64 → room ≤ width → width ≤ 64 → word < 2 ^ width
    → full ≡ bit_or (waiting * 2 ^ room % 2 ^ 64) (word / 2 ^ (width - room)) → new ≡ old ++ to_be_bytes w64 full → bits_of new
    ++ low_bits (64 - (64 - (width - room))) word ≡ (bits_of old ++ low_bits (64 - room) waiting) ++ low_bits width word
stored old new waiting room width word full le over short fits is new-is =
    let rest : ℕ = width - room in
    let count : ℕ = 64 - room in
    let sum : room + rest ≡ width = omega arith in
    let left : 64 - (64 - rest) ≡ rest = omega arith in
    let all : count + room ≡ 64 = omega arith in
    let fits_both : word < 2 ^ (room + rest) = rw sum fits in
    let front : low_bits 64 full ≡ low_bits count waiting ++ low_bits room (word / 2 ^ rest) = ap (λ (m : ℕ). low_bits m full)
    (sym all) ∙ put_after waiting count room (word / 2 ^ rest) full (omega arith) (shr_below word room rest fits_both) is in
    let bits : bits_of new ≡ bits_of old ++ (low_bits count waiting ++ low_bits room (word / 2 ^ rest)) =
    ap bits_of new-is ∙ flat_map-append (bits_of_byte HighestFirst) old (to_be_bytes w64 full)
    ∙ ap (λ (b : Bits). bits_of old ++ b) (bits_of_word full ∙ front) in
    let word_bits : low_bits room (word / 2 ^ rest) ++ low_bits rest word ≡ low_bits width word
    = sym (low_bits-append room rest word) ∙ ap (λ (m : ℕ). low_bits m word) sum in
    ap (λ (m : ℕ). bits_of new ++ low_bits m word) left ∙ ap (λ (b : Bits). b ++ low_bits rest word) bits
    ∙ simp append_assoc (ap (λ (b : Bits). bits_of old ++ (low_bits count waiting ++ b)) word_bits)
