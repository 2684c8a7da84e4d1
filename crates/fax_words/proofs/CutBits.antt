-- Bits that are dropped again.
use Rattle.fax_words.proofs.Names.{◌≡◌, ℕ, ◌+◌, ◌-◌, ◌*◌, ◌%◌, ◌<◌, ◌≤◌, List, ◌++◌, length, take, drop, sym, ap, ◌∙◌, arith}
use Rattle.fax_words.proofs.Names.{append_assoc, take-append_seam, take-length, Bits, bits_of, low_bits}
use Rattle.fax_words.proofs.WordBytes.{bits_of-parts, length-first}
use Rattle.fax_words.proofs.WrittenBits.{length-written}

-- the bits of the first bytes stand first
pub first_bytes : (bytes : List ℕ) (count : ℕ) (more : Bits) → count ≤ length bytes
    → bits_of (take count bytes) ≡ take (8 * count) (bits_of bytes ++ more)
first_bytes bytes count more within =
    let front : Bits = bits_of (take count bytes) in
    sym (ap (λ (b : Bits). take (8 * count) (b ++ more)) (bits_of-parts count bytes)
    ∙ ap (take (8 * count)) (append_assoc front (bits_of (drop count bytes)) more)
    ∙ ap (λ (n : ℕ). take n (front ++ (bits_of (drop count bytes) ++ more))) (sym (length-first count bytes within))
    ∙ take-append_seam front (bits_of (drop count bytes) ++ more))

-- as many whole words were stored before
stored_before : (bytes : List ℕ) (pending room count before : ℕ) → length bytes % 8 ≡ 0 → count % 8 ≡ 0 → room ≤ 64
    → 0 < room → 8 * count + before ≤ length (bits_of bytes ++ low_bits (64 - room) pending) → count ≤ length bytes
stored_before bytes pending room count before whole words le some within = omega (arith, length-written bytes (64 - room) pending)

-- what stood in a writer is put back
pub cut : (bytes : List ℕ) (pending room count before : ℕ) (rest : Bits) → length bytes % 8 ≡ 0
    → count % 8 ≡ 0 → room ≤ 64 → 0 < room → 8 * count + before ≤ length (bits_of bytes ++ low_bits (64 - room) pending)
    → bits_of (take count bytes) ++ rest ≡ take (8 * count) (bits_of bytes ++ low_bits (64 - room) pending) ++ rest
cut bytes pending room count before rest whole words le some within =
    ap (λ (b : Bits). b ++ rest) (first_bytes bytes count (low_bits (64 - room) pending)
    (stored_before bytes pending room count before whole words le some within))

-- and the bits are those before it
pub cut_to : (bytes : List ℕ) (rest more : Bits)
    → take (8 * length bytes) ((bits_of bytes ++ rest) ++ more) ++ rest ≡ bits_of bytes ++ rest
cut_to bytes rest more =
    ap (λ (b : Bits). b ++ rest) (ap (take (8 * length bytes)) (append_assoc (bits_of bytes) rest more)
    ∙ sym (first_bytes bytes (length bytes) (rest ++ more) (omega arith)) ∙ ap bits_of (take-length bytes))
