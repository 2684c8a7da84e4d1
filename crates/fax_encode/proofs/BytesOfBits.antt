-- Bytes are determined by their bits.
use Rattle.fax_encode.proofs.Names.{◌≡◌, ℕ, ◌+◌, ◌*◌, ◌<◌, Bool, true, cond, eqb, List, [], ◌∷◌, length, take, drop, refl, sym}
use Rattle.fax_encode.proofs.Names.{ap, ◌∙◌, arith, All, agree_below_at, eqb-true, All-head, All-tail, take-append_seam}
use Rattle.fax_encode.proofs.Names.{drop-append_seam, BitOrder, HighestFirst, LowestFirst, Bits, bits_in, bits_of_byte}
use Rattle.fax_encode.proofs.Names.{length-bits_in}
use Rattle.fax_bits.proofs.BitReading.BitLists.{length-bits_of_byte}

-- the number of some bits
number : BitOrder → ℕ → Bits → ℕ
number order n [] = n
number HighestFirst n (bit ∷ bits) = number HighestFirst (2 * n + cond bit 1 0) bits
number LowestFirst n (bit ∷ bits) = 2 * number LowestFirst n bits + cond bit 1 0

is_its_number : BitOrder → ℕ → Bool
is_its_number order byte = eqb (number order 0 (bits_of_byte order byte)) byte

its_number : (order : BitOrder) (byte : ℕ) → byte < 256 → number order 0 (bits_of_byte order byte) ≡ byte
unfolding is_its_number number
its_number HighestFirst byte lt = eqb-true _ _ (agree_below_at (is_its_number HighestFirst) (λ b. true) 256 byte refl lt)
its_number LowestFirst byte lt = eqb-true _ _ (agree_below_at (is_its_number LowestFirst) (λ b. true) 256 byte refl lt)

-- the same bits are of the same bytes
pub same_bytes : (order : BitOrder) (one two : List ℕ) → All (λ byte. byte < 256) one → All (λ byte. byte < 256) two
    → bits_in order one ≡ bits_in order two → one ≡ two
same_bytes order [] [] fit fits e = refl
same_bytes order [] (b ∷ two) fit fits e =
    absurd (omega (arith, ap length e, length-bits_in order [], length-bits_in order (b ∷ two)))
same_bytes order (a ∷ one) [] fit fits e =
    absurd (omega (arith, ap length e, length-bits_in order (a ∷ one), length-bits_in order []))
same_bytes order (a ∷ one) (b ∷ two) fit fits e =
    let long : length (bits_of_byte order a) ≡ length (bits_of_byte order b) =
    length-bits_of_byte order a ∙ sym (length-bits_of_byte order b) in
    let front : bits_of_byte order a ≡ bits_of_byte order b
    = sym (take-append_seam (bits_of_byte order a) (bits_in order one)) ∙ ap (λ (n : ℕ). take n (bits_in order (a ∷ one))) long
    ∙ ap (take (length (bits_of_byte order b))) e ∙ take-append_seam (bits_of_byte order b) (bits_in order two) in
    let after : bits_in order one ≡ bits_in order two
    = sym (drop-append_seam (bits_of_byte order a) (bits_in order one)) ∙ ap (λ (n : ℕ). drop n (bits_in order (a ∷ one))) long
    ∙ ap (drop (length (bits_of_byte order b))) e ∙ drop-append_seam (bits_of_byte order b) (bits_in order two) in
    let byte : a ≡ b = sym (its_number order a (All-head (λ byte. byte < 256) a one fit)) ∙ ap (number order 0) front
    ∙ its_number order b (All-head (λ byte. byte < 256) b two fits) in
    ap (λ (n : ℕ). n ∷ one) byte ∙ ap (λ (l : List ℕ). b ∷ l)
    (same_bytes order one two (All-tail (λ byte. byte < 256) a one fit) (All-tail (λ byte. byte < 256) b two fits) after)
