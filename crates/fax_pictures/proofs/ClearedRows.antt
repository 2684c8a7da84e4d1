-- The bits after the last pixel of a row, made zeros.
use Rattle.fax_encode.proofs.Names.{◌≡◌, ℕ, zero, suc, ◌+◌, ◌-◌, ◌*◌, ◌/◌, ◌%◌, ◌^◌, ◌<◌, false, List, [], ◌∷◌, ◌++◌}
use Rattle.fax_encode.proofs.Names.{length, take, replicate, refl, sym, ap, ◌∙◌, arith, append_assoc, get_or}
use Rattle.fax_encode.proofs.Names.{length-append, length-take, length-bits_of, length-low_bits, take-append_seam}
use Rattle.fax_encode.proofs.Names.{Bits, bits_of, low_bits, low_bits-append, filled_up, bytes_of_row}
use Rattle.std.proofs.Common.{set}
use Rattle.std.proofs.lemmas.Nat.{pow_pos}
use Rattle.fax_bits.proofs.BitReading.WordRanges.{low_bits_joined}
use Rattle.fax_encode.proofs.WrittenBits.{bits_of-push, low_bits_mod, zero_bits}

-- the low bits of a byte, made zeros
shifted_bits : (keep after byte last : ℕ) → keep + after ≡ 8 → byte ≡ last / 2 ^ after * 2 ^ after % 2 ^ 8
    → low_bits 8 byte ≡ low_bits keep (last / 2 ^ after) ++ replicate after false
shifted_bits keep after byte last sum is =
    let n : ℕ = last / 2 ^ after in
    let whole : n * 2 ^ after ≡ n * 2 ^ after + 0 = omega arith in
    ap (low_bits 8) is ∙ low_bits_mod 8 8 (n * 2 ^ after) (omega arith)
    ∙ ap (λ (k : ℕ). low_bits k (n * 2 ^ after)) (sym sum)
    ∙ ap (low_bits (keep + after)) whole
    ∙ low_bits_joined keep after n 0 (pow_pos after)
    ∙ ap (λ (b : Bits). low_bits keep n ++ b) (zero_bits after)

-- the last element of a list, and another in its place
split_last : (n : ℕ) (list : List ℕ) → length list ≡ suc n → list ≡ take n list ++ get_or list n 0 ∷ []
split_last n [] e = absurd (omega (arith, e))
split_last zero (x ∷ []) e = refl
split_last zero (x ∷ y ∷ list) e = absurd (omega (arith, e))
split_last (suc n) (x ∷ list) e = ap (λ (l : List ℕ). x ∷ l) (split_last n list (omega (arith, e)))

set_last : (n value : ℕ) (list : List ℕ) → length list ≡ suc n → set list n value ≡ take n list ++ value ∷ []
set_last n value [] e = absurd (omega (arith, e))
set_last zero value (x ∷ []) e = refl
set_last zero value (x ∷ y ∷ list) e = absurd (omega (arith, e))
set_last (suc n) value (x ∷ list) e = ap (λ (l : List ℕ). x ∷ l) (set_last n value list (omega (arith, e)))

-- a row whose last byte has zeros after its last pixel
pub row_cleared : (columns n after byte : ℕ) (line : List ℕ) → 0 < columns → length line ≡ bytes_of_row columns
    → length line ≡ suc n → after ≡ (8 - columns % 8) % 8 → byte ≡ get_or line n 0 / 2 ^ after * 2 ^ after % 2 ^ 8
    → bits_of (set line n byte) ≡ filled_up (take columns (bits_of line))
row_cleared columns n after byte line some size long is made =
    let last : ℕ = get_or line n 0 in
    let front : List ℕ = take n line in
    let keep : ℕ = 8 - after in
    let sum : keep + after ≡ 8 = omega (arith, is) in
    let kept : Bits = low_bits keep (last / 2 ^ after) in
    let high : Bits = bits_of front ++ kept in
    let cut : low_bits 8 last ≡ kept ++ low_bits after last =
    ap (λ (k : ℕ). low_bits k last) (sym sum) ∙ low_bits-append keep after last in
    let whole : bits_of line ≡ high ++ low_bits after last =
    ap bits_of (split_last n line long) ∙ bits_of-push front last ∙ ap (λ (b : Bits). bits_of front ++ b) cut
    ∙ sym (append_assoc (bits_of front) kept (low_bits after last)) in
    let wide : length high ≡ columns =
    omega (
      arith,
      length-append (bits_of front) kept,
      length-bits_of front,
      length-take n line,
      length-low_bits keep (last / 2 ^ after),
      size,
      long,
      is,
    ) in
    let taken : take columns (bits_of line) ≡ high =
    ap (take columns) whole ∙ ap (λ (k : ℕ). take k (high ++ low_bits after last)) (sym wide)
    ∙ take-append_seam high (low_bits after last) in
    let pad : after ≡ (8 - length high % 8) % 8 = is ∙ ap (λ (k : ℕ). (8 - k % 8) % 8) (sym wide) in
    ap bits_of (set_last n byte line long) ∙ bits_of-push front byte
    ∙ ap (λ (b : Bits). bits_of front ++ b) (shifted_bits keep after byte last sum made)
    ∙ sym (append_assoc (bits_of front) kept (replicate after false))
    ∙ ap (λ (k : ℕ). high ++ replicate k false) pad ∙ ap filled_up (sym taken)
