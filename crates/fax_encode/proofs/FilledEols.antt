-- EOLs with fill, and tags after them.
use Rattle.fax_encode.proofs.Names.{◌≡◌, ℕ, suc, ◌+◌, ◌^◌, ◌<◌, Bool, true, false, ◌∷◌, [], ◌++◌, length, replicate, ap, ◌∙◌}
use Rattle.fax_encode.proofs.Names.{arith, append_assoc, length-append, length-replicate, pow-add, EncodingMode, Bits, low_bits}
use Rattle.fax_encode.proofs.Names.{eol, tag_of, fill_of, chosen_eols, low_bits-append}
use Rattle.fax_encode.proofs.WrittenBits.{zero_bits}
use Rattle.std.proofs.lemmas.Nat.{pow_pos}

-- an EOL is the number 1 in twelve bits and its fill
pub one_fits : (fill : ℕ) → 1 < 2 ^ (12 + fill)
one_fits fill = omega (arith, pow-add 2 12 fill, pow_pos fill)

pub eol_bits : (fill : ℕ) → low_bits (12 + fill) 1 ≡ eol fill
eol_bits fill =
    let n : 12 + fill ≡ (11 + fill) + 1 = omega arith in
    ap (λ (m : ℕ). low_bits m 1) n ∙ low_bits-append (11 + fill) 1 1 ∙ ap (λ (b : Bits). b ++ true ∷ []) (zero_bits (11 + fill))

pub length-eol : (fill : ℕ) → length (eol fill) ≡ 12 + fill
length-eol fill = omega (arith, length-append (replicate (11 + fill) false) (true ∷ []), length-replicate (11 + fill) false)

-- one of several EOLs
pub eol_more : (encoding : EncodingMode) (fills : Bool) (before after : Bits) (n : ℕ)
    → after ≡ before ++ (eol (fill_of fills (length before)) ++ tag_of encoding)
    → after ++ chosen_eols encoding fills (length after) n ≡ before ++ chosen_eols encoding fills (length before) (suc n)
eol_more encoding fills before after n e =
    let fill : ℕ = fill_of fills (length before) in
    let tag : Bits = tag_of encoding in
    let at : length after ≡ length before + 12 + fill + length tag
    = omega (arith, ap length e, length-append before (eol fill ++ tag), length-append (eol fill) tag, length-eol fill) in
    ap (λ (m : ℕ). after ++ chosen_eols encoding fills m n) at
    ∙ ap (λ (b : Bits). b ++ chosen_eols encoding fills (length before + 12 + fill + length tag) n) e ∙ simp append_assoc
