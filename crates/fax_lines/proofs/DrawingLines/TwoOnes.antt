-- V0 twice: seven bits that begin with two ones.
use Rattle.fax_lines.proofs.Names.{◌≡◌, ℕ, ◌+◌, ◌<◌, ◌≤◌, ◌∷◌, [], Bool, true, false, length, drop, get_or, sym, ap, ◌∙◌}
use Rattle.fax_lines.proofs.Names.{arith, drop-drop, Bits, BitsAt, here, moved, Vertical, pos, Ok, read_code, mode_codes}
use Rattle.fax_lines.proofs.Names.{eq-eqb, ◌/◌, ◌%◌}
use Rattle.std.specs.Prelude.{◌^◌}
use Rattle.fax_bits.specs.LookUps.{seven_bits, padded}
use Rattle.fax_bits.specs.Bits.{bit_of}

-- the second of them is a one
second_is_one : (n : ℕ) → 96 ≤ n → n < 128 → bit_of n 5 ≡ true
second_is_one n least most = eq-eqb (n / 2 ^ 5 % 2) 1 (omega (arith, least, most))

after_one : (bits : Bits) (n : ℕ) → seven_bits n ≡ padded 7 bits → 96 ≤ n → n < 128 → 2 ≤ length bits
    → drop 1 bits ≡ true ∷ drop 2 bits
unfolding seven_bits
after_one [] n e least most len = absurd (omega (arith, len))
after_one (a ∷ []) n e least most len = absurd (omega (arith, len))
after_one (a ∷ b ∷ bits) n e least most len =
    ap (λ (c : Bool). c ∷ bits) (sym (ap (λ (l : Bits). get_or l 1 false) e) ∙ second_is_one n least most)

-- so V0 is one bit further on
pub v0_after_one : (at : BitsAt) (n : ℕ) → seven_bits n ≡ padded 7 (here at) → 96 ≤ n → n < 128 → 2 ≤ length (here at)
    → read_code mode_codes (here (moved 1 at)) ≡ Ok (Vertical (pos 0), here (moved 1 (moved 1 at)))
v0_after_one at n e least most len =
    let one : here (moved 1 at) ≡ drop 1 (here at) = sym (drop-drop 1 at.place at.bits) in
    let sum : at.place + 1 + 1 ≡ at.place + 2 = omega arith in
    let two : here (moved 1 (moved 1 at)) ≡ drop 2 (here at) =
    ap (λ (n : ℕ). drop n at.bits) sum ∙ sym (drop-drop 2 at.place at.bits) in
    ap (read_code mode_codes) (one ∙ after_one (here at) n e least most len)
    ∙ ap (λ (rest : Bits). Ok (Vertical (pos 0), rest)) (sym two)
