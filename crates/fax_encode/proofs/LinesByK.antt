-- A two-dimensional line that is written, and dropped again where it is longer than the one-dimensional one.
use Rattle.fax_encode.proofs.Names.{◌≡◌, ℕ, ◌+◌, ◌-◌, ◌*◌, ◌≤◌, Bool, leb, ◌++◌, length, take, ap, ◌∙◌, arith, length-append}
use Rattle.fax_encode.proofs.Names.{Bits, bits_of, length-bits_of, Written, Marked, all_bits}
use Rattle.fax_encode.proofs.CutBits.{cut_to}

-- whether it is longer
pub shorter_is : (before after two runs one : Bits) (from to : ℕ) (answer : Bool) → after ≡ before ++ two → from ≡ length before
    → to ≡ length after → runs ≡ one → answer ≡ leb (to - from) (length runs) → answer ≡ leb (length two) (length one)
shorter_is before after two runs one from to answer e f t same is =
    let taken : to - from ≡ length two = omega (arith, f, t, ap length e, length-append before two) in
    is ∙ ap (λ (n : ℕ). leb n (length runs)) taken ∙ ap (λ (b : Bits). leb (length two) (length b)) same

-- what was written before it is left
module _ (written : Written) (mark : Marked) (after more : Bits) (marked : mark
    ≡ record { count = length written.bytes; rest = written.rest }) (following : after ≡ all_bits written ++ more) where
  pub marked_within : 8 * mark.count + length mark.rest ≤ length after
  marked_within = omega (
    arith,
    ap (λ (m : Marked). m.count) marked,
    ap (λ (m : Marked). length m.rest) marked,
    ap length following,
    length-append (all_bits written) more,
    length-append (bits_of written.bytes) written.rest,
    length-bits_of written.bytes,
  )

  pub cut_to_mark : (now : Bits) → now ≡ take (8 * mark.count) after ++ mark.rest → now ≡ all_bits written
  cut_to_mark now e =
      e ∙ ap (λ (m : Marked). take (8 * m.count) after ++ m.rest) marked
      ∙ ap (λ (b : Bits). take (8 * length written.bytes) b ++ written.rest) following ∙ cut_to written.bytes written.rest more
