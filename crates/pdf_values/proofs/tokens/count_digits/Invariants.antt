use Rattle.std.specs.Prelude.{◌≡◌, ◌+◌, ◌-◌, ◌≤◌, length, drop}
use Rattle.std.specs.List.{prefix_len}
use Rattle.pdf_values.specs.Tokens.{is_digit}
use Rattle.pdf_values.proofs.tokens.count_digits.Given as goal

abbrev pub invariant-digits : goal.invariant-digits
invariant-digits l =
    (l.count ≤ length l.fn.bytes)
    × (l.count + prefix_len is_digit (drop l.count l.fn.bytes) ≡ prefix_len is_digit l.fn.bytes)

abbrev pub decreases-digits : goal.decreases-digits
decreases-digits l = length l.fn.bytes - l.count
