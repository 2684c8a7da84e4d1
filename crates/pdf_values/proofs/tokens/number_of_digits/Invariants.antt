use Rattle.std.specs.Prelude.{◌≡◌, ◌-◌, ◌^◌, min, take}
use Rattle.pdf_values.specs.Tokens.{decimal_number}
use Rattle.pdf_values.proofs.tokens.number_of_digits.Given as goal

abbrev pub invariant-loop-digit : goal.invariant-loop-digit
invariant-loop-digit l = l.number ≡ min (decimal_number (take l.digit-index l.fn.digits)) (2 ^ 64 - 1)
