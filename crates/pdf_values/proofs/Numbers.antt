-- The numbers that digits are.
use Rattle.std.specs.Prelude.{◌≡◌, ◌+◌, ◌-◌, ◌*◌, ◌^◌, ◌<◌, ℕ, List, take, length, min}
use Rattle.std.proofs.Common.{arith, get_or}
use Rattle.std.proofs.lemmas.List.Sums.{fold_more}
use Rattle.pdf_values.specs.Tokens.{decimal_number}

-- one digit more
pub decimal_more : (digits : List ℕ) (i : ℕ) → i < length digits
    → decimal_number (take (i + 1) digits) ≡ decimal_number (take i digits) * 10 + (get_or digits i 0 - 48)
decimal_more digits i within = fold_more (λ number digit. number * 10 + (digit - 48)) 0 digits i 0 within

-- a number that doesn't fit goes on so
pub at_most : (number digit : ℕ)
    → min (min (min number (2 ^ 64 - 1) * 10) (2 ^ 64 - 1) + digit) (2 ^ 64 - 1) ≡ min (number * 10 + digit) (2 ^ 64 - 1)
at_most number digit = omega arith

pub ruleset numbers = (decimal_more, at_most)
