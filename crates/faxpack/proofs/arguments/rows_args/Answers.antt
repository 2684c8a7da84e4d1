use Rattle.std.proofs.Common.{◌≡◌, ◌<◌, map, string_bytes, ℕ, List, [], ◌∷◌, length, refl, None, arith}
use Rattle.std.proofs.lemmas.List.{length-map}
use Rattle.faxpack.specs.Arguments.{rows_args}
use Rattle.faxpack.proofs.arguments.rows_args.Goals as goal

-- fewer than four arguments are invalid
too_few_for_rows : (args : List (List ℕ)) → length args < 4 → None ≡ rows_args args
too_few_for_rows [] few = refl
too_few_for_rows (a ∷ []) few = refl
too_few_for_rows (a ∷ b ∷ []) few = refl
too_few_for_rows (a ∷ b ∷ c ∷ []) few = refl
too_few_for_rows (a ∷ b ∷ c ∷ d ∷ more) few = absurd (omega (arith, few))

pub returns-in_default-clause-arguments : goal.returns-in_default-clause-arguments
returns-in_default-clause-arguments c =
    too_few_for_rows (map string_bytes c.args.args.now) (omega
    (arith, length-map c.args.args.now string_bytes, c.in_default.len_below))
