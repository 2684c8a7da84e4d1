use Rattle.std.proofs.Common.{◌≡◌, ◌<◌, map, string_bytes, ℕ, List, [], ◌∷◌, length, refl, None, arith}
use Rattle.std.proofs.lemmas.List.{length-map}
use Rattle.faxpack.specs.Arguments.{picture_args}
use Rattle.faxpack.proofs.arguments.picture_args.Goals as goal

-- fewer than two arguments are invalid
too_few_for_picture : (args : List (List ℕ)) → length args < 2 → None ≡ picture_args args
too_few_for_picture [] few = refl
too_few_for_picture (a ∷ []) few = refl
too_few_for_picture (a ∷ b ∷ more) few = absurd (omega (arith, few))

pub returns-in_default-clause-arguments : goal.returns-in_default-clause-arguments
returns-in_default-clause-arguments c =
    too_few_for_picture (map string_bytes c.args.args.now) (omega
    (arith, length-map c.args.args.now string_bytes, c.in_default.len_below))
