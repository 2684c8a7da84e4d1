use Rattle.faxrows_lib.proofs.Names.{◌≡◌, ◌<◌, map, string_bytes, ℕ, List, [], ◌∷◌, length, refl, None, arith, length-map}
use Rattle.faxrows_lib.proofs.Names.{arguments_of}
use Rattle.faxrows_lib.proofs.arguments.arguments_of.Goals as goal

-- fewer than four arguments are invalid
too_few : (args : List (List ℕ)) → length args < 4 → None ≡ arguments_of args
too_few [] few = refl
too_few (a ∷ []) few = refl
too_few (a ∷ b ∷ []) few = refl
too_few (a ∷ b ∷ c ∷ []) few = refl
too_few (a ∷ b ∷ c ∷ d ∷ more) few = absurd (omega (arith, few))

pub returns-in_default : goal.returns-in_default
returns-in_default c =
    too_few (map string_bytes c.args.args.now) (omega (arith, length-map c.args.args.now string_bytes, c.in_default.len_below))
