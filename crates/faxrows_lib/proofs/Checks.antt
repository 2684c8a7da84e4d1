-- The line of a check.
use Rattle.faxrows_lib.proofs.Names.{◌≡◌, ◌↔◌, Option, None, Some, refl}
use Rattle.faxrows_lib.proofs.Names.{DecodeSettings, Bits, Grade, Violation, ConformsIn, IsCheck, done_of_check}
use Rattle.faxrows_lib.proofs.Names.{line_of_check, IfSome, IsViolationIn}

-- it says whether the data conform in the grade
pub is_check : (grade : Grade) (settings : DecodeSettings) (bits : Bits) (found : Option Violation)
    → (found ≡ None) ↔ ConformsIn grade settings bits → IfSome found (IsViolationIn grade settings bits)
    → IsCheck grade settings bits (done_of_check found) (line_of_check found)
is_check grade settings bits None conforms is = (conforms.0 refl, refl)
is_check grade settings bits (Some at) conforms is =
    ((λ holds. let e : Option.Some at ≡ None = conforms.1 holds in cc), at, is, refl)
