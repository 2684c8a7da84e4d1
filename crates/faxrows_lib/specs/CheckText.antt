-- What a check of some data writes.
use Rattle.std.specs.Prelude.{◌≡◌, ℕ, List, [], ◌∷◌, ◌++◌, codes, Option, None, Some}
use Rattle.hayro_ccitt.specs.Bits.{Bits}
use Rattle.hayro_ccitt.specs.DecodeSettings.{DecodeSettings}
use Rattle.fax_conforms.specs.ByProcedure.{ConformsIn}
use Rattle.fax_conforms.specs.Checks.{IsViolationIn}
use Rattle.fax_conforms.specs.declared.grades.Grade.{Grade}
use Rattle.fax_conforms.specs.declared.stops.Rule.{Rule}
use Rattle.fax_conforms.specs.declared.stops.Rule.TheVariants.{Mode, Run, RowEnd, NoPixels, Columns, Eol, Tag, Padding, PassToEnd}
use Rattle.fax_conforms.specs.declared.stops.Rule.TheVariants.{Procedure, Kind, Fill, End}
use Rattle.fax_conforms.specs.declared.stops.Violation.{Violation}
use Rattle.faxrows_lib.specs.DamageText.{number_and}
use Rattle.faxrows_lib.specs.declared.program.Done.{Done}
use Rattle.faxrows_lib.specs.declared.program.Done.TheVariants.{Good, Faulty, Memory}

-- what a rule asks for, or what breaks it
abbrev pub text_of_rule : Rule → List ℕ
text_of_rule Mode = codes "a mode is expected (T.4, 4.2.1.3)"
text_of_rule Run = codes "a run is expected (T.4, 4.1.1)"
text_of_rule RowEnd = codes "beyond the row's end (T.4, 4.1.1 and 4.2.1.3)"
text_of_rule NoPixels = codes "no pixels (T.4, 4.1.1 and 4.2.1.3)"
text_of_rule Columns = codes "no columns"
text_of_rule Eol = codes "an EOL is expected (T.4, 4.1.2)"
text_of_rule Tag = codes "a tag is expected (T.4, 4.2.2)"
text_of_rule Padding = codes "zeros up to a whole byte are expected (T.4, 4.1.3)"
text_of_rule PassToEnd = codes "pass mode to the row's end (T.4, 4.2.1.3.2)"
text_of_rule Procedure = codes "not what the coding procedure writes (T.4, 4.1.1 and 4.2.1.3; T.6, 2.2)"
text_of_rule Kind = codes "a two-dimensional line where none may be (T.4, 4.2.1)"
text_of_rule Fill = codes "fill where none may be (T.4, 4.1.3 and 4.1.4)"
text_of_rule End = codes "not the end that the coding procedure writes (T.4, 4.1.4; T.6, 2.4.1.1)"

-- a rule, up to the line's end
abbrev pub end_with_rule : Rule → List ℕ
end_with_rule rule = text_of_rule rule ++ 10 ∷ []

-- the line of a violation: `violation`, its offset in bits, and the rule
abbrev pub line_of_violation : Violation → List ℕ
line_of_violation found = codes "violation " ++ (number_and found.place 32 ++ end_with_rule found.rule)

-- the line that is written: `ok`, or that of the first violation
abbrev pub line_of_check : Option Violation → List ℕ
line_of_check None = codes "ok\n"
line_of_check (Some found) = line_of_violation found

-- how a run ends that wrote it
abbrev pub done_of_check : Option Violation → Done
done_of_check None = Good
done_of_check (Some found) = Faulty

-- A run over some data that asks for a grade may end like this, and write this: with `ok` if the data conforms in that grade, and
-- otherwise with the line of a violation.
abbrev pub IsCheck : Grade → DecodeSettings → Bits → Done → List ℕ → Type 0
IsCheck grade settings bits Good text = ConformsIn grade settings bits × (text ≡ codes "ok\n")
IsCheck grade settings bits Faulty text = (ConformsIn grade settings bits → ⊥) × (found : Violation)
    × IsViolationIn grade settings bits found × (text ≡ line_of_violation found)
IsCheck grade settings bits Memory text = ⊥
