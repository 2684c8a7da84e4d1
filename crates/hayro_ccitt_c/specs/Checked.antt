-- Checks of data for C.
use Rattle.std.specs.Prelude.{◌≡◌, ◌==◌, ℕ, List, Option, Some, None, if◌then◌else◌, IfSome}
use Rattle.hayro_ccitt.specs.Bits.{Bits}
use Rattle.hayro_ccitt.specs.DecodeSettings.{DecodeSettings}
use Rattle.fax_conforms.specs.Checks.{IsViolationIn}
use Rattle.fax_conforms.specs.declared.grades.Grade.{Grade}
use Rattle.fax_conforms.specs.declared.grades.Grade.TheVariants.{Readable, Procedure}
use Rattle.fax_conforms.specs.declared.stops.Rule.{Rule}
use Rattle.fax_conforms.specs.declared.stops.Rule.TheVariants as rule
use Rattle.fax_conforms.specs.declared.stops.Violation.{Violation}
use Rattle.hayro_ccitt_c.specs.Reports.{OnSettings}
use Rattle.hayro_ccitt_c.specs.declared.checks.ViolationOutcome.{ViolationOutcome}
use Rattle.c_rows.specs.declared.settings.Settings.{Settings}

-- K of two-dimensional Group 3 (T.4, 4.2.1), if C limits the two-dimensional lines by one: 0 is no limit
abbrev pub k_of : ℕ → Option ℕ
k_of k = if k == 0 then None else Some k

-- the grade that C means, or None if the number isn't one of a grade
abbrev pub grade_of : ℕ → ℕ → Option Grade
grade_of grade k =
    if grade == 0 then Some Readable
    else if grade == 1 then Some (Procedure (k_of k))
    else None

-- the number of a rule, from 1 on
abbrev pub number_of_rule : Rule → ℕ
number_of_rule rule.Mode = 1
number_of_rule rule.Run = 2
number_of_rule rule.RowEnd = 3
number_of_rule rule.NoPixels = 4
number_of_rule rule.Columns = 5
number_of_rule rule.Eol = 6
number_of_rule rule.Tag = 7
number_of_rule rule.Padding = 8
number_of_rule rule.PassToEnd = 9
number_of_rule rule.Procedure = 10
number_of_rule rule.Kind = 11
number_of_rule rule.Fill = 12
number_of_rule rule.End = 13

-- what C gets of a violation
abbrev pub outcome_of_violation : Violation → ViolationOutcome
outcome_of_violation found = record { place = found.place; rule = number_of_rule found.rule }

-- what C gets where there is none
abbrev pub no_violation : ViolationOutcome
no_violation = record { place = 0; rule = 0 }

-- C gets a violation of a grade.
abbrev pub IsViolationTold : Grade → DecodeSettings → Bits → ViolationOutcome → Type 0
IsViolationTold grade settings whole told = (found : Violation) × IsViolationIn grade settings whole found
    × (told ≡ outcome_of_violation found)

-- a statement about the grade and the settings that C passes, if they are valid, and about the bits of the data in the order that
-- C passes, if the data isn't too long
abbrev pub OnGrade : Settings → ℕ → ℕ → List ℕ → (Grade → DecodeSettings → Bits → Type 0) → Type 0
OnGrade settings grade k input P = OnSettings settings input (λ s bits. IfSome (grade_of grade k) (λ meant. P meant s bits))
