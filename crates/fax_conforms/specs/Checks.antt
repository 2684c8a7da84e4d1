-- What a check answers.
use Rattle.std.specs.Prelude.{◌≡◌, ◌<◌, ◌++◌, ◌⊎◌, Bool, List, ℕ, length, Result, Ok, Err}
use Rattle.hayro_ccitt.specs.Bits.{Bits}
use Rattle.hayro_ccitt.specs.DecodeSettings.{DecodeSettings}
use Rattle.hayro_ccitt.specs.Rows.{Row, AreChanges, pixels}
use Rattle.fax_conforms.specs.Conforming.{Conforms}
use Rattle.fax_conforms.specs.Departures.{DepartsFromProcedure}
use Rattle.fax_conforms.specs.Stops.{IsBroken, IsViolationOf}
use Rattle.fax_conforms.specs.declared.grades.Grade.{Grade}
use Rattle.fax_conforms.specs.declared.grades.Grade.TheVariants.{Readable, Procedure}
use Rattle.fax_conforms.specs.declared.stops.Stop.{Stop}
use Rattle.fax_conforms.specs.declared.stops.Stop.TheVariants.{Violation, OutOfMemory}
use Rattle.fax_conforms.specs.declared.stops.Violation as at

-- this holds; if the check ends early, and not because an allocation failed, it doesn't
abbrev pub Checks : Type 0 → Result (Unit {0}) Stop → Type 0
Checks P (Ok done) = P
Checks P (Err stop) = IsBroken stop → P → ⊥

-- these bits are here, and others follow them; if it ends early, and not because an allocation failed, they aren't here
abbrev pub PassesPart : Bits → Bits → Bits → Result (Unit {0}) Stop → Type 0
PassesPart part here rest (Ok done) = here ≡ part ++ rest
PassesPart part here rest (Err stop) = IsBroken stop → (others : Bits) → here ≡ part ++ others → ⊥

-- no line of this width stands
abbrev pub NoPart : DecodeSettings → (Bool → Row → Bits → Type 0) → Type 0
NoPart settings line = (is_two : Bool) (row : Row) (rest : Bits) → length row ≡ settings.columns → line is_two row rest → ⊥

-- only a line of this kind stands, with the row of these changes and these bits after it, which are fewer
pub record IsOnlyPart (settings : DecodeSettings) (line : Bool → Row → Bits → Type 0) (changes : List ℕ) (here rest : Bits)
    (is_two : Bool) : Type 0 where
  pub lawful : AreChanges settings.columns changes
  pub stands : line is_two (pixels settings.columns changes) rest
  pub only : (kind : Bool) (row : Row) (others : Bits) → length row ≡ settings.columns → line kind row others
      → (kind ≡ is_two) × (row ≡ pixels settings.columns changes) × (others ≡ rest)
  pub shorter : length rest < length here

-- the line that stands is read, and its kind; if it ends early, and not because an allocation failed, none does
abbrev pub ReadsPart : DecodeSettings → (Bool → Row → Bits → Type 0) → List ℕ → Bits → Bits → Result Bool Stop → Type 0
ReadsPart settings line changes here rest (Ok is_two) = IsOnlyPart settings line changes here rest is_two
ReadsPart settings line changes here rest (Err stop) = IsBroken stop → NoPart settings line

-- A violation of the readable grade is where the data departs from the pictures that its settings allow; one of the other grade
-- is such a one, where the data isn't readable, and else where it departs from what the procedure writes.
abbrev pub IsViolationIn : Grade → DecodeSettings → Bits → at.Violation → Type 0
IsViolationIn Readable settings whole found = IsViolationOf settings whole found
IsViolationIn (Procedure k) settings whole found = ((Conforms settings whole → ⊥) × IsViolationOf settings whole found)
    ⊎ (Conforms settings whole × DepartsFromProcedure settings k whole found)

-- what ends early does so at such a violation, or because an allocation failed
abbrev pub StopsIn : Grade → DecodeSettings → Bits → Stop → Type 0
StopsIn grade settings whole (Violation found) = IsViolationIn grade settings whole found
StopsIn grade settings whole OutOfMemory = Unit {0}
