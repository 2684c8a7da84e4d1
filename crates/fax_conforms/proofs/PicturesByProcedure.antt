-- Readable pictures that depart from what the coding procedure writes.
use Rattle.hayro_ccitt.proofs.Names.{◌≡◌, ◌≢◌, ℕ, ◌<◌, ◌≤◌, Bool, true, false, Option, Result, IfErr, IfErr-weaker, refl, inl}
use Rattle.hayro_ccitt.proofs.Names.{inr, Bits, DecodeSettings, Group4, IsClosedPicture, IsLimitedPicture, white_row}
use Rattle.fax_conforms.specs.Conforming.{BodyStands, Conforms, EolStands}
use Rattle.fax_conforms.specs.Departures.{EndsAfterLines, EndsByProcedure}
use Rattle.fax_conforms.specs.Stops.{HaveEols}
use Rattle.fax_conforms.specs.declared.stops.Stop.{Stop}
use Rattle.fax_conforms.specs.declared.stops.Stop.TheVariants.{Violation, OutOfMemory}
use Rattle.fax_conforms.proofs.PicturesConform.{lines_conform, no_eols_conform}

-- a readable picture has columns
pub conforms_wide : (settings : DecodeSettings) (whole : Bits) → Conforms settings whole → 0 < settings.columns
conforms_wide settings whole (rows, inl (count, IsClosedPicture.by_eofb bits begins counted)) = begins.picture.1.0
conforms_wide settings whole (rows, inl (count, IsClosedPicture.by_rtc bits after begins counted)) = begins.picture.0
conforms_wide settings whole (rows, inr (IsLimitedPicture.of_t6 bits begins)) = begins.picture.0
conforms_wide settings whole (rows, inr (IsLimitedPicture.of_t4 bits begins)) = begins.picture.0
conforms_wide settings whole (rows, inr (IsLimitedPicture.of_t4_with_eols bits begins)) = begins.picture.0

-- in Group 3 one that doesn't begin with an EOL needn't have any
module _ (settings : DecodeSettings) (wide : 0 < settings.columns) (whole : Bits) (small : settings.columns ≤ 4294967295)
    (three : settings.encoding ≢ Group4) (none : (rest : Bits) → EolStands whole rest → ⊥) (conforms : Conforms settings whole)
  where
    unasked_if : (asked : Bool) → settings.end_of_line ≡ asked → settings.end_of_line ≡ false
    unasked_if true is = absurd (no_eols_conform settings wide whole small three none is conforms)
    unasked_if false is = is

    pub eols_unasked : settings.end_of_line ≡ false
    eols_unasked = unasked_if settings.end_of_line refl

    pub body_stands : BodyStands settings 0 (white_row settings.columns) whole
    body_stands = (lines_conform settings wide whole small three none eols_unasked).0 conforms

-- ---- Where a check ends early.
ends_by_procedure : (settings : DecodeSettings) (k : Option ℕ) (whole : Bits) (has_eols : Bool) → HaveEols settings whole has_eols
    → (stop : Stop) → EndsAfterLines settings k has_eols whole stop → EndsByProcedure settings k whole stop
ends_by_procedure settings k whole has_eols have (Violation found) ends = (has_eols, have, ends)
ends_by_procedure settings k whole has_eols have OutOfMemory ends = tt

pub if_ends_by_procedure : (settings : DecodeSettings) (k : Option ℕ) (whole : Bits) (has_eols : Bool)
    (answer : Result (Unit {0}) Stop) → HaveEols settings whole has_eols → IfErr answer (EndsAfterLines settings k has_eols whole)
    → IfErr answer (EndsByProcedure settings k whole)
if_ends_by_procedure settings k whole has_eols answer have ends =
    IfErr-weaker answer _ _ (ends_by_procedure settings k whole has_eols have) ends
