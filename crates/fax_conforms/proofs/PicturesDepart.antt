-- Pictures that depart in a line.
use Rattle.hayro_ccitt.proofs.Names.{◌≡◌, ◌≢◌, ℕ, ◌+◌, ◌<◌, ◌≤◌, Bool, true, ◌++◌, drop, refl, ap, subst, arith}
use Rattle.hayro_ccitt.proofs.Names.{inl, inr, cases_lt, Bits, BitsAt, Row, DecodeSettings, Group4, Allows, eol, white_row, here}
use Rattle.hayro_ccitt.proofs.Names.{length-replicate, false}
use Rattle.fax_conforms.specs.Conforming.{EolStands}
use Rattle.fax_conforms.specs.declared.stops.Rule.TheVariants.{Eol}
use Rattle.fax_conforms.specs.declared.stops.Stop.{Stop}
use Rattle.fax_conforms.specs.Stops.{DepartsInLine, EndsInLine, EndsInPicture, HaveEols, LineOfPicture}
use Rattle.fax_conforms.proofs.LinesBefore.{ends_in_line, no_lines_before}
use Rattle.fax_conforms.proofs.LinesBegin.{line_exists_here}
use Rattle.fax_conforms.proofs.Passed.{departs_at}

pub whole_is : (reader : BitsAt) → reader.place ≡ 0 → here reader ≡ reader.bits
whole_is reader e = ap (λ (n : ℕ). drop n reader.bits) e

pub in_picture : (settings : DecodeSettings) (has_eols : Bool) (bits start : Bits) (stop : Stop) → start ≡ bits
    → 0 < settings.columns → HaveEols settings bits has_eols → EndsInLine settings has_eols bits start stop
    → EndsInPicture settings bits stop
in_picture settings has_eols bits start Stop.OutOfMemory same wide have ends = tt
in_picture settings has_eols bits start (Stop.Violation found) same wide have ends =
    inr (wide, has_eols, have, subst (λ (b : Bits). DepartsInLine settings has_eols bits b found) same ends)

-- one row is allowed
one_allowed : (settings : DecodeSettings) → Allows settings (0 + 1)
one_allowed settings = elim (cases_lt 0 settings.rows) [
  | inl some ↦ inr (omega (arith, some))
  | inr none ↦ inl (omega (arith, none))
]

-- the first EOL is missing
pub no_first_eol : (settings : DecodeSettings) (bits : Bits) → 0 < settings.columns → settings.columns ≤ 4294967295
    → settings.encoding ≢ Group4 → settings.end_of_line ≡ true → ((rest : Bits) → EolStands bits rest → ⊥)
    → EndsInPicture settings bits (Stop.Violation (record { place = 0; rule = Eol }))
no_first_eol settings bits wide small three asked none =
    let white : Row = white_row settings.columns in
    let (row, more, len, (line, is_line, is)) = line_exists_here settings.columns small wide settings.encoding white
    (length-replicate settings.columns false) in
    in_picture settings true bits bits (Stop.Violation (record { place = 0; rule = Eol })) refl wide (three, inl asked)
    (ends_in_line settings true 0 white bits bits bits (Stop.Violation (record { place = 0; rule = Eol }))
    (no_lines_before settings true bits) (one_allowed settings)
    (departs_at {P = LineOfPicture settings true white} settings.columns bits 0 Eol (omega arith)
    (row, eol 0 ++ more, len, (0, line, is_line, ap (λ (x : Bits). eol 0 ++ x) is))
    (λ row more rest len (fill, line, is_line, is). (none, line ++ rest, (fill, is)))))
