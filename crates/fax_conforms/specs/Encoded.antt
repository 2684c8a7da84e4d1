-- Data that is what `fax_encode` writes for its rows (T.4, 4.1 and 4.2; T.6, 2).
use Rattle.std.specs.Prelude.{◌≡◌, ℕ, Bool, true, false, List, [], ◌∷◌, Option}
use Rattle.hayro_ccitt.specs.Bits.{Bits}
use Rattle.hayro_ccitt.specs.DecodeSettings.{DecodeSettings}
use Rattle.hayro_ccitt.specs.EncodingMode.{EncodingMode}
use Rattle.hayro_ccitt.specs.EncodingMode.TheVariants.{Group4, Group3_1D, Group3_2D}
use Rattle.hayro_ccitt.specs.Rows.{Row}
use Rattle.fax_encode.specs.Settings as choice
use Rattle.fax_encode.specs.Settings.{chosen, decode_settings_for, has_eols, is_closed, is_two_dimensional}
use Rattle.fax_encode.specs.declared.settings.Effort.TheVariants.{Procedure}
use Rattle.fax_conforms.specs.ByProcedure.{ClosingStands, EndStands, LeadStands, LinesByProcedure}

-- the rows of lines that stand here
abbrev pub rows_in : {settings : DecodeSettings} {k : Option ℕ} {with_eols : Bool} {taken : ℕ} {left : Option ℕ} {reference : Row}
    {here : Bits} → LinesByProcedure settings k with_eols taken left reference here → List Row
rows_in (LinesByProcedure.over ends) = []
rows_in (LinesByProcedure.line middle is_two row rest lead len part lines) = row ∷ rows_in lines

-- whether `fax_encode` writes a row in two dimensions, if this many lines may be: in two-dimensional Group 3 if that line is no
-- longer (T.4, 4.2.1)
abbrev pub chosen_kind : EncodingMode → ℕ → Row → Row → Bool
chosen_kind Group4 n reference row = true
chosen_kind Group3_1D n reference row = false
chosen_kind Group3_2D n reference row = is_two_dimensional Procedure n reference row

-- each line is of the kind that `fax_encode` chooses for its row, with this K, if this many lines may be two-dimensional (T.4,
-- 4.2.1)
abbrev pub KindsAreChosen : {settings : DecodeSettings} {k : Option ℕ} {with_eols : Bool} {taken : ℕ} {left : Option ℕ}
    {reference : Row} {here : Bits} → ℕ → ℕ → LinesByProcedure settings k with_eols taken left reference here → Type 0
KindsAreChosen most n (LinesByProcedure.over ends) = Unit {0}
KindsAreChosen {settings = settings} {reference = reference} most n
    (LinesByProcedure.line middle is_two row rest lead len part lines) =
    (is_two ≡ chosen_kind settings.encoding n reference row)
    × KindsAreChosen most (choice.left_after Procedure settings.encoding most n reference row) lines

-- auxiliary: an EOL before a line has no fill (T.4, 4.1.3)
abbrev pub LeadHasNoFill : (with_eols : Bool) (taken : ℕ) (here rest : Bits) → LeadStands with_eols taken here rest → Type 0
LeadHasNoFill true taken here rest (fill, first, is) = fill ≡ 0
LeadHasNoFill false taken here rest lead = Unit {0}

-- auxiliary: nor has the first EOL of RTC
abbrev pub ClosingHasNoFill : (encoding : EncodingMode) (taken : ℕ) (here rest : Bits) → ClosingStands encoding taken here rest
    → Type 0
ClosingHasNoFill Group4 taken here rest closing = Unit {0}
ClosingHasNoFill Group3_1D taken here rest (some, (fill, is)) = fill ≡ 0
ClosingHasNoFill Group3_2D taken here rest (some, (fill, is)) = fill ≡ 0

-- auxiliary: nor what ends a picture
abbrev pub EndHasNoFill : (closed : Bool) (settings : DecodeSettings) (taken : ℕ) (here rest : Bits)
    → EndStands closed settings taken here rest → Type 0
EndHasNoFill true settings taken here rest (allows, closing) = ClosingHasNoFill settings.encoding taken here rest closing
EndHasNoFill false settings taken here rest stands = Unit {0}

-- no EOL before lines, or of RTC, has fill (T.4, 4.1.3)
abbrev pub HaveNoFill : {settings : DecodeSettings} {k : Option ℕ} {with_eols : Bool} {taken : ℕ} {left : Option ℕ}
    {reference : Row} {here : Bits} → LinesByProcedure settings k with_eols taken left reference here → Type 0
HaveNoFill {settings = settings} {with_eols = with_eols} {taken = taken} {here = here}
    (LinesByProcedure.over (rest, ends, few)) =
    EndHasNoFill (is_closed settings.encoding with_eols settings.end_of_block) settings taken here rest ends
HaveNoFill {with_eols = with_eols} {taken = taken} {here = here}
    (LinesByProcedure.line middle is_two row rest lead len part lines) =
    LeadHasNoFill with_eols taken here middle lead × HaveNoFill lines
