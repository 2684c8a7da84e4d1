-- Data that is what the coding procedure writes (T.4, 4.1 and 4.2; T.6, 2).
use Rattle.std.specs.Prelude.{◌≡◌, ◌≢◌, ◌⊎◌, ℕ, zero, suc, ◌+◌, ◌-◌, ◌<◌, Bool, true, false, not, ◌&&◌, Option, None, Some}
use Rattle.std.specs.Prelude.{[], ◌++◌, length, replicate}
use Rattle.hayro_ccitt.specs.Bits.{Bits}
use Rattle.hayro_ccitt.specs.DecodeSettings.{DecodeSettings}
use Rattle.hayro_ccitt.specs.EncodingMode.{EncodingMode}
use Rattle.hayro_ccitt.specs.EncodingMode.TheVariants.{Group4, Group3_1D, Group3_2D}
use Rattle.hayro_ccitt.specs.Encodings.{eol, tag_of}
use Rattle.hayro_ccitt.specs.Pictures.{Allows}
use Rattle.hayro_ccitt.specs.Rows.{Row, white_row}
use Rattle.fax_encode.specs.Procedure.{part_by_procedure}
use Rattle.fax_encode.specs.Settings.{is_closed}
use Rattle.fax_conforms.specs.Conforming.{Conforms}
use Rattle.fax_conforms.specs.declared.grades.Grade.{Grade}
use Rattle.fax_conforms.specs.declared.grades.Grade.TheVariants.{Readable, Procedure}

-- ---- The kinds of line

-- how many lines from the first one on may be two-dimensional, if that is limited: none at first in two-dimensional Group 3 (T.4,
-- 4.2.1); the other encodings have lines of one kind
abbrev pub left_at_first : EncodingMode → Option ℕ
left_at_first Group3_2D = Some 0
left_at_first Group3_1D = None
left_at_first Group4 = None

-- auxiliary: one fewer
abbrev pub one_less : Option ℕ → Option ℕ
one_less None = None
one_less (Some n) = Some (n - 1)

-- how many may be after a line: K - 1 after a one-dimensional one, if K is given, and one fewer after another (T.4, 4.2.1)
abbrev pub left_after : Option ℕ → Option ℕ → Bool → Option ℕ
left_after k left true = one_less left
left_after k left false = one_less k

-- the encoding has lines of this kind (T.4, 4.1 and 4.2; T.6, 2.2)
abbrev pub HasKind : EncodingMode → Bool → Type 0
HasKind Group4 is_two = is_two ≡ true
HasKind Group3_1D is_two = is_two ≡ false
HasKind Group3_2D is_two = Unit {0}

-- a line of this kind may come next (T.4, 4.2.1)
abbrev pub MayCome : EncodingMode → Option ℕ → Bool → Type 0
MayCome encoding left is_two = HasKind encoding is_two × (is_two ≡ true → left ≢ Some 0)

-- ---- One line

-- What is before a line stands here: an EOL, if lines have EOLs, with no fill where no data is before it (T.4, 4.1.2 and 4.1.3).
abbrev pub LeadStands : Bool → ℕ → Bits → Bits → Type 0
LeadStands false taken here rest = here ≡ rest
LeadStands true taken here rest = (fill : ℕ) × (taken ≡ 0 → fill ≡ 0) × (here ≡ eol fill ++ rest)

-- the line of a row below another as the procedure writes it, and zeros up to a whole byte if lines are aligned and have no EOLs
abbrev pub part_of : DecodeSettings → Bool → Bool → Row → Row → Bits
part_of settings has_eols is_two reference row =
    part_by_procedure settings.encoding (settings.rows_are_byte_aligned && not has_eols) is_two reference row

-- The line of a row stands here as the procedure writes it, and zeros up to a whole byte if lines are aligned (T.4, 4.1.1 and
-- 4.2.1.3; T.6, 2.2). With EOLs they aren't.
abbrev pub PartStands : DecodeSettings → Bool → Option ℕ → Row → Bits → Bool → Row → Bits → Type 0
PartStands settings has_eols left reference here is_two row rest =
    MayCome settings.encoding left is_two × (here ≡ part_of settings has_eols is_two reference row ++ rest)

-- ---- The end

-- n EOLs without fill, each with its tag (T.4, 4.1.2 and 4.2.4)
abbrev pub tagged_eols : EncodingMode → ℕ → Bits
tagged_eols encoding zero = []
tagged_eols encoding (suc n) = eol 0 ++ (tag_of encoding ++ tagged_eols encoding n)

-- RTC stands here: six EOLs with their tags, and fill only between the data and the first one (T.4, 4.1.3, 4.1.4 and 4.2.4)
abbrev pub PlainRtcStands : EncodingMode → Bits → Bits → Type 0
PlainRtcStands encoding here rest = (fill : ℕ) × (here ≡ eol fill ++ (tag_of encoding ++ (tagged_eols encoding 5 ++ rest)))

-- the end of the block stands here after this number of rows: EOFB, or RTC after some row (T.6, 2.4.1.1; T.4, 4.1.4)
abbrev pub ClosingStands : EncodingMode → ℕ → Bits → Bits → Type 0
ClosingStands Group4 taken here rest = here ≡ eol 0 ++ (eol 0 ++ rest)
ClosingStands Group3_1D taken here rest = (0 < taken) × PlainRtcStands Group3_1D here rest
ClosingStands Group3_2D taken here rest = (0 < taken) × PlainRtcStands Group3_2D here rest

-- What ends a picture of this number of rows stands here: the end of the block, if there is to be one, and else nothing, where
-- the row limit is met.
abbrev pub EndStands : Bool → DecodeSettings → ℕ → Bits → Bits → Type 0
EndStands true settings taken here rest = Allows settings taken × ClosingStands settings.encoding taken here rest
EndStands false settings taken here rest = ((settings.rows ≡ taken) × (0 < taken)) × (here ≡ rest)

-- fewer than eight zeros are all that is left
abbrev pub FewZerosStand : Bits → Type 0
FewZerosStand here = (zeros : ℕ) × (zeros < 8) × (here ≡ replicate zeros false)

-- The picture ends here after this number of rows, and then the data, with zeros up to a whole byte. There is to be an end of the
-- block if the settings look for one, and in Group 3 lines have EOLs (T.4, 4.1.4; T.6, 2.4.1.1).
abbrev pub EndsHere : DecodeSettings → Bool → ℕ → Bits → Type 0
EndsHere settings has_eols taken here = (rest : Bits)
    × EndStands (is_closed settings.encoding has_eols settings.end_of_block) settings taken here rest × FewZerosStand rest

-- ---- A picture

-- After this number of rows, lines by the procedure stand here, if this many may be two-dimensional, and end (T.4, 4.1 and 4.2;
-- T.6, 2).
pub data LinesByProcedure (settings : DecodeSettings) (k : Option ℕ) (has_eols : Bool) : ℕ → Option ℕ → Row → Bits
    → Type 0 where
  over : {taken : ℕ} {left : Option ℕ} {reference : Row} {here : Bits} → EndsHere settings has_eols taken here
      → LinesByProcedure settings k has_eols taken left reference here
  line : {taken : ℕ} {left : Option ℕ} {reference : Row} {here : Bits} (middle : Bits) (is_two : Bool) (row : Row) (rest : Bits)
      → LeadStands has_eols taken here middle → length row ≡ settings.columns
      → PartStands settings has_eols left reference middle is_two row rest
      → LinesByProcedure settings k has_eols (taken + 1) (left_after k left is_two) row rest
      → LinesByProcedure settings k has_eols taken left reference here

-- Lines may have EOLs before them, or none: in Group 4 none, and EOLs if the settings ask for them (T.4, 4.1.2; T.6, 2.2).
abbrev pub MayHaveEols : DecodeSettings → Bool → Type 0
MayHaveEols settings true = settings.encoding ≢ Group4
MayHaveEols settings false = (settings.encoding ≡ Group4) ⊎ (settings.end_of_line ≡ false)

-- The data is a picture as the coding procedure writes it, with at most K - 1 two-dimensional lines after a one-dimensional one,
-- if K is given (T.4, 4.1 and 4.2; T.6, 2).
abbrev pub ConformsByProcedure : DecodeSettings → Option ℕ → Bits → Type 0
ConformsByProcedure settings k whole = (0 < settings.columns) × (has_eols : Bool) × MayHaveEols settings has_eols
    × LinesByProcedure settings k has_eols 0 (left_at_first settings.encoding) (white_row settings.columns) whole

-- the data conforms in a grade
abbrev pub ConformsIn : Grade → DecodeSettings → Bits → Type 0
ConformsIn Readable settings whole = Conforms settings whole
ConformsIn (Procedure k) settings whole = ConformsByProcedure settings k whole
