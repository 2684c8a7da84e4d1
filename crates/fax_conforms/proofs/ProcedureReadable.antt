-- What conforms by the procedure conforms.
use Rattle.hayro_ccitt.proofs.Names.{◌≡◌, ◌≢◌, ◌⊎◌, ℕ, zero, suc, ◌+◌, ◌<◌, Bool, true, false, cond, Option, [], ◌∷◌}
use Rattle.hayro_ccitt.proofs.Names.{◌++◌, length, refl, ap, sym, subst, ◌∙◌, append_assoc, arith, inl, inr, All-cons, Bits, Row}
use Rattle.hayro_ccitt.proofs.Names.{DecodeSettings, EncodingMode, Group4, Group3_1D, Group3_2D, eol, padding, tag_of, white_row}
use Rattle.hayro_ccitt.proofs.Names.{length-replicate, EncodesLine}
use Rattle.std.proofs.lemmas.List.Elements.{All-nil}
use Rattle.hayro_ccitt.specs.Encodings.{ClosesWithEols}
use Rattle.fax_encode.specs.Procedure.{line_by_procedure, part_by_procedure}
use Rattle.fax_encode.specs.Settings.{is_closed}
use Rattle.fax_conforms.specs.Conforming.{BodyEnds, BodyStands, EolsStand, LinesEnd, LinesStand}
use Rattle.fax_conforms.specs.ByProcedure.{ClosingStands, EndStands, HasKind, LinesByProcedure, PlainRtcStands}
use Rattle.fax_conforms.specs.ByProcedure.{left_after, left_at_first, tagged_eols}
use Rattle.fax_conforms.specs.ByProcedure.{ConformsIn}
use Rattle.fax_conforms.specs.Conforming.{Conforms}
use Rattle.fax_conforms.specs.declared.grades.Grade.{Grade}
use Rattle.fax_conforms.specs.declared.grades.Grade.TheVariants.{Readable, Procedure}
use Rattle.hayro_ccitt.specs.Settings.{AreSettings}
use Rattle.fax_conforms.specs.Laws.{ProcedureIsReadable}
use Rattle.fax_conforms.proofs.BodyLines.{none_more, one_more_row}
use Rattle.fax_conforms.proofs.ChosenConforms.{all_filled, none_filled}
use Rattle.fax_conforms.proofs.EolsHere.{one_eol_less}
use Rattle.fax_conforms.proofs.PicturesConform.{group4_conforms, eols_conform, lines_conform}
use Rattle.fax_conforms.proofs.ProcedureLines.{by_procedure_encodes}
use Rattle.fax_conforms.proofs.ProcedurePictures.{begins_with_none, eol_at_start}

-- ---- RTC.
tagged_close : (encoding : EncodingMode) (n : ℕ) → ClosesWithEols encoding n (tagged_eols encoding n)
tagged_close encoding zero = refl
tagged_close encoding (suc n) =
    (0, tagged_eols encoding n, tagged_close encoding n, sym (append_assoc (eol 0) (tag_of encoding) (tagged_eols encoding n)))

rtc_closes : (encoding : EncodingMode) (start rest : Bits) → PlainRtcStands encoding start rest → EolsStand encoding 6 start
rtc_closes encoding start rest stands = (one_eol_less encoding 5 start (tagged_eols encoding 5 ++ rest) stands).1
    (tagged_eols encoding 5, tagged_close encoding 5, (rest, refl))

module _ (settings : DecodeSettings) where
  -- ---- The end.
  body_ends : (encoding : EncodingMode) (closed : Bool) (taken : ℕ) (start rest : Bits) → settings.encoding ≡ encoding
      → is_closed encoding false settings.end_of_block ≡ closed → EndStands closed settings taken start rest
      → BodyEnds settings taken start
  body_ends encoding false taken start rest same closed ((limit, some), is) = inl (limit, some)
  body_ends Group4 true taken start rest same closed (allows, closing) =
      inr (((same, closed), (rest, subst (λ (e : EncodingMode). ClosingStands e taken start rest) same closing)), allows)
  body_ends Group3_1D true taken start rest same closed stands = absurd cc
  body_ends Group3_2D true taken start rest same closed stands = absurd cc

  lines_end : (encoding : EncodingMode) (closed : Bool) (taken : ℕ) (start rest : Bits) → encoding ≢ Group4
      → settings.encoding ≡ encoding → is_closed encoding true settings.end_of_block ≡ closed
      → EndStands closed settings taken start rest → LinesEnd settings taken start
  lines_end encoding false taken start rest three same closed ((limit, some), is) = inl (limit, some)
  lines_end Group4 true taken start rest three same closed stands = absurd (three refl)
  lines_end Group3_1D true taken start rest three same closed (allows, closing) =
      let (some, rtc) = subst (λ (e : EncodingMode). ClosingStands e taken start rest) same closing in
      inr (
        (
          closed,
          some,
          subst (λ (e : EncodingMode). EolsStand e 6 start) (sym same)
              (rtc_closes Group3_1D start rest rtc),
        ),
        allows,
      )
  lines_end Group3_2D true taken start rest three same closed (allows, closing) =
      let (some, rtc) = subst (λ (e : EncodingMode). ClosingStands e taken start rest) same closing in
      inr (
        (
          closed,
          some,
          subst (λ (e : EncodingMode). EolsStand e 6 start) (sym same)
              (rtc_closes Group3_2D start rest rtc),
        ),
        allows,
      )

  -- ---- Lines.
  abbrev HasRow : Row → Type 0
  HasRow row = length row ≡ settings.columns

  module _ (k : Option ℕ) (wide : 0 < settings.columns) where
    is_line : (is_two : Bool) (reference row : Row) → HasRow reference → HasRow row → HasKind settings.encoding is_two
        → EncodesLine settings.encoding reference row (line_by_procedure settings.encoding is_two reference row)
    is_line is_two reference row above len has =
        by_procedure_encodes settings.encoding is_two reference row has (above ∙ sym len) (omega (arith, len, wide))

    to_body : (taken : ℕ) (left : Option ℕ) (reference : Row) (start : Bits) → HasRow reference
        → LinesByProcedure settings k false taken left reference start → BodyStands settings taken reference start
    to_body taken left reference start above (LinesByProcedure.over (rest, ends, few)) = (
      [],
      [],
      start,
      All-nil HasRow,
      refl,
      refl,
      subst (λ (n : ℕ). BodyEnds settings n start) (sym (none_more taken))
          (body_ends settings.encoding _ taken start rest refl refl ends),
    )
    to_body taken left reference start above (LinesByProcedure.line middle is_two row rest lead len ((has, may), stands) lines) =
        let (rows, bits, after, widths, encodes, is, ends) =
        to_body (taken + 1) (left_after k left is_two) row rest len lines in
        let line : Bits = line_by_procedure settings.encoding is_two reference row in
        let fill : Bits = cond settings.rows_are_byte_aligned (padding (length line)) [] in (
          row ∷ rows,
          (line ++ fill) ++ bits,
          after,
          All-cons HasRow row rows len widths,
          (line, bits, is_line is_two reference row above len has, encodes, refl),
          lead ∙ stands ∙ ap (λ (f : Bool). part_by_procedure settings.encoding f is_two reference row ++ rest)
              (sym (all_filled settings.rows_are_byte_aligned))
              ∙ ap (λ (x : Bits). (line ++ fill) ++ x) is ∙ sym (append_assoc (line ++ fill) bits after),
          subst (λ (n : ℕ). BodyEnds settings n after) (sym (one_more_row taken rows row)) ends,
        )

    to_lines : settings.encoding ≢ Group4 → (taken : ℕ) (left : Option ℕ) (reference : Row) (start : Bits) → HasRow reference
        → LinesByProcedure settings k true taken left reference start → LinesStand settings taken reference start
    to_lines three taken left reference start above (LinesByProcedure.over (rest, ends, few)) = (
      [],
      [],
      start,
      All-nil HasRow,
      refl,
      refl,
      subst (λ (n : ℕ). LinesEnd settings n start) (sym (none_more taken))
          (lines_end settings.encoding _ taken start rest three refl refl ends),
    )
    to_lines three taken left reference start above
        (LinesByProcedure.line middle is_two row rest (fill, few, lead) len ((has, may), stands) lines) =
        let (rows, bits, after, widths, encodes, is, ends) =
        to_lines three (taken + 1) (left_after k left is_two) row rest len lines in
        let line : Bits = line_by_procedure settings.encoding is_two reference row in
        let here : middle ≡ line ++ (bits ++ after) =
        stands ∙ ap (λ (f : Bool). part_by_procedure settings.encoding f is_two reference row ++ rest)
        (sym (none_filled settings.rows_are_byte_aligned))
        ∙ append_assoc line [] rest ∙ ap (λ (x : Bits). line ++ x) is in (
          row ∷ rows,
          (eol fill ++ line) ++ bits,
          after,
          All-cons HasRow row rows len widths,
          (fill, line, bits, is_line is_two reference row above len has, encodes, refl),
          lead ∙ ap (λ (x : Bits). eol fill ++ x) here
              ∙ sym (append_assoc (eol fill ++ line) bits after ∙ append_assoc (eol fill) line (bits ++ after)),
          subst (λ (n : ℕ). LinesEnd settings n after) (sym (one_more_row taken rows row)) ends,
        )

is_group4 : (encoding : EncodingMode) → (encoding ≡ Group4) ⊎ (encoding ≢ Group4)
is_group4 Group4 = inl refl
is_group4 Group3_1D = inr (λ four. let e : Group3_1D ≡ Group4 = four in cc)
is_group4 Group3_2D = inr (λ four. let e : Group3_2D ≡ Group4 = four in cc)

pub procedure_is_readable : ProcedureIsReadable
procedure_is_readable settings k whole are (wide, true, three, lines) =
    let begins = eol_at_start settings k whole wide three lines in
    (eols_conform settings wide whole (omega (arith, are.columns)) three begins.0 (0, begins.1)).1
    (to_lines settings k wide three 0 (left_at_first settings.encoding) (white_row settings.columns) whole
    (length-replicate settings.columns false) lines)
procedure_is_readable settings k whole are (wide, false, may, lines) =
    let body : BodyStands settings 0 (white_row settings.columns) whole =
    to_body settings k wide 0 (left_at_first settings.encoding) (white_row settings.columns) whole
    (length-replicate settings.columns false) lines in
    elim (is_group4 settings.encoding) [
      | inl four ↦ (group4_conforms settings wide whole four).1 body
      | inr three ↦ elim may [
        | inl four ↦ absurd (three four)
        | inr unasked ↦ (lines_conform settings wide whole (omega (arith, are.columns)) three
            (λ rest stands. begins_with_none settings k whole wide three (omega (arith, are.columns)) lines rest stands)
            unasked).1 body
      ]
    ]

-- what conforms in a grade is readable
pub readable_in_grade : (grade : Grade) (settings : DecodeSettings) (whole : Bits) → AreSettings settings
    → ConformsIn grade settings whole → Conforms settings whole
readable_in_grade Readable settings whole are conforms = conforms
readable_in_grade (Procedure k) settings whole are conforms = procedure_is_readable settings k whole are conforms
