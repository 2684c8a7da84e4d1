-- Lines with an EOL before each, from one to the next.
use Rattle.hayro_ccitt.proofs.Names.{◌≡◌, ℕ, ◌+◌, ◌<◌, ◌≤◌, [], ◌∷◌, ◌++◌, ◌↔◌, length, refl, ap, sym, subst, ◌∙◌}
use Rattle.hayro_ccitt.proofs.Names.{append_assoc, arith, inl, inr, All-cons, All-head, All-tail}
use Rattle.hayro_ccitt.proofs.Names.{length-append, Bits, Row, DecodeSettings, EncodesRowsWithEols, eol}
use Rattle.fax_conforms.specs.Standing.{LineStands, Leads, Never, Passes, IsOnly}
use Rattle.fax_conforms.specs.Conforming.{EolStands, EolLineStands, RtcStands, LinesEnd, LinesStand}
use Rattle.fax_conforms.proofs.BodyLines.{none_more, one_more_row, line_has_bits}
use Rattle.fax_conforms.proofs.EolsHere.{one_eol}

-- ---- A line after its EOL.
module _ (settings : DecodeSettings) (reference : Row) (here after : Bits) (stands : EolStands here after) where
  pub after_eol_leads : Leads settings.columns (λ row rest. EolLineStands settings reference row here rest)
      (λ row rest. LineStands settings.encoding reference row after rest)
  after_eol_leads row rest len = (
    λ (fill, line, is_line, is). (line, is_line, sym (one_eol here (line ++ rest) after (fill, is) stands)),
    λ (line, is_line, is). (stands.0, line, is_line, stands.1 ∙ ap (λ (x : Bits). eol stands.0 ++ x) is),
  )

pub passes_eol : (settings : DecodeSettings) (reference : Row) (here after : Bits) → EolStands here after
    → Passes settings.columns (λ here row rest. EolLineStands settings reference row here rest)
    (λ here row rest. LineStands settings.encoding reference row here rest) here after
passes_eol settings reference here after stands = record {
  passed = eol stands.0;
  is = stands.1;
  leads = λ more. after_eol_leads settings reference (eol stands.0 ++ more) more (stands.0, refl);
}

pub no_eol_line : (settings : DecodeSettings) (reference : Row) (here : Bits) → ((rest : Bits) → EolStands here rest → ⊥)
    → Never settings.columns (λ row rest. EolLineStands settings reference row here rest)
no_eol_line settings reference here none row rest len (fill, line, is_line, is) = none (line ++ rest) (fill, is)

-- what follows it is shorter
pub eol_line_shorter : (settings : DecodeSettings) (reference row : Row) (here next : Bits) → 0 < settings.columns
    → settings.columns ≤ 4294967295 → length row ≡ settings.columns
    → Leads settings.columns (λ row rest. EolLineStands settings reference row here rest) (IsOnly row next)
    → length next < length here
eol_line_shorter settings reference row here next wide small len leads =
    let (fill, line, is_line, is) = (leads row next len).1 (refl, refl) in
    let some = line_has_bits settings wide small settings.encoding reference row line refl is_line len in
    omega (arith, some, ap length is, length-append (eol fill) (line ++ next), length-append line next)

-- ---- From one line to the next.
module _ (settings : DecodeSettings) (taken : ℕ) (reference : Row) (here : Bits) where
  abbrev HasRow : Row → Type 0
  HasRow row = length row ≡ settings.columns

  -- a line is here
  module _ (unmet : settings.rows ≡ taken → 0 < taken → ⊥) (no_rtc : RtcStands settings taken here → ⊥) where
    not_ended : (bits after : Bits) → bits ≡ [] → here ≡ bits ++ after → LinesEnd settings (taken + 0) after → ⊥
    not_ended bits after none is (inl ends) = unmet (ends.0 ∙ none_more taken) (omega (arith, ends.1))
    not_ended bits after none is (inr ends) =
        let rtc : RtcStands settings taken after = subst (λ (n : ℕ). RtcStands settings n after) (none_more taken) ends.0 in
        no_rtc (subst (RtcStands settings taken) (sym (is ∙ ap (λ (x : Bits). x ++ after) none)) rtc)

    pub lines_fail : Never settings.columns (λ row rest. EolLineStands settings reference row here rest)
        → LinesStand settings taken reference here → ⊥
    lines_fail never ([], bits, after, widths, lines, is, ends) = not_ended bits after lines is ends
    lines_fail never (row ∷ rows, bits, after, widths, (fill, line, next, is_line, lines, split), is, ends) =
        never row (next ++ after) (All-head HasRow row rows widths)
        (fill, line, is_line, is ∙ ap (λ (x : Bits). x ++ after) split ∙ simp append_assoc refl)

    module _ (row : Row) (next : Bits) (len : length row ≡ settings.columns)
        (leads : Leads settings.columns (λ row rest. EolLineStands settings reference row here rest) (IsOnly row next)) where
      lines_on : LinesStand settings taken reference here → LinesStand settings (taken + 1) row next
      lines_on ([], bits, after, widths, lines, is, ends) = absurd (not_ended bits after lines is ends)
      lines_on (first ∷ rows, bits, after, widths, (fill, line, more, is_line, lines, split), is, ends) =
          let only = (leads first (more ++ after) (All-head HasRow first rows widths)).0
          (fill, line, is_line, is ∙ ap (λ (x : Bits). x ++ after) split ∙ simp append_assoc refl) in (
            rows,
            more,
            after,
            All-tail HasRow first rows widths,
            subst (λ (r : Row). EncodesRowsWithEols settings.encoding r rows more) only.0 lines,
            sym only.1,
            subst (λ (n : ℕ). LinesEnd settings n after) (one_more_row taken rows first) ends,
          )

      lines_back : LinesStand settings (taken + 1) row next → LinesStand settings taken reference here
      lines_back (rows, bits, after, widths, lines, is, ends) =
          let (fill, line, is_line, stands) = (leads row next len).1 (refl, refl) in (
            row ∷ rows,
            (eol fill ++ line) ++ bits,
            after,
            All-cons HasRow row rows len widths,
            (fill, line, bits, is_line, lines, refl),
            stands ∙ ap (λ (x : Bits). eol fill ++ (line ++ x)) is ∙ sym (simp append_assoc refl),
            subst (λ (n : ℕ). LinesEnd settings n after) (sym (one_more_row taken rows row)) ends,
          )

      pub lines_lead : LinesStand settings taken reference here ↔ LinesStand settings (taken + 1) row next
      lines_lead = (lines_on, lines_back)
