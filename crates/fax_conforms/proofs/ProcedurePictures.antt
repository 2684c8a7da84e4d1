-- Pictures by the coding procedure, by how they begin.
use Rattle.hayro_ccitt.proofs.Names.{◌≡◌, ◌≢◌, ℕ, ◌<◌, ◌≤◌, Bool, true, false, Option, None, ◌++◌, ◌↔◌, length, refl, ap, sym}
use Rattle.hayro_ccitt.proofs.Names.{◌∙◌, arith, inl, inr, Bits, DecodeSettings, EncodingMode, Group4, Group3_1D, Group3_2D}
use Rattle.hayro_ccitt.proofs.Names.{eol, white_row, after_eol, length-replicate, Result, Ok, Err}
use Rattle.hayro_ccitt.proofs.EncodedPictures.PicturesT4.{eol_stands, line_t4_starts, matches_itself}
use Rattle.fax_conforms.specs.ByProcedure.{ClosingStands, ConformsByProcedure, EndStands, EndsHere, LinesByProcedure}
use Rattle.fax_conforms.specs.ByProcedure.{left_at_first}
use Rattle.fax_conforms.specs.Checks.{Checks}
use Rattle.fax_conforms.specs.Conforming.{EolStands}
use Rattle.fax_conforms.specs.declared.stops.Stop.{Stop}
use Rattle.fax_conforms.proofs.ProcedureLines.{part_is_line}

-- Group 3 ends after some line
closes_later : (encoding : EncodingMode) (taken : ℕ) (here rest : Bits) → encoding ≢ Group4
    → ClosingStands encoding taken here rest → 0 < taken
closes_later Group4 taken here rest three closing = absurd (three refl)
closes_later Group3_1D taken here rest three (some, rtc) = some
closes_later Group3_2D taken here rest three (some, rtc) = some

ends_later : (closed : Bool) (settings : DecodeSettings) (taken : ℕ) (here rest : Bits) → settings.encoding ≢ Group4
    → EndStands closed settings taken here rest → 0 < taken
ends_later true settings taken here rest three (allows, closing) =
    closes_later settings.encoding taken here rest three closing
ends_later false settings taken here rest three ((limit, some), is) = some

module _ (settings : DecodeSettings) (k : Option ℕ) (whole : Bits) (wide : 0 < settings.columns) where
  abbrev pub Lines : Bool → Type 0
  Lines has_eols = LinesByProcedure settings k has_eols 0 (left_at_first settings.encoding) (white_row settings.columns) whole

  -- ---- Group 4 has no EOLs.
  pub group4_by_procedure : settings.encoding ≡ Group4 → ConformsByProcedure settings k whole ↔ Lines false
  group4_by_procedure four = (to, λ lines. (wide, false, inl four, lines))
    where
      to : ConformsByProcedure settings k whole → Lines false
      to (some, true, may, lines) = absurd (may four)
      to (some, false, may, lines) = lines

  module _ (three : settings.encoding ≢ Group4) where
    unended : (has_eols : Bool) → EndsHere settings has_eols 0 whole → ⊥
    unended has_eols (rest, ends, few) = omega (arith, ends_later _ settings 0 whole rest three ends)

    -- lines with EOLs begin with one without fill
    pub eol_at_start : Lines true → (rest : Bits) × (whole ≡ eol 0 ++ rest)
    eol_at_start (LinesByProcedure.over ends) = absurd (unended true ends)
    eol_at_start (LinesByProcedure.line middle is_two row rest (fill, few, is) len part lines) =
        (middle, is ∙ ap (λ (n : ℕ). eol n ++ middle) (few refl))

    -- the others don't
    pub begins_with_none : settings.columns ≤ 4294967295 → Lines false → (rest : Bits) → EolStands whole rest → ⊥
    begins_with_none small (LinesByProcedure.over ends) rest stands = unended false ends
    begins_with_none small (LinesByProcedure.line middle is_two row after here len part lines) rest (fill, is) =
        let white_len : length (white_row settings.columns) ≡ settings.columns = length-replicate settings.columns false in
        let (more, (line, is_line, stands)) = part_is_line settings false (left_at_first settings.encoding)
        (white_row settings.columns) middle wide small white_len is_two row after len part in
        let start = line_t4_starts settings wide small settings.encoding (white_row settings.columns) row line more
        (matches_itself settings three) is_line len in
        absurd (let e : Option.Some rest ≡ None = sym (eol_stands fill rest) ∙ ap (after_eol 0) (sym is ∙ here ∙ stands)
        ∙ start.no_eol in cc)

    pub eols_by_procedure : settings.columns ≤ 4294967295 → (first : Bits) → EolStands whole first
        → ConformsByProcedure settings k whole ↔ Lines true
    eols_by_procedure small first is = (to, λ lines. (wide, true, three, lines))
      where
        to : ConformsByProcedure settings k whole → Lines true
        to (some, true, may, lines) = lines
        to (some, false, may, lines) = absurd (begins_with_none small lines first is)

    module _ (none : (rest : Bits) → EolStands whole rest → ⊥) where
      pub no_eols_by_procedure : settings.end_of_line ≡ false → ConformsByProcedure settings k whole ↔ Lines false
      no_eols_by_procedure unasked = (to, λ lines. (wide, false, inr unasked, lines))
        where
          to : ConformsByProcedure settings k whole → Lines false
          to (some, true, may, lines) = let eol_here = eol_at_start lines in absurd (none eol_here.0 (0, eol_here.1))
          to (some, false, may, lines) = lines

-- ---- What a check answers.
pub checks_same : (r : Result (Unit {0}) Stop) (P Q : Type 0) → (Q ↔ P) → Checks P r → Checks Q r
checks_same (Ok done) P Q same is = same.1 is
checks_same (Err stop) P Q same none = λ broken q. none broken (same.0 q)
