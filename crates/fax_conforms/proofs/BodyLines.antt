-- Lines without EOLs, from one to the next.
use Rattle.hayro_ccitt.proofs.Names.{◌≡◌, ℕ, ◌+◌, ◌<◌, ◌≤◌, false, List, [], ◌∷◌, ◌++◌, ◌↔◌, length, refl, ap, sym, subst}
use Rattle.hayro_ccitt.proofs.Names.{◌∙◌, append_assoc, arith, inl, inr, All-cons, All-head, All-tail, White}
use Rattle.hayro_ccitt.proofs.Names.{length-append, Bits, Row, DecodeSettings, EncodingMode, Group4, Group3_1D, Group3_2D}
use Rattle.hayro_ccitt.proofs.Names.{EncodesLine, EncodesRows, at_end, false≢true}
use Rattle.hayro_ccitt.proofs.EncodedPictures.PictureLines.{line_2d_starts}
use Rattle.hayro_ccitt.proofs.EncodedPictures.PicturesT4.{line_t4_starts}
use Rattle.fax_conforms.specs.Standing.{Leads, Never, IsOnly}
use Rattle.fax_conforms.specs.Conforming.{FilledStands, fill_at, EofbStands, BodyEnds, BodyStands}

-- ---- A line has bits.
some_bits : (line : Bits) → at_end (line ++ []) ≡ false → 0 < length line
some_bits [] e = absurd (false≢true (sym e))
some_bits (bit ∷ line) e = omega arith

pub line_has_bits : (settings : DecodeSettings) → 0 < settings.columns → settings.columns ≤ 4294967295 → (encoding : EncodingMode)
    (reference row : Row) (line : Bits) → settings.encoding ≡ encoding → EncodesLine encoding reference row line
    → length row ≡ settings.columns → 0 < length line
line_has_bits settings wide small Group4 reference row line same is len =
    some_bits line (line_2d_starts reference row 0 White line [] is (omega arith)).open_end
line_has_bits settings wide small Group3_1D reference row line same is len =
    some_bits line (line_t4_starts settings wide small Group3_1D reference row line [] same is len).open_end
line_has_bits settings wide small Group3_2D reference row line same is len =
    some_bits line (line_t4_starts settings wide small Group3_2D reference row line [] same is len).open_end

-- so what follows it is shorter
pub filled_shorter : (settings : DecodeSettings) (reference row : Row) (here next : Bits) → 0 < settings.columns
    → settings.columns ≤ 4294967295 → length row ≡ settings.columns
    → Leads settings.columns (λ row rest. FilledStands settings reference row here rest) (IsOnly row next)
    → length next < length here
filled_shorter settings reference row here next wide small len leads =
    let (line, is_line, is) = (leads row next len).1 (refl, refl) in
    let some = line_has_bits settings wide small settings.encoding reference row line refl is_line len in
    let fill : Bits = fill_at settings.rows_are_byte_aligned (length line) in
    omega (arith, some, ap length is, length-append line (fill ++ next), length-append fill next)

-- ---- From one line to the next.
pub none_more : (n : ℕ) → n + 0 ≡ n
none_more n = omega arith

pub one_more_row : (n : ℕ) (rows : List Row) (row : Row) → n + length (row ∷ rows) ≡ n + 1 + length rows
one_more_row n rows row = omega arith

module _ (settings : DecodeSettings) (taken : ℕ) (reference : Row) (here : Bits) where
  abbrev HasRow : Row → Type 0
  HasRow row = length row ≡ settings.columns

  -- a line is here
  module _ (unmet : settings.rows ≡ taken → 0 < taken → ⊥) (no_eofb : EofbStands settings here → ⊥) where
    not_over : (bits after : Bits) → bits ≡ [] → here ≡ bits ++ after → BodyEnds settings (taken + 0) after → ⊥
    not_over bits after none is (inl ends) = unmet (ends.0 ∙ none_more taken) (omega (arith, ends.1))
    not_over bits after none is (inr ends) =
        no_eofb (subst (EofbStands settings) (sym (is ∙ ap (λ (x : Bits). x ++ after) none)) ends.0)

    pub body_fails : Never settings.columns (λ row rest. FilledStands settings reference row here rest)
        → BodyStands settings taken reference here → ⊥
    body_fails never ([], bits, after, widths, lines, is, ends) = not_over bits after lines is ends
    body_fails never (row ∷ rows, bits, after, widths, (line, next, is_line, lines, split), is, ends) =
        never row (next ++ after) (All-head HasRow row rows widths)
        (line, is_line, is ∙ ap (λ (x : Bits). x ++ after) split ∙ simp append_assoc refl)

    module _ (row : Row) (next : Bits) (len : length row ≡ settings.columns)
        (leads : Leads settings.columns (λ row rest. FilledStands settings reference row here rest) (IsOnly row next)) where
      body_on : BodyStands settings taken reference here → BodyStands settings (taken + 1) row next
      body_on ([], bits, after, widths, lines, is, ends) = absurd (not_over bits after lines is ends)
      body_on (first ∷ rows, bits, after, widths, (line, more, is_line, lines, split), is, ends) =
          let only = (leads first (more ++ after) (All-head HasRow first rows widths)).0
          (line, is_line, is ∙ ap (λ (x : Bits). x ++ after) split ∙ simp append_assoc refl) in (
            rows,
            more,
            after,
            All-tail HasRow first rows widths,
            subst (λ (r : Row). EncodesRows settings.encoding settings.rows_are_byte_aligned r rows more) only.0 lines,
            sym only.1,
            subst (λ (n : ℕ). BodyEnds settings n after) (one_more_row taken rows first) ends,
          )

      body_back : BodyStands settings (taken + 1) row next → BodyStands settings taken reference here
      body_back (rows, bits, after, widths, lines, is, ends) =
          let (line, is_line, stands) = (leads row next len).1 (refl, refl) in
          let fill : Bits = fill_at settings.rows_are_byte_aligned (length line) in (
            row ∷ rows,
            (line ++ fill) ++ bits,
            after,
            All-cons HasRow row rows len widths,
            (line, bits, is_line, lines, refl),
            stands ∙ ap (λ (x : Bits). line ++ (fill ++ x)) is ∙ sym (simp append_assoc refl),
            subst (λ (n : ℕ). BodyEnds settings n after) (sym (one_more_row taken rows row)) ends,
          )

      pub body_leads : BodyStands settings taken reference here ↔ BodyStands settings (taken + 1) row next
      body_leads = (body_on, body_back)
