-- What looking ahead counts where a line begins is paid by the line.
use Rattle.hayro_ccitt.proofs.Names.{◌≡◌, ℕ, ◌+◌, ◌<◌, ◌≤◌, true, false, [], ◌∷◌, ◌++◌, length, refl, ap, subst, ◌∙◌}
use Rattle.hayro_ccitt.proofs.Names.{append_assoc, arith, common_steps, false≢true, inl, inr, length-append, Bits, Row, Color}
use Rattle.hayro_ccitt.proofs.Names.{White}
use Rattle.hayro_ccitt.proofs.Names.{DecodeSettings, EncodingMode, Group4, Group3_1D, Group3_2D, EncodesLine, EncodesLine1D}
use Rattle.hayro_ccitt.proofs.Names.{EncodesLine2D, Spells, after_eol, None, tag_of, Mode, mode_codes, codes_of, Has}
use Rattle.hayro_ccitt.specs.Ticks.{looked}
use Rattle.hayro_ccitt.proofs.BitReading.ZerosInWords.{holds_a_one, word_one}
use Rattle.hayro_ccitt.proofs.EncodedPictures.PictureLines.{line_2d_starts}
use Rattle.hayro_ccitt.proofs.EncodedPictures.PicturesT4.{line_t4_starts}
use Rattle.fax_conforms.specs.Conforming.{EolStands, TaggedEolStands, FilledStands, EolLineStands, fill_at}
use Rattle.fax_conforms.proofs.WordsPaid.{eol_is_paid}
use Rattle.fax_conforms.proofs.EolsHere.{one_eol}

-- ---- A line's first word has a one.
looked_at_one : (word more : Bits) → holds_a_one word ≡ true → looked (word ++ more) ≤ length word
looked_at_one [] more e = absurd (false≢true e)
looked_at_one (true ∷ word) more e = omega arith
looked_at_one (false ∷ word) more e = omega (arith, looked_at_one word more e)

mode_looked : (mode : Mode) (word more : Bits) → Has mode_codes mode word → looked (word ++ more) ≤ length word
mode_looked mode word more has = looked_at_one word more (word_one word (inr (mode, has)))

code_looked : (color : Color) (n : ℕ) (word more : Bits) → Has (codes_of color) n word → looked (word ++ more) ≤ length word
code_looked color n word more has = looked_at_one word more (word_one word (inl (color, n, has)))

run_looked : (color : Color) (n : ℕ) (bits more : Bits) → Spells color n bits → looked (bits ++ more) ≤ length bits
run_looked color n bits more (Spells.terminating m word has small) = code_looked color n bits more has
run_looked color n bits more (Spells.makeup m word {n = k} {bits = next} has large rest) =
    let one = code_looked color m word (next ++ more) has in
    grind (arith, common_steps, append_assoc, length-append)

line_1d_looked : (color : Color) (row : Row) (bits more : Bits) → EncodesLine1D color row bits → 0 < length row
    → looked (bits ++ more) ≤ length bits
line_1d_looked color row bits more EncodesLine1D.over some = absurd (omega arith)
line_1d_looked color row bits more (EncodesLine1D.run n word {row = others} {bits = next} spells first maximal rest) some =
    let one = run_looked color n word (next ++ more) spells in
    grind (arith, common_steps, append_assoc, length-append)

line_2d_looked : (reference row : Row) (from : ℕ) (color : Color) (bits more : Bits) → EncodesLine2D reference row from color bits
    → from ≤ length row → looked (bits ++ more) ≤ length bits
line_2d_looked reference row from color bits more given le =
    grind (arith, common_steps, append_assoc, length-append, mode_looked)

module _ (settings : DecodeSettings) (wide : 0 < settings.columns) (small : settings.columns ≤ 4294967295) where
  pub line_looked : (encoding : EncodingMode) (reference row : Row) (line more : Bits) → EncodesLine encoding reference row line
      → length row ≡ settings.columns → looked (line ++ more) ≤ length line
  line_looked Group4 reference row line more is len = line_2d_looked reference row 0 White line more is (omega arith)
  line_looked Group3_1D reference row line more is len = line_1d_looked White row line more is (omega (arith, wide, len))
  line_looked Group3_2D reference row line more (rest, inl (tagged, is)) len = rw tagged (omega arith)
  line_looked Group3_2D reference row line more (rest, inr (tagged, is)) len =
      rw tagged (omega (arith, line_2d_looked reference row 0 White rest more is (omega arith)))

  -- and no EOL is there
  pub line_no_eol : (encoding : EncodingMode) (reference row : Row) (line more : Bits) → settings.encoding ≡ encoding
      → EncodesLine encoding reference row line → length row ≡ settings.columns → after_eol 0 (line ++ more) ≡ None
  line_no_eol Group4 reference row line more same is len =
      (line_2d_starts reference row 0 White line more is (omega arith)).no_eol
  line_no_eol Group3_1D reference row line more same is len =
      (line_t4_starts settings wide small Group3_1D reference row line more same is len).no_eol
  line_no_eol Group3_2D reference row line more same is len =
      (line_t4_starts settings wide small Group3_2D reference row line more same is len).no_eol

  -- ---- Before a line without an EOL
  pub body_looks : (reference row : Row) (here rest : Bits) (before after : ℕ) → FilledStands settings reference row here rest
      → length row ≡ settings.columns → (after_eol 0 here ≡ None → after ≤ before + looked here)
      → after + length rest ≤ before + length here
  body_looks reference row here rest before after (line, is_line, is) len looks =
      let fill : Bits = fill_at settings.rows_are_byte_aligned (length line) in
      let none : after_eol 0 here ≡ None =
      ap (after_eol 0) is ∙ line_no_eol settings.encoding reference row line (fill ++ rest) refl is_line len in
      omega (
        arith,
        looks none,
        ap looked is,
        line_looked settings.encoding reference row line (fill ++ rest) is_line len,
        ap length is,
        length-append line (fill ++ rest),
        length-append fill rest,
      )

  -- ---- Before a line and its EOL
  -- what looking for RTC counts
  abbrev LooksForRtc : EncodingMode → Bits → ℕ → ℕ → Type 0
  LooksForRtc encoding here before after =
      (((rest : Bits) → TaggedEolStands encoding here rest → ⊥) → after ≤ before + looked here + length (tag_of encoding))
      × ((rest : Bits) → TaggedEolStands encoding here rest → after_eol 0 rest ≡ None
      → after ≤ before + looked here + length (tag_of encoding) + looked rest)

  eol_line_by : (encoding : EncodingMode) → settings.encoding ≡ encoding → (reference row : Row) (here line rest : Bits)
      (before after : ℕ) → EncodesLine encoding reference row line → EolStands here (line ++ rest) → length row ≡ settings.columns
      → LooksForRtc encoding here before after → after + length rest ≤ before + length here
  eol_line_by Group4 same reference row here line rest before after is stands len (none, one) = omega (
    arith,
    one (line ++ rest) stands (line_no_eol Group4 reference row line rest same is len),
    eol_is_paid here (line ++ rest) stands,
    line_looked Group4 reference row line rest is len,
    length-append line rest,
  )
  eol_line_by Group3_1D same reference row here line rest before after is stands len (none, one) = omega (
    arith,
    one (line ++ rest) stands (line_no_eol Group3_1D reference row line rest same is len),
    eol_is_paid here (line ++ rest) stands,
    line_looked Group3_1D reference row line rest is len,
    length-append line rest,
  )
  eol_line_by Group3_2D same reference row here line rest before after (more, inl (tagged, is)) stands len (none, one) =
      let tagged_here : EolStands here (true ∷ (more ++ rest)) =
      subst (λ (x : Bits). EolStands here (x ++ rest)) tagged stands in
      omega (
        arith,
        one (more ++ rest) tagged_here (line_t4_starts (record settings { encoding = Group3_1D }) wide small Group3_1D reference
            row more rest refl is len).no_eol,
        eol_is_paid here (true ∷ (more ++ rest)) tagged_here,
        line_1d_looked White row more rest is (omega (arith, wide, len)),
        length-append more rest,
      )
  eol_line_by Group3_2D same reference row here line rest before after (more, inr (tagged, is)) stands len (none, one) =
      let tagged_here : EolStands here (false ∷ (more ++ rest)) =
      subst (λ (x : Bits). EolStands here (x ++ rest)) tagged stands in
      omega (
        arith,
        none (λ other eol. let e = one_eol here (true ∷ other) (false ∷ (more ++ rest)) eol tagged_here in absurd cc),
        eol_is_paid here (false ∷ (more ++ rest)) tagged_here,
        length-append more rest,
      )

  pub eol_line_looks : (reference row : Row) (here rest : Bits) (before after : ℕ)
      → EolLineStands settings reference row here rest → length row ≡ settings.columns
      → LooksForRtc settings.encoding here before after → after + length rest ≤ before + length here
  eol_line_looks reference row here rest before after (fill, line, is_line, is) len looks =
      eol_line_by settings.encoding refl reference row here line rest before after is_line (fill, is) len looks
