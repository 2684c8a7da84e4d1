-- A line that stands somewhere is the only one there.
use Rattle.hayro_ccitt.proofs.Names.{◌≡◌, ℕ, ◌<◌, ◌≤◌, ◌++◌, length, refl, ap, sym, subst, ◌∙◌, append_cancel_left, arith}
use Rattle.hayro_ccitt.proofs.Names.{length-append, Bits, Row, DecodeSettings, EncodingMode, Group4, Group3_1D, Group3_2D}
use Rattle.hayro_ccitt.proofs.Names.{EncodesLine, Line, line_here}
use Rattle.hayro_ccitt.proofs.EncodedPictures.EncodedLines.{line_2d_again}
use Rattle.hayro_ccitt.proofs.EncodedPictures.PicturesT4.{line_t4_again}
use Rattle.fax_conforms.specs.Conforming.{FilledStands, fill_at}
use Rattle.fax_conforms.specs.Standing.{IsOnly, Leads, LineStands}

one_row : (row other : Row) (rest others : Bits) → Line.whole row rest ≡ Line.whole other others → row ≡ other
one_row row other rest others same = cc

one_rest : (row other : Row) (rest others : Bits) → Line.whole row rest ≡ Line.whole other others → rest ≡ others
one_rest row other rest others same = cc

module _ (settings : DecodeSettings) (wide : 0 < settings.columns) (small : settings.columns ≤ 4294967295) (reference : Row)
    (above : length reference ≡ settings.columns) where
  -- it is read as its row, whatever follows
  read_again : (encoding : EncodingMode) (row : Row) (line more : Bits) → EncodesLine encoding reference row line
      → length row ≡ settings.columns
      → line_here (record settings { encoding = encoding }) reference (line ++ more) ≡ Line.whole row more
  read_again Group4 row line more is len =
      line_2d_again settings.strict settings.columns reference row line more is wide small above len
  read_again Group3_1D row line more is len =
      line_t4_again (record settings { encoding = Group3_1D }) wide small Group3_1D reference row line more refl is above len
  read_again Group3_2D row line more is len =
      line_t4_again (record settings { encoding = Group3_2D }) wide small Group3_2D reference row line more refl is above len

  -- so bits begin with one line alone
  one_line_read : (row other : Row) (line next rest others : Bits) → EncodesLine settings.encoding reference row line
      → length row ≡ settings.columns → EncodesLine settings.encoding reference other next → length other ≡ settings.columns
      → line ++ rest ≡ next ++ others → Line.whole row rest ≡ Line.whole other others
  one_line_read row other line next rest others is len too other_len same =
      sym (read_again settings.encoding row line rest is len)
      ∙ ap (line_here (record settings { encoding = settings.encoding }) reference) same
      ∙ read_again settings.encoding other next others too other_len

  module _ (row : Row) (len : length row ≡ settings.columns) (start rest : Bits) where
    pub only_line_stands : LineStands settings.encoding reference row start rest
        → Leads settings.columns (λ row rest. LineStands settings.encoding reference row start rest) (IsOnly row rest)
    only_line_stands stands other others other_len = (to stands, back)
      where
        to : LineStands settings.encoding reference row start rest → LineStands settings.encoding reference other start others
            → IsOnly row rest other others
        to (line, is_line, is) (next, is_next, is_too) =
            let same = one_line_read row other line next rest others is_line len is_next other_len (sym is ∙ is_too) in
            (sym (one_row row other rest others same), sym (one_rest row other rest others same))

        back : IsOnly row rest other others → LineStands settings.encoding reference other start others
        back (row_is, rest_is) = subst (λ (x : Bits). LineStands settings.encoding reference other start x) (sym rest_is)
            (subst (λ (r : Row). LineStands settings.encoding reference r start rest) (sym row_is) stands)

    pub only_filled_line : FilledStands settings reference row start rest
        → Leads settings.columns (λ row rest. FilledStands settings reference row start rest) (IsOnly row rest)
    only_filled_line stands other others other_len = (to stands, back)
      where
        to : FilledStands settings reference row start rest → FilledStands settings reference other start others
            → IsOnly row rest other others
        to (line, is_line, is) (next, is_next, is_too) =
            let x : Bits = fill_at settings.rows_are_byte_aligned (length line) ++ rest in
            let y : Bits = fill_at settings.rows_are_byte_aligned (length next) ++ others in
            let same = one_line_read row other line next x y is_line len is_next other_len (sym is ∙ is_too) in
            let after : x ≡ y = one_rest row other x y same in
            let size : length line ≡ length next = omega (
              arith,
              ap length after,
              ap length (sym is ∙ is_too),
              length-append line x,
              length-append next y,
            ) in (
              sym (one_row row other x y same),
              sym (append_cancel_left (fill_at settings.rows_are_byte_aligned (length line)) rest others
                  (after ∙ ap (λ (n : ℕ). fill_at settings.rows_are_byte_aligned n ++ others) (sym size))),
            )

        back : IsOnly row rest other others → FilledStands settings reference other start others
        back (row_is, rest_is) = subst (λ (x : Bits). FilledStands settings reference other start x) (sym rest_is)
            (subst (λ (r : Row). FilledStands settings reference r start rest) (sym row_is) stands)
