-- What is chosen by settings is an encoding, and is read again.
use Rattle.fax_encode.proofs.Names.{◌≡◌, ◌≢◌, ℕ, zero, suc, ◌+◌, ◌/◌, ◌^◌, ◌<◌, ◌≤◌, Bool, true, false, cond, leb, List, [], ◌∷◌}
use Rattle.fax_encode.proofs.Names.{◌++◌, length, refl, sym, ap, subst, ◌∙◌, arith, inl, inr, append_assoc, Ok}
use Rattle.fax_encode.proofs.Names.{append-nil, length-replicate, All-head, All-tail, DecodeSettings, EncodingMode, Group4}
use Rattle.fax_encode.proofs.Names.{Group3_1D, Group3_2D, BitOrder, Bits, AreWholeBytes, bits_in, Row, HaveWidth, white_row}
use Rattle.fax_encode.proofs.Names.{IsPicture, EncodesLine, EncodesRows, EncodesRowsWithEols, ClosesWithEols, PictureT6, padding}
use Rattle.fax_encode.proofs.Names.{eol, tag_of, IsClosedPicture, bits_are_whole, closed_pictures, chosen_line_1d, chosen_line_2d}
use Rattle.fax_encode.proofs.Names.{chosen_lines_1d, chosen_lines_2d, filled_up, return_to_control, ChosenBySettings}
use Rattle.fax_encode.proofs.Names.{ChosenComesBack, ChosenIsRead, ChosenLinesEncode, GivesAll, NeverLonger, AreSettings, chosen}
use Rattle.fax_encode.proofs.Names.{needs_row, is_closed, decode_settings_for, is_two_dimensional, chosen_line, left_after}
use Rattle.fax_encode.proofs.Names.{chosen_lines, fill_of, chosen_lines_with_eols, chosen_eols, chosen_picture, chosen_with_eols}
use Rattle.fax_encode.proofs.Names.{chosen_group4, eols_here}
use Rattle.fax_encode.proofs.Names.{Effort, Procedure, Shortest, line_1d, line_2d, EncodesLine1D, EncodesLine2D, White}
use Rattle.fax_encode.proofs.Names.{cases_lt, le-leb}
use Rattle.std.proofs.lemmas.Bool.{lt-leb}
use Rattle.fax_encode.proofs.ShortestRows.{shortest_1d_encodes}
use Rattle.fax_encode.proofs.BytesOfBits.{same_bytes}
use Rattle.fax_encode.proofs.ChosenLines.{line_1d_encodes, line_2d_encodes}
use Rattle.fax_encode.proofs.ShortestLines.{shortest_lines}
use Rattle.fax_encode.proofs.ReadToTheEnd.{all_but, rounded_up, rtc_few, few_zeros, all_t6, all_t4, all_t4_with_eols}

-- ---- lines
-- a two-dimensional line is one, whatever the effort
pub line_2d_encoded : (effort : Effort) (reference row : Row) → length reference ≡ length row
    → EncodesLine2D reference row 0 White (line_2d effort reference row)
line_2d_encoded Procedure reference row same = line_2d_encodes reference row same
line_2d_encoded Shortest reference row same = (shortest_lines reference row same).0

pub line_1d_encoded : (effort : Effort) (row : Row) → 0 < length row → EncodesLine1D White row (line_1d effort row)
line_1d_encoded Procedure row some = line_1d_encodes row some
line_1d_encoded Shortest row some = shortest_1d_encodes row some

-- a line is one of an encoding
pub line_encodes : (effort : Effort) (encoding : EncodingMode) (left : ℕ) (reference row : Row)
    → length reference ≡ length row → 0 < length row
    → EncodesLine encoding reference row (chosen_line effort encoding left reference row)
line_encodes effort Group4 left reference row same some = line_2d_encoded effort reference row same
line_encodes effort Group3_1D left reference row same some = line_1d_encoded effort row some
line_encodes effort Group3_2D left reference row same some = by_two (is_two_dimensional effort left reference row)
  where
    by_two : (two : Bool)
        → EncodesLine Group3_2D reference row (cond two (false ∷ line_2d effort reference row) (true ∷ line_1d effort row))
    by_two true = (line_2d effort reference row, inr (refl, line_2d_encoded effort reference row same))
    by_two false = (line_1d effort row, inl (refl, line_1d_encoded effort row some))

lines_encode : (effort : Effort) (encoding : EncodingMode) (columns k : ℕ) (aligned : Bool) (left : ℕ) (reference : Row)
    (rows : List Row)
    → 0 < columns → length reference ≡ columns → HaveWidth columns rows
    → EncodesRows encoding aligned reference rows (chosen_lines effort encoding k aligned left reference rows)
lines_encode effort encoding columns k aligned left reference [] wide same widths = refl
lines_encode effort encoding columns k aligned left reference (row ∷ rows) wide same widths =
    let width : length row ≡ columns = All-head (λ row. length row ≡ columns) row rows widths in (
      chosen_line effort encoding left reference row,
      chosen_lines effort encoding k aligned (left_after effort encoding k left reference row) row rows,
      line_encodes effort encoding left reference row (same ∙ sym width) (omega arith),
      lines_encode effort encoding columns k aligned (left_after effort encoding k left reference row) row rows wide width
          (All-tail (λ row. length row ≡ columns) row rows widths),
      refl,
    )

-- the lines are those of an encoding, with EOLs
pub lines_with_eols_encode : (effort : Effort) (encoding : EncodingMode) (columns k : ℕ) (fills : Bool)
    (at left : ℕ) (reference : Row) (rows : List Row) → 0 < columns → length reference ≡ columns → HaveWidth columns rows
    → EncodesRowsWithEols encoding reference rows (chosen_lines_with_eols effort encoding k fills at left reference rows)
lines_with_eols_encode effort encoding columns k fills at left reference [] wide same widths = refl
lines_with_eols_encode effort encoding columns k fills at left reference (row ∷ rows) wide same widths =
    let width : length row ≡ columns = All-head (λ row. length row ≡ columns) row rows widths in
    let next : ℕ = at + 12 + fill_of fills at + length (chosen_line effort encoding left reference row) in (
      fill_of fills at,
      chosen_line effort encoding left reference row,
      chosen_lines_with_eols effort encoding k fills next (left_after effort encoding k left reference row) row rows,
      line_encodes effort encoding left reference row (same ∙ sym width) (omega arith),
      lines_with_eols_encode effort encoding columns k fills next
          (left_after effort encoding k left reference row) row rows wide width
          (All-tail (λ row. length row ≡ columns) row rows widths),
      refl,
    )

-- and the EOLs close it
pub eols_close : (encoding : EncodingMode) (fills : Bool) (at n : ℕ) → ClosesWithEols encoding n (chosen_eols encoding fills at n)
eols_close encoding fills at zero = refl
eols_close encoding fills at (suc n) =
    let next : ℕ = at + 12 + fill_of fills at + length (tag_of encoding) in
    (fill_of fills at, chosen_eols encoding fills next n, eols_close encoding fills next n, refl)

-- a white row has the width
pub white_is_wide : (columns : ℕ) → length (white_row columns) ≡ columns
white_is_wide columns = length-replicate columns false

-- the law
pub chosen_lines_encode : ChosenLinesEncode
chosen_lines_encode effort encoding columns k rows is = (
  λ aligned. lines_encode effort encoding columns k aligned 0 (white_row columns) rows is.0 (white_is_wide columns) is.1,
  λ fills. lines_with_eols_encode effort encoding columns k fills 0 0 (white_row columns) rows is.0 (white_is_wide columns) is.1,
  λ fills at. eols_close encoding fills at 6,
)

-- the shorter of two lines, after its tag, is no longer than either
pub shorter_line : (one two : Bits)
    → (length (cond (leb (length one) (length two)) (false ∷ one) (true ∷ two)) ≤ suc (length one))
    × (length (cond (leb (length one) (length two)) (false ∷ one) (true ∷ two)) ≤ suc (length two))
shorter_line one two = elim (cases_lt (length two) (length one)) [
  | inl lt ↦ let e = lt-leb (length one) (length two) lt in rw e (omega (arith, lt), omega arith)
  | inr ge ↦ let e = le-leb (length one) (length two) ge in rw e (omega arith, omega (arith, ge))
]

tag_alone : (two : Bits) → length (true ∷ two) ≤ suc (length two)
tag_alone two = omega arith

-- the law
pub never_longer : NeverLonger
never_longer effort zero reference row = tag_alone (line_1d effort row)
never_longer effort (suc left) reference row = (shorter_line (line_2d effort reference row) (line_1d effort row)).1

-- ---- what is chosen is read again
-- settings of a decoder that match
record Match (d : DecodeSettings) (encoding : EncodingMode) (eols aligned closed : Bool) (columns count : ℕ) : Type 0 where
  columns_are : d.columns ≡ columns
  encoding_is : d.encoding ≡ encoding
  eols_are : d.end_of_line ≡ eols
  aligned_is : d.rows_are_byte_aligned ≡ aligned
  block_is : d.end_of_block ≡ closed
  limit_is : d.rows ≡ cond closed 0 count

-- a picture that is closed at the end of whole bytes
closed_gives : (d : DecodeSettings) (rows : List Row) (count bytes : ℕ) (whole : Bits) → AreSettings d → AreWholeBytes whole
    → count ≡ bytes → IsClosedPicture d rows count whole → GivesAll d whole rows bytes
closed_gives d rows count bytes whole are all same is =
    let p = closed_pictures d rows count whole are all is in
    (p.0, p.1 ∙ ap (λ (n : ℕ). Ok n) same)

module _ (order : BitOrder) (d : DecodeSettings) (columns : ℕ) (rows : List Row) (bytes : List ℕ) (small : columns < 2 ^ 32)
    (few : length rows < 2 ^ 32) (is : IsPicture columns rows) where
  abbrev whole : Bits
  whole = bits_in order bytes

  abbrev white : Row
  white = white_row columns

  are_settings : (limit : ℕ) → d.columns ≡ columns → d.rows ≡ limit → limit < 2 ^ 32 → AreSettings d
  are_settings limit c r lt = record { columns = omega (arith, c, small); rows = omega (arith, r, lt) }

  of_group4 : (effort : Effort) (k : ℕ) (eols aligned closed : Bool) → (needs_row Group4 closed ≡ true → 0 < length rows)
      → Match d Group4 eols aligned closed columns (length rows)
      → whole ≡ filled_up (chosen_group4 effort k aligned closed white rows)
      → GivesAll d whole rows (length bytes)
  of_group4 effort k eols aligned true some m e =
      let body : Bits = chosen_lines effort Group4 k aligned 0 white rows in
      let bits : Bits = body ++ (eol 0 ++ eol 0) in
      let lines = lines_encode effort Group4 columns k aligned 0 white rows is.0 (white_is_wide columns) is.1 in
      closed_gives d rows ((length bits + 7) / 8) (length bytes) whole (are_settings 0 m.columns_are m.limit_is (omega arith))
      (bits_are_whole order bytes) (rounded_up order bits bytes e) (IsClosedPicture.by_eofb bits (record {
        encoding = m.encoding_is;
        end_of_block = m.block_is;
        limit = inl m.limit_is;
        picture = subst (λ (n : ℕ). PictureT6 n d.rows_are_byte_aligned rows bits) (sym m.columns_are) (subst (λ (a : Bool).
            PictureT6 columns a rows bits) (sym m.aligned_is) (body, is, lines, sym (append_assoc body (eol 0) (eol 0))));
        begins = (padding (length bits), e);
      }) refl)
  of_group4 effort k eols aligned false some m e =
      let body : Bits = chosen_lines effort Group4 k aligned 0 white rows in
      let lines = lines_encode effort Group4 columns k aligned 0 white rows is.0 (white_is_wide columns) is.1 in
      all_t6 order d rows bytes (are_settings (length rows) m.columns_are m.limit_is few) body (record {
        encoding = m.encoding_is;
        limit = m.limit_is;
        some = some refl;
        picture = subst (λ (n : ℕ). IsPicture n rows) (sym m.columns_are) is;
        lines = subst (λ (n : ℕ). EncodesRows Group4 d.rows_are_byte_aligned (white_row n) rows body) (sym m.columns_are)
            (subst (λ (a : Bool). EncodesRows Group4 a white rows body) (sym m.aligned_is) lines);
        begins = (padding (length (body ++ [])), e ∙ ap (λ (b : Bits). b ++ padding (length (body ++ []))) (append-nil body));
      }) (few_zeros (length (body ++ [])))

  module _ (effort : Effort) (encoding : EncodingMode) (k : ℕ) (fills : Bool) (not_t6 : encoding ≢ Group4)
      (some : 0 < length rows) where
    abbrev lines_there : Bits
    lines_there = chosen_lines_with_eols effort encoding k fills 0 0 white rows

    encoded_with_eols : d.columns ≡ columns → d.encoding ≡ encoding
        → EncodesRowsWithEols d.encoding (white_row d.columns) rows lines_there
    encoded_with_eols c m =
        subst (λ (n : ℕ). EncodesRowsWithEols d.encoding (white_row n) rows lines_there) (sym c)
        (subst (λ (x : EncodingMode). EncodesRowsWithEols x white rows lines_there) (sym m)
        (lines_with_eols_encode effort encoding columns k fills 0 0 white rows is.0 (white_is_wide columns) is.1))

    of_eols : (aligned closed : Bool) → Match d encoding true aligned closed columns (length rows)
        → whole ≡ filled_up (chosen_with_eols effort encoding k fills closed white rows) → GivesAll d whole rows (length bytes)
    of_eols aligned true m e =
        let closing : Bits = chosen_eols encoding fills (length lines_there) 6 in
        let pad : Bits = padding (length (lines_there ++ closing)) in
        closed_gives d rows _ (length bytes) whole (are_settings 0 m.columns_are m.limit_is (omega arith)) (bits_are_whole
        order bytes) (all_but order bytes (eols_here d (closing ++ pad)).1 (rtc_few d encoding fills (length lines_there)
        (length (lines_there ++ closing)) m.encoding_is not_t6)) (IsClosedPicture.by_rtc lines_there (closing ++ pad) (record {
          encoding = λ x. not_t6 (sym m.encoding_is ∙ x);
          end_of_block = m.block_is;
          limit = inl m.limit_is;
          some = some;
          picture = subst (λ (n : ℕ). IsPicture n rows) (sym m.columns_are) is;
          lines = encoded_with_eols m.columns_are m.encoding_is;
          closing = (
            closing,
            subst (λ (x : EncodingMode). ClosesWithEols x 6 closing) (sym m.encoding_is)
                (eols_close encoding fills (length lines_there) 6),
            (pad, refl),
          );
          begins = e ∙ append_assoc lines_there closing pad;
        }) refl)
    of_eols aligned false m e =
        let pad : Bits = padding (length (lines_there ++ [])) in
        all_t4_with_eols order d rows bytes (are_settings (length rows) m.columns_are m.limit_is few) lines_there (record {
          encoding = λ x. not_t6 (sym m.encoding_is ∙ x);
          limit = m.limit_is;
          some = some;
          picture = subst (λ (n : ℕ). IsPicture n rows) (sym m.columns_are) is;
          lines = encoded_with_eols m.columns_are m.encoding_is;
          begins = (pad, e ∙ ap (λ (b : Bits). b ++ pad) (append-nil lines_there));
        }) (few_zeros (length (lines_there ++ [])))

    of_lines : (aligned : Bool) → Match d encoding false aligned false columns (length rows)
        → whole ≡ filled_up (chosen_lines effort encoding k aligned 0 white rows) → GivesAll d whole rows (length bytes)
    of_lines aligned m e =
        let body : Bits = chosen_lines effort encoding k aligned 0 white rows in
        let lines = lines_encode effort encoding columns k aligned 0 white rows is.0 (white_is_wide columns) is.1 in
        all_t4 order d rows bytes (are_settings (length rows) m.columns_are m.limit_is few) body (record {
          encoding = λ x. not_t6 (sym m.encoding_is ∙ x);
          end_of_line = m.eols_are;
          limit = m.limit_is;
          some = some;
          picture = subst (λ (n : ℕ). IsPicture n rows) (sym m.columns_are) is;
          lines = subst (λ (n : ℕ). EncodesRows d.encoding d.rows_are_byte_aligned (white_row n) rows body) (sym m.columns_are)
              (subst (λ (a : Bool). EncodesRows d.encoding a white rows body) (sym m.aligned_is)
              (subst (λ (x : EncodingMode). EncodesRows x aligned white rows body) (sym m.encoding_is) lines));
          begins = (padding (length body), e);
        }) (few_zeros (length body))

  by_kind : (effort : Effort) (encoding : EncodingMode) (eols : Bool) (k : ℕ) (fills aligned closed : Bool)
      → (needs_row encoding closed ≡ true
      → 0 < length rows) → Match d encoding eols aligned (is_closed encoding eols closed) columns (length rows)
      → whole ≡ filled_up (chosen_picture effort encoding eols k fills aligned closed white rows)
      → GivesAll d whole rows (length bytes)
  by_kind effort Group4 eols k fills aligned closed some m e = of_group4 effort k eols aligned closed some m e
  by_kind effort Group3_1D true k fills aligned closed some m e =
      of_eols effort Group3_1D k fills (λ x. absurd cc) (some refl) aligned closed m e
  by_kind effort Group3_1D false k fills aligned closed some m e = of_lines effort Group3_1D k fills (λ x. absurd cc)
      (some refl) aligned m e
  by_kind effort Group3_2D true k fills aligned closed some m e =
      of_eols effort Group3_2D k fills (λ x. absurd cc) (some refl) aligned closed m e
  by_kind effort Group3_2D false k fills aligned closed some m e = of_lines effort Group3_2D k fills (λ x. absurd cc)
      (some refl) aligned m e

-- the law
pub chosen_is_read : ChosenIsRead
chosen_is_read settings columns rows bytes small few some is e =
    by_kind settings.order (decode_settings_for settings columns
    (length rows)) columns rows bytes small few is settings.effort settings.encoding
    settings.end_of_line settings.k settings.eols_end_at_bytes settings.rows_are_byte_aligned settings.end_of_block some
    (record { columns_are = refl; encoding_is = refl; eols_are = refl; aligned_is = refl; block_is = refl; limit_is = refl }) e

-- ---- the existing encoders
same_lines_2d : (k left : ℕ) (aligned : Bool) (reference : Row) (rows : List Row)
    → chosen_lines Procedure Group4 k aligned left reference rows ≡ chosen_lines_2d aligned reference rows
same_lines_2d k left aligned reference [] = refl
same_lines_2d k left aligned reference (row ∷ rows) =
    ap (λ (b : Bits). (chosen_line_2d reference row ++ cond aligned (padding (length (chosen_line_2d reference row))) []) ++ b)
    (same_lines_2d k (left_after Procedure Group4 k left reference row) aligned row rows)

same_lines_1d : (k at left : ℕ) (reference : Row) (rows : List Row)
    → chosen_lines_with_eols Procedure Group3_1D k false at left reference rows ≡ chosen_lines_1d rows
same_lines_1d k at left reference [] = refl
same_lines_1d k at left reference (row ∷ rows) =
    ap (λ (b : Bits). (eol 0 ++ chosen_line_1d row) ++ b)
    (same_lines_1d k (at + 12 + 0 + length (chosen_line_1d row)) (left_after Procedure Group3_1D k left reference row) row rows)

same_eols : (at : ℕ) → chosen_eols Group3_1D false at 6 ≡ return_to_control
same_eols at = refl

-- the law
pub chosen_by_settings : ChosenBySettings
chosen_by_settings columns k rows = (
  λ aligned. ap (λ (b : Bits). b ++ (eol 0 ++ eol 0)) (same_lines_2d k 0 aligned (white_row columns) rows)
      ∙ sym (append_assoc (chosen_lines_2d aligned (white_row columns) rows) (eol 0) (eol 0)),
  ap (λ (b : Bits). b ++ chosen_eols Group3_1D false (length b) 6) (same_lines_1d k 0 0 (white_row columns) rows)
      ∙ ap (λ (b : Bits). chosen_lines_1d rows ++ b) (same_eols (length (chosen_lines_1d rows))),
)

-- the law
pub chosen_comes_back : ChosenComesBack
chosen_comes_back settings columns rows bytes again small few some is fit fit_again e same =
    let read = chosen_is_read settings columns rows bytes small few some is e in
    same_bytes settings.order again bytes fit_again fit
    (same ∙ ap (λ (l : List Row). filled_up (chosen settings columns l)) read.0 ∙ sym e)
