-- The lines of a picture one by one, and what stands after them.
use Rattle.fax_encode.proofs.Names.{◌≡◌, ℕ, ◌+◌, Bool, true, false, cond, List, [], ◌∷◌, ◌++◌, length, refl, sym, ap, ◌∙◌, arith}
use Rattle.fax_encode.proofs.Names.{append_assoc, append-nil, length-append, EncodingMode, Group4, Group3_1D, Group3_2D, Bits}
use Rattle.fax_encode.proofs.Names.{Row, white_row, eol, padding, EncodeSettings, RowsAreChosen, RowsEncoded, no_rows, with_row}
use Rattle.fax_encode.proofs.Names.{with_rows, chosen, chosen_picture, chosen_line, chosen_lines, chosen_lines_with_eols}
use Rattle.fax_encode.proofs.Names.{chosen_part, chosen_end, fill_of, has_eols, left_after, with_end}
use Rattle.fax_encode.proofs.Names.{Effort, lines_by, lines_left}
use Rattle.fax_encode.proofs.FilledEols.{length-eol}

-- ---- one line
module _ (settings : EncodeSettings) (at left : ℕ) (reference row : Row) where
  abbrev line : Bits
  line = chosen_line settings.effort settings.encoding left reference row

  abbrev fill : ℕ
  fill = fill_of settings.eols_end_at_bytes at

  part_is : (with_eols : Bool) → has_eols settings.encoding settings.end_of_line ≡ with_eols → chosen_part settings at left
      reference row ≡ cond with_eols (eol fill ++ line) (line ++ cond settings.rows_are_byte_aligned (padding (length line)) [])
  part_is with_eols e =
      ap (λ (t : Bool). cond t (eol fill ++ line) (line ++ cond settings.rows_are_byte_aligned (padding (length line)) [])) e

  pub part_with_eol : has_eols settings.encoding settings.end_of_line ≡ true
      → chosen_part settings at left reference row ≡ eol fill ++ line
  part_with_eol e = part_is true e

  pub part_without_eol : has_eols settings.encoding settings.end_of_line ≡ false
      → chosen_part settings at left reference row ≡ line ++ cond settings.rows_are_byte_aligned (padding (length line)) []
  part_without_eol e = part_is false e

-- ---- the lines that are left
-- none are left
pub lines_none : (settings : EncodeSettings) (at left : ℕ) (reference : Row) → lines_left settings at left reference [] ≡ []
lines_none settings at left reference = by_with_eols (has_eols settings.encoding settings.end_of_line)
  where
    by_with_eols : (with_eols : Bool) → lines_by with_eols settings at left reference [] ≡ []
    by_with_eols true = refl
    by_with_eols false = refl

-- the first of them
pub lines_more : (settings : EncodeSettings) (at left : ℕ) (reference row : Row) (rows : List Row)
    → lines_left settings at left reference (row ∷ rows) ≡ chosen_part settings at left reference row ++ lines_left settings (at
    + length (chosen_part settings at left reference row))
    (left_after settings.effort settings.encoding settings.k left reference row) row rows
lines_more settings at left reference row rows = by_has_eols (has_eols settings.encoding settings.end_of_line) refl
  where
    by_has_eols : (with_eols : Bool) → has_eols settings.encoding settings.end_of_line ≡ with_eols → lines_by with_eols settings
        at left reference (row ∷ rows) ≡ chosen_part settings at left reference row ++ lines_by with_eols settings (at + length
        (chosen_part settings at left reference row))
        (left_after settings.effort settings.encoding settings.k left reference row) row rows
    by_has_eols true e =
        let next : ℕ = left_after settings.effort settings.encoding settings.k left reference row in
        let part : Bits = eol (fill settings at left reference row) ++ line settings at left reference row in
        let length_is : at + 12 + fill settings at left reference row + length (line settings at left reference row) ≡ at
        + length part = omega (
          arith,
          length-append (eol (fill settings at left reference row)) (line settings at left reference row),
          length-eol (fill settings at left reference row),
        ) in
        ap (λ (n : ℕ). part ++ lines_by true settings n next row rows) length_is ∙ ap (λ (b : Bits).
        b ++ lines_by true settings (at + length b) next row rows) (sym (part_with_eol settings at left reference row e))
    by_has_eols false e = ap (λ (b : Bits). b ++ lines_by false settings (at + length b)
        (left_after settings.effort settings.encoding settings.k
        left reference row) row rows) (sym (part_without_eol settings at left reference row e))

-- a line that was written stands before those that are left
pub line_written : (settings : EncodeSettings) (left : ℕ) (reference row : Row) (rows : List Row) (before after : Bits)
    → after ≡ before ++ chosen_part settings (length before) left reference row
    → after ++ lines_left settings (length after)
    (left_after settings.effort settings.encoding settings.k left reference row) row rows
    ≡ before ++ lines_left settings (length before) left reference (row ∷ rows)
line_written settings left reference row rows before after e =
    let part : Bits = chosen_part settings (length before) left reference row in
    let next : ℕ = left_after settings.effort settings.encoding settings.k left reference row in
    let length_is : length after ≡ length before + length part = omega (arith, ap length e, length-append before part) in
    ap (λ (n : ℕ). after ++ lines_left settings n next row rows) length_is
    ∙ ap (λ (b : Bits). b ++ lines_left settings (length before + length part) next row rows) e
    ∙ append_assoc before part (lines_left settings (length before + length part) next row rows)
    ∙ ap (λ (b : Bits). before ++ b) (sym (lines_more settings (length before) left reference row rows))

-- ---- the whole
-- the lines, by the settings one by one
abbrev lines_of : Effort → ℕ → List Row → EncodingMode → Bool → ℕ → Bool → Bool → Bits
lines_of effort columns rows encoding eols k fills aligned =
    cond (has_eols encoding eols) (chosen_lines_with_eols effort encoding k fills 0 0 (white_row columns) rows)
    (chosen_lines effort encoding k aligned 0 (white_row columns) rows)

same_lines : (columns : ℕ) (rows : List Row) (settings : EncodeSettings)
    → lines_left settings 0 0
    (white_row columns) rows ≡ lines_of settings.effort columns rows settings.encoding settings.end_of_line settings.k
    settings.eols_end_at_bytes settings.rows_are_byte_aligned
same_lines columns rows settings = by_with_eols (has_eols settings.encoding settings.end_of_line)
  where
    by_with_eols : (with_eols : Bool) → lines_by with_eols settings 0 0 (white_row columns) rows ≡ cond with_eols
        (chosen_lines_with_eols settings.effort settings.encoding settings.k settings.eols_end_at_bytes 0 0
        (white_row columns) rows)
        (chosen_lines settings.effort settings.encoding settings.k settings.rows_are_byte_aligned 0 (white_row columns) rows)
    by_with_eols true = refl
    by_with_eols false = refl

-- lines, and what stands after them
pub whole_picture : (settings : EncodeSettings) (columns : ℕ) (rows : List Row) (lines : Bits)
    → lines ≡ lines_left settings 0 0 (white_row columns) rows → with_end settings lines ≡ chosen settings columns rows
whole_picture settings columns rows lines e =
    ap (with_end settings) (e ∙ same_lines columns rows settings)
    ∙ by_encoding settings.effort settings.encoding settings.end_of_line settings.k
    settings.eols_end_at_bytes settings.rows_are_byte_aligned settings.end_of_block
  where
    by_encoding : (effort : Effort) (encoding : EncodingMode) (eols : Bool) (k : ℕ) (fills aligned closed : Bool)
        → lines_of effort columns rows encoding eols k fills aligned ++ chosen_end encoding eols fills closed (length
        (lines_of effort columns
        rows encoding eols k fills aligned)) ≡ chosen_picture effort encoding eols k fills aligned closed (white_row columns) rows
    by_encoding effort Group4 eols k fills aligned closed = refl
    by_encoding effort Group3_1D true k fills aligned closed = refl
    by_encoding effort Group3_1D false k fills aligned closed = append-nil (chosen_lines effort Group3_1D k aligned 0
        (white_row columns) rows)
    by_encoding effort Group3_2D true k fills aligned closed = refl
    by_encoding effort Group3_2D false k fills aligned closed = append-nil (chosen_lines effort Group3_2D k aligned 0
        (white_row columns) rows)

-- no line is left
pub all_written : (settings : EncodeSettings) (columns at left : ℕ) (reference : Row) (rows : List Row) (now : Bits)
    → now ++ lines_left settings at left reference [] ≡ lines_left settings 0 0 (white_row columns) rows
    → with_end settings now ≡ chosen settings columns rows
all_written settings columns at left reference rows now e =
    whole_picture settings columns rows now
    (sym (append-nil now) ∙ ap (λ (b : Bits). now ++ b) (sym (lines_none settings at left reference)) ∙ e)

-- ---- row by row
-- the lines of rows that are pushed are those that are left
pub lines_pushed : (rows : RowsEncoded) (more : List Row) → (with_rows rows more).lines ≡ rows.lines
    ++ lines_left rows.settings (length rows.lines) rows.left rows.last more
lines_pushed rows [] = sym (append-nil rows.lines)
    ∙ ap (λ (b : Bits). rows.lines ++ b) (sym (lines_none rows.settings (length rows.lines) rows.left rows.last))
lines_pushed rows (row ∷ more) =
    lines_pushed (with_row rows row) more
    ∙ line_written rows.settings rows.left rows.last row more rows.lines (with_row rows row).lines refl

-- the law
pub rows_are_chosen : RowsAreChosen
rows_are_chosen settings columns rows = whole_picture settings columns rows (with_rows (no_rows settings columns) rows).lines
    (lines_pushed (no_rows settings columns) rows)
