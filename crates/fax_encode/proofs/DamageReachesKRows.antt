-- Damage within one line of what is chosen as two-dimensional Group 3 changes at most K rows.
use Rattle.fax_encode.proofs.Names.{◌≡◌, ℕ, zero, suc, ◌+◌, ◌-◌, ◌%◌, ◌^◌, ◌<◌, ◌≤◌, Bool, true, false, cond, List, [], ◌∷◌, ◌++◌}
use Rattle.fax_encode.proofs.Names.{length, drop, Result, refl, sym, ap, subst, ◌∙◌, append_assoc, arith, inl, inr, length-append}
use Rattle.fax_encode.proofs.Names.{length-replicate, drop-drop, All-head, All-tail, All-cons, DecodeError, DecodeSettings}
use Rattle.fax_encode.proofs.Names.{EncodingMode, Group3_2D, BitOrder, Bits, AreWholeBytes, Row, HaveWidth, white_row, after_eol}
use Rattle.fax_encode.proofs.Names.{tagged_eols, EncodesRowsWithEols, ClosesWithEols, IsPicture, padding, eol, tag_of, IsEolAt}
use Rattle.fax_encode.proofs.Names.{EndAlike, IsTaggedBody, ComeBefore1D, RowsDiffer, SameBut, plain, AreSettings, locality_by_k}
use Rattle.fax_encode.proofs.Names.{encoded_follows, encoded_lines_are_bodies, drop_at, eol_stands, eols_here_two, six_tagged}
use Rattle.fax_encode.proofs.Names.{eol_before, EncodeSettings, line_1d, filled_up, DamageReachesKRows}
use Rattle.fax_encode.proofs.Names.{lenient_settings_for, tag_after, line_end, ChangesAtMost, DamagedLine, RowsEncoded, no_rows}
use Rattle.fax_encode.proofs.Names.{with_row, with_rows, chosen, is_two_dimensional, chosen_line, left_after, fill_of}
use Rattle.fax_encode.proofs.Names.{chosen_lines_with_eols, chosen_eols, with_end}
use Rattle.fax_encode.proofs.ChosenBySettings.{line_2d_encoded, line_1d_encoded}
use Rattle.fax_encode.proofs.FilledEols.{length-eol}
use Rattle.fax_encode.proofs.ChosenBySettings.{line_encodes, lines_with_eols_encode, eols_close, white_is_wide}
use Rattle.fax_encode.proofs.Names.{Effort, line_2d}
use Rattle.fax_encode.proofs.LinesOfPictures.{lines_pushed, rows_are_chosen}
use Rattle.fax_encode.proofs.Names.{lines_left}
use Rattle.fax_reading.proofs.DamagedLines.DamageByK.{eol_before_lines}

-- ---- Fewer rows

-- rows that are the same but fewer are the same but more
same_but : (index count more : ℕ) (rows others : List Row) → count ≤ more → SameBut index count rows others
    → SameBut index more rows others
same_but index count more rows others le (as_many, before, after) =
    (as_many, before, further others ∙ ap (drop (more - count)) after ∙ sym (further rows))
  where
    further : (list : List Row) → drop (index + more) list ≡ drop (more - count) (drop (index + count) list)
    further list = ap (λ (n : ℕ). drop n list) (let sum : index + more ≡ index + count + (more - count) = omega arith in sum)
        ∙ sym (drop-drop (more - count) (index + count) list)

module _ (d : DecodeSettings) (one two : Bits) (from count more : ℕ) (le : count ≤ more) where
  rows_differ : (rows others : List Row) → RowsDiffer d one two from count rows others
      → RowsDiffer d one two from more rows others
  rows_differ rows others (inl e) = inl e
  rows_differ rows others (inr (index, comes, comes2, same)) = inr
      (index, comes, comes2, same_but index count more rows others le same)

  end_alike : (rows : List Row) (outcome other : Result ℕ DecodeError) → EndAlike d one two from count rows outcome other
      → EndAlike d one two from more rows outcome other
  end_alike rows outcome other (EndAlike.faults fault e f) = EndAlike.faults fault e f
  end_alike rows outcome other (EndAlike.no_columns e f g) = EndAlike.no_columns e f g
  end_alike rows outcome other (EndAlike.before place n at first second) = EndAlike.before place n at first second
  end_alike rows outcome other (EndAlike.past place place2 n n2 lt lt2 first second counts)
      = EndAlike.past place place2 n n2 lt lt2 first second counts
  end_alike rows outcome other (EndAlike.at_limit index place place2 n n2 comes comes2 met limit many at at2 first second) =
      EndAlike.at_limit index place place2 n n2 comes comes2 met (omega (arith, limit, le)) many at at2 first second

-- ---- The lines that follow
module _ (effort : Effort) (d : DecodeSettings) (columns k : ℕ) (wide : 0 < columns) (small : columns < 2 ^ 32)
    (columns_are : d.columns ≡ columns)
    (encoding : d.encoding ≡ Group3_2D) (block : d.end_of_block ≡ true) (fills : Bool) (closing more : Bits)
    (closes : ClosesWithEols Group3_2D 6 closing) where
  abbrev lines : ℕ → ℕ → Row → List Row → Bits
  lines at left reference rows = chosen_lines_with_eols effort Group3_2D k fills at left reference rows

  abbrev Comes : ℕ → Bits → Type 0
  Comes left bits = (n : ℕ) × (n ≤ left) × ComeBefore1D d n bits

  -- RTC
  closed : ComeBefore1D d 0 (closing ++ more)
  closed = (stands closes, inl (block, six_tagged closing more closes))
    where
      stands : ClosesWithEols Group3_2D 6 closing → IsEolAt (closing ++ more)
      stands (fill, next, then, is) = (
        tag_of Group3_2D ++ (next ++ more),
        ap (λ (b : Bits). after_eol 0 (b ++ more)) is ∙ ap (after_eol 0) split ∙ eol_stands fill _,
      )
        where
          split : (eol fill ++ tag_of Group3_2D ++ next) ++ more ≡ eol fill ++ (tag_of Group3_2D ++ (next ++ more))
          split = simp append_assoc

  -- a one-dimensional line
  one_dimensional : (fill : ℕ) (reference row : Row) (next : Bits) → length row ≡ columns
      → ComeBefore1D d 0 (eol fill ++ ((true ∷ line_1d effort row) ++ next))
  one_dimensional fill reference row next width = ((_, eol_stands fill _), inr (inl (line_1d effort row ++ next, counted)))
    where
      counted : (tagged_eols (eol fill ++ ((true ∷ line_1d effort row) ++ next))).1 ≡ true ∷ (line_1d effort row ++ next)
      counted = ap (λ (f : ℕ × Bits). f.1) (sym (eols_here_two d (eol fill ++ ((true ∷ line_1d effort row) ++ next)) encoding)
          ∙ eol_before d (omega (arith, wide, columns_are)) (omega (arith, small, columns_are)) Group3_2D reference row fill
          (true ∷ line_1d effort row) next encoding
          (line_1d effort row, inl (refl, line_1d_encoded effort row (omega (arith, wide, width))))
          (width ∙ sym columns_are))

  -- a two-dimensional one, and those that follow it
  two_dimensional : (fill n : ℕ) (reference row : Row) (next : Bits) → length reference ≡ length row → ComeBefore1D d n next
      → ComeBefore1D d (suc n) (eol fill ++ ((false ∷ line_2d effort reference row) ++ next))
  two_dimensional fill n reference row next same given =
      encoded_follows d encoding n reference row (line_2d effort reference row) next (eol fill
      ++ ((false ∷ line_2d effort reference row) ++ next)) (line_2d_encoded effort reference row same) given (eol_stands fill _)

  -- a line is two-dimensional only if one may be
  may_be : (left : ℕ) (reference row : Row) → is_two_dimensional effort left reference row ≡ true → 0 < left
  may_be zero reference row e = absurd cc
  may_be (suc left) reference row e = omega arith

  comes : (at left : ℕ) (reference : Row) (rows : List Row) → length reference ≡ columns → HaveWidth columns rows
      → Comes left (lines at left reference rows ++ (closing ++ more))
  comes at left reference [] width widths = (0, omega arith, closed)
  comes at left reference (row ∷ rows) width widths =
      subst (Comes left) (sym split)
      (by_two (is_two_dimensional effort left reference row) (may_be left reference row)
      (comes next (left_after effort Group3_2D k left reference row) row rows row_width
      (All-tail (λ row. length row ≡ columns) row rows widths)))
    where
      row_width : length row ≡ columns
      row_width = All-head (λ row. length row ≡ columns) row rows widths

      fill : ℕ
      fill = fill_of fills at

      line : Bits
      line = chosen_line effort Group3_2D left reference row

      next : ℕ
      next = at + 12 + fill + length line

      others : Bits
      others = lines next (left_after effort Group3_2D k left reference row) row rows

      split : ((eol fill ++ line) ++ others) ++ (closing ++ more) ≡ eol fill ++ (line ++ (others ++ (closing ++ more)))
      split = append_assoc (eol fill ++ line) others (closing ++ more)
          ∙ append_assoc (eol fill) line (others ++ (closing ++ more))

      by_two : (two : Bool) → (two ≡ true → 0 < left) → Comes (cond two (left - 1) (k - 1)) (others ++ (closing ++ more))
          → Comes left (eol fill ++ (cond two (false ∷ line_2d effort reference row) (true ∷ line_1d effort row)
          ++ (others ++ (closing ++ more))))
      by_two true some (n, le, given) = (
        suc n,
        omega (arith, le, some refl),
        two_dimensional fill n reference row (others ++ (closing ++ more)) (width ∙ sym row_width) given,
      )
      by_two false some given = (0, omega arith, one_dimensional fill reference row (others ++ (closing ++ more)) row_width)

-- ---- The rows so far

-- rows in two parts
rows_append : (rows : RowsEncoded) (before more : List Row)
    → with_rows rows (before ++ more) ≡ with_rows (with_rows rows before) more
rows_append rows [] more = refl
rows_append rows (row ∷ before) more = rows_append (with_row rows row) before more

-- the settings stay
pub settings_stay : (rows : RowsEncoded) (more : List Row) → (with_rows rows more).settings ≡ rows.settings
settings_stay rows [] = refl
settings_stay rows (row ∷ more) = settings_stay (with_row rows row) more

-- the last row has the width
last_width : (columns : ℕ) (rows : RowsEncoded) (more : List Row) → length rows.last ≡ columns → HaveWidth columns more
    → length (with_rows rows more).last ≡ columns
last_width columns rows [] width widths = width
last_width columns rows (row ∷ more) width widths =
    last_width columns (with_row rows row) more (All-head (λ row. length row ≡ columns) row more widths)
    (All-tail (λ row. length row ≡ columns) row more widths)

-- at most K - 1 more lines may be two-dimensional
left_below : (effort : Effort) (k left : ℕ) (reference row : Row) → left ≤ k - 1
    → left_after effort Group3_2D k left reference row ≤ k - 1
left_below effort k left reference row le = by_two (is_two_dimensional effort left reference row)
  where
    by_two : (two : Bool) → cond two (left - 1) (k - 1) ≤ k - 1
    by_two true = omega arith
    by_two false = omega arith

left_most : (settings : EncodeSettings) → settings.encoding ≡ Group3_2D → (rows : RowsEncoded) (more : List Row)
    → rows.settings ≡ settings → rows.left ≤ settings.k - 1 → (with_rows rows more).left ≤ settings.k - 1
left_most settings encoding rows [] same le = le
left_most settings encoding rows (row ∷ more) same le =
    left_most settings encoding (with_row rows row) more same
    (subst (λ (s : EncodeSettings). left_after s.effort s.encoding s.k rows.left rows.last row ≤ settings.k - 1) (sym same)
    (subst (λ (e : EncodingMode). left_after settings.effort e settings.k rows.left rows.last row ≤ settings.k - 1) (sym encoding)
    (left_below settings.effort settings.k rows.left rows.last row le)))

widths_of_parts : (columns : ℕ) (before rest : List Row) → HaveWidth columns (before ++ rest) → HaveWidth columns before
    × HaveWidth columns rest
widths_of_parts columns [] rest widths = ((λ k d lt. absurd (omega arith)), widths)
widths_of_parts columns (row ∷ before) rest widths =
    let more = widths_of_parts columns before rest (All-tail (λ row. length row ≡ columns) row (before ++ rest) widths) in (
      All-cons (λ row. length row ≡ columns) row before
          (All-head (λ row. length row ≡ columns) row (before ++ rest) widths) more.0,
      more.1,
    )

-- what is filled up is whole
filled_is_whole : (bits : Bits) → AreWholeBytes (filled_up bits)
filled_is_whole bits = omega (
  arith,
  length-append bits (padding (length bits)),
  length-replicate ((8 - length bits % 8) % 8) false,
)

-- ---- The law
module _ (effort : Effort) (k : ℕ) (fills aligned : Bool) (order : BitOrder) (columns : ℕ) (before later : List Row)
    (row : Row) (some : 0 < k)
    (small : columns < 2 ^ 32) (picture : IsPicture columns (before ++ row ∷ later)) where
  abbrev settings : EncodeSettings
  settings = record {
    encoding = Group3_2D;
    k = k;
    end_of_line = true;
    eols_end_at_bytes = fills;
    rows_are_byte_aligned = aligned;
    end_of_block = true;
    order = order;
    effort = effort;
  }

  abbrev d : DecodeSettings
  d = lenient_settings_for settings columns 0

  abbrev so_far : RowsEncoded
  so_far = with_rows (no_rows settings columns) before

  abbrev fill : ℕ
  fill = fill_of fills (length so_far.lines)

  abbrev line : Bits
  line = chosen_line effort Group3_2D so_far.left so_far.last row

  abbrev others : Bits
  others = chosen_lines_with_eols effort Group3_2D k fills (length so_far.lines + 12 + fill + length line)
      (left_after effort Group3_2D k so_far.left so_far.last row) row later

  abbrev all : Bits
  all = so_far.lines ++ ((eol fill ++ line) ++ others)

  abbrev closing : Bits
  closing = chosen_eols Group3_2D fills (length all) 6

  abbrev more : Bits
  more = padding (length (all ++ closing))

  abbrev next : Bits
  next = others ++ (closing ++ more)

  abbrev one : Bits
  one = filled_up (chosen settings columns (before ++ row ∷ later))

  lines_are : (with_rows (no_rows settings columns) (before ++ row ∷ later)).lines ≡ all
  lines_are = ap (λ (r : RowsEncoded). r.lines) (rows_append (no_rows settings columns) before (row ∷ later))
      ∙ lines_pushed so_far (row ∷ later)
      ∙ ap (λ (s : EncodeSettings). so_far.lines ++ lines_left s (length so_far.lines) so_far.left so_far.last (row ∷ later))
      (settings_stay (no_rows settings columns) before)

  one_is : one ≡ (so_far.lines ++ eol fill) ++ (line ++ next)
  one_is =
      ap filled_up (sym (rows_are_chosen settings columns (before ++ row ∷ later)) ∙ ap (with_end settings) lines_are) ∙ assoc
    where
      assoc : (all ++ closing) ++ more ≡ (so_far.lines ++ eol fill) ++ (line ++ next)
      assoc = simp append_assoc

  widths : HaveWidth columns before × HaveWidth columns (row ∷ later)
  widths = widths_of_parts columns before (row ∷ later) picture.1

  width : length row ≡ columns
  width = All-head (λ row. length row ≡ columns) row later widths.1

  last_is_wide : length so_far.last ≡ columns
  last_is_wide = last_width columns (no_rows settings columns) before (white_is_wide columns) widths.0

  closes : ClosesWithEols Group3_2D 6 closing
  closes = eols_close Group3_2D fills (length all) 6

  follow : (n : ℕ) × (n ≤ left_after effort Group3_2D k so_far.left so_far.last row) × ComeBefore1D d n next
  follow = comes effort d columns k picture.0 small refl refl refl fills closing more closes _ _ row later width
      (All-tail (λ row. length row ≡ columns) row later widths.1)

  are : AreSettings d
  are = record { columns = small; rows = omega arith }

  lines_before : EncodesRowsWithEols Group3_2D (white_row columns) before so_far.lines
  lines_before = subst (EncodesRowsWithEols Group3_2D (white_row columns) before)
      (sym (lines_pushed (no_rows settings columns) before))
      (lines_with_eols_encode effort Group3_2D columns k fills 0 0 (white_row columns) before picture.0
      (white_is_wide columns) widths.0)

  start : length (so_far.lines ++ eol fill) ≡ tag_after settings columns before
  start = omega (arith, length-append so_far.lines (eol fill), length-eol fill)

  body : IsTaggedBody d one (tag_after settings columns before) (line_end settings columns before row)
  body =
      subst (λ (n : ℕ). IsTaggedBody d one n (n + length line)) start
      (subst (λ (b : Bits). IsTaggedBody d b (length (so_far.lines ++ eol fill))
      (length (so_far.lines ++ eol fill) + length line)) (sym one_is)
      (encoded_lines_are_bodies d (white_row columns) so_far.last row before so_far.lines line next fill are refl refl
      (picture.0, All-cons (λ row. length row ≡ columns) row before width widths.0) lines_before
      (line_encodes effort Group3_2D so_far.left so_far.last row (last_is_wide ∙ sym width) (omega (arith, width, picture.0)))
      (eol_before_lines d refl follow.0 next follow.2)))

  next_on : drop (line_end settings columns before row) one ≡ next
  next_on = drop_at one ((so_far.lines ++ eol fill) ++ line) next (line_end settings columns before row)
      (one_is ∙ sym (append_assoc (so_far.lines ++ eol fill) line next))
      (omega (arith, length-append (so_far.lines ++ eol fill) line, start))

  reaches : (two : Bits) (to2 : ℕ) → AreWholeBytes two
      → DamagedLine d one two (tag_after settings columns before) (line_end settings columns before row) to2
      → ChangesAtMost d one two (tag_after settings columns before) k
  reaches two to2 whole_two (same_before, same_following, other) =
      let le = left_below effort k so_far.left so_far.last row
      (left_most settings refl (no_rows settings columns) before refl (omega arith)) in
      let both = locality_by_k d one are (filled_is_whole (chosen settings columns (before ++ row ∷ later))) two
      (tag_after settings columns before) (line_end settings columns before row) to2 follow.0 whole_two (record {
        encoding = refl;
        lenient = refl;
        before = same_before;
        after = same_following;
        body = body;
        other = other;
        sought = inl refl;
        follow = subst (ComeBefore1D d follow.0) (sym next_on) follow.2;
      }) in
      let few : suc follow.0 ≤ k = omega (arith, follow.1, le, some) in (
        rows_differ d one two (tag_after settings columns before) (suc follow.0) k few (plain d one).rows
            (plain d two).rows both.0,
        end_alike d one two (tag_after settings columns before) (suc follow.0) k few (plain d one).rows (plain d one).outcome
            (plain d two).outcome both.1,
      )

-- the law
pub damage_reaches_k_rows : DamageReachesKRows
damage_reaches_k_rows settings columns before later row two to2 encoding eols block some small picture whole_two damaged =
    subst Holds (sym same)
    (λ given. reaches settings.effort settings.k settings.eols_end_at_bytes settings.rows_are_byte_aligned settings.order
    columns before later row
    some small picture two to2 whole_two given) damaged
  where
    Holds : EncodeSettings → Type 0
    Holds s = DamagedLine (lenient_settings_for s columns 0) (filled_up (chosen s columns (before ++ row ∷ later))) two
        (tag_after s columns before)
        (line_end s columns before row) to2
        → ChangesAtMost (lenient_settings_for s columns 0) (filled_up (chosen s columns (before ++ row ∷ later))) two
        (tag_after s columns before) s.k

    same : settings ≡ record {
      encoding = Group3_2D;
      k = settings.k;
      end_of_line = true;
      eols_end_at_bytes = settings.eols_end_at_bytes;
      rows_are_byte_aligned = settings.rows_are_byte_aligned;
      end_of_block = true;
      order = settings.order;
      effort = settings.effort;
    }
    same = ap (λ (e : EncodingMode). record settings { encoding = e }) encoding
        ∙ ap (λ (b : Bool). record settings { encoding = Group3_2D; end_of_line = b }) eols
        ∙ ap (λ (b : Bool). record settings { encoding = Group3_2D; end_of_line = true; end_of_block = b }) block
