-- The lines of the rows before the next line.
use Rattle.hayro_ccitt.proofs.Names.{◌≡◌, ℕ, ◌+◌, Bool, true, false, List, [], ◌∷◌, ◌++◌, length, refl, ap, sym, subst, ◌∙◌}
use Rattle.hayro_ccitt.proofs.Names.{append_assoc, append-nil, arith, length-append, Bits, Row, DecodeSettings, EncodingMode}
use Rattle.hayro_ccitt.proofs.Names.{EncodesLine, EncodesRows, EncodesRowsWithEols, HaveWidth, Allows, white_row, eol}
use Rattle.std.proofs.lemmas.List.{append_cancel_right}
use Rattle.std.proofs.lemmas.List.Elements.{All-push}
use Rattle.fax_conforms.specs.declared.stops.Stop.{Stop}
use Rattle.fax_conforms.specs.Conforming.{fill_at}
use Rattle.fax_conforms.specs.Standing.{Passes, IsOnly}
use Rattle.fax_conforms.specs.Stops.{EndsAt, EndsInLine, EncodesLines, LineOfPicture, last_row}

-- this number of rows is before the next line, in the bits from here on
pub record LinesBefore (settings : DecodeSettings) (has_eols : Bool) (taken : ℕ) (reference : Row) (here next : Bits)
    : Type 0 where
  pub rows : List Row
  pub lines : Bits
  pub widths : HaveWidth settings.columns rows
  pub encodes : EncodesLines settings has_eols rows lines
  pub is : here ≡ lines ++ next
  pub count : length rows ≡ taken
  pub last : last_row (white_row settings.columns) rows ≡ reference

-- there are none yet
pub no_lines_before : (settings : DecodeSettings) (has_eols : Bool) (here : Bits)
    → LinesBefore settings has_eols 0 (white_row settings.columns) here here
no_lines_before settings true here = record {
  rows = [];
  lines = [];
  widths = λ k d lt. absurd (omega (arith, lt));
  encodes = refl;
  is = refl;
  count = refl;
  last = refl;
}
no_lines_before settings false here = record {
  rows = [];
  lines = [];
  widths = λ k d lt. absurd (omega (arith, lt));
  encodes = refl;
  is = refl;
  count = refl;
  last = refl;
}

-- ---- One more row.
last_is : (reference row : Row) (rows : List Row) → last_row reference (rows ++ (row ∷ [])) ≡ row
last_is reference row [] = refl
last_is reference row (first ∷ rows) = last_is first row rows

filled_more : (encoding : EncodingMode) (aligned : Bool) (reference : Row) (rows : List Row) (lines : Bits) (row : Row) (line :
    Bits)
    → EncodesRows encoding aligned reference rows lines → EncodesLine encoding (last_row reference rows) row line
    → EncodesRows encoding aligned reference (rows ++ (row ∷ [])) (lines ++ (line ++ fill_at aligned (length line)))
filled_more encoding aligned reference [] lines row line none is_line = (
  line,
  [],
  is_line,
  refl,
  ap (λ (x : Bits). x ++ (line ++ fill_at aligned (length line))) none ∙ sym (append-nil (line ++ fill_at aligned (length line))),
)
filled_more encoding aligned reference (first ∷ rows) lines row line (one, more, is_one, encodes, split) is_line =
    let last : Bits = line ++ fill_at aligned (length line) in (
      one,
      more ++ last,
      is_one,
      filled_more encoding aligned first rows more row line encodes is_line,
      ap (λ (x : Bits). x ++ last) split ∙ append_assoc (one ++ fill_at aligned (length one)) more last,
    )

eols_more : (encoding : EncodingMode) (reference : Row) (rows : List Row) (lines : Bits) (fill : ℕ) (row : Row) (line : Bits)
    → EncodesRowsWithEols encoding reference rows lines → EncodesLine encoding (last_row reference rows) row line
    → EncodesRowsWithEols encoding reference (rows ++ (row ∷ [])) (lines ++ (eol fill ++ line))
eols_more encoding reference [] lines fill row line none is_line = (
  fill,
  line,
  [],
  is_line,
  refl,
  ap (λ (x : Bits). x ++ (eol fill ++ line)) none ∙ sym (append-nil (eol fill ++ line)),
)
eols_more encoding reference (first ∷ rows) lines fill row line (zeros, one, more, is_one, encodes, split) is_line = (
  zeros,
  one,
  more ++ (eol fill ++ line),
  is_one,
  eols_more encoding first rows more fill row line encodes is_line,
  ap (λ (x : Bits). x ++ (eol fill ++ line)) split ∙ append_assoc (eol zeros ++ one) more (eol fill ++ line),
)

-- the line that is passed is one more
passed_more : (settings : DecodeSettings) (has_eols : Bool) (rows : List Row) (lines passed : Bits) (row : Row)
    → EncodesLines settings has_eols rows lines
    → LineOfPicture settings has_eols (last_row (white_row settings.columns) rows) (passed ++ []) row []
    → EncodesLines settings has_eols (rows ++ (row ∷ [])) (lines ++ passed)
passed_more settings false rows lines passed row encodes (line, is_line, is) =
    let fill : Bits = fill_at settings.rows_are_byte_aligned (length line) in
    let whole : line ++ fill ≡ passed =
    sym (append_cancel_right passed (line ++ fill) [] (is ∙ sym (append_assoc line fill []))) in
    subst (λ (x : Bits). EncodesLines settings false (rows ++ (row ∷ [])) (lines ++ x)) whole
    (filled_more settings.encoding settings.rows_are_byte_aligned (white_row settings.columns) rows lines row line encodes
    is_line)
passed_more settings true rows lines passed row encodes (fill, line, is_line, is) =
    let whole : eol fill ++ line ≡ passed =
    sym (append_cancel_right passed (eol fill ++ line) [] (is ∙ sym (append_assoc (eol fill) line []))) in
    subst (λ (x : Bits). EncodesLines settings true (rows ++ (row ∷ [])) (lines ++ x)) whole
    (eols_more settings.encoding (white_row settings.columns) rows lines fill row line encodes is_line)

pub one_more_line : (settings : DecodeSettings) (has_eols : Bool) (taken : ℕ) (reference row : Row) (here middle next : Bits)
    → LinesBefore settings has_eols taken reference here middle → length row ≡ settings.columns
    → Passes settings.columns (LineOfPicture settings has_eols reference) (IsOnly row) middle next
    → LinesBefore settings has_eols (taken + 1) row here next
one_more_line settings has_eols taken reference row here middle next before len passes =
    let stands = (passes.leads [] row [] len).1 (refl, refl) in
    record {
      rows = before.rows ++ (row ∷ []);
      lines = before.lines ++ passes.passed;
      widths = All-push (λ row. length row ≡ settings.columns) before.rows row before.widths len;
      encodes = passed_more settings has_eols before.rows before.lines passes.passed row before.encodes
          (subst (λ (r : Row). LineOfPicture settings has_eols r (passes.passed ++ []) row []) (sym before.last) stands);
      is = before.is ∙ ap (λ (x : Bits). before.lines ++ x) passes.is ∙ sym (append_assoc before.lines passes.passed next);
      count = omega (arith, length-append before.rows (row ∷ []), before.count);
      last = last_is (white_row settings.columns) row before.rows;
    }

-- ---- What ends early in the next line.
pub ends_in_line : (settings : DecodeSettings) (has_eols : Bool) (taken : ℕ) (reference : Row) (bits here next : Bits) (stop :
    Stop)
    → LinesBefore settings has_eols taken reference here next → Allows settings (taken + 1)
    → EndsAt settings.columns (LineOfPicture settings has_eols reference) bits next stop
    → EndsInLine settings has_eols bits here stop
ends_in_line settings has_eols taken reference bits here next Stop.OutOfMemory before allows ends = tt
ends_in_line settings has_eols taken reference bits here next (Stop.Violation found) before allows ends = record {
  rows = before.rows;
  lines = before.lines;
  next = next;
  widths = before.widths;
  encodes = before.encodes;
  is = before.is;
  allows = subst (λ (n : ℕ). Allows settings (n + 1)) (sym before.count) allows;
  departs = subst (λ (r : Row). EndsAt settings.columns (LineOfPicture settings has_eols r) bits next (Stop.Violation found))
      (sym before.last) ends;
}

pub in_same_bits : (settings : DecodeSettings) (has_eols : Bool) (bits others here : Bits) (stop : Stop) → others ≡ bits
    → EndsInLine settings has_eols others here stop → EndsInLine settings has_eols bits here stop
in_same_bits settings has_eols bits others here stop same ends =
    subst (λ (b : Bits). EndsInLine settings has_eols b here stop) same ends
