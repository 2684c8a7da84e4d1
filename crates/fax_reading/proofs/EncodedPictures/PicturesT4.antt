-- A T.4 picture is read again; lines without EOLs are, in every encoding.
use Rattle.fax_reading.proofs.Names.{ReadsLimitedPictureT4, EncodesRowsWithEols, ReadsLimitedRowsT4, length-replicate, after_line}
use Rattle.fax_reading.proofs.Names.{ClosesWithEols, DecodeSettings, ReadsPictureT4, eols_with_tags, EncodesLine1D, EncodesLine2D}
use Rattle.fax_reading.proofs.Names.{UnexpectedEof, ending_after, length-append, EncodingMode, OnePictureT4, append_assoc, Color}
use Rattle.fax_reading.proofs.Names.{common_steps, EncodesLine, EncodesRows, gap_and_row, tagged_eols, append-nil, cond-false, Ok}
use Rattle.fax_reading.proofs.Names.{row_before, Group3_1D, Group3_2D, IsPicture, PictureT4, after_eol, and_right, cond-true, All}
use Rattle.fax_reading.proofs.Names.{each_word, ends_with, eols_here, limit_met, line_here, replicate, All-head, All-tail, Allows}
use Rattle.fax_reading.proofs.Names.{Progress, all_eols, codes_of, one_more, pass_gap, past_tag, repeated, Reaches, aligned, Bits}
use Rattle.fax_reading.proofs.Names.{is_over, line_1d, line_2d, move_on, or_from, Ending, Group4, Spells, at_end, end_of, length}
use Rattle.fax_reading.proofs.Names.{ne_eqb, White, arith, false, subst, Bool, Line, List, None, Some, Turn, cond, eols, refl, []}
use Rattle.fax_reading.proofs.Names.{true, zero, ◌&&◌, ◌++◌, Err, Row, eol, inl, inr, suc, sym, ◌%◌, ◌+◌, ◌<◌, ◌∙◌, ◌∷◌, ◌≡◌, ◌≢◌}
use Rattle.fax_bits.proofs.BitReading.ConsecutiveEols.{eols_with_tags-none, eols_with_tags-some, last_tag_count, one_more-count}
use Rattle.fax_reading.proofs.EncodedPictures.PictureLines.{closed_settings, row_before_push, line_2d_starts, no_eol_at_word}
use Rattle.fax_reading.proofs.EncodedPictures.PictureLines.{begins_no_eol, bits_at_word, IsLineStart, allows_sum}
use Rattle.fax_reading.proofs.EncodedPictures.PictureLines.{ended_with, plain_ends, between, not_met, fill}
use Rattle.fax_reading.proofs.Readings.GapsAndRows.{first_gap_t4, gap_unsought, reaches_end, ending_t4}
use Rattle.fax_reading.proofs.EncodedPictures.EncodedLines.{line_1d_again, line_2d_again}
use Rattle.fax_reading.proofs.{Readings.RowsAndGaps.after_whole-is, Readings.RowsAndGaps.after_row, Readings.TurnsMoveOn.eols_end}
use Rattle.fax_reading.proofs.Names.{◌≤◌, ap, ℕ}
use Rattle.fax_bits.proofs.BitReading.ConsecutiveEols.{eols-none, eol_of}
use Rattle.fax_bits.proofs.{BitReading.PlainEols.few_keep_the_tag, BitReading.ZerosInWords.each_word_at}
use Rattle.fax_bits.proofs.Repetition.Repeated.{after_turn}

-- ---- What a line begins with.
codes_miss : (color : Color) → each_word (begins_no_eol 0) (codes_of color) ≡ true
codes_miss color = grind (arith, common_steps)

pub run_starts : (color : Color) (n : ℕ) (word more : Bits) → Spells color n word → IsLineStart (word ++ more)
run_starts color n word more (Spells.terminating m w has small) =
    grind (arith, common_steps, codes_miss, each_word_at, bits_at_word, no_eol_at_word, begins_no_eol)
run_starts color n word more (Spells.makeup m w {n = k} {bits = next} has large rest) =
    grind (arith, common_steps, append_assoc, codes_miss, each_word_at, bits_at_word, no_eol_at_word, begins_no_eol)

line_1d_starts : (color : Color) (row : Row) (bits more : Bits) → EncodesLine1D color row bits → 0 < length row
    → IsLineStart (bits ++ more)
line_1d_starts color row bits more EncodesLine1D.over some = absurd (omega arith)
line_1d_starts color row bits more (EncodesLine1D.run n word {row = others} {bits = next} spells first maximal rest) some =
    subst IsLineStart (sym (append_assoc word next more)) (run_starts color n word (next ++ more) spells)

-- no EOL is here, where a zero is the tag before
pub line_2d_after_tag : (reference row : Row) (from : ℕ) (color : Color) (bits more : Bits)
    → EncodesLine2D reference row from color bits → from ≤ length row → after_eol 1 (bits ++ more) ≡ None
line_2d_after_tag reference row from color bits more given le = grind (arith, common_steps)

-- ---- EOLs that are there.
pub eol_stands : (fill : ℕ) (more : Bits) → after_eol 0 (eol fill ++ more) ≡ Some more
eol_stands fill more = grind (arith, common_steps, append_assoc, eol_of)

length-eol : (fill : ℕ) (more : Bits) → length (eol fill ++ more) ≡ suc (11 + fill + length more)
length-eol fill more = grind (arith, common_steps)

eols_more : (most fill : ℕ) (more : Bits) → eols (suc most) (eol fill ++ more) ≡ one_more (eols most more)
eols_more most fill more = rw (eol_stands fill more, eols) refl

-- one EOL before a line
pub one_eol : (fill : ℕ) (here : Bits) → after_eol 0 here ≡ None → all_eols (eol fill ++ here) ≡ (1, here)
one_eol fill here none = grind (arith, common_steps, length-eol, eols_more, eols-none)

tagged_eols_more : (most fill : ℕ) (more : Bits)
    → eols_with_tags (suc most) (eol fill ++ more) ≡ one_more (eols_with_tags most (past_tag more))
tagged_eols_more most fill more = eols_with_tags-some most (eol fill ++ more) more (eol_stands fill more)

-- ---- Kinds.
pub eols_here_one : (settings : DecodeSettings) (here : Bits) → settings.encoding ≡ Group3_1D
    → eols_here settings here ≡ all_eols here
eols_here_one settings here e = rw (e, eols_here) refl

-- in two-dimensional data EOLs are counted with their tags
pub eols_here_two : (settings : DecodeSettings) (here : Bits) → settings.encoding ≡ Group3_2D
    → eols_here settings here ≡ tagged_eols here
eols_here_two settings here e = rw (e, eols_here) refl

tagged_line : (settings : DecodeSettings) (reference : Row) (tag : Bool) (here : Bits) → settings.encoding ≡ Group3_2D
    → line_here settings reference (tag ∷ here) ≡ cond tag (line_1d settings.strict settings.columns here)
    (line_2d settings.strict settings.columns reference here)
tagged_line settings reference tag here e = grind (arith, common_steps)

-- ---- The EOLs that close a picture.
eols_closing : (n most : ℕ) (closing more : Bits) → ClosesWithEols Group3_1D n closing → n ≤ most
    → n ≤ (eols most (closing ++ more)).0
eols_closing zero most closing more is le = omega arith
eols_closing (suc n) zero closing more is le = absurd (omega arith)
eols_closing (suc n) (suc most) closing more (fill, next, then, is) le =
    grind (arith, common_steps, append-nil, append_assoc, eols_more, one_more-count, eols_closing n most next more)

length-closing : (encoding : EncodingMode) (n : ℕ) (closing more : Bits) → ClosesWithEols encoding n closing
    → n ≤ length (closing ++ more)
length-closing encoding zero closing more is = omega arith
length-closing encoding (suc n) closing more (fill, next, then, is) =
    grind (arith, common_steps, append_assoc, common_steps, length-append, length-eol, length-closing encoding n next more)

-- a tag before EOLs is consumed
tagged_eols_after : (n most : ℕ) (closing more : Bits) → ClosesWithEols Group3_2D n closing
    → n ≤ (eols_with_tags most (closing ++ more)).0 → n ≤ (eols_with_tags most (past_tag (true ∷ (closing ++ more)))).0
tagged_eols_after n most closing more is le = grind (arith, common_steps)

tagged_eols_closing : (n most : ℕ) (closing more : Bits) → ClosesWithEols Group3_2D n closing → n ≤ most
    → n ≤ (eols_with_tags most (closing ++ more)).0
tagged_eols_closing zero most closing more is le = omega arith
tagged_eols_closing (suc n) zero closing more is le = absurd (omega arith)
tagged_eols_closing (suc n) (suc most) closing more (fill, next, then, is) le = let step = tagged_eols_closing n most next more in
    grind (arith, common_steps, one_more-count, tagged_eols_after, tagged_eols_more, step)

-- the six EOLs of RTC are counted
pub six_tagged : (closing more : Bits) → ClosesWithEols Group3_2D 6 closing → 6 ≤ (tagged_eols (closing ++ more)).0
six_tagged closing more is = grind (arith, common_steps, last_tag_count, length-closing, tagged_eols_closing)

-- the settings are for this encoding, which is one of T.4
abbrev pub Matches : EncodingMode → DecodeSettings → Type 0
Matches Group4 settings = ⊥
Matches Group3_1D settings = settings.encoding ≡ Group3_1D
Matches Group3_2D settings = settings.encoding ≡ Group3_2D

-- settings for T.4 are for their own encoding
pub matches_itself : (settings : DecodeSettings) → settings.encoding ≢ Group4 → Matches settings.encoding settings
matches_itself settings three = grind (arith, common_steps)

-- the end of lines that were read with EOLs
abbrev ended_with_eols : List Row → Bits → Ending
ended_with_eols rows rest = record { rows = rows; has_eols = true; outcome = Ok rest }

six_close : (settings : DecodeSettings) (encoding : EncodingMode) (closing more : Bits) → Matches encoding settings
    → ClosesWithEols encoding 6 closing → 6 ≤ (eols_here settings (closing ++ more)).0
six_close settings Group4 closing more matches is = absurd matches
six_close settings Group3_1D closing more matches is = rw (eols_here_one settings (closing ++ more) matches)
    (eols_closing 6 (length (closing ++ more)) closing more is (length-closing Group3_1D 6 closing more is))
six_close settings Group3_2D closing more matches is = grind (arith, common_steps, eols_here_two, six_tagged)

module _ (settings : DecodeSettings) (wide : 0 < settings.columns) (small : settings.columns ≤ 4294967295) where
  -- a line is read
  pub line_t4_again : (encoding : EncodingMode) (reference row : Row) (line more : Bits) → Matches encoding settings
      → EncodesLine encoding reference row line → length reference ≡ settings.columns → length row ≡ settings.columns
      → line_here settings reference (line ++ more) ≡ Line.whole row more
  line_t4_again Group4 reference row line more matches is ref_len row_len = absurd matches
  line_t4_again Group3_1D reference row line more matches is ref_len row_len =
      grind (arith, common_steps, line_1d_again settings.strict settings.columns [] row White line more is small)
  line_t4_again Group3_2D reference row line more matches (rest, inl is) ref_len row_len =
      let len : length {A = Bool} [] + length row ≡ settings.columns = omega arith in
      ap (λ (x : Bits). line_here settings reference (x ++ more)) is.0 ∙ tagged_line settings reference true
      (rest ++ more) matches ∙ line_1d_again settings.strict settings.columns [] row White rest more is.1 small len
  line_t4_again Group3_2D reference row line more matches (rest, inr is) ref_len row_len =
      grind (arith, common_steps, line_2d_again, tagged_line)

  -- where it begins there is no EOL
  pub line_t4_starts : (encoding : EncodingMode) (reference row : Row) (line more : Bits) → Matches encoding settings
      → EncodesLine encoding reference row line → length row ≡ settings.columns → IsLineStart (line ++ more)
  line_t4_starts Group4 reference row line more matches is row_len = absurd matches
  line_t4_starts Group3_1D reference row line more matches is row_len = line_1d_starts White row line more is (omega arith)
  line_t4_starts Group3_2D reference row line more matches (rest, inl is) row_len = grind (arith, common_steps)
  line_t4_starts Group3_2D reference row line more matches (rest, inr is) row_len = grind (arith, common_steps, line_2d_after_tag)

  -- one EOL is counted before a line
  pub eol_before : (encoding : EncodingMode) (reference row : Row) (fill : ℕ) (line more : Bits) → Matches encoding settings
      → EncodesLine encoding reference row line
      → length row ≡ settings.columns → eols_here settings (eol fill ++ (line ++ more)) ≡ (1, line ++ more)
  eol_before encoding reference row fill line more matches is row_len = grind (
    arith,
    common_steps,
    eols_here_one,
    eols_here_two,
    line_t4_starts,
    one_eol,
    eols_with_tags-none,
    length-eol,
    few_keep_the_tag,
    tagged_eols_more,
    line_1d_starts,
  )

  -- ---- The lines of a picture.
  abbrev with_eols : List Row → Bits → Progress
  with_eols rows rest = record { rows = rows; has_eols = true; rest = rest }

  -- one row is added
  row_added : (before : List Row) (row : Row) (here tail : Bits) → line_here settings (row_before settings.columns before) here
      ≡ Line.whole row tail → move_on settings (with_eols before here) ≡ after_row settings (with_eols (before ++ row ∷ []) tail)
  row_added before row here tail read = ap (after_line settings (with_eols before here)) read ∙ after_whole-is settings
      (with_eols before here) row tail ∙ ap (λ (x : Bits). after_row settings (with_eols (before ++ row ∷ []) x)) (cond-false
      (settings.rows_are_byte_aligned && false) (aligned tail) tail (and_right settings.rows_are_byte_aligned false refl))

  module _ (encoding : EncodingMode) (matches : Matches encoding settings) (late : Ending)
      (tail last : Bits) (whole : List Row) (allows : Allows settings (length whole))
      (stops : after_row settings (with_eols whole tail) ≡ Turn.done (ended_with_eols whole last)) where
    lines_t4_again : (before : List Row) (row : Row) (rows : List Row) (line next : Bits) (fuel : ℕ)
        → before ++ row ∷ rows ≡ whole → length (row_before settings.columns before) ≡ settings.columns → All
        (λ row. length row ≡ settings.columns) (row ∷ rows) → EncodesLine encoding (row_before settings.columns before) row line
        → EncodesRowsWithEols encoding row rows next → length rows < fuel
        → repeated (move_on settings) late fuel (with_eols before (line ++ (next ++ tail))) ≡ ended_with_eols whole last
    lines_t4_again before row rows line next zero all ref_len widths is lines lt = absurd (omega arith)
    lines_t4_again before row [] line next (suc fuel) all ref_len widths is lines lt =
        let row_len : length row ≡ settings.columns = All-head (λ row. length row ≡ settings.columns) row [] widths in
        grind (arith, common_steps, after_row, after_turn, line_t4_again, row_added)
    lines_t4_again before row (row2 ∷ rows) line next (suc fuel) all ref_len widths is
        (fill, line_2d, next2, is2, lines2, split) lt =
        let row_len : length row ≡ settings.columns = All-head (λ row. length row ≡ settings.columns) row (row2 ∷ rows) widths in
        let widths2 = All-tail (λ row. length row ≡ settings.columns) row (row2 ∷ rows) widths in
        let row2_len : length row2 ≡ settings.columns = All-head (λ row. length row ≡ settings.columns) row2 rows widths2 in
        let rest : Bits = line_2d ++ (next2 ++ tail) in
        let after : Bits = eol fill ++ rest in
        let read : line_here settings (row_before settings.columns before) (line ++ (next ++ tail)) ≡ Line.whole row after
        = grind (arith, common_steps, line_t4_again) in
        let rows1 : List Row = before ++ row ∷ [] in
        let one : eols_here settings after ≡ (1, rest) =
        eol_before encoding row row2 fill line_2d (next2 ++ tail) matches is2 row2_len in
        let all2 : rows1 ++ row2 ∷ rows ≡ whole = append_assoc before (row ∷ []) (row2 ∷ rows) ∙ all in
        let count : length rows1 < length whole = omega (arith, ap length all2, length-append rows1 (row2 ∷ rows)) in
        let open_end : at_end rest ≡ false =
        (line_t4_starts encoding row row2 line_2d (next2 ++ tail) matches is2 row2_len).open_end in
        let over : is_over settings (length rows1) (1, rest) ≡ false = grind (arith, or_from, eols_end, not_met) in
        grind (arith, lines_t4_again rows1 row2 rows line_2d next2 fuel all2, row_before_push)

  -- ---- How a run ends.
  -- six EOLs end it
  six_stop : (rows : List Row) (here : Bits) → settings.end_of_block ≡ true → 6 ≤ (eols_here settings here).0
      → after_row settings (with_eols rows here) ≡ Turn.done (ended_with_eols rows (eols_here settings here).1)
  six_stop rows here block six = grind (arith, common_steps, cond-false, ne_eqb, cond-true, eols_end)

  length-lines : (encoding : EncodingMode) (reference : Row) (rows : List Row) (bits : Bits)
      → EncodesRowsWithEols encoding reference rows bits → length rows ≤ length bits
  length-lines encoding reference [] bits lines = omega arith
  length-lines encoding reference (row ∷ rows) bits (fill, line, next, is, lines, split) =
      grind (arith, common_steps, append_assoc, length-append, length-eol, length-lines encoding row rows next lines)

  -- lines with their EOLs are read, and the run ends where it does after the last
  pub lines_t4_end : (encoding : EncodingMode) (rows : List Row) (lines tail last : Bits) → Matches encoding settings → 0
      < length rows → IsPicture settings.columns rows → EncodesRowsWithEols encoding (replicate settings.columns false) rows lines
      → Allows settings (length rows) → after_row settings (with_eols rows tail) ≡ Turn.done (ended_with_eols rows last)
      → end_of settings (lines ++ tail) ≡ ended_with_eols rows last
  lines_t4_end encoding [] lines tail last matches some is_picture are allows stops = absurd (omega arith)
  lines_t4_end encoding (row ∷ rows) lines tail last matches some is_picture (fill, line, next, is, more, split) allows stops =
      let row_len : length row ≡ settings.columns = All-head (λ row. length row ≡ settings.columns) row rows is_picture.1 in
      let rest : Bits = line ++ (next ++ tail) in
      let here : lines ++ tail ≡ eol fill ++ rest = grind (arith, common_steps, append_assoc) in
      let one : all_eols (eol fill ++ rest) ≡ (1, rest) = grind (arith, common_steps, line_t4_starts, one_eol) in
      let late : Ending = record { rows = []; has_eols = true; outcome = Err UnexpectedEof } in
      let started : ending_t4 settings (eol fill ++ rest)
      ≡ repeated (move_on settings) late (suc (suc (length rest))) (with_eols [] rest) = grind arith in
      let short : length rows < suc (suc (length rest)) = grind (arith, common_steps, length-append, length-lines) in
      (grind (arith, common_steps, first_gap_t4)) ∙ ap (ending_t4 settings) here
      ∙ started ∙ lines_t4_again encoding matches late tail last (row ∷ rows) allows stops [] row rows line next
      (suc (suc (length rest))) refl (length-replicate settings.columns false) is_picture.1 is more short

  -- a T.4 picture, closed by RTC, is read as its rows, whatever follows
  pub closed_t4_end : (encoding : EncodingMode) (rows : List Row) (lines closing more : Bits) → Matches encoding settings
      → settings.end_of_block ≡ true → 0 < length rows → IsPicture settings.columns rows → EncodesRowsWithEols encoding
      (replicate settings.columns false) rows lines → ClosesWithEols encoding 6 closing → Allows settings (length rows)
      → end_of settings (lines ++ (closing ++ more)) ≡ ended_with_eols rows (eols_here settings (closing ++ more)).1
  closed_t4_end encoding rows lines closing more matches block some is_picture are closed allows =
      lines_t4_end encoding rows lines (closing ++ more) (eols_here settings (closing ++ more)).1 matches some is_picture are
      allows (six_stop rows (closing ++ more) block (six_close settings encoding closing more matches closed))

  -- lines with EOLs are read as their rows, up to the limit
  pub limited_t4_end : (encoding : EncodingMode) (rows : List Row) (lines more : Bits) → Matches encoding settings
      → settings.rows ≡ length rows → 0 < length rows → IsPicture settings.columns rows → EncodesRowsWithEols encoding (replicate
      settings.columns false) rows lines → end_of settings (lines ++ more) ≡ ended_with_eols rows (eols_here settings more).1
  limited_t4_end encoding rows lines more matches limit some is_picture are = lines_t4_end encoding rows lines more
      (eols_here settings more).1 matches some is_picture are (inr (omega arith)) (grind (arith, common_steps))

-- ---- Over whole data.
pub closed_picture_t4 : ReadsPictureT4
closed_picture_t4 settings rows bits after stream are begins =
    grind (arith, common_steps, closed_t4_end settings, matches_itself settings begins.encoding, plain_ends settings stream)

-- the law
pub limited_picture_t4 : ReadsLimitedPictureT4
limited_picture_t4 settings rows bits stream are begins =
    grind (arith, common_steps, limited_t4_end settings, matches_itself settings begins.encoding, plain_ends settings stream)

-- ---- One prefix, one picture.
one_picture_at : (settings : DecodeSettings) (encoding : EncodingMode) (rows others : List Row) (bits more : Bits)
    → settings.columns ≤ 4294967295 → Matches encoding settings → settings.end_of_block ≡ true → settings.rows ≡ 0
    → PictureT4 encoding settings.columns rows bits → PictureT4 encoding settings.columns others (bits ++ more) → rows ≡ others
one_picture_at settings encoding rows others bits more small matches block none one two = grind (
  arith,
  append-nil two.1,
  append_assoc one.0 one.1 more,
  closed_t4_end settings one.3.0 small encoding rows one.0 one.1 more matches block one.2 one.3 one.4 one.5 (inl none),
  closed_t4_end settings two.3.0 small encoding others two.0 two.1,
)

-- the law
pub one_picture_t4 : OnePictureT4
one_picture_t4 Group4 columns rows others bits more three small one two = absurd (three refl)
one_picture_t4 Group3_1D columns rows others bits more three small one two =
    one_picture_at (closed_settings Group3_1D columns false) Group3_1D rows others bits more (omega arith) refl refl refl one two
one_picture_t4 Group3_2D columns rows others bits more three small one two =
    one_picture_at (closed_settings Group3_2D columns false) Group3_2D rows others bits more (omega arith) refl refl refl one two

-- ---- No EOL is counted where there is none.

-- ---- Gaps

module _ (settings : DecodeSettings) where
  -- the gap before a line is nothing
  gap_at_line : (rows : List Row) (here : Bits) → IsLineStart here → limit_met settings (length rows) ≡ false
      → pass_gap settings (between rows here) ≡ Turn.next (between rows here)
  gap_at_line rows here start open_limit = grind (arith, common_steps)

  -- so does EOFB
  pub gap_at_eofb : (run : Progress) (rest : Bits) → run.has_eols ≡ false → settings.encoding ≡ Group4
      → settings.end_of_block ≡ true → eols 2 run.rest ≡ (2, rest) → pass_gap settings run ≡ ends_with run (Ok rest)
  gap_at_eofb run rest unsought four block two = grind (arith, common_steps, gap_unsought, cond-true, eols_end)

-- ---- Lines

module _ (settings : DecodeSettings) (wide : 0 < settings.columns) (small : settings.columns ≤ 4294967295) where
  -- whether rows begin at whole bytes
  abbrev b : Bool
  b = settings.rows_are_byte_aligned

  line_again : (encoding : EncodingMode) (reference row : Row) (line more : Bits) → settings.encoding ≡ encoding
      → EncodesLine encoding reference row line → length reference ≡ settings.columns → length row ≡ settings.columns
      → line_here settings reference (line ++ more) ≡ Line.whole row more
  line_again Group4 reference row line more same is ref_len row_len = grind (arith, common_steps, line_2d_again)
  line_again Group3_1D reference row line more same is ref_len row_len =
      line_t4_again settings wide small Group3_1D reference row line more same is ref_len row_len
  line_again Group3_2D reference row line more same is ref_len row_len =
      line_t4_again settings wide small Group3_2D reference row line more same is ref_len row_len

  line_starts : (encoding : EncodingMode) (reference row : Row) (line more : Bits) → settings.encoding ≡ encoding
      → EncodesLine encoding reference row line → length row ≡ settings.columns → IsLineStart (line ++ more)
  line_starts Group4 reference row line more same is row_len = line_2d_starts reference row 0 White line more is (omega arith)
  line_starts Group3_1D reference row line more same is row_len =
      line_t4_starts settings wide small Group3_1D reference row line more same is row_len
  line_starts Group3_2D reference row line more same is row_len =
      line_t4_starts settings wide small Group3_2D reference row line more same is row_len

  -- a line is read, with its padding
  row_read : (rows : List Row) (here : Bits) (row : Row) (line tail : Bits)
      → IsLineStart here → limit_met settings (length rows) ≡ false → (b ≡ true → length ((line ++ fill b line) ++ tail) % 8 ≡ 0)
      → line_here settings (row_before settings.columns rows) here ≡ Line.whole row (fill b line ++ tail)
      → gap_and_row settings (between rows here) ≡ Turn.next (between (rows ++ row ∷ []) tail)
  row_read rows here row line tail start open_limit whole read = grind (arith, common_steps, gap_at_line, between, fill)

  module _ (encoding : EncodingMode) (same : settings.encoding ≡ encoding) where
    -- from a line's start, at a whole byte if lines are aligned, the lines are read and what follows is left
    pub body_again : (before rows : List Row) (body more : Bits) → Allows settings (length before + length rows)
        → length (row_before settings.columns before) ≡ settings.columns → All (λ row. length row ≡ settings.columns) rows
        → (b ≡ true → length (body ++ more) % 8 ≡ 0) → EncodesRows encoding b (row_before settings.columns before) rows body
        → Reaches (gap_and_row settings) (between before (body ++ more)) (between (before ++ rows) more)
    body_again before [] body more limit ref_len widths whole lines =
        let here : body ++ more ≡ more = ap (λ (x : Bits). x ++ more) lines in
        rw (here, append-nil before) (Reaches.stays (between before more))
    body_again before (row ∷ rows) body more limit ref_len widths whole (line, next, is, lines, split) =
        let reference : Row = row_before settings.columns before in
        let tail : Bits = next ++ more in
        let rows1 : List Row = before ++ row ∷ [] in
        let row_len : length row ≡ settings.columns = All-head (λ row. length row ≡ settings.columns) row rows widths in
        let here : body ++ more ≡ line ++ (fill b line ++ tail) = grind (arith, common_steps, append_assoc, fill) in
        let whole2 : b ≡ true → length ((line ++ fill b line) ++ tail) % 8 ≡ 0 = grind (arith, common_steps) in
        let moved = row_read before (body ++ more) row line tail
        (subst IsLineStart (sym here) (line_starts encoding reference row line (fill b line ++ tail) same is row_len))
        (not_met settings (length before + length (row ∷ rows)) (length before) limit (omega arith)) whole2
        (grind (arith, common_steps, line_again)) in
        let pushed : row_before settings.columns rows1 ≡ row = row_before_push settings.columns before row in
        let count : length rows1 + length rows ≡ length before + length (row ∷ rows) = grind
        (arith, common_steps, length-append) in
        let on = body_again rows1 rows next more (subst (Allows settings) (sym count) limit) (ap length pushed ∙ row_len)
        (All-tail (λ row. length row ≡ settings.columns) row rows widths) (λ e. grind (arith, common_steps))
        (subst (λ (r : Row). EncodesRows encoding b r rows next) (sym pushed) lines) in
        Reaches.moves (between before (body ++ more)) (between rows1 tail)
        (between (before ++ row ∷ rows) more) moved (grind (arith, common_steps, append_assoc))

    module _ (rows : List Row) (body more : Bits) (some : 0 < length rows) (limit : settings.rows ≡ length rows)
        (is : IsPicture settings.columns rows) (whole : b ≡ true → length (body ++ more) % 8 ≡ 0)
        (lines : EncodesRows encoding b (replicate settings.columns false) rows body) where
      allows : Allows settings (length rows)
      allows = inr (omega arith)

      -- a limit of as many rows ends the lines
      pub body_end : ending_after settings (pass_gap settings (between [] (body ++ more)))
          ≡ ended_with rows (eols_here settings more).1
      body_end = reaches_end settings wide (between [] (body ++ more)) (between rows more)
          (ended_with rows (eols_here settings more).1) (body_again [] rows body more (allows_sum settings (length rows) allows)
          (length-replicate settings.columns false) is.1 whole lines) (grind (arith, common_steps))

      -- they begin where there is no EOL
      pub body_starts : IsLineStart (body ++ more)
      body_starts = by_rows rows some is.1 lines
        where
          by_rows : (rows : List Row) → 0 < length rows → All (λ row. length row ≡ settings.columns) rows
              → EncodesRows encoding b (replicate settings.columns false) rows body → IsLineStart (body ++ more)
          by_rows [] some widths lines = absurd (omega arith)
          by_rows (row ∷ rows) some widths (line, next, is, lines, split) =
              let here : body ++ more ≡ line ++ (fill b line ++ (next ++ more)) = grind (arith, append_assoc) in
              subst IsLineStart (sym here) (line_starts encoding (replicate settings.columns false) row line
              (fill b line ++ (next ++ more)) same is (All-head (λ row. length row ≡ settings.columns) row rows widths))

      -- T.4 lines without EOLs are read as their rows, up to the limit
      pub rows_t4_end : settings.encoding ≢ Group4 → settings.end_of_line ≡ false
          → end_of settings (body ++ more) ≡ ended_with rows (eols_here settings more).1
      rows_t4_end other no_line =
          grind (arith, common_steps, allows, between, body_end, body_starts, eols-none, first_gap_t4, gap_at_line, not_met)

-- the law
pub limited_rows_t4 : ReadsLimitedRowsT4
limited_rows_t4 settings rows bits stream are all begins = grind (arith, common_steps, ended_with, plain_ends, rows_t4_end)
