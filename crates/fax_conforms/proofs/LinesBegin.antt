-- From each position of a line on, there is a line.
use Rattle.hayro_ccitt.proofs.Names.{◌≡◌, ℕ, ◌+◌, ◌-◌, ◌<◌, ◌≤◌, false, true, [], ◌∷◌, ◌++◌, length, replicate, Ok}
use Rattle.hayro_ccitt.proofs.Names.{refl, ap, sym, subst, ◌∙◌, arith, length-append, length-replicate, Color, White, Horizontal}
use Rattle.hayro_ccitt.proofs.Names.{Bits, Row, is_black, opposite, run_from, read_code, mode_codes, EncodingMode, Group4}
use Rattle.hayro_ccitt.proofs.Names.{Group3_1D, Group3_2D, EncodesLine1D, inl}
use Rattle.hayro_ccitt.proofs.EncodedPictures.EncodedLines.{run_read}
use Rattle.hayro_ccitt.proofs.EncodedPictures.EncodingsExist.{every_run_spelled}
use Rattle.fax_conforms.specs.Standing.{Spot, LineStands, LineFrom, ModeFrom, RunsFrom, line_start}
use Rattle.fax_conforms.proofs.LinesEnd.{steps_end, runs_end}
use Rattle.fax_conforms.proofs.ModesLead.{painted_on, mode_leads, horizontal_leads}
use Rattle.fax_conforms.proofs.RunsLead.{run_leads}

-- how many pixels a spot has after more of them
painted_len : (at : Spot) (place : ℕ) (color : Color) → length at.front ≤ place
    → length (painted_on at place color).front ≡ place
painted_len at place color le =
    let n : ℕ = place - length at.front in
    length-append at.front (replicate n (is_black at.color))
    ∙ omega (arith, length-replicate n (is_black at.color), le)

-- ---- One-dimensional lines: one run of all that is left.
module _ (columns : ℕ) (at : Spot) (small : columns ≤ 4294967295) (open_end : length at.front < columns) where
  pub runs_begin : (row : Row) × (more : Bits) × (length row ≡ columns) × RunsFrom at more row []
  runs_begin =
      let run : ℕ = columns - length at.front in
      let word = every_run_spelled at.color run in
      let end : Spot = painted_on at columns (opposite at.color) in
      let len : length end.front ≡ columns = painted_len at columns (opposite at.color) (omega (arith, open_end)) in (
        end.front,
        word.0 ++ [],
        len,
        (run_leads columns at (word.0 ++ []) small open_end [] run columns
            (run_read at.color run word.0 [] word.1 (omega (arith, small))) (omega (arith, open_end)) (omega arith)
            (λ lt. omega (arith, open_end)) end.front [] len).1 ((runs_end columns end [] len end.front [] len).1 (refl, refl)),
      )

-- ---- Two-dimensional ones: horizontal mode with all that is left.
module _ (columns : ℕ) (reference : Row) (at : Spot) (small : columns ≤ 4294967295) (ref_len : length reference ≡ columns)
    (len : length at.front ≡ at.from - 1) (inside : at.from ≤ columns) (start : at.from ≡ 0 → at.color ≡ White)
    (open_end : length at.front < columns) where
  -- after a first run
  pub second_begins : (one place : ℕ) (word : Bits) → ((more : Bits) → run_from at.color (0, word ++ more) ≡ Ok (one, more))
      → place ≡ length at.front + one → at.from ≤ place → place ≤ columns
      → (row : Row) × (more : Bits) × (length row ≡ columns) × ModeFrom reference at Horizontal (word ++ more) row []
  second_begins one place word read to above within =
      let two : ℕ = columns - place in
      let second = every_run_spelled (opposite at.color) two in
      let middle : Bits = second.0 ++ [] in
      let between : Spot = painted_on at place (opposite at.color) in
      let end : Spot = painted_on between columns at.color in
      let middle_len : length between.front ≡ place = painted_len at place (opposite at.color) (omega (arith, to)) in
      let row_len : length end.front ≡ columns = painted_len between columns at.color (omega (arith, middle_len, within)) in (
        end.front,
        middle,
        row_len,
        (horizontal_leads columns reference at small ref_len len inside start (word ++ middle) middle [] one two place columns
            (read middle) (run_read (opposite at.color) two second.0 [] second.1 (omega (arith, small))) to
            (omega (arith, within)) above (omega arith) (λ lt. omega (arith, lt)) end.front [] row_len).1
            ((steps_end columns reference end [] refl row_len end.front [] row_len).1 (refl, refl)),
      )

  pub horizontal_begins : (row : Row) × (more : Bits) × (length row ≡ columns) × ModeFrom reference at Horizontal more row []
  horizontal_begins =
      let run : ℕ = columns - length at.front in
      let word = every_run_spelled at.color run in
      let (row, more, row_len, stands) = second_begins run columns word.0
      (λ more. run_read at.color run word.0 more word.1 (omega (arith, small))) (omega (arith, open_end)) inside (omega arith) in
      (row, word.0 ++ more, row_len, stands)

  pub line_begins : (row : Row) × (more : Bits) × (length row ≡ columns) × LineFrom reference at more row []
  line_begins =
      let (row, more, row_len, stands) = horizontal_begins in
      let word : Bits = false ∷ false ∷ true ∷ [] in
      let read : read_code mode_codes (word ++ more) ≡ Ok (Horizontal, more) = refl in (
        row,
        word ++ more,
        row_len,
        (mode_leads columns reference at small ref_len len inside start Horizontal (word ++ more) more read row [] row_len).1
            stands,
      )

-- ---- From the start of a line on.
module _ (columns : ℕ) (small : columns ≤ 4294967295) (wide : 0 < columns) where
  begins_1d : (reference : Row) → (row : Row) × (more : Bits) × (length row ≡ columns)
      × LineStands Group3_1D reference row more []
  begins_1d reference =
      let (row, more, len, (others, bits, row_is, first, line, is)) = runs_begin columns line_start small wide in
      (row, more, len, (bits, subst (λ (r : Row). EncodesLine1D White r bits) (sym row_is) line, is))

  pub line_exists_here : (encoding : EncodingMode) (reference : Row) → length reference ≡ columns
      → (row : Row) × (more : Bits) × (length row ≡ columns) × LineStands encoding reference row more []
  line_exists_here Group4 reference ref_len =
      let (row, more, len, (goes, stands)) = line_begins columns reference line_start small ref_len refl (omega arith)
      (λ e. refl) wide in
      (row, more, len, stands)
  line_exists_here Group3_1D reference ref_len = begins_1d reference
  line_exists_here Group3_2D reference ref_len =
      let (row, more, len, (bits, line, is)) = begins_1d reference in
      (row, true ∷ more, len, (true ∷ bits, (bits, inl (refl, line)), ap (λ (x : Bits). true ∷ x) is))
