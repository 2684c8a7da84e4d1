-- What a turn counts is paid by the bits that it consumes, or by ceasing to seek EOLs, which happens once.
use Rattle.fax_reading.proofs.Names.{length-drop}
use Rattle.fax_reading.proofs.Names.{common_steps, ◌≡◌, ◌≢◌, ℕ, ◌+◌, ◌*◌, ◌<◌, ◌≤◌, Bool, true, false, cond, [], ◌∷◌}
use Rattle.fax_reading.proofs.Names.{length, Result, Ok, Err, refl, ap, arith, false≢true, DecodeError, DecodeSettings}
use Rattle.fax_reading.proofs.Names.{EncodingMode, Group4, Group3_1D, Group3_2D, Bits, Line, line_found, Gap, aligned_after_row}
use Rattle.fax_reading.proofs.Names.{gap_after_row, line_by, line_here, row_of_line, Row, looked_ahead, IsPaidUpTo, found_here}
use Rattle.fax_reading.proofs.Work.EolsPassed.{length-within, line_past_eol, line_given_up, line_after_shorter}
use Rattle.fax_reading.proofs.Work.EolsPassed.{line_without_eols, looked_ahead_most, looked_ahead_to_eol}
use Rattle.fax_reading.proofs.Work.WordsPay.{line_1d_paid, line_2d_paid, found_within, found_before_eol}

-- ---- What a line and its row pay

-- the bits of a line contain its words, the zeros ahead of these, and at least one bit
pub record PaysLine (encoding : EncodingMode) (here rest : Bits) (found : ℕ) : Type 0 where
  pub some : length rest < length here
  pub words : found + length rest ≤ length here
  pub zeros : looked_ahead encoding here + length rest ≤ length here

pub whole_pays : (encoding : EncodingMode) (strict : Bool) (columns : ℕ) (reference : Row) (here : Bits) (row : Row) (rest : Bits)
    → 0 < columns → line_by encoding strict columns reference here ≡ Line.whole row rest
    → PaysLine encoding here rest (length (line_found encoding strict columns reference here))
whole_pays Group3_2D strict columns reference [] row rest wide e = absurd cc
whole_pays Group3_2D strict columns reference (true ∷ here) row rest wide e =
    grind (arith, common_steps, line_1d_paid strict columns here row rest wide e)
whole_pays Group3_2D strict columns reference (false ∷ here) row rest wide e =
    grind (arith, common_steps, line_2d_paid strict columns reference here row rest wide e)
whole_pays Group3_1D strict columns reference here row rest wide e =
    grind (arith, common_steps, line_1d_paid strict columns here row rest wide e)
whole_pays Group4 strict columns reference here row rest wide e =
    grind (arith, common_steps, line_2d_paid strict columns reference here row rest wide e)

-- bits further on are paid as well
further_pays : (encoding : EncodingMode) (here rest further : Bits) (found : ℕ) → PaysLine encoding here rest found
    → length further ≤ length rest → PaysLine encoding here further found
further_pays encoding here rest further found pays le = grind (arith, common_steps)

-- the bits after a row
abbrev rest_of_row : Result (Row × Bits) DecodeError → Bits
rest_of_row (Ok x) = x.1
rest_of_row (Err fault) = []

pub after_shorter : (settings : DecodeSettings) (h : Bool) (rest : Bits)
    → length (aligned_after_row settings h rest) ≤ length rest
after_shorter settings h rest = grind (arith, length-drop)

-- a broken line is repaired only in lenient data with EOLs, and the reader is then at its start
pub broken_row : (settings : DecodeSettings) (h : Bool) (here rest : Bits) (front row : Row) (fault : DecodeError)
    → row_of_line settings h here (Line.broken front fault) ≡ Ok (row, rest) → (h ≡ true) × (rest ≡ here)
broken_row settings h here rest front row fault is = grind (arith)

-- a row ends no sooner than its line begins
pub row_shorter : (settings : DecodeSettings) (h : Bool) (reference : Row) (here rest : Bits) (row : Row) → 0 < settings.columns
    → row_of_line settings h here (line_here settings reference here) ≡ Ok (row, rest) → length rest ≤ length here
row_shorter settings h reference here rest row wide is = by_line_here (line_here settings reference here) refl is
  where
    by_line_here : (line : Line) → line_here settings reference here ≡ line → row_of_line settings h here line ≡ Ok (row, rest)
        → length rest ≤ length here
    by_line_here (Line.whole whole following) e given =
        let pays = whole_pays settings.encoding settings.strict settings.columns reference here whole following wide e in
        grind (arith, after_shorter)
    by_line_here (Line.broken front fault) e given = grind (arith, common_steps, broken_row)

-- a row after which the reading continues, seeking EOLs as before, is paid by the bits up to there
turn_pays : (settings : DecodeSettings) (h : Bool) (taken : ℕ) (reference : Row) (here rest next : Bits) (row : Row) → 0 <
    settings.columns → row_of_line settings h here (line_here settings reference here) ≡ Ok (row, rest) → gap_after_row settings
    taken h rest ≡ Gap.line_at h next → PaysLine settings.encoding here next (length (found_here settings reference here))
turn_pays settings h taken reference here rest next row wide is gap = by_line_here (line_here settings reference here) refl is
  where
    found : ℕ
    found = length (found_here settings reference here)

    by_line_here : (line : Line) → line_here settings reference here ≡ line → row_of_line settings h here line ≡ Ok (row, rest)
        → PaysLine settings.encoding here next found
    by_line_here (Line.whole whole following) e given = let same : aligned_after_row settings h following ≡ rest
        = ap rest_of_row given in
        further_pays settings.encoding here following next found
        (whole_pays settings.encoding settings.strict settings.columns reference here whole following wide e)
        (omega (arith, ap length same, after_shorter settings h following, line_after_shorter settings taken h h rest next gap))
    by_line_here (Line.broken front fault) e given =
        let stands : gap_after_row settings taken true here ≡ Gap.line_at true next = grind arith in
        let (after, eol, following) = line_past_eol settings taken here next stands in
        grind (arith, common_steps, found_before_eol, length-within, looked_ahead_to_eol)

-- ---- The account

module _ (settings : DecodeSettings) (wide : 0 < settings.columns) (begun bits giving_up : ℕ) (reference : Row) (h : Bool)
    (here : Bits) (within : length here ≤ bits) (ticks changes : ℕ) (paid : IsPaidUpTo begun bits giving_up settings.encoding h
    ticks changes here) (now : ℕ) (line : now ≤ ticks + 4 * length (found_here settings reference here) + 2 + changes) where
  abbrev found : ℕ
  found = length (found_here settings reference here)

  found_fits : found ≤ length here
  found_fits = found_within settings.encoding settings.strict settings.columns reference here

  either_given : (b : Bool) → cond b 0 giving_up ≤ giving_up
  either_given b = grind arith

  -- a line that ends the run
  pub line_ends : now ≤ begun + (16 * bits + 6 + giving_up)
  line_ends = omega (arith, paid, line, within, found_fits, looked_ahead_most settings.encoding here, either_given h)

  module _ (row : Row) (rest : Bits) (is : row_of_line settings h here (line_here settings reference here) ≡ Ok (row, rest)) where
    row_fits : length rest ≤ length here
    row_fits = row_shorter settings h reference here rest row wide is

    -- an EOL that strict data miss ends it
    pub missing_ends : (last : ℕ) → last ≤ now + length rest → last ≤ begun + (16 * bits + 6 + giving_up)
    missing_ends last counted = grind (arith, common_steps, found_fits, row_fits, looked_ahead_most, either_given)

    -- so does what ends it well
    pub gap_ends : (last : ℕ) (left_over : Bits) → last + 4 * length left_over ≤ now + 4 * length rest + 3
        + looked_ahead settings.encoding left_over → last ≤ begun + (16 * bits + 6 + giving_up)
    gap_ends last left_over counted = grind (arith, common_steps, found_fits, row_fits, looked_ahead_most, either_given)

    -- else the account continues
    pub turn_goes_on : (taken : ℕ) (k : Bool) (next : Bits) (last stored : ℕ)
        → gap_after_row settings taken h rest ≡ Gap.line_at k next → stored ≤ found + 1 → (k ≡ h → last + 4 * length next
        ≤ now + 4 * length rest + 3 + looked_ahead settings.encoding next) → (k ≢ h → last ≤ now + 2 * length rest)
        → (h ≡ true → 8 * bits + 8 ≤ giving_up) → IsPaidUpTo begun bits giving_up settings.encoding k last stored next
    turn_goes_on taken k next last stored gap few kept given_up enough = by_k h k refl refl
      where
        same : (b : Bool) → h ≡ b → k ≡ b → IsPaidUpTo begun bits giving_up settings.encoding b last stored next
        same b h_is k_is = grind (arith, common_steps, turn_pays settings h taken reference here rest next row wide is, row_fits)

        by_k : (a b : Bool) → h ≡ a → k ≡ b → IsPaidUpTo begun bits giving_up settings.encoding b last stored next
        by_k true true h_is k_is = same true h_is k_is
        by_k false false h_is k_is = same false h_is k_is
        by_k true false h_is k_is = grind (
          arith,
          common_steps,
          row_fits,
          found_fits,
          looked_ahead_most settings.encoding here,
          false≢true,
          line_given_up settings taken rest next,
        )
        by_k false true h_is k_is = grind (arith, common_steps, false≢true, line_without_eols settings taken true rest next)
