-- A row limit cuts what comes without one.
use Rattle.fax_reading.proofs.Readings.TurnsMoveOn.{turn_extends, Keeps, after_row_keeps}
use Rattle.fax_reading.proofs.Names.{◌≡◌, ℕ, ◌-◌, ◌<◌, ◌≤◌, Bool, true, false, cond, not, ◌&&◌, ◌||◌, eqb, List, [], ◌∷◌, ◌++◌}
use Rattle.fax_reading.proofs.Names.{length, take, replicate, Option, Err, refl, sym, arith, inl, inr, IsOk}
use Rattle.fax_reading.proofs.Names.{length-append, take_all, cases_eq, and_right, or_left, or_right, eq-eqb, ne_eqb, cond-true}
use Rattle.fax_reading.proofs.Names.{cases_lt, DecodeSettings, EncodingMode, Bits, IsPrefix, Row, Line, next_eol}
use Rattle.fax_reading.proofs.Names.{Progress, Ending, Move, aligned, ends_with, limit_met, eols_here, after_line}
use Rattle.fax_reading.proofs.Names.{move_on, first_gap, ending_from, end_of, RowLimit, common_steps}
use Rattle.fax_reading.proofs.Readings.GapsAndRows.{readings_follow}
use Rattle.fax_bits.proofs.Repetition.Repeated.{Follows}
use Rattle.fax_reading.proofs.Readings.RowsAndGaps.{unless_over, seek_from, after_row, after_whole-is, after_damage-is}

module _ (settings : DecodeSettings) (limit : ℕ) (some : 0 < limit) (wide : 0 < settings.columns) where
  -- the settings with the limit, and without one
  abbrev limited : DecodeSettings
  limited = record settings { rows = limit }

  -- without one
  abbrev unlimited : DecodeSettings
  unlimited = record settings { rows = 0 }

  -- the same run, short of the limit
  abbrev Same : Progress → Progress → Type 0
  Same s t = (s ≡ t) × (length s.rows < limit)

  -- the rows are cut, and as many as the limit are no fault
  abbrev Cut : Ending → Ending → Type 0
  Cut r q = (r.rows ≡ take limit q.rows) × (length r.rows ≡ limit → IsOk r.outcome)

  cut_rows : (rows more : List Row) → length rows ≡ limit → IsPrefix rows more → rows ≡ take limit more
  cut_rows rows more full front = grind (arith, common_steps)

  is_met : limit_met limited limit ≡ true
  is_met = grind (arith, common_steps)

  module _ (rest : Progress → Ending) (extends : (t : Progress) → IsPrefix t.rows (rest t).rows) where
    short : (e : Ending) → length e.rows < limit → Cut e e
    short e lt = (sym (take_all limit e.rows (omega arith)), λ full. absurd (omega (arith, full, lt)))

    -- short of the limit the turns are the same
    same_turn : (rows : List Row) (m : Move) → length rows < limit → Keeps rows m → Follows Same Cut rest m m
    same_turn rows m lt k = grind (arith, common_steps)

    -- at the limit the run is over
    cut_turn : (run : Progress) (found : ℕ × Bits) (m : Move) → length run.rows ≡ limit → Keeps run.rows m
        → Follows Same Cut rest (unless_over limited run found) m
    cut_turn run (count, here) m full k =
        grind (arith, common_steps, turn_extends, cond-true, cut_rows, is_met, or_left, or_right)

    seek_from_open : (run : Progress) (o : Option Bits) → limit_met limited (length run.rows) ≡ false
        → seek_from limited run o ≡ seek_from unlimited run o
    seek_from_open run o e = grind (arith, common_steps)

    after_row_open : (run : Progress) → limit_met limited (length run.rows) ≡ false
        → after_row limited run ≡ after_row unlimited run
    after_row_open run e = rw (e, seek_from_open run (next_eol run.rest) e) refl

    at_limit : (run : Progress) → limit_met limited (length run.rows) ≡ true
        → after_row limited run ≡ unless_over limited run (eols_here limited run.rest)
    at_limit run met = grind (arith, common_steps)

    after_row_follows : (run : Progress) → length run.rows ≤ limit
        → Follows Same Cut rest (after_row limited run) (after_row unlimited run)
    after_row_follows run le = elim (cases_lt (length run.rows) limit) [
      | inl lt ↦ rw (after_row_open run (and_right (not (eqb limit 0)) (eqb limit (length run.rows)) (ne_eqb limit
          (length run.rows) (λ e. absurd (omega (arith, e, lt))))))
          (same_turn run.rows (after_row unlimited run) lt (after_row_keeps unlimited run))
      | inr ge ↦ let full : length run.rows ≡ limit = omega arith in
          rw (at_limit run (rw full is_met))
          (cut_turn run (eols_here limited run.rest) (after_row unlimited run) full (after_row_keeps unlimited run))
    ]

    one_longer : (rows : List Row) (row : Row) → length rows < limit → length (rows ++ row ∷ []) ≤ limit
    one_longer rows row lt = omega (arith, length-append rows (row ∷ []))

    after_line_follows : (run : Progress) (line : Line) → length run.rows < limit
        → Follows Same Cut rest (after_line limited run line) (after_line unlimited run line)
    after_line_follows run (Line.whole row here) lt =
        rw (after_whole-is limited run row here, after_whole-is unlimited run row here) (after_row_follows (record run
        { rows = run.rows ++ row ∷ []; rest = cond (settings.rows_are_byte_aligned && not run.has_eols) (aligned here) here })
        (one_longer run.rows row lt))
    after_line_follows run (Line.broken front fault) lt =
        rw (after_damage-is limited run front fault, after_damage-is unlimited run front fault)
        (either_way (settings.strict || not run.has_eols))
      where
        more : Progress
        more = record run {
          rows = run.rows ++ (front ++ replicate (settings.columns - length front) false) ∷ [];
          rest = cond (settings.rows_are_byte_aligned && not run.has_eols) (aligned run.rest) run.rest;
        }

        either_way : (b : Bool) → Follows Same Cut rest (cond b (ends_with run (Err fault)) (after_row limited more))
            (cond b (ends_with run (Err fault)) (after_row unlimited more))
        either_way true = short (record { rows = run.rows; has_eols = run.has_eols; outcome = Err fault }) lt
        either_way false =
            after_row_follows more (one_longer run.rows (front ++ replicate (settings.columns - length front) false) lt)

    move_follows : (s t : Progress) → Same s t → Follows Same Cut rest (move_on limited s) (move_on unlimited t)
    move_follows s t same = grind (arith, common_steps, after_line_follows)

  -- ---- The whole
  first_gap_follows : (encoding : EncodingMode) (bits : Bits)
      → Follows Same Cut (ending_from (move_on unlimited)) (first_gap encoding limited bits) (first_gap encoding unlimited bits)
  first_gap_follows encoding bits = grind (arith, common_steps)

  cut_end : (bits : Bits) → Cut (end_of limited bits) (end_of unlimited bits)
  cut_end bits = readings_follow limited unlimited wide wide Same Cut move_follows (first_gap settings.encoding limited bits) _
      (first_gap_follows settings.encoding bits)

-- the law
pub row_limit : RowLimit
row_limit settings limit bits are some small = grind (arith, common_steps, cases_eq, cases_lt, cut_end, eq-eqb, ne_eqb, take_all)
