-- The first gap, and what gaps and rows lead to.
use Rattle.fax_reading.proofs.Names.{◌≡◌, ◌≢◌, ◌<◌, suc, false, [], length, arith, Result, Err, refl, ap, ◌∙◌, DecodeError}
use Rattle.fax_reading.proofs.Names.{UnexpectedEof, DecodeSettings, Group4, Bits, IsPrefix, add_row_alone, row_after}
use Rattle.fax_reading.proofs.Names.{gap_and_row, Progress, Ending, Move, eols_here, row_of_line, pass_gap, add_row, move_on}
use Rattle.fax_reading.proofs.Names.{line_of_turn, at_front, first_line, first_gap, ending_from, ending_after, end_of}
use Rattle.fax_reading.proofs.Names.{cond-false, Turn, repeated, Reaches, Row, common_steps, ne_eqb, plain, whole_reading}
use Rattle.fax_bits.proofs.Repetition.Repeated.{Follows, after_turn, repeated_follows, repeated_turn, not_next}
use Rattle.fax_reading.proofs.Readings.RowsAndGaps.{pass_gap-is, unless_over, unmissed}
use Rattle.fax_reading.proofs.Readings.TurnsMoveOn.{move_adds, repeated_adds}
use Rattle.fax_reading.proofs.Readings.TurnsMoveOn.{left_to_read, left_below, move_shrinks}

-- ---- The first gap

-- data of Group 3 begin at a line
pub first_gap_t4 : (settings : DecodeSettings) (bits : Bits) → settings.encoding ≢ Group4
    → first_gap settings.encoding settings bits ≡ Turn.next (first_line settings bits)
first_gap_t4 settings bits other = grind (arith, common_steps)

-- how they end
abbrev pub ending_t4 : DecodeSettings → Bits → Ending
ending_t4 settings bits = ending_from (move_on settings) (first_line settings bits)

pub end_t4 : (settings : DecodeSettings) (bits : Bits) → settings.encoding ≢ Group4
    → end_of settings bits ≡ ending_t4 settings bits
end_t4 settings bits other = ap (ending_after settings) (first_gap_t4 settings bits other)

-- with columns a reading is what its end says
pub plain_is : (settings : DecodeSettings) → 0 < settings.columns → (bits : Bits)
    → plain settings bits ≡ whole_reading bits (end_of settings bits)
plain_is settings wide bits = grind (arith, common_steps, cond-false, ne_eqb)

-- a gap where no EOLs are sought
pub gap_unsought : (settings : DecodeSettings) (run : Progress) → run.has_eols ≡ false
    → pass_gap settings run ≡ unless_over settings run (eols_here settings run.rest)
gap_unsought settings run unsought = grind (arith, common_steps, pass_gap-is, cond-false, unmissed)

-- ---- Gaps and rows lead on as turns do

module _ (settings : DecodeSettings) (wide : 0 < settings.columns) where
  -- the result of turns that never end, which never comes
  abbrev pub late : Ending
  late = record { rows = []; has_eols = false; outcome = Err UnexpectedEof }

  -- how turns end from a line on
  abbrev pub goes : Progress → Ending
  goes run = repeated (move_on settings) late (suc (left_to_read run)) run

  pub ending_goes : (run : Progress) → ending_from (move_on settings) run ≡ goes run
  ending_goes run =
      repeated_follows (move_on settings) (record { rows = run.rows; has_eols = run.has_eols; outcome = Err UnexpectedEof })
      left_to_read (move_shrinks settings wide) (move_on settings) late left_to_read (move_shrinks settings wide) (λ s t. s ≡ t)
      (λ r q. r ≡ q) same (suc (suc (length run.rest))) (suc (left_to_read run)) run run (left_below run) (omega arith) refl
    where
      same : (s t : Progress) → s ≡ t → Follows (λ s t. s ≡ t) (λ r q. r ≡ q) goes (move_on settings s) (move_on settings t)
      same s t e = grind (arith, common_steps)

  ending_after_goes : (gap : Move) → ending_after settings gap ≡ after_turn goes gap
  ending_after_goes gap = grind (arith, common_steps, ending_goes)

  -- a row, and the gap after it, are a turn
  row_then_gap : (line next : Progress) → row_after settings (Turn.next line) ≡ Turn.next next
      → move_on settings line ≡ pass_gap settings next
  row_then_gap line next e = by_row (row_of_line settings line.has_eols line.rest (line_of_turn settings line)) e
    where
      by_row : (row : Result (Row × Bits) DecodeError) → add_row_alone line row ≡ Turn.next next
          → add_row settings line row ≡ pass_gap settings next
      by_row row e = grind (arith, common_steps)

  reaches_goes : (from last : Progress) → Reaches (gap_and_row settings) from last
      → after_turn goes (pass_gap settings from) ≡ after_turn goes (pass_gap settings last)
  reaches_goes from last (Reaches.stays same) = refl
  reaches_goes from last (Reaches.moves from2 after last2 moved on) =
      by_gap (pass_gap settings from) moved ∙ reaches_goes after last on
    where
      by_gap : (gap : Move) → row_after settings gap ≡ Turn.next after
          → after_turn goes gap ≡ after_turn goes (pass_gap settings after)
      by_gap (Turn.next line) e = repeated_turn (move_on settings) late left_to_read
          (move_shrinks settings wide) line ∙ ap (after_turn goes) (row_then_gap line after e)
      by_gap (Turn.done end) e = absurd (not_next end after e)

  -- if gaps and rows lead to a last gap, the reading from the first gap on ends with that
  pub reaches_end : (from last : Progress) (end : Ending) → Reaches (gap_and_row settings) from last
      → pass_gap settings last ≡ Turn.done end → ending_after settings (pass_gap settings from) ≡ end
  reaches_end from last end reaches over = grind (arith, common_steps, after_turn, ending_after_goes, reaches_goes)

  -- so does the reading of Group 4 data
  pub t6_end : (bits : Bits) (last : Progress) (end : Ending) → settings.encoding ≡ Group4
      → Reaches (gap_and_row settings) (at_front bits) last → pass_gap settings last ≡ Turn.done end → end_of settings bits ≡ end
  t6_end bits last end is reaches over = grind (arith, common_steps, reaches_end (at_front bits) last end reaches over)

-- ---- Two readings side by side, where the rows of a reading only grow

module _ (one two : DecodeSettings) (wide : 0 < one.columns) (wide_two : 0 < two.columns) (P : Progress → Progress → Type 0)
    (Q : Ending → Ending → Type 0) (follows : (rest : Progress → Ending) → ((t : Progress) → IsPrefix t.rows (rest t).rows)
    → (s t : Progress) → P s t → Follows P Q rest (move_on one s) (move_on two t)) where
  -- what comes after a gap in both
  pub readings_follow : (gap other : Move) → Follows P Q (ending_from (move_on two)) gap other
      → Q (ending_after one gap) (ending_after two other)
  readings_follow (Turn.next s) (Turn.next t) p = repeated_follows (move_on one) _ left_to_read (move_shrinks one wide) (move_on
      two) _ left_to_read (move_shrinks two wide_two) P Q (follows _ (λ r. (repeated_adds (move_on two) _ left_to_read
      (move_shrinks two wide_two) (move_adds two)) (suc (left_to_read r)) r (omega arith)))
      (suc (suc (length s.rest))) (suc (suc (length t.rest))) s t (left_below s) (left_below t) p
  readings_follow (Turn.next s) (Turn.done q) p = absurd p
  readings_follow (Turn.done r) (Turn.next t) q = q
  readings_follow (Turn.done r) (Turn.done e) q = q
