-- Data that is the same from an EOL on has the same rows after the next, whatever comes before.
use Rattle.fax_reading.proofs.Names.{MakesNoRtc, PutsInStep, AreInStep, cond-true, Group3_2D, after_eol, eols_here, limit_met, []}
use Rattle.fax_reading.proofs.Names.{length, Option, at_end, end_of, Ending, plain, false, subst, zero, Bool, true, List, ◌++◌, ℕ}
use Rattle.fax_reading.proofs.Names.{length-drop, RowsAfter, false≢true, append-nil, cond-false, row_before, first_line, is_over}
use Rattle.fax_reading.proofs.Names.{line_here, all_eols, past_tag, Progress, or_parts, move_on, ComesTo, IsEolAt, Reaches, arith}
use Rattle.fax_reading.proofs.Names.{take, drop, Some, None, refl, Turn, Bits, ◌≡◌, suc, ◌<◌, ◌≤◌, ◌∷◌, Err, sym, ◌∙◌, ◌⊎◌, inl}
use Rattle.fax_reading.proofs.Names.{take-append-drop, DecodeSettings, AreWholeBytes, common_steps, append_assoc, DecodeError, Ok}
use Rattle.std.proofs.Math.Seq.{drop-append_seam}
use Rattle.fax_bits.proofs.BitReading.ConsecutiveEols.{after_eol_shorter, next_eol_found, last_tag_count, counts_tagged}
use Rattle.fax_bits.proofs.BitReading.ConsecutiveEols.{counts_plain, count_moves, all_tagged}
use Rattle.fax_bits.proofs.Repetition.Repeated.{repeated_follows, repeated_turn, after_turn, reaches_on, Follows}
use Rattle.fax_reading.proofs.DamagedLines.EolsAlike.{EndsByOne, left_ends, past_ends, with_tail, one_alone, IsGroup3, IsLineIn}
use Rattle.fax_reading.proofs.DamagedLines.EolsAlike.{leaves_length, all_eols_kept, turn_closed, left_closes, row_counted}
use Rattle.fax_reading.proofs.DamagedLines.LineTails.{line_past_by, eol_closes}
use Rattle.fax_reading.proofs.DamagedLines.PastEol.{then_after, past_is, past}
use Rattle.fax_reading.proofs.DamagedLines.RunsAlike.{move_beyond, not_group4, StayAlike, SameLine, run_at}
use Rattle.fax_reading.proofs.DamagedLines.PastEol.{eols_here_same, move_sought, row_past, rest_of, sought}
use Rattle.fax_reading.proofs.DamagedLines.{EolsAlike.not_end, EolsAlike.counted, EolsAlike.IsAlone, LinesByEols.seeks}
use Rattle.fax_reading.proofs.DrawingLines.LinesLeaveBits.{leaves_trans, LeavesBits}
use Rattle.fax_reading.proofs.Readings.GapsAndRows.{ending_goes, plain_is, end_t4, late, goes}
use Rattle.fax_reading.proofs.Readings.TurnsMoveOn.{eols_here_counted, left_to_read, move_shrinks}
use Rattle.fax_reading.proofs.{GapsContinued.ContinuedEols.count_then_more, Names.inr, Names.Row, Names.ap}
use Rattle.fax_reading.proofs.{Readings.RowsAndGaps.unless_over, Readings.RowsAndGaps.after_row, KeptRows.TurnsLeave.count_leaves}

-- ---- One reading comes to the EOL after the line

-- after some turns the EOLs that follow the line are counted
abbrev ComesAfter : DecodeSettings → Bits → Progress → Type 0
ComesAfter settings next s = (mid : Progress) × (rows : List Row) × (u : Bits) × Reaches (move_on settings) s mid
    × (move_on settings mid ≡ unless_over settings (sought rows u) (eols_here settings next))

module _ (settings : DecodeSettings) (unlimited : settings.rows ≡ 0) (whole x after next : Bits)
    (line : IsLineIn settings whole x after) (next_is : after_eol 0 next ≡ Some after) (stays : (reference : Row)
    → past 0 (rest_of (line_here settings reference x) x) ≡ Some after) (no_rtc : (found : Bits) → LeavesBits whole found
    → length x < length found → (eols_here settings found).0 < 6) where
  open_limit : (n : ℕ) → limit_met settings n ≡ false
  open_limit n = rw unlimited refl

  -- after the row of a state, where the EOL is the next
  after_row_of : (s : Progress) (rows : List Row) (u : Bits) → move_on settings s ≡ after_row settings (sought rows u)
      → past 0 u ≡ Some after → ComesAfter settings next s
  after_row_of s rows u e f = let found = row_past settings line.lenient rows u after (open_limit (length rows)) f in
      (s, rows, u, Reaches.stays s, grind (arith, common_steps, eols_here_same settings found.0 next after found.2 next_is))

  -- the reading isn't over where few EOLs were counted and bits are left
  not_over : (rows : List Row) (u : Bits) (found : ℕ × Bits) → found.0 < 6 → at_end found.1 ≡ false
      → unless_over settings (sought rows u) found ≡ Turn.next (sought rows found.1)
  not_over rows u (count, rest) few open_end = grind (arith, common_steps, cond-false, open_limit)

  abbrev Ahead : ℕ → Type 0
  Ahead n = (rows : List Row) (bits : Bits) → length bits < n → EndsByOne 11 bits → LeavesBits whole (bits ++ x)
      → ComesAfter settings next (sought rows (bits ++ x))

  pub from_ahead : (n : ℕ) → Ahead n
  from_ahead zero rows bits lt ends leaves = absurd (omega arith)
  from_ahead (suc n) rows bits lt (inl none) leaves = rw none (after_row_of (sought rows x) _ _
      (move_sought settings line.lenient rows x) (stays (row_before settings.columns rows)))
  from_ahead (suc n) rows bits lt (inr closes) leaves =
      let (row, left, within, turn) = turn_closed settings line.lenient rows bits closes in
      by_past (λ rows bits small ends leaves. from_ahead n rows bits small ends leaves) (rows ++ row ∷ []) left within (turn x)
      (past 0 left) refl
    where
      by_past : Ahead n → (others : List Row) (left : Bits) → LeavesBits bits left → move_on settings (sought rows (bits ++ x))
          ≡ after_row settings (sought others (left ++ x)) → (o : Option Bits) → past 0 left ≡ o
          → ComesAfter settings next (sought rows (bits ++ x))
      by_past on others left within e None f = after_row_of (sought rows (bits ++ x)) others (left ++ x) e
          (past_ends left x (left_ends bits left closes within) f ∙ line.next)
      by_past on others left within e (Some more) f =
          let there = leaves_trans whole (bits ++ x) (left ++ x) leaves (with_tail bits left x within) in
          let found = row_counted settings whole x after line others left more (open_limit (length others)) there f
          (left_closes bits left more closes within f) in
          let count : ℕ × Bits = counted settings more in
          let few : count.0 < 6 = omega (arith, no_rtc found.0 found.1 found.2, ap (λ (f : ℕ × Bits). f.0) found.3) in
          let turn = e ∙ found.6 ∙ not_over others (left ++ x) (count_then_more x count) few
          (not_end settings whole x after line count.1) in
          let (mid, these, u, reaches, g) = on others count.1 (omega (arith, found.7, leaves_length bits left within, lt))
          found.4 found.5 in
          (mid, these, u, Reaches.moves (sought rows (bits ++ x)) (sought others (count.1 ++ x)) mid turn reaches, g)

-- ---- Two readings from the same bits on

module _ (settings : DecodeSettings) (unlimited : settings.rows ≡ 0) (a b : List Row) (most : ℕ) (rest : Progress → Ending) where
  -- the same rows after those before
  abbrev BothThen : List Row → List Row → Type 0
  BothThen xs ys = (more : List Row) × (xs ≡ a ++ more) × (ys ≡ b ++ more)

  -- states with the same rows after those before, and the same bits
  abbrev pub InStep : Progress → Progress → Type 0
  InStep s t = (xs ys : List Row) × (has_eols : Bool) × (here : Bits) × BothThen xs ys × (length here ≤ most)
      × SameLine settings xs ys here × (s ≡ run_at xs has_eols here) × (t ≡ run_at ys has_eols here)

  -- how they end
  abbrev pub EndInStep : Ending → Ending → Type 0
  EndInStep r q = BothThen r.rows q.rows × (((fault : DecodeError) × (r.outcome ≡ Err fault) × (q.outcome ≡ Err fault))
      ⊎ ((left : Bits) × (r.outcome ≡ Ok left) × (q.outcome ≡ Ok left) × (length left ≤ most)))

  stay : StayAlike settings most BothThen InStep EndInStep
  stay = record {
    limits = λ xs ys both. rw unlimited refl;
    longer = λ xs ys row (more, e, f).
        grind (arith, common_steps, append_assoc a more (row ∷ []), append_assoc b more (row ∷ []));
    goes_on = λ xs ys h here both short same. (xs, ys, h, here, both, short, same, refl, refl);
    ends = λ xs ys h here both short. (both, inr (here, refl, refl, short));
    fails = λ xs ys h fault both. (both, inl (fault, refl, refl));
  }

  -- a turn of both
  pub moves_in_step : (s t : Progress) → InStep s t → Follows InStep EndInStep rest (move_on settings s) (move_on settings t)
  moves_in_step s t (xs, ys, h, here, both, short, same, e, f) = grind (arith, common_steps, move_beyond, stay)

-- ---- The whole

-- the line that puts in step is a tail, after one EOL
module _ (settings : DecodeSettings) (here line after : Bits) (step : PutsInStep settings here line after)
    (group3 : IsGroup3 settings.encoding) where
  alone_here : IsAlone here line × (settings.encoding ≡ Group3_2D → past_tag line ≡ line)
  alone_here = one_alone settings here line group3 step.alone

  next_after_line : past 0 line ≡ Some step.after
  next_after_line = past_is line ∙ ap then_after step.next_is ∙ step.after_is

  pub step_stays : (reference : Row) → past 0 (rest_of (line_here settings reference line) line) ≡ Some step.after
  step_stays reference = line_past_by settings reference line step.after next_after_line
      (λ row rest e. step.ends reference row rest e)

  -- what is left after is shorter
  after_shorter : length after ≤ length here
  after_shorter = omega (
    arith,
    after_eol_shorter 0 here line step.eol,
    (next_eol_found line step.next step.next_is).0,
    (eols_here_counted settings step.next).0,
    ap (λ (f : ℕ × Bits). length f.1) step.following_is,
  )

  -- the reading of some data comes after the EOL after the line
  pub comes_after : settings.strict ≡ false → settings.rows ≡ 0 → (bits : Bits) (place : ℕ) → drop place bits ≡ here
      → (settings.end_of_line ≡ true) ⊎ IsEolAt bits → MakesNoRtc settings bits line
      → ComesAfter settings step.next (first_line settings bits)
  comes_after lenient unlimited bits place at sought_by no_rtc = let (front, closes, is) = eol_closes (take place bits)
      here line step.eol in
      let counts = ap all_eols (sym (take-append-drop place bits) ∙ ap (λ (b : Bits). take place bits ++ b) at ∙ is)
      ∙ (all_eols_kept 11 line alone_here.0.1 front (inr closes)).0 in
      let rest : Bits = (all_eols front).1 in
      let first_is : first_line settings bits ≡ sought [] (rest ++ line) = grind (arith, common_steps, seeks, counts) in
      subst (ComesAfter settings step.next) (sym first_is)
      (from_ahead settings unlimited bits line step.after step.next line_in step.after_is step_stays
      (λ found leaves lt. no_rtc leaves.0 found leaves.1 lt) (suc (length rest)) [] rest (omega arith)
      (all_eols_kept 11 line alone_here.0.1 front (inr closes)).1 (subst (λ (f : ℕ × Bits). LeavesBits bits f.1) counts
      (count_leaves counts_plain (λ b. ([], refl)) (length bits) bits)))
    where
      few : settings.encoding ≡ Group3_2D → (found : Bits) (count : ℕ) → LeavesBits bits found → all_tagged found ≡ (count, line)
          → count < 6
      few is found zero leaves e = omega arith
      few is found (suc count) leaves e = let lt : length line < length found = grind
          (arith, common_steps, count_moves counts_tagged (length found) found) in
          grind (arith, common_steps, no_rtc leaves.0 found leaves.1 lt, last_tag_count (all_tagged found))

      line_in : IsLineIn settings bits line step.after
      line_in = record {
        group3 = group3;
        lenient = lenient;
        none = alone_here.0.1;
        next = next_after_line;
        tag = alone_here.1;
        few = few;
      }

module _ (settings : DecodeSettings) (wide : 0 < settings.columns) where
  -- the end from a state that is reached
  goes_reached : (s t : Progress) → Reaches (move_on settings) s t → goes settings wide s ≡ goes settings wide t
  goes_reached s t (Reaches.stays same) = refl
  goes_reached s t (Reaches.moves from after last e reaches) = repeated_turn (move_on settings) (late settings wide) left_to_read
      (move_shrinks settings wide) from ∙ ap (after_turn (goes settings wide)) e ∙ goes_reached after last reaches

  -- what two readings that end in step yield
  in_step : (one two after : Bits) (a b : List Row) → AreWholeBytes one
      → AreWholeBytes two → length after ≤ length one → length after ≤ length two → ComesTo settings one after
      (length a) → ComesTo settings two after (length b) → (unlimited : settings.rows ≡ 0) → EndInStep settings unlimited a b
      (length after) (goes settings wide) (end_of settings one) (end_of settings two) → AreInStep settings one two after
      (plain settings one).rows (plain settings two).rows (plain settings one).outcome (plain settings two).outcome
  in_step one two after a b whole_one whole_two le le2 comes comes_too unlimited ((more, rows, others), ends) =
      grind (arith, common_steps, plain_is, drop-append_seam)

  -- how a reading goes on after the EOL after the line
  ends_from : (bits : Bits) (mid : Progress) (rows : List Row) (u : Bits) (found : ℕ × Bits) → IsGroup3 settings.encoding
      → Reaches (move_on settings) (first_line settings bits) mid → move_on settings mid ≡ unless_over settings
      (sought rows u) found → end_of settings bits ≡ after_turn (goes settings wide) (unless_over settings (sought rows u) found)
  ends_from bits mid rows u found group3 reaches e =
      (end_t4 settings bits (not_group4 settings.encoding group3) ∙ ending_goes settings wide (first_line settings bits)) ∙
      goes_reached (first_line settings bits) mid reaches ∙ repeated_turn (move_on settings)
      (late settings wide) left_to_read (move_shrinks settings wide) mid ∙ ap (after_turn (goes settings wide)) e

-- the law
pub rows_after : RowsAfter
rows_after settings one whole_one two line after to to2 whole_two alike =
    by_over (is_over settings 0 found) refl (comes one these) (comes two those)
  where
    step : PutsInStep settings (drop to one) line after
    step = alike.step

    found : ℕ × Bits
    found = (step.count, after)

    these : ComesAfter settings step.next (first_line settings one)
    these = comes_after settings (drop to one) line after step alike.encoding alike.lenient alike.unlimited one to refl
        alike.sought alike.no_rtc

    those : ComesAfter settings step.next (first_line settings two)
    those = comes_after settings (drop to one) line after step alike.encoding alike.lenient alike.unlimited two to2
        (sym alike.same) alike.sought_too alike.no_rtc_too

    short : length after ≤ length (drop to one)
    short = after_shorter settings (drop to one) line after step alike.encoding

    short_one : length after ≤ length one
    short_one = omega (arith, short, length-drop to one)

    short_two : length after ≤ length two
    short_two = omega (arith, short, ap length alike.same, length-drop to2 two)

    -- both are over there
    over_end : (bits : Bits) (rows : List Row) (u : Bits) → is_over settings 0 found ≡ true
        → end_of settings bits ≡ after_turn (goes settings alike.wide) (unless_over settings (sought rows u) found)
        → end_of settings bits ≡ record { rows = rows; has_eols = true; outcome = Ok after }
    over_end bits rows u over e = grind (arith, common_steps, cond-true)

    -- or a line follows in both
    line_next : (rows : List Row) (u : Bits) → is_over settings 0 found ≡ false
        → unless_over settings (sought rows u) found ≡ Turn.next (sought rows after)
    line_next rows u open_end = grind (arith, common_steps, cond-false)

    pair : (a b : List Row) → is_over settings 0 found ≡ false
        → InStep settings alike.unlimited a b (length after) (goes settings alike.wide) (sought a after) (sought b after)
    pair a b open_end = grind (arith, append-nil, or_parts, false≢true)

    comes_over : (bits : Bits) (rows : List Row) → end_of settings bits
        ≡ record { rows = rows; has_eols = true; outcome = Ok after } → ComesTo settings bits after (length rows)
    comes_over bits rows e = grind (arith, plain_is)

    -- how a reading that comes there ends, and the line that it reaches if it isn't over
    Comes : Bits → Type 0
    Comes bits = (rows : List Row) × (u : Bits)
        × (end_of settings bits ≡ after_turn (goes settings alike.wide) (unless_over settings (sought rows u) found))
        × (is_over settings 0 found ≡ false → Reaches (move_on settings) (first_line settings bits) (sought rows after))

    comes : (bits : Bits) → ComesAfter settings step.next (first_line settings bits) → Comes bits
    comes bits (mid, rows, u, reaches, turn) =
        let moved = turn ∙ ap (unless_over settings (sought rows u)) step.following_is in (
          rows,
          u,
          ends_from settings alike.wide bits mid rows u found alike.encoding reaches moved,
          λ open_end. reaches_on (move_on settings) (first_line settings bits) mid (sought rows after) reaches
              (moved ∙ line_next rows u open_end),
        )

    by_over : (over : Bool) → is_over settings 0 found ≡ over → Comes one → Comes two → AreInStep settings one two after
        (plain settings one).rows (plain settings two).rows (plain settings one).outcome (plain settings two).outcome
    by_over true over (a, u, ends, reaches) (b, v, ends2, reaches2) = let end = over_end one a u over ends in
        let end2 = over_end two b v over ends2 in
        in_step settings alike.wide one two after a b whole_one whole_two short_one short_two (comes_over one a end)
        (comes_over two b end2) alike.unlimited (
          ([], ap (λ (q : Ending). q.rows) end ∙ sym (append-nil a), ap (λ (q : Ending). q.rows) end2 ∙ sym (append-nil b)),
          inr (after, ap (λ (q : Ending). q.outcome) end, ap (λ (q : Ending). q.outcome) end2, omega arith),
        )
    by_over false open_end (a, u, ends, reaches) (b, v, ends2, reaches2) =
        let end : end_of settings one ≡ goes settings alike.wide (sought a after)
        = ends ∙ ap (after_turn (goes settings alike.wide)) (line_next a u open_end) in
        let end2 : end_of settings two ≡ goes settings alike.wide (sought b after)
        = ends2 ∙ ap (after_turn (goes settings alike.wide)) (line_next b v open_end) in
        in_step settings alike.wide one two after a b whole_one whole_two short_one short_two
        (inl (sought a after, reaches open_end, refl, refl)) (inl (sought b after, reaches2 open_end, refl, refl))
        alike.unlimited (rw (end, end2) (repeated_follows (move_on settings) (late settings alike.wide) left_to_read
        (move_shrinks settings alike.wide) (move_on settings) (late settings alike.wide) left_to_read
        (move_shrinks settings alike.wide) (InStep settings alike.unlimited a b (length after) (goes settings alike.wide))
        (EndInStep settings alike.unlimited a b (length after) (goes settings alike.wide))
        (moves_in_step settings alike.unlimited a b (length after) (goes settings alike.wide))
        (suc (left_to_read (sought a after))) (suc (left_to_read (sought b after))) (sought a after) (sought b after)
        (omega arith) (omega arith) (pair a b open_end)))
