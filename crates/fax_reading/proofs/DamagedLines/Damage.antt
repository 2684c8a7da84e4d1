-- Damage to one line changes its row alone.
use Rattle.fax_reading.proofs.Names.{AreSettings, length-drop, append-nil, row_before, first_line, after_eol, cases_lt}
use Rattle.fax_reading.proofs.Names.{cond-true, eq-eqb}
use Rattle.fax_reading.proofs.Names.{AreWholeBytes, OneRowDiffers, length-append, bytes_before, common_steps, DecodeError, length}
use Rattle.fax_reading.proofs.Names.{Ending, end_of, EndsAt, subst, arith, plain, IsEol, refl, Bits, true, ◌||◌, List, ◌++◌}
use Rattle.fax_reading.proofs.Names.{Ok, ap, [], ℕ}
use Rattle.fax_reading.proofs.Names.{append_cancel_right, take-append-drop, DamageStaysInRow, DecodeSettings, UnexpectedEof, None}
use Rattle.fax_reading.proofs.Names.{repeated, all_eols, Progress, EndAlike, Locality, move_on, IsLocal, Reading, Result, set_at}
use Rattle.fax_reading.proofs.Names.{take, drop, ◌≡◌, suc, ◌+◌, ◌-◌, ◌*◌, ◌/◌, ◌<◌, ltb, ◌∷◌, Err, sym, ◌∙◌, ◌⊎◌, inl, inr, Row}
use Rattle.fax_bits.proofs.{BitReading.ConsecutiveEols.counts_plain, Repetition.Repeated.reached_follows}
use Rattle.fax_reading.proofs.DamagedLines.RunsAlike.{moves_alike, LinesDiffer, not_group4, RowsAlike, EndsAlike, RunsAlike}
use Rattle.fax_reading.proofs.DamagedLines.{EolsAlike.all_eols_kept, EolsAlike.IsLineIn, EolsAlike.EndsByOne, LinesByEols.seeks}
use Rattle.fax_reading.proofs.DamagedLines.{LineTails.eol_closes, LineTails.line_in_1d, LineTails.stays_1d, PastEol.past_shorter}
use Rattle.fax_reading.proofs.DamagedLines.{PastEol.sought_line_is, PastEol.sought, RunsAlike.Begun}
use Rattle.fax_reading.proofs.Readings.TurnsMoveOn.{left_to_read, move_shrinks, left_below}
use Rattle.fax_reading.proofs.{GapsContinued.ContinuedEols.count_then_more, DrawingLines.LinesLeaveBits.LeavesBits}
use Rattle.fax_reading.proofs.{Readings.GapsAndRows.plain_is, Readings.GapsAndRows.end_t4, KeptRows.TurnsLeave.count_leaves}

-- ---- From the ends of two runs to their results

module _ (settings : DecodeSettings) (one two : Bits) (from : ℕ) (after : Bits) (lines : ℕ)
    (given : LinesDiffer settings one two from after lines) (wide : 0 < settings.columns) where
  rows_of : (bits : Bits) → (plain settings bits).rows ≡ (end_of settings bits).rows
  rows_of bits = ap (λ (a : Reading). a.rows) (plain_is settings wide bits)

  outcome_of : (bits : Bits) (r : Result Bits DecodeError) → (end_of settings bits).outcome ≡ r
      → (plain settings bits).outcome ≡ bytes_before bits r
  outcome_of bits r e = ap (λ (a : Reading). a.outcome) (plain_is settings wide bits) ∙ ap (bytes_before bits) e

  abbrev Alike : List Row → List Row → Type 0
  Alike xs ys = RowsAlike (suc lines) (Begun settings one two from) xs ys

  -- what is said of both results
  abbrev Differ : Type 0
  Differ = Alike (plain settings one).rows (plain settings two).rows × EndAlike settings one two from
      (suc lines) (plain settings one).rows (plain settings one).outcome (plain settings two).outcome

  rows_differ : Alike (end_of settings one).rows (end_of settings two).rows
      → Alike (plain settings one).rows (plain settings two).rows
  rows_differ alike = rw (rows_of one, rows_of two) alike

  ends_at : (bits : Bits) (rest : Bits) (place : ℕ) → (end_of settings bits).outcome ≡ Ok rest
      → place + length rest ≡ length bits → EndsAt settings bits (plain settings bits).outcome place ((place + 7) / 8)
  ends_at bits rest place e at = grind (arith, common_steps, outcome_of)

  length_one : length one ≡ from + length (drop from one)
  length_one = omega (arith, given.fits_one, length-drop from one)

  length_two : length two ≡ from + length (drop from two)
  length_two = omega (arith, given.fits_two, length-drop from two)

  -- readings that end alike have results of which this is true
  answers_alike : AreWholeBytes one → AreWholeBytes two
      → EndsAlike settings one two from after lines (end_of settings one) (end_of settings two) → Differ
  answers_alike whole_one whole_two (EndsAlike.faults fault e f rows) =
      (rows_differ rows, EndAlike.faults fault (outcome_of one (Err fault) e) (outcome_of two (Err fault) f))
  answers_alike whole_one whole_two (EndsAlike.early bits short e f rows) =
      let place : ℕ = from - length bits in
      let at_one : place + length (bits ++ drop from one) ≡ length one = omega
      (arith, short, length_one, length-append bits (drop from one)) in
      let at_two : place + length (bits ++ drop from two) ≡ length two = omega
      (arith, short, length_two, length-append bits (drop from two)) in (
        rows_differ (inl rows),
        EndAlike.before place ((place + 7) / 8) (omega arith) (ends_at one (bits ++ drop from one) place e at_one)
            (ends_at two (bits ++ drop from two) place f at_two),
      )
  answers_alike whole_one whole_two (EndsAlike.later rest short e f rows) = let place : ℕ = length one - length rest in
      let place2 : ℕ = length two - length rest in
      let shorter : length rest < length (drop from one) = omega
      (arith, short, past_shorter 0 (drop from one) after given.line_one.next) in
      let shorter2 : length rest < length (drop from two) = omega
      (arith, short, past_shorter 0 (drop from two) after given.line_two.next) in
      let at_one : place + length rest ≡ length one = omega (arith, shorter, length_one) in
      let at_two : place2 + length rest ≡ length two = omega (arith, shorter2, length_two) in
      let counts : 8 * ((place + 7) / 8) + length two ≡ 8 * ((place2 + 7) / 8) + length one = grind (arith, common_steps) in (
        rows_differ rows,
        EndAlike.past place place2 ((place + 7) / 8) ((place2 + 7) / 8) (omega (arith, shorter, length_one))
            (omega (arith, shorter2, length_two)) (ends_at one rest place e at_one) (ends_at two rest place2 f at_two) counts,
      )
  answers_alike whole_one whole_two (EndsAlike.limit before these those u v begins same some few is r q e f le le2) =
      let place : ℕ = length one - length u in
      let place2 : ℕ = length two - length v in
      let at_one : place + length u ≡ length one = omega (arith, le, length_one) in
      let at_two : place2 + length v ≡ length two = omega (arith, le2, length_two) in
      let many : length (plain settings one).rows ≡ settings.rows
      = ap length (rows_of one ∙ r) ∙ length-append before these ∙ sym is in (
        rows_differ (inr (grind (arith, common_steps, append-nil))),
        EndAlike.at_limit (length before) place place2 ((place + 7) / 8) ((place2 + 7) / 8) (grind (arith, common_steps))
            (grind (arith, common_steps)) (omega (arith, is, some)) (omega (arith, is, few)) many (omega (arith, le, length_one))
            (omega (arith, le2, length_two)) (ends_at one u place e at_one) (ends_at two v place2 f at_two),
      )

  -- ---- How the two runs begin

  -- the bits before the line
  abbrev front : Bits
  front = take from one

  front_ends : ((from ≡ 0) ⊎ ((place : ℕ) × IsEol one place from)) → EndsByOne 11 front
  front_ends (inl zero_from) = inl (rw zero_from refl)
  front_ends (inr (place, eol)) = let (first, closes, is) = eol_closes (take place one) (drop place one) (drop from one) eol.2 in
      let same : front ≡ first = append_cancel_right front first (drop from one)
      (take-append-drop from one ∙ sym (take-append-drop place one) ∙ is) in
      inr (closes.0, same ∙ closes.1)

  -- where the first line of data that begins with them is
  first_at : (bits : Bits) → bits ≡ front ++ drop from bits → after_eol 0 (drop from bits) ≡ None
      → (all_eols bits ≡ count_then_more (drop from bits) (all_eols front))
      × LeavesBits bits ((all_eols front).1 ++ drop from bits)
  first_at bits is none =
      let counts = ap all_eols is ∙ (all_eols_kept 11 (drop from bits) none front (front_ends given.starts)).0 in (
        counts,
        subst (λ (f : ℕ × Bits). LeavesBits bits f.1) counts
            (count_leaves counts_plain (λ here. ([], refl)) (length bits) bits),
      )

  first_is : (bits : Bits) → (ltb 0 (all_eols front).0 || settings.end_of_line) ≡ true
      → all_eols bits ≡ count_then_more (drop from bits) (all_eols front)
      → first_line settings bits ≡ sought [] ((all_eols front).1 ++ drop from bits)
  first_is bits seeks counts = grind (arith, common_steps, seeks)

  begin : RunsAlike settings one two from after lines (first_line settings one) (first_line settings two)
  begin = let these = first_at one (sym (take-append-drop from one)) given.line_one.none in
      let those = first_at two (sym (take-append-drop from two) ∙ ap (λ (b : Bits). b ++ drop from two) (sym given.same))
      given.line_two.none in
      let sought_in = seeks one settings.end_of_line
      (elim given.sought_by [ inl e ↦ inl e | inr e ↦ inr (drop e.0 one, e.2.2) ]) in
      let seeks_too : (ltb 0 (all_eols front).0 || settings.end_of_line) ≡ true = sym
      (ap (λ (f : ℕ × Bits). ltb 0 f.0 || settings.end_of_line) these.0) ∙ sought_in in
      RunsAlike.ahead [] (all_eols front).1
      (all_eols_kept 11 (drop from one) given.line_one.none front (front_ends given.starts)).1 these.1 those.1
      (first_is one seeks_too these.0) (first_is two seeks_too those.0)

  -- so readings end alike
  ends_alike : EndsAlike settings one two from after lines (end_of settings one) (end_of settings two)
  ends_alike = let late : Progress
      → Ending = λ run. record { rows = run.rows; has_eols = run.has_eols; outcome = Err UnexpectedEof } in
      let first : Bits → Progress = first_line settings in
      let other = not_group4 settings.encoding given.line_one.group3 in
      rw (end_t4 settings one other, end_t4 settings two other)
      (reached_follows (move_on settings) (late (first one)) left_to_read (move_shrinks settings wide) (move_on settings)
      (late (first two)) left_to_read (move_shrinks settings wide) (RunsAlike settings one two from after lines)
      (EndsAlike settings one two from after lines) (first one) (first two) (λ s t reached other_reached. moves_alike settings
      one two from after lines given (λ t. repeated (move_on settings) (late (first two)) (suc (left_to_read t)) t) s t
      (λ rows e f. (grind (arith, common_steps)))) (suc (suc (length (first one).rest))) (suc (suc (length (first two).rest)))
      (left_below (first one)) (left_below (first two)) begin)

  -- and rows and results are alike
  damage : AreWholeBytes one → AreWholeBytes two → Differ
  damage whole_one whole_two = answers_alike whole_one whole_two ends_alike

-- also if there are no columns
pub damage_alike : (settings : DecodeSettings) (one two : Bits) (from : ℕ) (after : Bits) (lines : ℕ)
    → LinesDiffer settings one two from after lines → AreWholeBytes one → AreWholeBytes two
    → RowsAlike (suc lines) (Begun settings one two from) (plain settings one).rows (plain settings two).rows × EndAlike settings
    one two from (suc lines) (plain settings one).rows (plain settings one).outcome (plain settings two).outcome
damage_alike settings one two from after lines given whole_one whole_two = elim (cases_lt 0 settings.columns) [
  | inl wide ↦ damage settings one two from after lines given wide whole_one whole_two
  | inr none ↦ grind (arith, common_steps, cond-true, eq-eqb)
]

-- ---- One-dimensional data

-- if at most one row differs it is replaced
one_row_differs : (settings : DecodeSettings) (one two : Bits) (from : ℕ) (rows others : List Row)
    → RowsAlike 1 (Begun settings one two from) rows others → OneRowDiffers settings one two from rows others
one_row_differs settings one two from rows others (inl e) = inl (sym e)
one_row_differs settings one two from rows others (inr (before, [], [], more, same, few, e, f, begins)) = inl (f ∙ sym e)
one_row_differs settings one two from rows others (inr (before, a ∷ [], b ∷ [], more, same, few, e, f, begins)) =
    grind (arith, common_steps, set_at before a more b (length before) refl)
one_row_differs settings one two from rows others (inr (before, [], b ∷ those, more, same, few, e, f, begins)) = absurd
    (omega (arith, same))
one_row_differs settings one two from rows others (inr (before, a ∷ these, [], more, same, few, e, f, begins)) = absurd
    (omega (arith, same))
one_row_differs settings one two from rows others (inr (before, a ∷ c ∷ these, b ∷ those, more, same, few, e, f, begins)) = absurd
    (omega (arith, few))
one_row_differs settings one two from rows others (inr (before, a ∷ [], b ∷ d ∷ those, more, same, few, e, f, begins)) = absurd
    (omega (arith, same))

-- the law
pub locality : Locality
locality settings one are whole_one two from to to2 whole_two differ =
    let both = damage_alike settings one two from local_one.closes.0 0 lines_differ whole_one whole_two in
    (one_row_differs settings one two from (plain settings one).rows (plain settings two).rows both.0, both.1)
  where
    local_one : IsLocal settings one from to
    local_one = differ.body

    local_two : IsLocal settings two from to2
    local_two = differ.other

    same_after : local_two.closes.0 ≡ local_one.closes.0
    same_after = grind (arith, common_steps)

    lines_differ : LinesDiffer settings one two from local_one.closes.0 0
    lines_differ = record {
      line_one = line_in_1d settings one from to local_one;
      line_two = subst (IsLineIn settings two (drop from two)) same_after (line_in_1d settings two from to2 local_two);
      fits_one = omega (arith, local_one.order, local_one.within);
      fits_two = omega (arith, local_two.order, local_two.within);
      same = differ.before;
      starts = local_one.starts;
      sought_by = differ.sought;
      stays_one = λ rows reached. stays_1d settings one from to local_one (row_before settings.columns rows);
      stays_two = grind (arith, common_steps, stays_1d settings two from to2 local_two, local_two, same_after);
      settles = grind (arith, sought_line_is);
    }

-- a run with the rows and the result of the plain reading has what the law says
pub damage_stays_in_row : (settings : DecodeSettings) (bits : Bits) (rows : List Row) (outcome : Result ℕ DecodeError)
    → AreSettings settings → AreWholeBytes bits → rows ≡ (plain settings bits).rows → outcome ≡ (plain settings bits).outcome
    → DamageStaysInRow settings bits rows outcome
damage_stays_in_row settings bits rows outcome are whole rows_are outcome_is =
    rw (rows_are, outcome_is) (locality settings bits are whole)
