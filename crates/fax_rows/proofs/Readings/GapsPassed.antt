-- Rows one at a time: the gap before the next line is passed, in data of which a reader may hold a part.
use Rattle.fax_rows.proofs.Names.{common_steps}
use Rattle.fax_rows.proofs.Names.{OnErr, IfOk, Ok, Err, ℕ, ◌-◌, ◌≤◌, length-drop, ◌≡◌, ◌∙◌, Bool, None, false}
use Rattle.fax_rows.proofs.Names.{Result, length, drop, ap, sym, subst, arith, refl, on_err_weaker}
use Rattle.fax_rows.proofs.Names.{DecodeError, line_after, DecodeSettings, Bits, Held, Repairs, failed_at, Context}
use Rattle.fax_rows.proofs.Names.{ReachesNextLine, ReaderStands, start_after, stand_after, IsStanding, ended, is_at_line}
use Rattle.fax_rows.proofs.Names.{StandsAfterRow, WorkIsPaid, missed_before, missed_since, seen}
use Rattle.fax_rows.proofs.Names.{looked, looked_ahead, ◌++◌, [], ◌∷◌, true, EncodingMode, Group3_1D, Group3_2D}
use Rattle.fax_rows.proofs.Names.{Group4, gap_said}
use Rattle.fax_rows.proofs.Names.{◌⊎◌, inl, inr, append-nil, length-append, on_ok_weaker}
use Rattle.fax_reading.specs.GapsContinued.{gap_before, gap_is_settled}
use Rattle.fax_reading.proofs.GapsContinued.SettledGaps.{gap_settled, repairs_after-more}
use Rattle.fax_reading.proofs.Readings.DamageCounted.{repaired_after}
use Rattle.fax_rows.proofs.Work.CallsPaid.{after_row_paid, gap_paid}
use Rattle.fax_rows.proofs.Readings.RowByRow.{starts_following, after_row_stands, damage_stays, misses_after_row, misses_passed}
use Rattle.fax_rows.proofs.Readings.RowByRow.{misses_after, miss_reported, reported_after, gap_stands, comes_to_line}
use Rattle.fax_rows.specs.declared.row_reader.RowState.{RowState}
use Rattle.fax_rows.specs.RowsTried.{PassesGap, rows_after_gap}

-- if a gap has no fault, the offset of the last row's line is unchanged
start_kept : (over : Result Bool DecodeError) (place before : ℕ) → IfOk over (λ b. start_after over place before ≡ before)
start_kept (Ok b) place before = refl
start_kept (Err error) place before = tt

module _ (from : ℕ) (rows : RowState) (old new : Context) (bits : Bits) (place next : ℕ) (over : Result Bool DecodeError)
    (passes : PassesGap old new over (drop place bits) (drop next bits)) (begun : place ≤ length bits)
    (within : next ≤ length bits)
    (unended : ended rows.stand ≡ None) (no_line : is_at_line rows.stand ≡ false)
    (stands : IsStanding from rows old (record { bits = bits; place = place })) where
  abbrev held : Held
  held = old.held

  abbrev last : Held
  last = new.held

  abbrev here_now : Bits
  here_now = drop place bits

  -- the reading is after a row
  is_after_row : StandsAfterRow held.settings bits held here_now
  is_after_row = after_row_stands rows.stand held.settings bits held place unended no_line stands.0

  -- a faulty gap leaves EOLs sought as they were
  eols_kept : OnErr over (last.has_eols ≡ held.has_eols)
  eols_kept = on_err_weaker over (λ same. ap (λ (h : Held). h.has_eols) same) passes.unchanged

  -- where the reading is after the gap
  passed : ReaderStands (stand_after over) held.settings bits last next
  passed = grind (arith, common_steps, gap_stands, held, here_now, is_after_row, last, eols_kept)

  gap_start : place ≡ length bits - length here_now
  gap_start = omega (arith, begun, length-drop place bits)

  -- the offset of its fault, if it has one
  started : OnErr over (start_after over place rows.started_at ≡ failed_at held.settings bits held.taken)
  started = grind (arith, common_steps, starts_following, held, here_now, is_after_row, last, gap_start)

  -- where its EOL was missed
  reported : missed_since last.repairs held.repairs.missed place ≡ missed_before held.settings bits held.taken
  reported = grind (arith, common_steps, miss_reported, misses_after_row, held, here_now, is_after_row, last, gap_start)

  -- what was counted is paid
  paid : WorkIsPaid from (stand_after over) held.settings bits last next new.ticks
  paid =
      let work = stands.2 in
      let row = after_row_paid from rows.stand held.settings bits held place old.ticks unended no_line work.paid in
      record {
        words = grind (arith, common_steps, held);
        paid = gap_paid from held.settings is_after_row.wide bits held here_now old.ticks row last next new.ticks
            passes.held over
            passes.gap passes.given_up passes.work passes.work_given_up passes.work_refused;
      }

  pub gap_stays : IsStanding from (rows_after_gap rows over place old new) new (record { bits = bits; place = next })
  gap_stays =
      let same : last.settings ≡ held.settings = ap (λ (h : Held). h.settings) passes.held in
      let taken : last.taken ≡ held.taken = ap (λ (h : Held). h.taken) passes.held in
      let stand = stand_after over in
      let missed = misses_passed held.settings bits held here_now is_after_row
      (misses_after_row rows.stand held.settings bits held unended no_line stands.1.misses) last passes.missed taken in
      let counted = damage_stays rows.stand stand held.settings last.settings bits bits held last same
      refl taken (ap (λ (r : Repairs). r.rows) passes.missed ∙ (repaired_after held here_now).0)
      (ap (λ (r : Repairs). r.cut) passes.missed ∙ (repaired_after held here_now).2) stands.1
      (misses_after over held.settings bits last missed) in
      let now = missed_since last.repairs held.repairs.missed place in (
        subst (λ (s : DecodeSettings). ReaderStands stand s bits last next) (sym same) passed,
        counted,
        subst (λ (s : DecodeSettings). WorkIsPaid from stand s bits last next new.ticks) (sym same) paid,
        reported_after over last.settings bits last.taken now
            (subst (λ (n : ℕ). now ≡ missed_before last.settings bits n) (sym taken)
            (subst (λ (s : DecodeSettings). now ≡ missed_before s bits held.taken) (sym same) reported)),
      )

  pub gap_reaches : ReachesNextLine (seen rows old (record { bits = bits; place = place }))
      (seen (rows_after_gap rows over place old new) new (record { bits = bits; place = next })) (line_after over)
  gap_reaches = grind (arith, common_steps, comes_to_line, last, held, start_kept, passed, started, reported)

-- ---- A gap that no data that follows changes

-- the bits that counting zeros examines are no fewer with more bits after
pub looked-more : (here more : Bits) → looked here ≤ looked (here ++ more)
looked-more [] more = omega arith
looked-more (false ∷ here) more = omega (arith, looked-more here more)
looked-more (true ∷ here) more = omega arith

looked_ahead-more : (encoding : EncodingMode) (here more : Bits) → looked_ahead encoding here ≤ looked_ahead encoding
    (here ++ more)
looked_ahead-more Group3_1D here more = looked-more here more
looked_ahead-more Group3_2D [] more = omega arith
looked_ahead-more Group3_2D (bit ∷ here) more = looked-more here more
looked_ahead-more Group4 here more = looked-more here more

-- what a gap said is the same with more bits after
said-more : (more : Bits) (over : Result Bool DecodeError) (has_eols : Bool) (rest : Bits)
    → gap_before more (gap_said over has_eols rest) ≡ gap_said over has_eols (rest ++ more)
said-more more (Ok true) has_eols rest = refl
said-more more (Ok false) has_eols rest = refl
said-more more (Err e) has_eols rest = refl

-- so a gap is passed also where more bits follow, if they change nothing of it
pub gap_goes_on : (old new : Context) (over : Result Bool DecodeError) (start rest more : Bits)
    → (more ≡ []) ⊎ (gap_is_settled old.held.settings old.held.taken old.held.has_eols start ≡ true)
    → PassesGap old new over start rest → PassesGap old new over (start ++ more) (rest ++ more)
gap_goes_on old new over start rest more (inl none) passes =
    subst (λ (m : Bits). PassesGap old new over (start ++ m) (rest ++ m)) (sym none)
    (subst (λ (s : Bits). PassesGap old new over s (rest ++ [])) (sym (append-nil start))
    (subst (PassesGap old new over start) (sym (append-nil rest)) passes))
gap_goes_on old new over start rest more (inr settled) passes =
    let held = old.held in
    record {
      gap = gap_settled held.settings held.taken held.has_eols start settled more ∙ ap (gap_before more) passes.gap
          ∙ said-more more over new.held.has_eols rest;
      held = passes.held;
      missed = passes.missed ∙ sym (repairs_after-more held start more settled);
      given_up = passes.given_up;
      only_code = passes.only_code;
      unchanged = passes.unchanged;
      put_back = on_err_weaker over (λ same. ap (λ (b : Bits). b ++ more) same) passes.put_back;
      counts = passes.counts;
      work = on_ok_weaker over (λ work kept. omega (
        arith,
        work kept,
        length-append rest more,
        length-append start more,
        looked_ahead-more held.settings.encoding rest more,
      )) passes.work;
      work_given_up = on_ok_weaker over (λ work given_up. omega (arith, work given_up, length-append start more))
          passes.work_given_up;
      work_refused = on_err_weaker over (λ work. omega (arith, work, looked-more start more)) passes.work_refused;
    }
