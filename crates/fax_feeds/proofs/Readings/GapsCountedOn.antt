-- What a step in a gap leaves of a feed, with the work that was counted for it.
use Rattle.fax_feeds.proofs.Names.{◌≡◌, ◌∙◌, ◌+◌, ◌-◌, ◌≤◌, ap, subst, refl, true, false, ℕ, Bool, Bits, BitsAt, Context, Held}
use Rattle.fax_feeds.proofs.Names.{drop, length, here, is_at_line, arith, common_steps}
use Rattle.std.proofs.Common.{◌++◌}
use Rattle.fax_reading.specs.GapsContinued.{gap_is_settled}
use Rattle.fax_reading.specs.PlainReading.{misses_eol}
use Rattle.fax_rows.specs.declared.gap_count.GapCount.{GapCount}
use Rattle.fax_rows.specs.declared.gap_count.GapStep.{GapStep}
use Rattle.fax_rows.specs.declared.row_reader.RowState.{RowState}
use Rattle.fax_rows.specs.GapsCounted.{ComesByCounts, EndsWithZeros, LacksEolHere, LiesAt, StandsInGap, StepLeaves, WaitsInGap}
use Rattle.fax_rows.specs.GapsCounted.{CountsEol, KeepsRows, StepSays, StepsInGap, counted_by, none_counted}
use Rattle.fax_lines.specs.Counting.{OnlyCounts}
use Rattle.fax_feeds.specs.RowFeeds.{LieIn}
use Rattle.fax_feeds.proofs.Readings.RowsFed.{stands_later}

-- the bits kept lie in the data
pub lies_at : {whole : Bits} {dropped : ℕ} {finished : Bool} {kept : Bits} → (lie : LieIn whole dropped finished kept)
    → LiesAt whole dropped kept lie.more
lies_at lie = record { within = lie.within; are = lie.bits }

module _ (from more : ℕ) (rows : RowState) (old new : Context) (whole : Bits) (held : new.held ≡ old.held)
    (ticks : new.ticks ≡ old.ticks + more) where
  -- it stands in the gap as it stood
  abbrev pub in_gap_later : {at : ℕ} {count : GapCount} → StandsInGap from rows old whole at count
      → StandsInGap (from + more) rows new whole at count
  in_gap_later {at} {count} in_gap = record {
    start = in_gap.start;
    gone = in_gap.gone;
    are = in_gap.are;
    place = in_gap.place;
    within = in_gap.within;
    is = ap (λ (h : Held). counted_by h.settings none_counted in_gap.gone) held ∙ in_gap.is;
    stands = stands_later from more rows old new (record { bits = whole; place = in_gap.start }) held ticks in_gap.stands;
  }

  abbrev pub waits_later : {at : ℕ} {count : GapCount} {after : Bits} → WaitsInGap from rows old whole at count after
      → WaitsInGap (from + more) rows new whole at count after
  waits_later {at} {count} {after} waits = record {
    stands = in_gap_later waits.stands;
    unsettled = ap (λ (h : Held). gap_is_settled h.settings h.taken h.has_eols (waits.stands.gone ++ after)) held
        ∙ waits.unsettled;
    tidy = waits.tidy;
    few = waits.few;
  }

  abbrev pub zeros_later : {at : ℕ} {count : GapCount} {after : Bits} → EndsWithZeros from rows old whole at count after
      → EndsWithZeros (from + more) rows new whole at count after
  zeros_later zeros = record { stands = in_gap_later zeros.stands; enough = zeros.enough; none_left = zeros.none_left }

  lacks_later : {at : ℕ} → LacksEolHere from rows old whole at → LacksEolHere (from + more) rows new whole at
  lacks_later {at} lacks = record {
    stands = stands_later from more rows old new (record { bits = whole; place = at }) held ticks lacks.stands;
    misses = ap (λ (h : Held). misses_eol h.settings h.taken h.has_eols (drop at whole)) held ∙ lacks.misses;
  }

  comes_later : {kept : RowState} {before at : ℕ} {line : Bool} → ComesByCounts from rows kept old whole before at line
      → ComesByCounts (from + more) rows kept new whole before at line
  comes_later {kept} {before} {at} {line} comes = record {
    stands = stands_later from more kept old new (record { bits = whole; place = at }) held ticks comes.stands;
    reaches = grind (arith, common_steps, comes.reaches);
  }

  pub step_later : (step : GapStep) (kept : RowState) (start dropped : ℕ) (count : GapCount) (before after : BitsAt)
      → StepLeaves step from rows kept old whole start dropped count before after
      → StepLeaves step (from + more) rows kept new whole start dropped count before after
  step_later GapStep.Waits kept start dropped count before after leaves = (waits_later leaves.0, leaves.1, leaves.2)
  step_later GapStep.Zeros kept start dropped count before after leaves = (zeros_later leaves.0, leaves.1, leaves.2)
  step_later GapStep.Missed kept start dropped count before after leaves = (lacks_later leaves.0, leaves.1, leaves.2)
  step_later (GapStep.Passed line) kept start dropped count before after leaves = comes_later leaves

-- ---- The whole step

-- What a call leaves that goes on in a gap after a row, of which this was counted: each bit that is looked at is a tick, and
-- few of them are beyond where the call came.
pub record CountsOn (is_last : Bool) (rows kept : RowState) (count next : GapCount) (old new : Context) (before after : BitsAt)
    (step : GapStep) : Type 0 where
  pub extra : ℕ
  pub held : new.held ≡ old.held
  pub ticks : new.ticks ≡ old.ticks + extra
  pub space : new.space ≡ old.space
  pub near : extra + before.place ≤ after.place + 16
  pub onward : before.place ≤ after.place
  pub same_bits : after.bits ≡ before.bits
  pub within : after.place ≤ length after.bits
  pub says : StepSays is_last count next (here before) (here after) step
  pub same : KeepsRows step rows kept
  pub eol : step ≡ GapStep.Passed true → is_last ≡ false → old.held.has_eols ≡ true
      → CountsEol old.held.settings count (here before) (here after)
  pub line : step ≡ GapStep.Passed true → is_at_line kept.stand ≡ true
  pub leaves : (from : ℕ) (whole : Bits) (dropped : ℕ) → LieIn whole dropped is_last before.bits
      → (in_gap : StandsInGap from rows old whole (dropped + before.place) count)
      → StepLeaves step (from + extra) rows kept new whole in_gap.start dropped next before after

pub step_counts_on : {is_last : Bool} {rows kept : RowState} {count next : GapCount} {old new : Context} {before after : BitsAt}
    {step : GapStep} → StepsInGap is_last rows kept old count next before after step
    → (after.bits ≡ before.bits) × (before.place ≤ after.place) × (after.place ≤ length after.bits)
    → OnlyCounts old new × KeepsRows step rows kept → StepSays is_last count next (here before) (here after) step
    → (step ≡ GapStep.Passed true → is_last ≡ false → old.held.has_eols ≡ true
    → CountsEol old.held.settings count (here before) (here after))
    → new.ticks + before.place ≤ old.ticks + after.place + 16
    → CountsOn is_last rows kept count next old new before after step
step_counts_on {rows = rows} {kept} {next = next} {old} {new} {before} {after} {step} steps moves keeps says eol work =
    let extra = new.ticks - old.ticks in
    let ticks : new.ticks ≡ old.ticks + extra = omega (arith, keeps.0.counts) in
    record {
      extra = extra;
      held = keeps.0.held;
      ticks = ticks;
      space = keeps.0.space;
      near = omega (arith, keeps.0.counts, work);
      onward = moves.1;
      same_bits = moves.0;
      within = moves.2;
      says = says;
      same = keeps.1;
      eol = eol;
      line = λ e. ap is_at_line (subst (λ (s : GapStep). KeepsRows s rows kept) e keeps.1 refl);
      leaves = λ from whole dropped lie in_gap. step_later from extra rows old new whole keeps.0.held ticks step kept
          in_gap.start dropped next before after
          (steps from whole lie.more dropped (lies_at lie) lie.can_come.none in_gap);
    }
