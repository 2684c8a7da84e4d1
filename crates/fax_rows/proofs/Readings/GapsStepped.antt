-- What a step in a gap leaves, whatever the data is.
use Rattle.fax_rows.proofs.Names.{◌≡◌, ◌∙◌, ◌+◌, ◌≤◌, ap, sym, subst, arith, length, drop, true, false, ℕ, Bool, Bits, Ok}
use Rattle.fax_rows.proofs.Names.{Context, DecodeSettings, EncodingMode, IsStanding}
use Rattle.fax_rows.proofs.Names.{ReachesNextLine, ended, is_at_line, line_after}
use Rattle.fax_rows.proofs.Names.{drop-drop, length-append, length-drop, refl, Group3_1D, Group3_2D, Group4, at_end}
use Rattle.fax_rows.proofs.Names.{is_over, limit_met, misses_eol, seen, inl, inr, eqb, here}
use Rattle.fax_rows.proofs.Names.{AfterRow, Stand, RowsRead, Result, DecodeError, Held, missed_since, stand_after, start_after}
use Rattle.std.proofs.Common.{◌&&◌, ◌++◌, ◌∷◌, [], append-nil, replicate, zero, suc, ◌<◌, not}
use Rattle.std.proofs.lemmas.Bool.{and_parts, eqb-true}
use Rattle.std.proofs.lemmas.List.{drop-append-le}
use Rattle.fax_rows.proofs.Readings.GapsCame.{IsPassed, eols_at_end, in_gap_after, misses_at_one, passed_at_end}
use Rattle.fax_rows.proofs.Readings.GapsCame.{none_missed_at_two, passed_at_one, passed_at_two, past_two}
use Rattle.fax_rows.proofs.Readings.GapsCounted.{counted_then, none_missing, zeros_alone}
use Rattle.fax_rows.proofs.Readings.GapsOpen.{counted_is_open}
use Rattle.fax_rows.specs.declared.gap_count.GapCount.{GapCount}
use Rattle.fax_rows.specs.declared.row_reader.RowState.{RowState}
use Rattle.fax_rows.specs.GapsCounted.{ComesByCounts, EndsAtOne, EndsAtTwo, EndsWithZeros, LacksEolHere, LiesAt, StandsInGap}
use Rattle.fax_rows.specs.GapsCounted.{StaysOpen, WaitsInGap, ends_at_two, has_tags, none_counted, past_eols}
use Rattle.fax_rows.specs.RowsTried.{rows_after_gap}

-- ---- The bits here, in the data

module _ {whole : Bits} {dropped : ℕ} {bits more : Bits} (lies : LiesAt whole dropped bits more) (place : ℕ)
    (within : place ≤ length bits) where
  pub bits_here : drop (dropped + place) whole ≡ drop place bits ++ more
  bits_here = sym (drop-drop place dropped whole) ∙ ap (drop place) lies.are ∙ drop-append-le place bits more within

  pub here_within : dropped + place ≤ length whole
  here_within = omega (
    arith,
    within,
    lies.within,
    ap length lies.are,
    length-drop dropped whole,
    length-append bits more,
  )

-- ---- Where a gap begins

module _ {from : ℕ} {rows : RowState} {ctx : Context} {whole : Bits} {at : ℕ} {count : GapCount}
    (in_gap : StandsInGap from rows ctx whole at count) (no_eols : count.eols ≡ 0) (no_zeros : count.zeros ≡ 0) where
  nothing_gone : in_gap.gone ≡ []
  nothing_gone = sym (append-nil in_gap.gone)
      ∙ (zeros_alone (has_tags ctx.held.settings.encoding) (ends_at_two ctx.held.settings.encoding ctx.held.settings.end_of_block)
      none_counted in_gap.gone count in_gap.is no_eols).1 []
      ∙ ap (λ (n : ℕ). replicate n false ++ []) no_zeros

  starts_here : in_gap.start ≡ at
  starts_here = omega (arith, in_gap.place, ap length nothing_gone)

-- so many EOLs need no look at a tag
past_none : (encoding : EncodingMode) (n : ℕ) (here : Bits) → n ≡ 0 → past_eols encoding (n, here) ≡ (n, here)
past_none Group3_1D n here none = refl
past_none Group4 n here none = refl
past_none Group3_2D n [] none = refl
past_none Group3_2D n (false ∷ here) none = refl
past_none Group3_2D n (true ∷ here) none = rw (none) refl

not_not : (b : Bool) → not (not b) ≡ b
not_not true = refl
not_not false = refl

-- what is seen of a reading before a gap is the same from anywhere in it
seen_anywhere : (rows : RowState) (ctx : Context) (whole : Bits) {new : RowsRead} {answer : Result Bool DecodeError} (from to : ℕ)
    → ReachesNextLine (seen rows ctx (record { bits = whole; place = from })) new answer
    → ReachesNextLine (seen rows ctx (record { bits = whole; place = to })) new answer
seen_anywhere rows ctx whole from to reaches = record {
  settings = reaches.settings;
  bits = reaches.bits;
  counts = reaches.counts;
  taken = reaches.taken;
  line = reaches.line;
  unended = reaches.unended;
  end = reaches.end;
  error = reaches.error;
  fault_start = reaches.fault_start;
  missed = reaches.missed;
  last = reaches.last;
  last_start = reaches.last_start;
}

-- ---- A step

module _ {from : ℕ} {rows : RowState} {ctx : Context} {whole : Bits} {dropped : ℕ} {before more : Bits} {place : ℕ}
    (lies : LiesAt whole dropped before more) (within : place ≤ length before) {count : GapCount}
    (in_gap : StandsInGap from rows ctx whole (dropped + place) count) (to : ℕ) (to_within : to ≤ length before) where
  abbrev settings : DecodeSettings
  settings = ctx.held.settings

  abbrev Known : drop (dropped + place) whole ≡ drop place before ++ more
  Known = bits_here lies place within

  -- where the reader is after some bits
  pub moved : (first : Bits) → drop place before ≡ first ++ drop to before → dropped + place + length first ≡ dropped + to
  moved first are = omega (
    arith,
    within,
    to_within,
    ap length are,
    length-append first (drop to before),
    length-drop place before,
    length-drop to before,
  )

  module _ {next : GapCount} (waits : StaysOpen settings count next (drop place before) (drop to before)) where
    abbrev stays : StandsInGap from rows ctx whole (dropped + place + length waits.first) next
    stays = in_gap_after in_gap (drop place before) more Known waits.first (drop to before) next waits.are waits.is

    abbrev stays_there : StandsInGap from rows ctx whole (dropped + to) next
    stays_there = record {
      start = in_gap.start;
      gone = stays.gone;
      are = stays.are ∙ ap (λ (n : ℕ). stays.gone ++ drop n whole) (moved waits.first waits.are);
      place = sym (moved waits.first waits.are) ∙ stays.place;
      within = omega (arith, stays.within, moved waits.first waits.are);
      is = stays.is;
      stands = in_gap.stands;
    }

    abbrev pub step_waits : WaitsInGap from rows ctx whole (dropped + to) next (drop to before)
    step_waits = record {
      stands = stays_there;
      unsettled = counted_is_open settings ctx.held.taken ctx.held.has_eols (stays_there.gone ++ drop to before) waits.end
          (counted_then (has_tags settings.encoding) (ends_at_two settings.encoding settings.end_of_block) none_counted next
          stays_there.gone (drop to before) stays_there.is ∙ waits.still);
      tidy = waits.tidy;
      few = waits.few;
    }

    pub none_after : 16 ≤ next.zeros → drop to before ≡ []
    none_after enough = elim waits.tail [
      | inl is ↦ absurd (omega (arith, enough, ap (λ (n : GapCount). n.zeros) is.0))
      | inr is ↦ is.1
    ]

    abbrev pub step_zeros : 16 ≤ next.zeros → EndsWithZeros from rows ctx whole (dropped + to) next (drop to before)
    step_zeros enough = record { stands = stays_there; enough = enough; none_left = none_after enough }

  -- ---- It is passed

  abbrev lacks : GapCount → Bool
  lacks now = eqb now.eols 0 && ctx.held.has_eols && not (limit_met settings ctx.held.taken)

  module _ (stand : rows.stand ≡ AfterRow) (kept : RowState) (line : Bool) (at : ℕ) (at_within : at ≤ length before) where
    comes : {n : ℕ} {after : Bits} → IsPassed in_gap (drop place before) more Known n after (dropped + at)
        → is_over settings ctx.held.taken (n, after) ≡ not line
        → ((start : ℕ) → kept ≡ rows_after_gap rows (Ok (not line)) start ctx ctx)
        → ComesByCounts from rows kept ctx whole (dropped + place) (dropped + at) line
    comes {n} {after} passed over kept_is = record {
      stands = subst (λ (r : RowState). IsStanding from r ctx (record { bits = whole; place = dropped + at }))
          (sym (kept_is in_gap.start))
          (subst (λ (o : Bool). IsStanding from (rows_after_gap rows (Ok o) in_gap.start ctx ctx) ctx
          (record { bits = whole; place = dropped + at })) over passed.stands);
      reaches = seen_anywhere rows ctx whole in_gap.start (dropped + place)
          (subst (λ (b : Bool). ReachesNextLine (seen rows ctx (record { bits = whole; place = in_gap.start }))
          (seen kept ctx (record { bits = whole; place = dropped + at })) (Ok b)) (not_not line)
          (subst (λ (r : RowState). ReachesNextLine (seen rows ctx (record { bits = whole; place = in_gap.start }))
          (seen r ctx (record { bits = whole; place = dropped + at })) (Ok (not (not line)))) (sym (kept_is in_gap.start))
          (subst (λ (o : Bool). ReachesNextLine (seen rows ctx (record { bits = whole; place = in_gap.start }))
          (seen (rows_after_gap rows (Ok o) in_gap.start ctx ctx) ctx (record { bits = whole; place = dropped + at }))
          (line_after (Ok o))) over passed.reaches)));
    }

    module _ {next : GapCount} (kept_is : (start : ℕ) → kept ≡ rows_after_gap rows (Ok (not line)) start ctx ctx) where
      pub step_one : EndsAtOne settings count next (drop place before) (drop to before) → lacks next ≡ false
          → past_eols settings.encoding (next.eols, drop to before) ≡ (next.eols, drop at before)
          → is_over settings ctx.held.taken (next.eols, drop at before) ≡ not line
          → ComesByCounts from rows kept ctx whole (dropped + place) (dropped + at) line
      step_one ends whole_eols passed over =
          comes (passed_at_one in_gap (drop place before) more Known ends passed (dropped + at) (ap (λ
          (s : Stand). ended s) stand)
          (ap is_at_line stand) (misses_at_one in_gap (drop place before) more Known ends passed ∙ whole_eols)
          (bits_here lies at at_within) (here_within lies at at_within)) over kept_is

  -- ---- At the second EOL of EOFB

  module _ {next : GapCount} (stand : rows.stand ≡ AfterRow) (kept : RowState) (line : Bool) (at : ℕ)
      (at_within : at ≤ length before)
      (kept_is : (start : ℕ) → kept ≡ rows_after_gap rows (Ok (not line)) start ctx ctx)
      (ends : EndsAtTwo settings count next (drop place before) (drop to before)) where
    pub step_two : past_eols settings.encoding (2, drop to before) ≡ (2, drop at before)
        → is_over settings ctx.held.taken (2, drop at before) ≡ not line
        → ComesByCounts from rows kept ctx whole (dropped + place) (dropped + at) line
    step_two passed over =
        let same : drop to before ≡ drop at before =
        ap (λ (x : ℕ × Bits). x.1) (sym (past_two in_gap (drop place before) more Known ends 2 (drop to before)) ∙ passed) in
        comes stand kept line at at_within (passed_at_two in_gap (drop place before) more Known ends (dropped + at)
        (ap (λ (s : Stand). ended s) stand) (ap is_at_line stand)
        (none_missed_at_two in_gap (drop place before) more Known ends)
        (bits_here lies at at_within ∙ ap (λ (b : Bits). b ++ more) (sym same)) (here_within lies at at_within))
        (ap (λ (b : Bits). is_over settings ctx.held.taken (2, b)) same ∙ over) kept_is

  -- ---- No EOL is here

  no_eols_counted : (now : GapCount) → lacks now ≡ true → now.eols ≡ 0
  no_eols_counted now is =
      eqb-true now.eols 0 (and_parts (eqb now.eols 0) ctx.held.has_eols
      (and_parts (eqb now.eols 0 && ctx.held.has_eols) (not (limit_met settings ctx.held.taken)) is).0).0

  module _ {next : GapCount} where
    module _ (ends : EndsAtOne settings count next (drop place before) (drop to before)) (is : lacks next ≡ true) where
      pub lacks_start : in_gap.start ≡ dropped + to
      lacks_start =
          starts_here (in_gap_after in_gap (drop place before) more Known ends.first (drop to before) next ends.are ends.is)
          (no_eols_counted next is) (ap (λ (n : GapCount). n.zeros) ends.last) ∙ moved ends.first ends.are

      pub step_lacks : LacksEolHere from rows ctx whole (dropped + to)
      step_lacks = record {
        stands = subst (λ (n : ℕ). IsStanding from rows ctx (record { bits = whole; place = n })) lacks_start in_gap.stands;
        misses = ap (λ (n : ℕ). misses_eol settings ctx.held.taken ctx.held.has_eols (drop n whole)) (sym lacks_start)
            ∙ misses_at_one in_gap (drop place before) more Known ends
            (past_none settings.encoding next.eols (drop to before) (no_eols_counted next is)) ∙ is;
      }

  -- ---- At the end of the data

  module _ {next : GapCount} (waits : StaysOpen settings count next (drop place before) (drop to before)) (few : next.zeros < 16)
      (last : more ≡ []) where
    last_zeros : next.zeros ≡ 0
    last_zeros = elim waits.tail [
      | inl is ↦ ap (λ (n : GapCount). n.zeros) is.0
      | inr is ↦ absurd (omega (arith, few, is.0))
    ]

    module _ (none : next.eols ≡ 0) where
      starts_at_end : in_gap.start ≡ dropped + to
      starts_at_end = starts_here (in_gap_after in_gap (drop place before) more Known waits.first (drop to before) next waits.are
          waits.is) none last_zeros ∙ moved waits.first waits.are

      bits_at_end : drop in_gap.start whole ≡ drop to before
      bits_at_end = ap (λ (n : ℕ). drop n whole) starts_at_end ∙ bits_here lies to to_within
          ∙ ap (λ (b : Bits). drop to before ++ b) last ∙ append-nil (drop to before)

      misses_end : misses_eol settings ctx.held.taken ctx.held.has_eols (drop in_gap.start whole)
          ≡ (lacks next && not (at_end (drop to before)))
      misses_end =
          ap (λ (x : ℕ × Bits). eqb x.0 0 && ctx.held.has_eols && not (limit_met settings ctx.held.taken)
          && not (at_end (drop in_gap.start whole)))
          (eols_at_end in_gap (drop place before) more Known waits few last
          (past_none settings.encoding next.eols (drop to before) none))
          ∙ ap (λ (b : Bits). lacks next && not (at_end b)) bits_at_end

    module _ (is : (lacks next && not (at_end (drop to before))) ≡ true) where
      pub lacks_start_at_end : in_gap.start ≡ dropped + to
      lacks_start_at_end = starts_at_end (no_eols_counted next (and_parts (lacks next) (not (at_end (drop to before))) is).0)

      pub step_lacks_at_end : LacksEolHere from rows ctx whole (dropped + to)
      step_lacks_at_end =
          let none = no_eols_counted next (and_parts (lacks next) (not (at_end (drop to before))) is).0 in
          record {
            stands = subst (λ (n : ℕ). IsStanding from rows ctx (record { bits = whole; place = n })) (starts_at_end none)
                in_gap.stands;
            misses = ap (λ (n : ℕ). misses_eol settings ctx.held.taken ctx.held.has_eols (drop n whole))
                (sym (starts_at_end none)) ∙ misses_end none ∙ is;
          }

    module _ (stand : rows.stand ≡ AfterRow) (kept : RowState) (line : Bool) (at : ℕ) (at_within : at ≤ length before)
        (kept_is : (start : ℕ) → kept ≡ rows_after_gap rows (Ok (not line)) start ctx ctx)
        (passed : past_eols settings.encoding (next.eols, drop to before) ≡ (next.eols, drop at before)) where
      none_missed_at_end : (n : ℕ) → next.eols ≡ n → (lacks next && not (at_end (drop to before))) ≡ false
          → misses_eol settings ctx.held.taken ctx.held.has_eols (drop in_gap.start whole) ≡ false
      none_missed_at_end zero e other = misses_end e ∙ other
      none_missed_at_end (suc n) e other =
          none_missing settings ctx.held.taken ctx.held.has_eols (drop in_gap.start whole) (drop at before ++ more) next.eols
          (eols_at_end in_gap (drop place before) more Known waits few last passed) (omega (arith, e))

      pub step_end : (lacks next && not (at_end (drop to before))) ≡ false
          → is_over settings ctx.held.taken (next.eols, drop at before) ≡ not line
          → ComesByCounts from rows kept ctx whole (dropped + place) (dropped + at) line
      step_end other over =
          comes stand kept line at at_within (passed_at_end in_gap (drop place before) more Known waits few last passed
          (dropped + at) (ap (λ (s : Stand). ended s) stand) (ap is_at_line stand)
          (none_missed_at_end next.eols refl other) (bits_here lies at at_within) (here_within lies at at_within)) over kept_is

-- ---- What is kept after a gap in which nothing was missed depends on what the context holds alone

pub after_gap_by_held : (rows : RowState) (over : Result Bool DecodeError) (place : ℕ) (old new : Context) → new.held ≡ old.held
    → rows_after_gap rows over place new new ≡ rows_after_gap rows over place old old
after_gap_by_held rows over place old new same = ap (λ (h : Held). record {
  started_at = start_after over place rows.started_at;
  damage = rows.damage;
  cut = rows.cut;
  missed = missed_since h.repairs h.repairs.missed place;
  stand = stand_after over;
}) same
