use Rattle.fax_rows.proofs.Names.{◌≡◌, ◌∙◌, ◌≤◌, ap, sym, subst, refl, arith}
use Rattle.fax_rows.proofs.Names.{common_steps, length, drop, here, true, false, false≢true, ℕ, Bool}
use Rattle.fax_rows.specs.RowsTried.{rows_after_gap}
use Rattle.std.proofs.Common.{◌+◌, ◌<◌}
use Rattle.fax_rows.proofs.Names.{Bits, BitsAt, Context, DecodeSettings, Held, Ok, eqb, limit_met, at_end, is_over}
use Rattle.std.proofs.Common.{◌&&◌, ◌∷◌, not}
use Rattle.std.proofs.lemmas.Bool.{or_cases}
use Rattle.fax_rows.proofs.Names.{length-drop}
use Rattle.fax_rows.proofs.Readings.GapsTidy.{eol_before_two, some_counted, stays_counted}
use Rattle.fax_rows.specs.GapsCounted.{ends_at_two, has_tags}
use Rattle.fax_rows.specs.declared.gap_count.GapEnd.TheVariants.{AtOne, AtTwo, Open}
use Rattle.fax_rows.specs.declared.row_reader.RowState.{RowState}
use Rattle.fax_rows.specs.GapsCounted.{EndsAtOne, EndsAtTwo, EndsWithZeros, StaysOpen, WaitsInGap, past_eols}
use Rattle.fax_rows.proofs.Readings.GapsStepped.{after_gap_by_held, lacks_start, lacks_start_at_end}
use Rattle.fax_rows.proofs.Readings.GapsStepped.{step_end, step_lacks, step_lacks_at_end}
use Rattle.fax_rows.proofs.Readings.GapsStepped.{step_one, step_two, step_waits, step_zeros}
use Rattle.fax_rows.proofs.gap_count.step_in_gap.Goals.{After-bit_pos-end}
use Rattle.fax_rows.proofs.gap_count.step_in_gap.Goals.{else-lacks_eol-via-then-lacks_eol+else-not-at_end}
use Rattle.fax_rows.proofs.gap_count.step_in_gap.Goals.{else-lacks_eol-via-else-lacks_eol}
use Rattle.fax_rows.proofs.gap_count.step_in_gap.Goals as goal

module _ (c : After-bit_pos-end) where
  abbrev bits : Bits
  bits = c.args.reader.now.bits

  abbrev to : ℕ
  to = c.count_gap-end.new.reader.place

  begun : c.args.reader.now.place ≤ length bits
  begun = omega (arith, c.bit_pos-start.ensures.place, c.bit_pos-start.ensures.within)

  to_within : to ≤ length bits
  to_within = omega (
    arith,
    c.bit_pos-end.ensures.place,
    c.bit_pos-end.ensures.within,
    ap length
        c.count_gap-end.ensures.same_bits,
  )

  to_here : here c.count_gap-end.new.reader ≡ drop to bits
  to_here = ap (drop to) c.count_gap-end.ensures.same_bits

  abbrev now : Context
  now = record c.args.ctx.now { ticks = c.count_gap-end.new.ticks }

  held_same : now.held ≡ c.args.ctx.now.held
  held_same = refl

  by_settings : (P : DecodeSettings → Type 0) → P c.settings-settings.result → P c.args.ctx.now.held.settings
  by_settings P is = subst P c.settings-settings.ensures.value is

  is_open : c.count_gap-end.result ≡ Open
      → StaysOpen c.args.ctx.now.held.settings c.args.count.now c.count_gap-end.new.count (here c.args.reader.now) (drop to bits)
  is_open e = by_settings (λ (s : DecodeSettings). StaysOpen s c.args.count.now c.count_gap-end.new.count
      (here c.args.reader.now) (drop to bits))
      (subst (StaysOpen c.settings-settings.result c.args.count.now c.count_gap-end.new.count (here c.args.reader.now))
      to_here (c.count_gap-end.ensures.«open» e))

  is_at_one : c.count_gap-end.result ≡ AtOne
      → EndsAtOne c.args.ctx.now.held.settings c.args.count.now c.count_gap-end.new.count (here c.args.reader.now) (drop to bits)
  is_at_one e = by_settings (λ (s : DecodeSettings). EndsAtOne s c.args.count.now c.count_gap-end.new.count
      (here c.args.reader.now) (drop to bits))
      (subst (EndsAtOne c.settings-settings.result c.args.count.now c.count_gap-end.new.count (here c.args.reader.now))
      to_here (c.count_gap-end.ensures.ends e))

  is_at_two : c.count_gap-end.result ≡ AtTwo
      → EndsAtTwo c.args.ctx.now.held.settings c.args.count.now c.count_gap-end.new.count (here c.args.reader.now) (drop to bits)
  is_at_two e = by_settings (λ (s : DecodeSettings). EndsAtTwo s c.args.count.now c.count_gap-end.new.count
      (here c.args.reader.now) (drop to bits))
      (subst (EndsAtTwo c.settings-settings.result c.args.count.now c.count_gap-end.new.count (here c.args.reader.now))
      to_here (c.count_gap-end.ensures.two e))

  -- whether an EOL is missing, by the context before
  abbrev lacks_by : Held → Bool
  lacks_by held = eqb c.count_gap-end.new.count.eols 0 && held.has_eols && not (limit_met held.settings held.taken)

  -- the gap is passed
  module _ (kept : RowState) (line : Bool) (after : BitsAt) (n : ℕ) (same : after.bits ≡ c.count_gap-end.new.reader.bits)
      (within : after.place ≤ length after.bits) where
    after_here : here after ≡ drop after.place bits
    after_here = ap (drop after.place) (same ∙ c.count_gap-end.ensures.same_bits)

    at_within : after.place ≤ length bits
    at_within = omega (arith, within, ap length (same ∙ c.count_gap-end.ensures.same_bits))

    past_here : past_eols now.held.settings.encoding (n, here c.count_gap-end.new.reader) ≡ (n, here after)
        → past_eols c.args.ctx.now.held.settings.encoding (n, drop to bits) ≡ (n, drop after.place bits)
    past_here is = ap (λ (b : Bits). past_eols c.args.ctx.now.held.settings.encoding (n, b)) (sym to_here)
        ∙ ap (λ (h : Held). past_eols h.settings.encoding (n, here c.count_gap-end.new.reader)) (sym held_same) ∙ is
        ∙ ap (λ (b : Bits). (n, b)) after_here

    over_here : is_over now.held.settings now.held.taken (n, here after) ≡ not line
        → is_over c.args.ctx.now.held.settings c.args.ctx.now.held.taken (n, drop after.place bits) ≡ not line
    over_here is = ap (λ (b : Bits). is_over c.args.ctx.now.held.settings c.args.ctx.now.held.taken (n, b)) (sym after_here)
        ∙ ap (λ (h : Held). is_over h.settings h.taken (n, here after)) (sym held_same) ∙ is

    kept_here : ((start : ℕ) → kept ≡ rows_after_gap c.args.rows.now (Ok (not line)) start now now)
        → (start : ℕ) → kept ≡ rows_after_gap c.args.rows.now (Ok (not line)) start c.args.ctx.now c.args.ctx.now
    kept_here is start = is start ∙ after_gap_by_held c.args.rows.now (Ok (not line)) start c.args.ctx.now now held_same

pub returns-then-not-is_last-clause-steps : goal.returns-then-not-is_last-clause-steps
returns-then-not-is_last-clause-steps c from whole more dropped lies none in_gap =
    let at = (goal.at.returns-then-not-is_last-clause-steps c).After-bit_pos-end in
    let waits = step_waits lies (begun at) in_gap (to at) (to_within at) (is_open at c.in-Open.is) in
    subst (λ (b : Bits). (w : WaitsInGap from c.args.rows.now c.args.ctx.now whole (dropped + to at) c.count_gap-end.new.count b)
    × (w.stands.start ≡ in_gap.start) × (c.args.rows.now ≡ c.args.rows.now)) (sym (to_here at)) (waits, refl, refl)

pub returns-then-count-ge16-clause-steps : goal.returns-then-count-ge16-clause-steps
returns-then-count-ge16-clause-steps c from whole more dropped lies none in_gap =
    let at = (goal.at.returns-then-count-ge16-clause-steps c).After-bit_pos-end in
    let ends = step_zeros lies (begun at) in_gap (to at) (to_within at) (is_open at c.in-Open.is)
    (omega (arith, c.if-count-ge16.true)) in
    subst (λ (b : Bits). (e : EndsWithZeros from c.args.rows.now c.args.ctx.now whole (dropped + to at)
    c.count_gap-end.new.count b) × (e.stands.start ≡ in_gap.start) × (c.args.rows.now ≡ c.args.rows.now)) (sym (to_here at))
    (ends, refl, refl)

pub returns-then-not-at_end-clause-steps : goal.returns-then-not-at_end-clause-steps
returns-then-not-at_end-clause-steps c from whole more dropped lies none in_gap =
    let at = (goal.at.returns-then-not-at_end-clause-steps c).After-bit_pos-end in
    let last : c.args.is_last ≡ true = grind (arith, common_steps) in
    let some : at_end (drop (to at) (bits at)) ≡ false =
    ap at_end (sym (to_here at)) ∙ sym c.at_end.ensures.end ∙ grind (arith, common_steps) in
    let lacking = ap (lacks_by at) (sym (held_same at)) ∙ sym c.lacks_eol.ensures ∙ c.if-lacks_eol.true in
    let is = ap (λ (b : Bool). b && not (at_end (drop (to at) (bits at)))) lacking ∙ ap not some in
    let few : c.count_gap-end.new.count.zeros < 16 = omega (arith, c.if-count-ge16.false) in (
      step_lacks_at_end lies (begun at) in_gap (to at) (to_within at) (is_open at c.in-Open.is) few (none last) is,
      sym (lacks_start_at_end lies (begun at) in_gap (to at) (to_within at) (is_open at c.in-Open.is) few (none last) is),
      refl,
    )

pub returns-then-lacks_eol-2-clause-steps : goal.returns-then-lacks_eol-2-clause-steps
returns-then-lacks_eol-2-clause-steps c from whole more dropped lies none in_gap =
    let at = (goal.at.returns-then-lacks_eol-2-clause-steps c).After-bit_pos-end in
    let is = ap (lacks_by at) (sym (held_same at)) ∙ sym c.lacks_eol-in-AtOne.ensures ∙ c.if-lacks_eol-2.true in (
      step_lacks lies (begun at) in_gap (to at) (to_within at) (is_at_one at c.in-AtOne.is) is,
      sym (lacks_start lies (begun at) in_gap (to at) (to_within at) (is_at_one at c.in-AtOne.is) is),
      refl,
    )

pub returns-else-lacks_eol-clause-steps : goal.returns-else-lacks_eol-clause-steps
returns-else-lacks_eol-clause-steps c from whole more dropped lies none in_gap =
    let at = (goal.at.returns-else-lacks_eol-clause-steps c).After-bit_pos-end in
    let call = c.pass_counted in
    let n = c.count_gap-end.new.count.eols in
    let kept = call.new.rows in
    let line = call.result in
    let after = call.new.reader in
    let same = call.ensures.same_bits in
    let within = call.ensures.within in
    let last : c.args.is_last ≡ true = grind (arith, common_steps) in
    let here_lacks = ap (lacks_by at) (sym (held_same at)) ∙ sym c.lacks_eol.ensures in
    let ends = drop (to at) (bits at) in
    let other : (lacks_by at c.args.ctx.now.held && not (at_end ends)) ≡ false = elim c.else-lacks_eol.branch [
      | else-lacks_eol-via-then-lacks_eol+else-not-at_end w ↦
          let none_left : at_end ends ≡ true =
          ap at_end (sym (to_here at)) ∙ sym w.at_end.ensures.end ∙ grind (arith, common_steps) in
          ap (λ (b : Bool). lacks_by at c.args.ctx.now.held && not b) none_left ∙ and_false (lacks_by at c.args.ctx.now.held)
      | else-lacks_eol-via-else-lacks_eol w ↦
          ap (λ (b : Bool). b && not (at_end ends)) (here_lacks ∙ w.if-lacks_eol.false)
    ] in
    step_end lies (begun at) in_gap (to at) (to_within at) (is_open at c.in-Open.is) (omega (arith, c.if-count-ge16.false))
    (none last) c.requires.after kept line after.place (at_within at kept line after n same within)
    (kept_here at kept line after n same within call.ensures.kept)
    (past_here at kept line after n same within call.ensures.eols) other
    (over_here at kept line after n same within call.ensures.over)
  where
    and_false : (b : Bool) → (b && false) ≡ false
    and_false true = refl
    and_false false = refl

pub returns-else-lacks_eol-2-clause-steps : goal.returns-else-lacks_eol-2-clause-steps
returns-else-lacks_eol-2-clause-steps c from whole more dropped lies none in_gap =
    let at = (goal.at.returns-else-lacks_eol-2-clause-steps c).After-bit_pos-end in
    let call = c.pass_counted-in-AtOne in
    let n = c.count_gap-end.new.count.eols in
    let kept = call.new.rows in
    let line = call.result in
    let after = call.new.reader in
    let same = call.ensures.same_bits in
    let within = call.ensures.within in
    step_one lies (begun at) in_gap (to at) (to_within at) c.requires.after kept line after.place
    (at_within at kept line after n same within) (kept_here at kept line after n same within call.ensures.kept)
    (is_at_one at c.in-AtOne.is)
    (ap (lacks_by at) (sym (held_same at)) ∙ sym c.lacks_eol-in-AtOne.ensures ∙ c.if-lacks_eol-2.false)
    (past_here at kept line after n same within call.ensures.eols)
    (over_here at kept line after n same within call.ensures.over)

pub returns-in-AtTwo-clause-steps : goal.returns-in-AtTwo-clause-steps
returns-in-AtTwo-clause-steps c from whole more dropped lies none in_gap =
    let at = (goal.at.returns-in-AtTwo-clause-steps c).After-bit_pos-end in
    let call = c.pass_counted-in-AtTwo in
    let kept = call.new.rows in
    let line = call.result in
    let after = call.new.reader in
    let same = call.ensures.same_bits in
    let within = call.ensures.within in
    step_two lies (begun at) in_gap (to at) (to_within at) c.requires.after kept line after.place
    (at_within at kept line after 2 same within) (kept_here at kept line after 2 same within call.ensures.kept)
    (is_at_two at c.in-AtTwo.is) (past_here at kept line after 2 same within call.ensures.eols)
    (over_here at kept line after 2 same within call.ensures.over)

-- the next bits can be counted too
pub returns-then-not-is_last-clause-says : goal.returns-then-not-is_last-clause-says
returns-then-not-is_last-clause-says c =
    record {
      waits = λ last. absurd (false≢true (sym c.if-not-is_last.true ∙ last));
      stays = λ e. stays_counted c.settings-settings.result (c.count_gap-end.ensures.«open» c.in-Open.is);
      zeros = λ e. cc;
    }

-- an EOL was counted
pub returns-else-lacks_eol-2-clause-eol : goal.returns-else-lacks_eol-2-clause-eol
returns-else-lacks_eol-2-clause-eol c e unfinished sought =
    let at = (goal.at.returns-else-lacks_eol-2-clause-eol c).After-bit_pos-end in
    let call = c.pass_counted-in-AtOne in
    let ends = is_at_one at c.in-AtOne.is in
    let line : call.result ≡ true = cc in
    let unmet : limit_met c.args.ctx.now.held.settings c.args.ctx.now.held.taken ≡ false =
    grind (arith, common_steps, call.ensures.over, or_cases) in
    record {
      first = ends.first;
      rest = drop (to at) (bits at);
      are = ends.are;
      mid = c.count_gap-end.new.count;
      is = ends.is;
      some = some_counted c.count_gap-end.new.count.eols c.args.ctx.now.held.has_eols
          (limit_met c.args.ctx.now.held.settings c.args.ctx.now.held.taken)
          (ap (lacks_by at) (sym (held_same at)) ∙ sym c.lacks_eol-in-AtOne.ensures ∙ c.if-lacks_eol-2.false) sought unmet;
      onward = omega (
        arith,
        call.ensures.onward,
        ap length call.ensures.same_bits,
        ap length c.count_gap-end.ensures.same_bits,
        length-drop (to at) (bits at),
        length-drop call.new.reader.place call.new.reader.bits,
      );
    }

pub returns-in-AtTwo-clause-eol : goal.returns-in-AtTwo-clause-eol
returns-in-AtTwo-clause-eol c e unfinished sought =
    let at = (goal.at.returns-in-AtTwo-clause-eol c).After-bit_pos-end in
    let call = c.pass_counted-in-AtTwo in
    let ends = is_at_two at c.in-AtTwo.is in
    record {
      first = ends.first;
      rest = true ∷ drop (to at) (bits at);
      are = ends.are;
      mid = c.count_gap-end.new.count;
      is = ends.is;
      some = eol_before_two (has_tags c.args.ctx.now.held.settings.encoding)
          (ends_at_two c.args.ctx.now.held.settings.encoding c.args.ctx.now.held.settings.end_of_block)
          c.count_gap-end.new.count ends.enough ends.none;
      onward = omega (
        arith,
        call.ensures.onward,
        ap length call.ensures.same_bits,
        ap length c.count_gap-end.ensures.same_bits,
        length-drop (to at) (bits at),
        length-drop call.new.reader.place call.new.reader.bits,
      );
    }
