use Rattle.fax_rows.proofs.Names.{◌≡◌, ◌∙◌, ◌≤◌, ◌+◌, ap, sym, subst, arith, common_steps, length, drop, here, ℕ}
use Rattle.fax_rows.proofs.Names.{Bits, DecodeSettings, at_end, false≢true}
use Rattle.std.proofs.Common.{[], ◌++◌, append-nil}
use Rattle.fax_rows.specs.declared.gap_count.GapEnd.TheVariants.{AtOne, AtTwo, Open}
use Rattle.fax_rows.specs.FrontsCounted.{FrontEndsWithZeros, WaitsAtFront, front_rules}
use Rattle.fax_rows.specs.GapsCounted.{EndsAtOne, EndsAtTwo, StaysOpen}
use Rattle.fax_rows.proofs.Readings.FrontsCounted.{front_last, front_one, front_over}
use Rattle.fax_rows.proofs.Readings.FrontsCounted.{front_two, front_waits, front_zeros, passes_front}
use Rattle.fax_rows.proofs.Readings.GapsStepped.{bits_here, here_within}
use Rattle.fax_rows.proofs.Readings.GapsTidy.{stays_counted}
use Rattle.fax_rows.proofs.front_count.step_at_front.Goals.{After-bit_pos-end}
use Rattle.fax_rows.proofs.front_count.step_at_front.Goals as goal

module _ (c : After-bit_pos-end) where
  abbrev bits : Bits
  bits = c.args.reader.now.bits

  abbrev to : ℕ
  to = c.count_gap-end.new.reader.place

  abbrev settings : DecodeSettings
  settings = c.args.ctx.now.held.settings

  begun : c.args.reader.now.place ≤ length bits
  begun = omega (arith, c.bit_pos-start.ensures.place, c.bit_pos-start.ensures.within)

  to_within : to ≤ length bits
  to_within = omega (
    arith,
    c.bit_pos-end.ensures.place,
    c.bit_pos-end.ensures.within,
    ap length
        c.count_gap-end.ensures.same_bits,
  )

  to_here : here c.count_gap-end.new.reader ≡ drop to bits
  to_here = ap (drop to) c.count_gap-end.ensures.same_bits

  rules_are : c.front_rules-rules.result ≡ front_rules settings
  rules_are = c.front_rules-rules.ensures ∙ ap front_rules c.settings.ensures.value

  is_open : c.count_gap-end.result ≡ Open
      → StaysOpen (front_rules settings) c.args.count.now c.count_gap-end.new.count (here c.args.reader.now) (drop to bits)
  is_open e = subst (λ (s : DecodeSettings). StaysOpen s c.args.count.now c.count_gap-end.new.count (here c.args.reader.now)
      (drop to bits)) rules_are
      (subst (StaysOpen c.front_rules-rules.result c.args.count.now c.count_gap-end.new.count (here c.args.reader.now))
      to_here (c.count_gap-end.ensures.«open» e))

  is_at_one : c.count_gap-end.result ≡ AtOne
      → EndsAtOne (front_rules settings) c.args.count.now c.count_gap-end.new.count (here c.args.reader.now) (drop to bits)
  is_at_one e = subst (λ (s : DecodeSettings). EndsAtOne s c.args.count.now c.count_gap-end.new.count (here c.args.reader.now)
      (drop to bits)) rules_are
      (subst (EndsAtOne c.front_rules-rules.result c.args.count.now c.count_gap-end.new.count (here c.args.reader.now))
      to_here (c.count_gap-end.ensures.ends e))

  is_at_two : c.count_gap-end.result ≡ AtTwo
      → EndsAtTwo (front_rules settings) c.args.count.now c.count_gap-end.new.count (here c.args.reader.now) (drop to bits)
  is_at_two e = subst (λ (s : DecodeSettings). EndsAtTwo s c.args.count.now c.count_gap-end.new.count (here c.args.reader.now)
      (drop to bits)) rules_are
      (subst (EndsAtTwo c.front_rules-rules.result c.args.count.now c.count_gap-end.new.count (here c.args.reader.now))
      to_here (c.count_gap-end.ensures.two e))

pub returns-then-not-is_last-clause-steps : goal.returns-then-not-is_last-clause-steps
returns-then-not-is_last-clause-steps c whole more dropped lies none front =
    let at = (goal.at.returns-then-not-is_last-clause-steps c).After-bit_pos-end in
    subst (WaitsAtFront (settings at) whole (dropped + to at) c.count_gap-end.new.count) (sym (to_here at))
    (front_waits (settings at) lies (begun at) front (to at) (to_within at) (is_open at c.in-Open.is) c.requires.wide)

pub returns-then-not-is_last-clause-says : goal.returns-then-not-is_last-clause-says
returns-then-not-is_last-clause-says c =
    record {
      waits = λ last. absurd (false≢true (sym c.if-not-is_last.true ∙ last));
      stays = λ e. stays_counted c.front_rules-rules.result (c.count_gap-end.ensures.«open» c.in-Open.is);
      zeros = λ e. cc;
    }

pub returns-then-count-ge16-clause-steps : goal.returns-then-count-ge16-clause-steps
returns-then-count-ge16-clause-steps c whole more dropped lies none front =
    let at = (goal.at.returns-then-count-ge16-clause-steps c).After-bit_pos-end in
    subst (FrontEndsWithZeros (settings at) whole (dropped + to at) c.count_gap-end.new.count) (sym (to_here at))
    (front_zeros (settings at) lies (begun at) front (to at) (to_within at) (is_open at c.in-Open.is)
    (omega (arith, c.if-count-ge16.true)))

pub returns-else-count-ge16-clause-steps : goal.returns-else-count-ge16-clause-steps
returns-else-count-ge16-clause-steps c whole more dropped lies none front =
    let at = (goal.at.returns-else-count-ge16-clause-steps c).After-bit_pos-end in
    let call = c.pass_front in
    let last : more ≡ [] = none (grind (arith, common_steps)) in
    let next = dropped + to at in
    let there : drop next whole ≡ here c.count_gap-end.new.reader =
    bits_here lies (to at) (to_within at) ∙ ap (λ (b : Bits). drop (to at) (bits at) ++ b) last
    ∙ append-nil (drop (to at) (bits at)) ∙ sym (to_here at) in
    passes_front c.args.ctx.now call.new.ctx c.count_gap-end.new.ticks whole next c.count_gap-end.new.count.eols call.result
    c.requires.fresh c.requires.wide (here_within lies (to at) (to_within at))
    (front_last (settings at) lies (begun at) front (to at) (to_within at) (is_open at c.in-Open.is)
    (omega (arith, c.if-count-ge16.false)) last)
    (λ four. (
      (call.ensures.group4 four).0,
      (call.ensures.group4 four).1 (drop next whole)
          (c.at_end.ensures.end ∙ ap at_end (sym there)),
    ))
    call.ensures.group3

pub returns-in-AtOne-clause-steps : goal.returns-in-AtOne-clause-steps
returns-in-AtOne-clause-steps c whole more dropped lies none front =
    let at = (goal.at.returns-in-AtOne-clause-steps c).After-bit_pos-end in
    let call = c.pass_front-in-AtOne in
    let next = dropped + to at in
    let found = front_one (settings at) lies (begun at) front (to at) (to_within at) (is_at_one at c.in-AtOne.is) in
    passes_front c.args.ctx.now call.new.ctx c.count_gap-end.new.ticks whole next c.count_gap-end.new.count.eols call.result
    c.requires.fresh c.requires.wide (here_within lies (to at) (to_within at)) found.0
    (λ four. ((call.ensures.group4 four).0, (call.ensures.group4 four).1 (drop next whole) (sym found.1)))
    call.ensures.group3

pub returns-in-AtTwo-clause-steps : goal.returns-in-AtTwo-clause-steps
returns-in-AtTwo-clause-steps c whole more dropped lies none front =
    let at = (goal.at.returns-in-AtTwo-clause-steps c).After-bit_pos-end in
    let call = c.pass_front-in-AtTwo in
    let next = dropped + to at in
    let ends = is_at_two at c.in-AtTwo.is in
    passes_front c.args.ctx.now call.new.ctx c.count_gap-end.new.ticks whole next 2 call.result
    c.requires.fresh c.requires.wide (here_within lies (to at) (to_within at))
    (front_two (settings at) lies (begun at) front (to at) (to_within at) ends)
    (λ four. (
      (call.ensures.group4 four).0,
      front_over (settings at) lies (begun at) front (to at) (to_within at) ends four c.args.ctx.now.held.taken
          (here c.count_gap-end.new.reader) (drop next whole)
          ∙ (call.ensures.group4 four).1 (here c.count_gap-end.new.reader) c.at_end-in-AtTwo.ensures.end,
    ))
    call.ensures.group3
