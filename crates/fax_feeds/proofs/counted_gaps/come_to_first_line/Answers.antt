use Rattle.fax_feeds.proofs.Names.{◌≡◌, ◌∙◌, ◌+◌, ◌≤◌, ◌<◌, ◌++◌, [], ap, sym, subst, refl, arith, length, drop}
use Rattle.fax_feeds.proofs.Names.{true, ℕ, Bits}
use Rattle.fax_feeds.proofs.Names.{false≢true}
use Rattle.fax_feeds.proofs.Names.{◌⊎◌, inl, inr}
use Rattle.fax_rows.specs.declared.gap_count.GapStep.{GapStep}
use Rattle.fax_rows.specs.FrontsCounted.{CountsFront, FrontLeaves, StaysUnless}
use Rattle.fax_rows.specs.GapsCounted.{left_before}
use Rattle.std.proofs.lemmas.Bool.{false_from_ne_true}
use Rattle.std.specs.Prelude.{◌^◌}
use Rattle.fax_feeds.specs.declared.counted_gaps.GapSoFar.{GapSoFar}
use Rattle.fax_feeds.specs.declared.gap_look.GapLook.{GapLook}
use Rattle.fax_feeds.specs.RowFeeds.{LieIn}
use Rattle.fax_feeds.proofs.Readings.FrontsSoFar.{front_takes, front_ticks, zeros_first, zeros_within}
use Rattle.fax_feeds.proofs.Readings.GapsCountedOn.{lies_at}
use Rattle.fax_feeds.proofs.Readings.RowsFed.{from_place, place_within}
use Rattle.fax_feeds.proofs.counted_gaps.come_to_first_line.Goals.{After-bit_pos-place}
use Rattle.fax_feeds.proofs.counted_gaps.come_to_first_line.Goals as goal

module _ (c : After-bit_pos-place) where
  begun : c.args.reader.now.place ≤ length c.args.reader.now.bits
  begun = omega (arith, c.bit_pos-before.ensures.place, c.bit_pos-before.ensures.within)

  to_within : c.step_at_front-step.new.reader.place ≤ length c.args.reader.now.bits
  to_within = omega (arith, c.step_at_front-step.ensures.moves.2, ap length c.step_at_front-step.ensures.moves.0)

  stays_unless : (step : GapStep) → c.step_at_front-step.result ≡ step
      → StaysUnless step c.args.ctx.now c.step_at_front-step.new.ctx
  stays_unless step is = subst (λ (s : GapStep). StaysUnless s c.args.ctx.now c.step_at_front-step.new.ctx) is
      c.step_at_front-step.ensures.kept.0

  zeros_is : (c.step_at_front-step.result ≡ GapStep.Zeros) ⊎ (c.step_at_front-step.result ≡ GapStep.Missed)
      → c.step_at_front-step.result ≡ GapStep.Zeros
  zeros_is (inl is) = is
  zeros_is (inr missed) = absurd (stays_unless GapStep.Missed missed)

  leaves_by : (step : GapStep) → c.step_at_front-step.result ≡ step → (whole : Bits) (dropped : ℕ)
      → LieIn whole dropped c.args.is_last c.args.reader.now.bits
      → CountsFront c.args.ctx.now.held.settings whole (dropped + c.args.reader.now.place) c.args.gap.now.count
      → FrontLeaves step c.args.ctx.now c.step_at_front-step.new.ctx whole (dropped + c.step_at_front-step.new.reader.place)
      c.step_at_front-step.new.count c.step_at_front-step.new.reader
  leaves_by step is whole dropped lie front = subst (λ (s : GapStep). FrontLeaves s c.args.ctx.now c.step_at_front-step.new.ctx
      whole (dropped + c.step_at_front-step.new.reader.place) c.step_at_front-step.new.count c.step_at_front-step.new.reader) is
      (c.step_at_front-step.ensures.steps whole lie.more dropped (lies_at lie) lie.can_come.none front)

pub returns-in-Waits : goal.returns-in-Waits
returns-in-Waits c =
    let at = (goal.at.returns-in-Waits c).After-bit_pos-place in
    let step = c.step_at_front-step in
    record {
      takes = step.ensures.kept.1;
      same_bits = step.ensures.moves.0;
      within = step.ensures.moves.2;
      onward = step.ensures.moves.1;
      near = step.ensures.work;
      waits = λ e. (
        stays_unless at GapStep.Waits c.in-Waits.is,
        false_from_ne_true c.args.is_last (λ last. step.ensures.says.waits last c.in-Waits.is),
      );
      known = record {
        waits = λ e. let stays = step.ensures.says.stays c.in-Waits.is in (stays.tidy, c.requires.some, stays.most);
        few = λ e none. (step.ensures.says.stays c.in-Waits.is).few;
        passed = λ other. absurd (other refl);
        zeros = λ zeros. absurd (false≢true (sym c.requires.some ∙ zeros));
        missed = λ some. absurd (omega (arith, some, ap (λ (l : GapLook). l.bits) c.requires.unlooked));
      };
      unlooked = c.requires.unlooked;
      passed = λ e fit. omega (
        arith,
        c.saturating_add-gap.ensures,
        c.bit_pos-before.ensures.place,
        c.bit_pos-place.ensures.place,
        step.ensures.moves.1,
        fit,
      );
      leaves = λ whole dropped fit lie front passed.
          let leaves = leaves_by at GapStep.Waits c.in-Waits.is whole dropped lie front in
          record {
            stands = leaves.stands;
            passed = omega (
              arith,
              c.saturating_add-gap.ensures,
              c.bit_pos-before.ensures.place,
              c.bit_pos-place.ensures.place,
              step.ensures.moves.1,
              place_within lie step.new.reader.place (to_within at),
              fit,
              passed,
            );
            unsettled = leaves.unsettled;
          };
    }

pub returns-in-Passed : goal.returns-in-Passed
returns-in-Passed c =
    let at = (goal.at.returns-in-Passed c).After-bit_pos-place in
    let step = c.step_at_front-step in
    let none : c.no_gap.result.passed ≡ 0 = ap (λ (g : GapSoFar). g.passed) c.no_gap.ensures in
    record {
      takes = step.ensures.kept.1;
      same_bits = step.ensures.moves.0;
      within = step.ensures.moves.2;
      onward = step.ensures.moves.1;
      near = step.ensures.work;
      waits = λ e. cc;
      known = record {
        waits = λ e. cc;
        few = λ e. cc;
        passed = λ other zeros. c.no_gap.ensures;
        zeros = λ zeros. absurd (false≢true (sym (ap (λ (g : GapSoFar). g.at_zeros) c.no_gap.ensures) ∙ zeros));
        missed = λ some. absurd (omega (arith, some, ap (λ (g : GapSoFar). g.look.bits) c.no_gap.ensures));
      };
      unlooked = ap (λ (g : GapSoFar). g.look) c.no_gap.ensures;
      passed = λ e. cc;
      leaves = λ whole dropped fit lie front passed. record {
        place = dropped + step.new.reader.place;
        place_is = omega (arith, none);
        within = place_within lie step.new.reader.place (to_within at);
        passes = leaves_by at (GapStep.Passed c.in-Passed.line) c.in-Passed.is whole dropped lie front;
        zeros = λ zeros. absurd (false≢true (sym (ap (λ (g : GapSoFar). g.at_zeros) c.no_gap.ensures) ∙ zeros));
      };
    }

pub returns-in-Zeros : goal.returns-in-Zeros
returns-in-Zeros c =
    let at = (goal.at.returns-in-Zeros c).After-bit_pos-place in
    let step = c.step_at_front-step in
    let call = c.pass_front in
    let is = zeros_is at c.in-Zeros.is in
    let same = stays_unless at GapStep.Zeros is in
    let last = (step.ensures.says.zeros is).0 in
    let takes = front_takes step.new.count.eols same step.ensures.kept.1 call.ensures.group4 call.ensures.group3 in
    let to = step.new.reader.place in
    record {
      takes = takes;
      same_bits = step.ensures.moves.0;
      within = step.ensures.moves.2;
      onward = step.ensures.moves.1;
      near = omega (
        arith,
        step.ensures.work,
        front_ticks step.new.count.eols same step.ensures.kept.1 call.ensures.group4 call.ensures.group3,
      );
      waits = λ e. cc;
      known = record {
        waits = λ e. cc;
        few = λ e. cc;
        passed = λ other zeros. absurd (false≢true (sym zeros));
        zeros = λ zeros. (last, (step.ensures.says.zeros is).1, c.requires.unlooked);
        missed = λ some. absurd (omega (arith, some, ap (λ (l : GapLook). l.bits) c.requires.unlooked));
      };
      unlooked = c.requires.unlooked;
      passed = λ e. cc;
      leaves = λ whole dropped fit lie front passed.
          let ends = leaves_by at GapStep.Zeros is whole dropped lie front in
          let none_left : drop (dropped + to) whole ≡ [] =
          from_place lie to (to_within at) ∙ ap (λ (b : Bits). drop to b ++ lie.more) (sym step.ensures.moves.0)
          ∙ ap (λ (b : Bits). b ++ lie.more) ends.none_left ∙ lie.can_come.none last in
          let within = place_within lie to (to_within at) in
          let left : length (left_before step.new.count []) < 2 ^ 64 =
          omega (arith, fit, zeros_within ends none_left) in
          zeros_first step.new.count.eols same step.ensures.kept.1 call.ensures.group4 call.ensures.group3 whole (dropped + to)
          (record { count = step.new.count; passed = c.bits_left-gap.result; at_zeros = true; look = c.args.gap.now.look }) refl
          ends none_left within c.requires.fresh c.requires.wide (c.bits_left-gap.ensures left);
    }
