use Rattle.fax_feeds.proofs.Names.{◌≡◌, ◌∙◌, ◌+◌, ◌≤◌, ◌<◌, ◌++◌, [], ap, sym}
use Rattle.fax_feeds.proofs.Names.{subst, refl, arith, length, drop, true, false, ℕ, Bool, Some, Ok}
use Rattle.fax_feeds.proofs.Names.{Bits, Held, Result, Option, DecodeError, here, is_at_line}
use Rattle.fax_feeds.proofs.Names.{length-drop, false≢true}
use Rattle.fax_rows.specs.declared.gap_count.GapStep.{GapStep}
use Rattle.fax_rows.specs.declared.gap_count.GapCount.{GapCount}
use Rattle.fax_rows.specs.declared.row_reader.RowState.{RowState}
use Rattle.fax_rows.specs.GapsCounted.{KeepsRows, StepLeaves, left_before}
use Rattle.fax_rows.proofs.Readings.ZerosLast.{ends_in_zeros, zeros_start}
use Rattle.fax_feeds.specs.declared.counted_gaps.GapSoFar.{GapSoFar}
use Rattle.fax_feeds.specs.declared.gap_look.GapLook.{GapLook}
use Rattle.fax_feeds.specs.CountedGaps.{CameSoFar, StandsSoFar}
use Rattle.fax_feeds.proofs.Readings.GapsCountedOn.{CountsOn, step_counts_on}
use Rattle.fax_feeds.specs.GapsSeen.{IsSeen, nothing_seen, rules_for}
use Rattle.fax_feeds.proofs.Readings.GapsSoFar.{came_before, eol_is_passed, kept_tag, kept_zeros}
use Rattle.fax_feeds.proofs.Readings.GapsSoFar.{missed_counts, reaches_before, same_frame, settled_counts}
use Rattle.fax_feeds.proofs.Readings.GapsSoFar.{tag_counted, zeros_come}
use Rattle.std.proofs.lemmas.Bool.{false_from_ne_true}
use Rattle.fax_feeds.proofs.Readings.LooksKept.{fresh_look, unlooked}
use Rattle.fax_feeds.specs.RowFeeds.{ComesOn, LieIn, of_settled_gap}
use Rattle.fax_rows.specs.ZerosLast.{EndsInZeros, PassesZeros}
use Rattle.std.specs.Prelude.{◌^◌}
use Rattle.fax_feeds.proofs.Readings.RowsFed.{code_said, from_place, line_said, passed_some, place_within}
use Rattle.fax_feeds.proofs.counted_gaps.come_by_counts.Goals.{After-bit_pos-place}
use Rattle.fax_feeds.proofs.counted_gaps.come_by_counts.Goals as goal

went_on : (c : After-bit_pos-place) → CountsOn c.args.is_last c.args.rows.now c.step_in_gap-step.new.rows c.args.gap.now.count
    c.step_in_gap-step.new.count c.args.ctx.now c.step_in_gap-step.new.ctx c.args.reader.now c.step_in_gap-step.new.reader
    c.step_in_gap-step.result
went_on c = let step = c.step_in_gap-step.ensures in step_counts_on step.steps step.moves step.kept step.says step.eol step.work

-- what was kept between two rows is unchanged
kept_by : (c : After-bit_pos-place) (step : GapStep) → c.step_in_gap-step.result ≡ step
    → KeepsRows step c.args.rows.now c.step_in_gap-step.new.rows
kept_by c step is = subst (λ (s : GapStep). KeepsRows s c.args.rows.now c.step_in_gap-step.new.rows) is
    c.step_in_gap-step.ensures.kept.1

-- a gap is here
away : (c : After-bit_pos-place) → is_at_line c.args.rows.now.stand ≡ false
away c = ap is_at_line c.requires.after

pub pass_to_zeros-line-requires-clause-after : goal.pass_to_zeros-line-requires-clause-after
pass_to_zeros-line-requires-clause-after c =
    let at = (goal.at.pass_to_zeros-line-requires-clause-after c).After-bit_pos-place in
    ap (λ (r : RowState). r.stand) (kept_by at GapStep.Zeros c.in-Zeros.is) ∙ c.requires.after

pub pass_to_zeros-line-requires-clause-enough : goal.pass_to_zeros-line-requires-clause-enough
pass_to_zeros-line-requires-clause-enough c = omega (arith, (c.step_in_gap-step.ensures.says.zeros c.in-Zeros.is).1)

pub pass_settled_gap-requires-in-Missed-clause-after : goal.pass_settled_gap-requires-in-Missed-clause-after
pass_settled_gap-requires-in-Missed-clause-after c =
    let at = (goal.at.pass_settled_gap-requires-in-Missed-clause-after c).After-bit_pos-place in
    ap (λ (r : RowState). r.stand) (kept_by at GapStep.Missed c.in-Missed.is) ∙ c.requires.after

pub pass_settled_gap-requires-in-Missed-clause-seen : goal.pass_settled_gap-requires-in-Missed-clause-seen
pass_settled_gap-requires-in-Missed-clause-seen c =
    fresh_look (rules_for true c.step_in_gap-step.new.ctx.held) (here c.step_in_gap-step.new.reader)
    (ap (λ (g : GapSoFar). g.look) c.no_gap-in-Missed.ensures)

-- nothing was seen of it
unseen : (held : Held) (look : GapLook) (gap : Bits) → IsSeen (rules_for true held) look gap → look.bits ≤ 0 → look ≡ nothing_seen
unseen held look gap known none = unlooked known (omega (arith, none))

pub returns-in-Waits : goal.returns-in-Waits
returns-in-Waits c =
    let at = (goal.at.returns-in-Waits c).After-bit_pos-place in
    let on = went_on at in
    let step = c.step_in_gap-step in
    let before = c.args.reader.now in
    record {
      extra = on.extra;
      counts = omega (arith, on.ticks);
      space = on.space;
      frame = same_frame c.args.ctx.now.held step.new.ctx.held on.held;
      same_bits = on.same_bits;
      within = on.within;
      line = λ e. cc;
      at_line = λ line. absurd (false≢true (sym (away at) ∙ line));
      only_code = tt;
      near = λ e. omega (arith, on.near, c.if-gap-gt0.false);
      looks = λ some. omega (arith, on.near, on.within, ap length on.same_bits, c.if-gap-gt0.false);
      waits = λ e. (
        on.held,
        on.ticks,
        false_from_ne_true c.args.is_last (λ last. on.says.waits last c.in-Waits.is),
        kept_by at GapStep.Waits c.in-Waits.is,
      );
      seen = λ e. fresh_look (rules_for true c.args.ctx.now.held) (here step.new.reader)
          (unseen c.args.ctx.now.held c.args.gap.now.look (here before) c.requires.seen (omega (arith, c.if-gap-gt0.false)));
      known = record {
        waits = λ e. let stays = on.says.stays c.in-Waits.is in (stays.tidy, c.requires.some, stays.most);
        few = λ e none. (on.says.stays c.in-Waits.is).few;
        passed = λ other. absurd (other refl);
        zeros = λ zeros. absurd (false≢true (sym c.requires.some ∙ zeros));
        missed = λ some. absurd (omega (arith, some, c.if-gap-gt0.false));
      };
      passes = λ from whole lie stands e. cc;
      leaves = λ from whole lie stands.
          let leaves = subst (λ (s : GapStep). StepLeaves s (from + on.extra) c.args.rows.now step.new.rows step.new.ctx whole
          stands.in_gap.start c.args.dropped step.new.count before step.new.reader) c.in-Waits.is
          (on.leaves from whole c.args.dropped lie stands.in_gap) in (
            record {
              stands = record {
                in_gap = leaves.0.stands;
                passed = omega (
                  arith,
                  c.saturating_add-gap.ensures,
                  c.bit_pos-before.ensures.place,
                  c.bit_pos-place.ensures.place,
                  c.bit_pos-place.ensures.within,
                  on.onward,
                  ap length on.same_bits,
                  c.requires.fits,
                  stands.passed,
                  leaves.1,
                );
                missed = λ some. absurd (omega (arith, some, c.if-gap-gt0.false));
              };
              start_is = leaves.1;
              unsettled = leaves.0.unsettled;
            },
            leaves.2,
          );
    }

line_of : (line : Bool) → ◌≡◌ {A = Result (Option Bool) DecodeError} (Ok (Some line)) (Ok (Some true)) → line ≡ true
line_of true e = refl
line_of false e = absurd cc

pub returns-in-Passed : goal.returns-in-Passed
returns-in-Passed c =
    let at = (goal.at.returns-in-Passed c).After-bit_pos-place in
    let on = went_on at in
    let step = c.step_in_gap-step in
    let before = c.args.reader.now in
    let none : c.no_gap.result.passed ≡ 0 = ap (λ (g : GapSoFar). g.passed) c.no_gap.ensures in
    let leaves_of = λ (from : ℕ) (whole : Bits) (lie : LieIn whole c.args.dropped c.args.is_last before.bits)
    (stands : StandsSoFar from c.args.rows.now c.args.ctx.now whole (c.args.dropped + before.place) c.args.gap.now).
    subst (λ (s : GapStep). StepLeaves s (from + on.extra) c.args.rows.now step.new.rows step.new.ctx whole
    stands.in_gap.start c.args.dropped step.new.count before step.new.reader) c.in-Passed.is
    (on.leaves from whole c.args.dropped lie stands.in_gap) in
    let passed_true : ◌≡◌ {A = Result (Option Bool) DecodeError} (Ok (Some c.in-Passed.line)) (Ok (Some true))
    → step.result ≡ GapStep.Passed true =
    λ e. c.in-Passed.is ∙ ap (λ (b : Bool). GapStep.Passed b) (line_of c.in-Passed.line e) in
    record {
      extra = on.extra;
      counts = omega (arith, on.ticks);
      space = on.space;
      frame = same_frame c.args.ctx.now.held step.new.ctx.held on.held;
      same_bits = on.same_bits;
      within = on.within;
      line = λ e. on.line (passed_true e);
      at_line = λ line. absurd (false≢true (sym (away at) ∙ line));
      only_code = tt;
      near = λ e. cc;
      looks = λ some. omega (arith, on.near, on.within, ap length on.same_bits, c.if-gap-gt0.false);
      waits = λ e. cc;
      seen = λ e. cc;
      known = record {
        waits = λ e. cc;
        few = λ e. cc;
        passed = λ other zeros. c.no_gap.ensures;
        zeros = λ zeros. absurd (false≢true (sym (ap (λ (g : GapSoFar). g.at_zeros) c.no_gap.ensures) ∙ zeros));
        missed = λ some. absurd (omega (arith, some, ap (λ (g : GapSoFar). g.look.bits) c.no_gap.ensures));
      };
      passes = λ from whole lie stands e. record {
        near = λ more. omega (arith, on.near, on.onward, none, c.if-gap-gt0.false);
        last = λ last. omega (arith, on.near, on.onward, none, stands.passed);
        past_eol = λ more no_line sought.
            let eol = eol_is_passed c.args.ctx.now.held.settings stands.in_gap.gone c.args.gap.now.count (here before)
            (here step.new.reader) stands.in_gap.start stands.in_gap.is (on.eol (passed_true e) more sought) in
            record {
              fill = eol.fill;
              after = eol.after;
              place = eol.place;
              passed = omega (
                arith,
                eol.passed,
                none,
                stands.in_gap.place,
                on.onward,
                on.within,
                ap length on.same_bits,
                length-drop before.place before.bits,
                length-drop step.new.reader.place step.new.reader.bits,
              );
            };
      };
      leaves = λ from whole lie stands.
          let leaves = leaves_of from whole lie stands in
          record {
            place = c.args.dropped + step.new.reader.place;
            place_is = omega (arith, none);
            onward = λ e. omega (arith, stands.passed, on.onward);
            stands = leaves.stands;
            reaches = reaches_before c.args.rows.now c.args.ctx.now step.new.ctx whole (c.args.dropped + before.place)
                stands.in_gap.start on.held (omega (arith, on.ticks)) leaves.reaches;
            zeros = λ e. absurd (false≢true (sym (ap (λ (g : GapSoFar). g.at_zeros) c.no_gap.ensures) ∙ e));
          };
    }

pub returns-in-Zeros : goal.returns-in-Zeros
returns-in-Zeros c =
    let at = (goal.at.returns-in-Zeros c).After-bit_pos-place in
    let on = went_on at in
    let step = c.step_in_gap-step in
    let call = c.pass_to_zeros-line in
    let before = c.args.reader.now in
    let old = c.args.ctx.now in
    let mid = step.new.ctx in
    let to = step.new.reader.place in
    let rows = c.args.rows.now in
    let same = kept_by at GapStep.Zeros c.in-Zeros.is in
    let says = on.says.zeros c.in-Zeros.is in
    let unlooked_so : c.args.gap.now.look ≡ nothing_seen =
    unseen old.held c.args.gap.now.look (here before) c.requires.seen (omega (arith, c.if-gap-gt0.false)) in
    let to_within : to ≤ length before.bits = omega (arith, on.within, ap length on.same_bits) in
    let next : GapSoFar = record {
      count = call.new.count;
      passed = c.bits_left-gap.result;
      at_zeros = true;
      look = c.args.gap.now.look;
    } in
    let leaves_now = λ (from : ℕ) (whole : Bits) (lie : LieIn whole c.args.dropped c.args.is_last before.bits)
    (stands : StandsSoFar from rows old whole (c.args.dropped + before.place) c.args.gap.now).
    (let leaves = subst (λ (s : GapStep). StepLeaves s (from + on.extra) rows step.new.rows mid whole
    stands.in_gap.start c.args.dropped step.new.count before step.new.reader) c.in-Zeros.is
    (on.leaves from whole c.args.dropped lie stands.in_gap) in
    let start = leaves.0.stands.start in
    let ends : drop (c.args.dropped + to) whole ≡ [] =
    from_place lie to to_within ∙ ap (λ (b : Bits). drop to b ++ lie.more) (sym on.same_bits)
    ∙ ap (λ (b : Bits). b ++ lie.more) leaves.0.none_left ∙ lie.can_come.none says.0 in
    let last : c.args.dropped + to ≡ length whole =
    omega (arith, place_within lie to to_within, ap length ends, length-drop (c.args.dropped + to) whole) in
    let zeros = subst (λ (r : RowState). EndsInZeros (from + on.extra) r mid whole start step.new.count) (sym same)
    (ends_in_zeros leaves.0.stands ends) in
    let passes = subst (λ (r : RowState). PassesZeros (from + on.extra) r call.new.rows mid call.new.ctx whole start
    call.new.count call.result) same
    (call.ensures.passes (from + on.extra) whole start zeros (λ none. omega (
      arith,
      zeros_start leaves.0.stands none,
      c.saturating_sub-start.ensures,
      c.bit_pos-place.ensures.place,
    ))) in
    let long : length (left_before call.new.count []) ≤ length whole =
    omega (arith, ap length passes.here, length-drop passes.place whole) in
    let all : length whole < 2 ^ 64 =
    omega (arith, last, to_within, c.requires.fits) in
    let left : c.bits_left-gap.result ≡ length (left_before call.new.count []) =
    c.bits_left-gap.ensures (omega (arith, long, all)) in
    let tagged = λ (t : call.new.count.tag ≡ true).
    ap (λ (h : Held). h.settings.encoding) call.ensures.frame.held
    ∙ tag_counted mid.held.settings leaves.0.stands.gone step.new.count leaves.0.stands.is
    (kept_tag mid.held.settings.encoding step.new.count (sym (ap (λ (n : GapCount). n.tag) call.ensures.count) ∙ t)) in
    let comes = came_before (of_settled_gap call.result) (from + on.extra) rows call.new.rows old mid call.new.ctx whole start
    (c.args.dropped + to) next step.new.reader on.held (omega (arith, on.ticks))
    (zeros_come next step.new.reader call.result passes last left refl tagged) in
    subst (λ (r : Result (Option Bool) DecodeError). CameSoFar r (from + on.extra) rows call.new.rows old call.new.ctx whole
    stands.in_gap.start (c.args.dropped + to) next step.new.reader) (sym c.of_settled_gap.ensures)
    (subst (λ (n : ℕ). CameSoFar (of_settled_gap call.result) (from + on.extra) rows call.new.rows old call.new.ctx whole n
    (c.args.dropped + to) next step.new.reader) leaves.1 comes)) in
    record {
      extra = on.extra;
      counts = omega (arith, on.ticks, call.ensures.frame.ticks);
      space = call.ensures.frame.space ∙ on.space;
      frame = subst (λ (h : Held). call.new.ctx.held ≡ record h {
        has_eols = call.new.ctx.held.has_eols;
        repairs = call.new.ctx.held.repairs;
      }) on.held call.ensures.frame.held;
      same_bits = on.same_bits;
      within = on.within;
      line = λ e. ap is_at_line (call.ensures.stand (line_said call.result (sym c.of_settled_gap.ensures ∙ e)));
      at_line = λ line. absurd (false≢true (sym (away at) ∙ line));
      only_code = rw (c.of_settled_gap.ensures) (code_said call.result call.ensures.only_code);
      near = λ e. absurd (passed_some call.result (sym c.of_settled_gap.ensures ∙ e));
      looks = λ some. omega (arith, on.near, on.within, ap length on.same_bits, c.if-gap-gt0.false);
      waits = λ e. absurd (passed_some call.result (sym c.of_settled_gap.ensures ∙ e));
      seen = λ e. absurd (passed_some call.result (sym c.of_settled_gap.ensures ∙ e));
      known = record {
        waits = λ e. absurd (passed_some call.result (sym c.of_settled_gap.ensures ∙ e));
        few = λ e. absurd (passed_some call.result (sym c.of_settled_gap.ensures ∙ e));
        passed = λ other zeros. absurd (false≢true (sym zeros));
        zeros = λ zeros. (
          says.0,
          omega (
            arith,
            says.1,
            ap (λ (n : GapCount). n.zeros) call.ensures.count,
            kept_zeros mid.held.settings.encoding step.new.count,
          ),
          unlooked_so,
        );
        missed = λ some. absurd (omega (arith, some, c.if-gap-gt0.false));
      };
      passes = λ from whole lie stands e.
          let comes = subst (λ (r : Result (Option Bool) DecodeError). CameSoFar r (from + on.extra) rows call.new.rows old
          call.new.ctx whole stands.in_gap.start (c.args.dropped + to) next step.new.reader) e
          (leaves_now from whole lie stands) in
          record {
            near = λ more. absurd (false≢true (sym more ∙ says.0));
            last = λ last. omega (arith, on.near, comes.onward refl, comes.place_is, stands.passed);
            past_eol = λ more. absurd (false≢true (sym more ∙ says.0));
          };
      leaves = leaves_now;
    }

pub returns-then-gap-gt0 : goal.returns-then-gap-gt0
returns-then-gap-gt0 c =
    let call = c.pass_settled_gap in
    let known = c.requires.missed (omega (arith, c.if-gap-gt0.true)) in
    settled_counts c.args.dropped call.new.look known (ap (λ (g : GapSoFar). record g { look = call.new.look }) known)
    (omega (arith, c.bit_pos-before.ensures.place))
    (omega (arith, c.bit_pos-before.ensures.place, c.bit_pos-before.ensures.within))
    (ap is_at_line c.requires.after) call.result call.ensures (λ e. omega (arith, c.if-gap-gt0.true))

pub returns-in-Missed : goal.returns-in-Missed
returns-in-Missed c =
    let at = (goal.at.returns-in-Missed c).After-bit_pos-place in
    let step = c.step_in_gap-step in
    let call = c.pass_settled_gap-in-Missed in
    let rows = c.args.rows.now in
    let same = kept_by at GapStep.Missed c.in-Missed.is in
    let first = subst (λ (r : RowState). CountsOn c.args.is_last rows r c.args.gap.now.count step.new.count c.args.ctx.now
    step.new.ctx c.args.reader.now step.new.reader GapStep.Missed) same
    (subst (λ (s : GapStep). CountsOn c.args.is_last rows step.new.rows c.args.gap.now.count step.new.count c.args.ctx.now
    step.new.ctx c.args.reader.now step.new.reader s) c.in-Missed.is (went_on at)) in
    let on = subst (λ (r : RowState). ComesOn c.args.is_last (c.args.dropped + c.bit_pos-place.result) r call.new.rows
    nothing_seen call.new.look step.new.ctx call.new.ctx step.new.reader call.new.reader call.result) same
    (subst (λ (l : GapLook). ComesOn c.args.is_last (c.args.dropped + c.bit_pos-place.result) step.new.rows call.new.rows l
    call.new.look step.new.ctx call.new.ctx step.new.reader call.new.reader call.result)
    (ap (λ (g : GapSoFar). g.look) c.no_gap-in-Missed.ensures) call.ensures) in
    missed_counts c.args.dropped c.args.gap.now call.new.look (omega (arith, c.if-gap-gt0.false))
    (ap (λ (g : GapSoFar). record g { look = call.new.look }) c.no_gap-in-Missed.ensures)
    (omega (arith, c.bit_pos-place.ensures.place)) (away at) call.result first on
