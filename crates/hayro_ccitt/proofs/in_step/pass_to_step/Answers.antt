use Rattle.hayro_ccitt.proofs.Names.{common_steps}
use Rattle.hayro_ccitt.proofs.Names.{rules, ◌≡◌, ◌+◌, ◌*◌, ◌≤◌, length, Some, sym, ap, ◌∙◌, arith, IsTrue, ◌↔◌}
use Rattle.hayro_ccitt.proofs.Names.{BitsAt, here, after_eol, next_eol, eols_here, EndsByWords, looked}
use Rattle.hayro_ccitt.proofs.Names.{most_for_lines, Group3_2D, ComesBefore1D, false≢true}
use Rattle.hayro_ccitt.proofs.DamagedLines.LinesPassed.{eol_passed}
use Rattle.hayro_ccitt.proofs.KeptRows.StepsReported.{reported_by, no_step_beyond, step_next, eols_work, line_test_work}
use Rattle.fax_bits.proofs.BitReading.ConsecutiveEols.{next_eol_found}
use Rattle.fax_reading.proofs.DamagedLines.EolsAlike.{one_alone}
use Rattle.hayro_ccitt.proofs.in_step.pass_to_step.Goals.{After-line_ends_before, After-needs_no_reference}
use Rattle.hayro_ccitt.proofs.in_step.pass_to_step.Goals as goal

-- one EOL was counted
alone : (c : After-line_ends_before) → eols_here c.args.ctx.now.held.settings (here c.args.reader.now)
    ≡ (1, here c.copy-line.result)
alone c = grind (arith, common_steps, c.is_alone.ensures.0 c.if-not-is_alone.false)

-- the next one, and what follows it
next : (c : After-line_ends_before) → (next_eol (here c.copy-line.result) ≡ Some (here c.skip_to_eol.new.self))
    × (after_eol 0 (here c.skip_to_eol.new.self) ≡ Some (here c.pass_eol.new.reader))
next c = grind (arith, common_steps, eol_passed, next_eol_found)

-- whether the line ends before it
ends : (c : After-line_ends_before) → IsTrue c.line_ends_before.result
    ↔ EndsByWords c.args.ctx.now.held.settings.encoding c.args.ctx.now.held.settings.columns (here c.pass_eol.new.reader)
    (here c.copy-line.result)
ends c = grind (arith, common_steps)

-- what was counted so far
counted : (c : After-line_ends_before) → (c.args.ctx.now.ticks ≤ c.line_ends_before.new.ctx.ticks)
    × (c.line_ends_before.new.ctx.ticks + 2 * length (here c.skip_to_eol.new.self) + 3
    ≤ c.args.ctx.now.ticks + most_for_lines (length (here c.args.reader.now)))
counted c =
    let settings = c.args.ctx.now.held.settings in
    let begun = here c.args.reader.now in
    let line = here c.copy-line.result in
    let found = here c.skip_to_eol.new.self in
    let after = here c.pass_eol.new.reader in
    let same = ap (λ (at : BitsAt). length (here at)) c.copy-line.ensures.value in
    let none = (one_alone settings begun line c.requires.group3 (alone c)).0.1 in
    let skipped = c.if-not-skip_to_eol.ensures.ticks in
    let look = ap (λ (at : BitsAt). looked (here at)) c.copy-end.ensures.value in
    let tested = c.line_ends_before.ensures.at_most found after none (next c).0 (next c).1 in
    let first = eols_work settings.encoding begun (here c.read_eols.new.reader) c.args.ctx.now.ticks c.read_eols.new.ctx.ticks
    c.read_eols.ensures.work in (
      omega (
        arith,
        c.read_eols.ensures.only_ticks.counts,
        c.ticks.ensures.value,
        skipped,
        (next_eol_found (here c.read_eols.new.reader) found c.if-not-skip_to_eol.ensures.next).0,
        c.ticks-2.ensures.value,
        c.pass_eol.ensures.ticks,
        c.line_ends_before.ensures.only_ticks.counts,
      ),
      line_test_work settings begun line found after c.args.ctx.now.ticks c.read_eols.new.ctx.ticks c.skip_to_eol.new.ticks
          c.pass_eol.new.ticks c.line_ends_before.new.ctx.ticks c.requires.group3 (alone c) (next c).0 (next c).1
          (omega (arith, first, same))
          (omega (arith, skipped, same, c.ticks.ensures.value))
          (omega (arith, c.ticks-2.ensures.value, c.pass_eol.ensures.ticks, look))
          tested,
    )

pub returns-then-not-is_alone-clause-at_most : goal.returns-then-not-is_alone-clause-at_most
returns-then-not-is_alone-clause-at_most c =
    omega (
      arith,
      eols_work c.args.ctx.now.held.settings.encoding (here c.args.reader.now) (here c.read_eols.new.reader)
          c.args.ctx.now.ticks c.read_eols.new.ctx.ticks c.read_eols.ensures.work,
    )

pub returns-then-not-is_alone-clause-no_step : goal.returns-then-not-is_alone-clause-no_step
returns-then-not-is_alone-clause-no_step c = λ e line rest reported. grind (arith, common_steps, false≢true)

pub returns-then-not-skip_to_eol-clause-at_most : goal.returns-then-not-skip_to_eol-clause-at_most
returns-then-not-skip_to_eol-clause-at_most c =
    omega (
      arith,
      eols_work c.args.ctx.now.held.settings.encoding (here c.args.reader.now) (here c.read_eols.new.reader)
          c.args.ctx.now.ticks c.read_eols.new.ctx.ticks c.read_eols.ensures.work,
      c.ticks.ensures.value,
      c.if-not-skip_to_eol.ensures.ticks,
    )

pub returns-then-not-line_ends_before-clause-no_step : goal.returns-then-not-line_ends_before-clause-no_step
returns-then-not-line_ends_before-clause-no_step c = λ e.
    let at = (goal.at.returns-then-not-line_ends_before-clause-no_step c).After-line_ends_before in
    no_step_beyond c.args.ctx.now.held.settings (here c.args.reader.now) (here c.copy-line.result)
    (here c.skip_to_eol.new.self) (here c.pass_eol.new.reader) c.requires.group3 c.requires.lenient (alone at) (next at).0
    (next at).1 (λ words. false≢true (sym c.if-not-line_ends_before.true ∙ (ends at).1 words))

pub returns-then-not-line_ends_before-clause-only_ticks : goal.returns-then-not-line_ends_before-clause-only_ticks
returns-then-not-line_ends_before-clause-only_ticks c = record {
  held = search rules;
  counts =
      (counted (goal.at.returns-then-not-line_ends_before-clause-only_ticks c).After-line_ends_before).0;
  space = search rules;
}

pub returns-then-not-line_ends_before-clause-at_most : goal.returns-then-not-line_ends_before-clause-at_most
returns-then-not-line_ends_before-clause-at_most c =
    omega (arith, (counted (goal.at.returns-then-not-line_ends_before-clause-at_most c).After-line_ends_before).1)

-- the EOLs after the line were counted
after : (c : After-needs_no_reference) → eols_here c.args.ctx.now.held.settings (here c.skip_to_eol.new.self)
    ≡ (c.read_eols-count.result, here c.read_eols-count.new.reader)
after c = grind (arith, common_steps)

-- whether what follows them needs no reference row
unreferred : (c : After-needs_no_reference)
    → after_eol 0 (here c.skip_to_eol.new.self) ≡ Some (here c.pass_eol.new.reader) → IsTrue c.needs_no_reference.result
    ↔ (c.args.ctx.now.held.settings.encoding ≡ Group3_2D
    → ComesBefore1D c.args.ctx.now.held.settings (here c.skip_to_eol.new.self))
unreferred c eol =
    grind (
      arith,
      common_steps,
      after c,
      c.needs_no_reference.ensures.tag (here c.skip_to_eol.new.self) (here c.pass_eol.new.reader, eol),
    )

pub returns-clause-step : goal.returns-clause-step
returns-clause-step c = λ e.
    let at = (goal.at.returns-clause-step c).After-line_ends_before in
    let last = (goal.at.returns-clause-step c).After-needs_no_reference in (
      here c.copy-line.result,
      reported_by c.args.ctx.now.held.settings (here c.args.reader.now) (here c.copy-line.result) (here c.skip_to_eol.new.self)
          (here c.pass_eol.new.reader) (here c.read_eols-count.new.reader) c.read_eols-count.result c.requires.group3
          c.requires.lenient (alone at) (next at).0 (next at).1 ((ends at).0 c.if-not-line_ends_before.false) (after last)
          ((unreferred last (next at).1).0 e),
    )

pub returns-clause-no_step : goal.returns-clause-no_step
returns-clause-no_step c =
    λ e line rest reported. grind (
      arith,
      common_steps,
      false≢true,
      step_next,
      unreferred ((goal.at.returns-clause-no_step c).After-needs_no_reference) (next ((goal.at.returns-clause-no_step
          c).After-line_ends_before)).1,
      next ((goal.at.returns-clause-no_step c).After-line_ends_before),
      alone ((goal.at.returns-clause-no_step c).After-line_ends_before),
    )

pub returns-clause-only_ticks : goal.returns-clause-only_ticks
returns-clause-only_ticks c = record {
  held = search rules;
  counts =
      omega (
        arith,
        (counted (goal.at.returns-clause-only_ticks c).After-line_ends_before).0,
        c.read_eols-count.ensures.only_ticks.counts,
      );
  space = search rules;
}

pub returns-clause-at_most : goal.returns-clause-at_most
returns-clause-at_most c =
    omega (
      arith,
      (counted (goal.at.returns-clause-at_most c).After-line_ends_before).1,
      eols_work c.line_ends_before.new.ctx.held.settings.encoding (here c.skip_to_eol.new.self)
          (here c.read_eols-count.new.reader) c.line_ends_before.new.ctx.ticks c.read_eols-count.new.ctx.ticks
          c.read_eols-count.ensures.work,
    )
