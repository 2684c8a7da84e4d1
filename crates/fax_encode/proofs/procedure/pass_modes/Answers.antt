use Rattle.fax_encode.proofs.Names.{◌≡◌, ◌≤◌, ◌∙◌, ◌++◌, ap, arith, sym, Bits, Color, Row, pixels}
use Rattle.fax_encode.proofs.Names.{place_of}
use Rattle.fax_encode.proofs.Names.{chosen_from, length-pixels}
use Rattle.fax_encode.specs.Comparing.{bits_of_mode}
use Rattle.fax_encode.proofs.ChosenLines.{chosen_over}
use Rattle.fax_encode.proofs.ComparedBits.{all_compared, compares_on, if_here, if_not_here, mode_has_bits, moves_on}
use Rattle.fax_encode.proofs.ComparedBits.{stops, whole_length}
use Rattle.fax_encode.proofs.ModesWritten.{one_width, step_bits, step_right}
use Rattle.fax_encode.proofs.procedure.pass_modes.Goals.{After-pass_mode}
use Rattle.fax_encode.proofs.procedure.pass_modes.Goals as goal

-- the position isn't past the row's end
place_inside : (c : After-pass_mode) → c.modes.at.from ≤ c.args.columns
place_inside c = omega (arith, c.from.ensures, c.modes-test.true)

-- the bits of a mode, and those after it
split : (c : After-pass_mode)
    → chosen_from (pixels c.args.columns c.args.rows.reference.now) (pixels c.args.columns c.args.rows.changes.now)
    (place_of c.modes.at)
    ≡ bits_of_mode c.color_after.result c.mode_at-mode.result ++ chosen_from (pixels c.args.columns c.args.rows.reference.now)
    (pixels c.args.columns c.args.rows.changes.now) (place_of c.mode_at-mode.result.after)
split c =
    let rest : Bits = chosen_from (pixels c.args.columns c.args.rows.reference.now)
    (pixels c.args.columns c.args.rows.changes.now)
    (place_of c.mode_at-mode.result.after) in
    step_bits c.args.columns c.args.rows.reference.now c.args.rows.changes.now c.requires.reference c.requires.changes
    (place_of c.modes.at) (place_of c.mode_at-mode.result.after) (place_inside c) c.mode_at-mode.ensures.after.place
    ∙ ap (λ (b : Bits). b ++ rest) (c.mode_at-mode.ensures.bits
    ∙ ap (λ (k : Color). bits_of_mode k c.mode_at-mode.result) (sym c.color_after.ensures))

pub mode_at-mode-requires-clause-coded : goal.mode_at-mode-requires-clause-coded
mode_at-mode-requires-clause-coded c =
    let inside : c.modes.at.from ≤ c.args.columns = omega (arith, c.from.ensures, c.modes-test.true) in
    record {
      reference = c.requires.reference;
      changes = c.requires.changes;
      inside = inside;
      next = c.modes.invariant.next inside;
      near = c.seek_above-above.ensures.near;
    }

pub returns-then-not-pass_mode-clause-compares : goal.returns-then-not-pass_mode-clause-compares
returns-then-not-pass_mode-clause-compares c =
    let d = (goal.at.returns-then-not-pass_mode-clause-compares c).After-pass_mode in
    stops _ c.modes.invariant.passed (split d) c.pass_mode.ensures.compares c.if-not-pass_mode.true

pub modes-smaller : goal.modes-smaller
modes-smaller c =
    let right = step_right c.args.columns c.args.rows.reference.now c.args.rows.changes.now c.requires.reference
    c.requires.changes (place_of c.modes.at) (place_of c.mode_at-mode.result.after)
    (omega (arith, c.from.ensures, c.modes-test.true)) c.mode_at-mode.ensures.after.place in
    omega (arith, right.0, right.1)

pub modes-preserved : goal.modes-preserved
modes-preserved c =
    let d = (goal.at.modes-preserved c).After-pass_mode in
    let some = mode_has_bits c.color_after.result c.mode_at-mode.result c.mode_at-mode.ensures.some in
    let place = whole_length c.pass_mode.ensures.compares c.if-not-pass_mode.false in
    record {
      passed = compares_on c.modes.invariant.passed (split d) c.pass_mode.ensures.compares c.if-not-pass_mode.false;
      near = c.mode_at-mode.ensures.after.near;
      next = c.mode_at-mode.ensures.after.next;
      onward = omega (arith, c.modes.invariant.onward, place);
      counts = omega (
        arith,
        c.modes.invariant.counts,
        c.modes.invariant.onward,
        c.modes.invariant.counts,
        c.seek_above-above.ensures.counts,
        c.seek_above-above.ensures.work,
        c.seek_above-above.ensures.found.within,
        c.mode_at-mode.ensures.after.back,
        c.pass_mode.ensures.ticks,
        if_here c.if-not-pass_mode.false,
        some,
        place,
      );
      reached = omega (
        arith,
        c.modes.invariant.reached,
        c.modes.invariant.onward,
        c.modes.invariant.counts,
        c.seek_above-above.ensures.counts,
        c.seek_above-above.ensures.work,
        c.seek_above-above.ensures.found.within,
        c.mode_at-mode.ensures.after.back,
        c.pass_mode.ensures.ticks,
        if_here c.if-not-pass_mode.false,
        some,
        place,
      );
      work = omega (
        arith,
        c.modes.invariant.reached,
        c.modes.invariant.onward,
        c.modes.invariant.counts,
        c.seek_above-above.ensures.counts,
        c.seek_above-above.ensures.work,
        c.seek_above-above.ensures.found.within,
        c.mode_at-mode.ensures.after.back,
        c.pass_mode.ensures.ticks,
        if_here c.if-not-pass_mode.false,
        some,
        place,
      );
    }

pub returns-clause-compares : goal.returns-clause-compares
returns-clause-compares c =
    let above : Row = pixels c.args.columns c.args.rows.reference.now in
    let row : Row = pixels c.args.columns c.args.rows.changes.now in
    all_compared c.modes.invariant.passed (chosen_over above row
    (one_width c.args.columns c.args.rows.reference.now c.args.rows.changes.now c.requires.reference c.requires.changes)
    (place_of c.modes.at) (omega (
      arith,
      c.from.ensures,
      c.modes-test.false,
      length-pixels c.args.columns c.args.rows.changes.now c.requires.changes,
    )))

pub returns-then-not-pass_mode-clause-work : goal.returns-then-not-pass_mode-clause-work
returns-then-not-pass_mode-clause-work c = omega (
  arith,
  c.modes.invariant.reached,
  c.modes.invariant.onward,
  c.seek_above-above.ensures.work,
  c.seek_above-above.ensures.found.within,
  c.pass_mode.ensures.ticks,
  if_not_here c.if-not-pass_mode.true,
  moves_on c.pass_mode.ensures.compares,
)

pub returns-then-not-pass_mode-clause-counts : goal.returns-then-not-pass_mode-clause-counts
returns-then-not-pass_mode-clause-counts c = omega (
  arith,
  c.modes.invariant.counts,
  c.seek_above-above.ensures.counts,
  c.pass_mode.ensures.ticks,
)
