use Rattle.fax_coding.proofs.Names.{◌≤◌, arith, place_of, all_bits}
use Rattle.fax_coding.proofs.ModesWritten.{coded_on, no_more, step_right}
use Rattle.fax_coding.proofs.Names.{◌∙◌}
use Rattle.fax_coding.proofs.ModesBelow.{below_in_list}
use Rattle.fax_coding.proofs.group4.put_line.Goals as goal
use Rattle.fax_coding.proofs.Names.{get_or_default}

pub changes-smaller : goal.changes-smaller
changes-smaller c =
    let right = step_right c.args.columns c.args.reference.now c.args.changes.now c.requires.reference c.requires.changes
    (place_of c.changes.at) (place_of c.in_ok-at-2.at) (c.changes.invariant.inside c.changes-test.true)
    c.in_ok-at-2.ensures.place in
    omega (arith, right.0, right.1)

pub changes-preserved : goal.changes-preserved
changes-preserved c = coded_on c.requires.reference c.requires.changes c.changes.invariant
    (c.changes.invariant.inside c.changes-test.true) c.in_ok-at-2.ensures.written c.in_ok-at-2.ensures.place
    c.in_ok-at-2.ensures.near c.in_ok-at-2.ensures.next c.in_ok-at-2.ensures.inside

pub modes-smaller : goal.modes-smaller
modes-smaller c =
    let right = step_right c.args.columns c.args.reference.now c.args.changes.now c.requires.reference c.requires.changes
    (place_of c.modes.at) (place_of c.in_ok-at-3.at) (omega (arith, c.from.ensures, c.modes-test.true))
    c.in_ok-at-3.ensures.place in
    omega (arith, right.0, right.1)

pub modes-preserved : goal.modes-preserved
modes-preserved c = coded_on c.requires.reference c.requires.changes c.modes.invariant
    (omega (arith, c.from.ensures, c.modes-test.true)) c.in_ok-at-3.ensures.written c.in_ok-at-3.ensures.place
    c.in_ok-at-3.ensures.near c.in_ok-at-3.ensures.next c.in_ok-at-3.ensures.inside

pub returns : goal.returns
returns c = no_more c.args.columns c.args.reference.now c.args.changes.now c.requires.reference c.requires.changes (place_of
    c.modes.at) (all_bits c.modes.writer) _ (omega (arith, c.from.ensures, c.modes-test.false)) c.modes.invariant.written

pub put_mode-requires-clause-coded : goal.put_mode-requires-clause-coded
put_mode-requires-clause-coded c = record {
  reference = c.requires.reference;
  changes = c.requires.changes;
  inside = c.changes.invariant.inside c.changes-test.true;
  next = c.changes.invariant.next (c.changes.invariant.inside c.changes-test.true);
  near = c.find_above-above.ensures.near;
}

pub put_mode-requires-in-modes-clause-coded : goal.put_mode-requires-in-modes-clause-coded
put_mode-requires-in-modes-clause-coded c =
    let inside : c.modes.at.from ≤ c.args.columns = omega (arith, c.from.ensures, c.modes-test.true) in
    record {
      reference = c.requires.reference;
      changes = c.requires.changes;
      inside = inside;
      next = c.modes.invariant.next inside;
      near = c.find_above-above-in-modes.ensures.near;
    }

-- ---- changes below b1
pub put_all_below-requires-clause-coded : goal.put_all_below-requires-clause-coded
put_all_below-requires-clause-coded c = record {
  reference = c.requires.reference;
  changes = c.requires.changes;
  inside = c.changes.invariant.inside c.changes-test.true;
  next = c.changes.invariant.next (c.changes.invariant.inside c.changes-test.true);
  near = c.find_above-above.ensures.near;
}

pub put_all_below-requires-clause-within : goal.put_all_below-requires-clause-within
put_all_below-requires-clause-within c = below_in_list c.args.columns c.args.reference.now c.args.changes.now
    c.requires.reference c.requires.changes c.changes.at.next c.find_above-above.result.index c.find_above-above.result.b1
    c.changes-test.true c.if-changes-at.true c.find_above-above.ensures.found.first

pub put_all_below-requires-clause-below : goal.put_all_below-requires-clause-below
put_all_below-requires-clause-below c =
    let within = below_in_list c.args.columns c.args.reference.now c.args.changes.now c.requires.reference c.requires.changes
    c.changes.at.next c.find_above-above.result.index c.find_above-above.result.b1 c.changes-test.true c.if-changes-at.true
    c.find_above-above.ensures.found.first in
    c.if-changes-at.true ∙ c.find_above-above.ensures.found.first
    ∙ get_or_default c.args.reference.now c.find_above-above.result.index c.args.columns 0 within
