use Rattle.fax_coding.proofs.Names.{sym, ◌∙◌, arith, b2_after_b1, color_after, place_of}
use Rattle.fax_coding.proofs.StepsToB1.{b1_reached, near_up, near_within}
use Rattle.fax_coding.proofs.group4.find_above.Goals as goal

pub twos-preserved : goal.twos-preserved
twos-preserved c = record {
  near = near_up c.args.columns c.args.reference.now c.requires.lawful (place_of c.args.at) c.twos.index c.twos.invariant.near
      (omega (arith, c.twos-test.true, c.twos.invariant.here));
  onward = omega (arith, c.twos.invariant.onward);
  here = c.change_or_end-b1-in-twos.ensures;
}

pub returns-clause-found : goal.returns-clause-found
returns-clause-found c =
    let b1 = b1_reached c.args.columns c.args.reference.now c.requires.lawful (place_of c.args.at) c.twos.index
    c.twos.invariant.near c.requires.inside (omega (arith, c.twos-test.false, c.twos.invariant.here)) in
    record {
      b2 = b2_after_b1 c.args.columns c.args.reference.now c.args.at.from c.twos.index (color_after c.args.at.next)
          c.requires.lawful b1;
      b1 = b1 ∙ sym c.twos.invariant.here;
      first = c.twos.invariant.here;
      within = near_within c.args.columns c.args.reference.now c.requires.lawful
          (place_of c.args.at) c.twos.index c.twos.invariant.near c.requires.inside;
    }
