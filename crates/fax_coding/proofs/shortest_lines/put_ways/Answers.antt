use Rattle.fax_coding.proofs.Names.{◌++◌, sym, ap, ◌∙◌, arith, append-nil, Bits, pixels, all_bits}
use Rattle.fax_coding.specs.Ways.{right_of_changes}
use Rattle.fax_coding.proofs.ModesWritten.{one_width}
use Rattle.fax_coding.proofs.ShortestWays.{rest_at_start}
use Rattle.fax_coding.proofs.ShortestSteps.{none_left, way_there}
use Rattle.fax_coding.proofs.shortest_lines.put_ways.Goals as goal

pub modes-init : goal.modes-init
unfolding right_of_changes
modes-init c = ap (λ (b : Bits). all_bits c.args.writer.now ++ b) (rest_at_start (pixels c.args.columns c.args._reference.now)
    (pixels c.args.columns c.args.changes.now)
    (one_width c.args.columns c.args._reference.now c.args.changes.now c.requires.reference c.requires.changes))

pub put_way-requires-clause-way : goal.put_way-requires-clause-way
put_way-requires-clause-way c =
    way_there c.args.columns c.args._reference.now c.args.changes.now c.args.ways.now c.requires.ways c.modes.next
    (omega (arith, c.modes-test.true))

pub modes-preserved : goal.modes-preserved
modes-preserved c =
    let way = way_there c.args.columns c.args._reference.now c.args.changes.now c.args.ways.now c.requires.ways c.modes.next
    (omega (arith, c.modes-test.true)) in
    c.in_ok-next.ensures.written ∙ ap (λ (b : Bits). all_bits c.modes.writer ++ b) (sym way.is) ∙ c.modes.invariant

pub returns : goal.returns
returns c =
    let none = none_left c.args.columns c.args._reference.now c.args.changes.now c.requires.reference c.requires.changes
    c.modes.next (omega (arith, c.modes-test.false, c.requires.ways.count)) in
    sym (append-nil (all_bits c.modes.writer)) ∙ ap (λ (b : Bits). all_bits c.modes.writer ++ b) (sym none) ∙ c.modes.invariant
