use Rattle.fax_coding.proofs.Names.{◌∙◌}
use Rattle.fax_coding.proofs.ShortestSteps.{right_of_none, right_of_some}
use Rattle.fax_coding.proofs.shortest_lines.place_right_of.Goals as goal

pub returns-then-next-eq0 : goal.returns-then-next-eq0
returns-then-next-eq0 c = right_of_none c.args.columns c.args.changes.now c.args.next c.if-next-eq0.true

pub returns : goal.returns
returns c = right_of_some c.args.columns c.args.changes.now c.args.next c.from.result c.if-next-eq0.false
    (c.from.ensures ∙ c.change_or_end.ensures)
