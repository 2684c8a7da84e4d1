use Rattle.fax_lines.proofs.DrawingLines.UsualStrokes.{laid_down, other_change_stays}
use Rattle.fax_lines.proofs.run_pairs.drop_open_change.Goals as goal

pub returns-then-last-painted-clause-lawful : goal.returns-then-last-painted-clause-lawful
returns-then-last-painted-clause-lawful c =
    (laid_down c.args.painted c.args.changes.now.items c.take_last-last.new.self.items c.take_last-last.result c.requires
    c.take_last-last.ensures.items c.if-last-painted.true).0

pub returns-then-last-painted-clause-same : goal.returns-then-last-painted-clause-same
returns-then-last-painted-clause-same c =
    (laid_down c.args.painted c.args.changes.now.items c.take_last-last.new.self.items c.take_last-last.result c.requires
    c.take_last-last.ensures.items c.if-last-painted.true).1

pub returns-clause-lawful : goal.returns-clause-lawful
returns-clause-lawful c =
    (other_change_stays c.args.painted c.args.changes.now.items c.take_last-last.new.self.items c.push_reserved.new.self.items
    c.take_last-last.result c.requires c.take_last-last.ensures.items c.if-last-painted.false c.push_reserved.ensures.items).0
