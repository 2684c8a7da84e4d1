use Rattle.fax_lines.proofs.Names.{◌+◌, arith}
use Rattle.fax_lines.proofs.DrawingLines.UsualStrokes.{pixels-pending}
use Rattle.fax_reading.proofs.PixelRows.ChangesAndPixels.{AreChanges-push, AreChanges-wider}
use Rattle.fax_lines.proofs.run_pairs.close_black_run.Goals as goal

pub returns-then-len-eq0-clause-lawful : goal.returns-then-len-eq0-clause-lawful
returns-then-len-eq0-clause-lawful c =
    λ e. AreChanges-wider c.args.painted (c.args.painted + 1) c.args.changes.now.items (omega arith) c.requires

pub returns-clause-lawful : goal.returns-clause-lawful
returns-clause-lawful c =
    λ e. rw c.push_change.ensures.items (AreChanges-push c.args.painted 1 c.args.changes.now.items (omega arith) c.requires)

pub returns-clause-same : goal.returns-clause-same
returns-clause-same c = rw c.push_change.ensures.items (pixels-pending c.args.painted c.args.changes.now.items)
