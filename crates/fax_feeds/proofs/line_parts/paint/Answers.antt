use Rattle.fax_feeds.proofs.Names.{common_steps}
use Rattle.fax_feeds.proofs.Names.{arith}
use Rattle.fax_feeds.proofs.DrawingLines.PartsOfLines.{paints_all, paints_row}
use Rattle.fax_feeds.proofs.line_parts.paint.Goals as goal

pub returns-then-count-room-clause-painted : goal.returns-then-count-room-clause-painted
returns-then-count-room-clause-painted c = λ e front is. grind (arith, common_steps, paints_all)

pub returns-clause-painted : goal.returns-clause-painted
returns-clause-painted c = λ e front is.
    paints_row c.args.settings front c.args.part.now.color c.args.count c.args.part.now.painted is c.requires
    (omega (arith, c.if-count-room.false)) c.if-settings.false
