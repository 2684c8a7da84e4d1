use Rattle.fax_feeds.proofs.Names.{arith}
use Rattle.fax_feeds.proofs.DrawingLines.PartsOfLines.{passes_further}
use Rattle.fax_feeds.proofs.line_parts.continue_run.Goals as goal

pub returns-in-Same-clause-passes : goal.returns-in-Same-clause-passes
returns-in-Same-clause-passes c =
    passes_further c.finish_run.result c.args.part.now c.read_next_run.new.part c.finish_run.new.part c.args.ctx.now
    c.read_next_run.new.ctx c.finish_run.new.ctx c.args.reader.now c.read_next_run.new.reader c.finish_run.new.reader c.args.color
    (omega (arith, c.offset-start.ensures.place, c.offset-start.ensures.within)) c.in-Same.ensures.steps
    c.finish_run.ensures.passes
