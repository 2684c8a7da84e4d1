use Rattle.fax_coding.proofs.Names.{sym, White, arith, le-leb, length}
use Rattle.fax_coding.specs.Shortest.{shortest_runs_1d}
use Rattle.fax_coding.proofs.ShortestRows.{shortest_row_least}
use Rattle.fax_coding.proofs.runs.shortest_takes_at_least.Goals as goal

pub returns-then-bits-least : goal.returns-then-bits-least
returns-then-bits-least c = sym (le-leb c.args.bits (length (shortest_runs_1d c.args.columns White 0 c.args.changes.now))
    (omega (arith, shortest_row_least c.args.columns c.args.changes.now, c.if-bits-least.true)))
