use Rattle.fax_coding.proofs.Names.{sym, White, arith, le-leb, length, chosen_runs}
use Rattle.fax_coding.proofs.RunLengths.{row_least}
use Rattle.fax_coding.proofs.runs.takes_at_least.Goals as goal

pub returns-then-bits-changes : goal.returns-then-bits-changes
returns-then-bits-changes c = sym (le-leb c.args.bits (length (chosen_runs c.args.columns White 0 c.args.changes.now))
    (omega (arith, row_least c.args.columns c.args.changes.now, c.if-bits-changes.true)))
