use Rattle.std.proofs.lemmas.Grind.{common_steps}
use Rattle.fax_coding.proofs.Names.{arith, append_assoc}
use Rattle.fax_words.proofs.RunsWritten.{next_within, next_ascends}
use Rattle.fax_coding.proofs.ShortestRows.{next_shortest}
use Rattle.fax_coding.proofs.runs.put_shortest_row.Goals as goal

pub changes-preserved : goal.changes-preserved
changes-preserved c = grind (arith, common_steps, next_within, next_ascends, next_shortest, append_assoc)
