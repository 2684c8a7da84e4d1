use Rattle.hayro_ccitt.specs.Rows.{AreChanges, pixels}
use Rattle.c_rows.proofs.TakenRows.{takes_next}
use Rattle.c_rows.proofs.strip.Strip.add_changes.Goals as goal

pub returns-in-Rows : goal.returns-in-Rows
returns-in-Rows c =
    let rows = c.in-Rows.encoder in
    let e = c.push_changes.ensures in
    rw (c.in-Rows.is, c.status_of_adding.ensures)
    (takes_next rows c.push_changes.new.self (AreChanges rows.columns c.args.changes.now)
    (¬ AreChanges rows.columns c.args.changes.now) (pixels rows.columns c.args.changes.now) c.push_changes.result (λ no. no)
    (λ no. no) e.taken e.lawful e.not_a_row e.fails.kept e.fails.others e.fails.wanted e.fails.wants)
