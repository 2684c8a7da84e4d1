use Rattle.std.proofs.Common.{refl, true, sym, subst, ◌∙◌}
use Rattle.c_rows.specs.GivenRows.{AreListedRows, room_of_lists}
use Rattle.c_rows.specs.RowsFed.{TurnsToFed}
use Rattle.c_rows.proofs.FedRows.{gives_from, gives_no_row, kept_from, row_fed}
use Rattle.c_rows.proofs.feeding.Feeding.list_next_rows.Goals as goal

pub returns-then-not-is_fed_row : goal.returns-then-not-is_fed_row
returns-then-not-is_fed_row c =
    gives_no_row AreListedRows room_of_lists _ _ c.come_to_row-answer.result (record { rows_are = refl; rest = refl })
    c.come_to_row-answer.ensures.turns (sym c.is_fed_row.ensures ∙ c.if-not-is_fed_row.true)
    c.come_to_row-answer.ensures.none_kept c.come_to_row-answer.ensures.layout c.status_of_fed.ensures.status

pub returns : goal.returns
returns c =
    let turns = subst (TurnsToFed c.args.self.now.is_kept c.args.self.now.rows c.come_to_row-answer.new.self.rows)
    (row_fed c.come_to_row-answer.result (sym c.is_fed_row.ensures ∙ c.if-not-is_fed_row.false))
    c.come_to_row-answer.ensures.turns in
    gives_from c.args.self.now _ c.come_to_row-answer.ensures.layout (kept_from c.args.self.now true _ turns refl)
    AreListedRows room_of_lists (λ rows are. are)
    c.list_kept.ensures
