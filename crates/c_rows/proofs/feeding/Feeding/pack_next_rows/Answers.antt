use Rattle.std.proofs.Common.{ℕ, refl, true, sym, subst, ◌∙◌, arith}
use Rattle.c_rows.specs.GivenRows.{ArePackedRows, StandPacked, columns_of, room_of_packed}
use Rattle.c_rows.specs.Packing.{spaced}
use Rattle.c_rows.specs.RowsFed.{TurnsToFed}
use Rattle.c_rows.specs.declared.packed_rows.Layout.{Layout}
use Rattle.c_rows.proofs.FedRows.{gives_from, gives_no_row, kept_from, row_fed, turned_columns}
use Rattle.c_rows.proofs.feeding.Feeding.pack_next_rows.Goals as goal

pub returns-then-not-is_fed_row : goal.returns-then-not-is_fed_row
returns-then-not-is_fed_row c =
    gives_no_row ArePackedRows room_of_packed _ _ c.come_to_row-answer.result
    (record { rows_are = refl; others = refl; room = omega arith })
    c.come_to_row-answer.ensures.turns (sym c.is_fed_row.ensures ∙ c.if-not-is_fed_row.true)
    c.come_to_row-answer.ensures.none_kept c.come_to_row-answer.ensures.layout c.status_of_fed.ensures.status

pub returns : goal.returns
returns c =
    let turns = subst (TurnsToFed c.args.self.now.is_kept c.args.self.now.rows c.come_to_row-answer.new.self.rows)
    (row_fed c.come_to_row-answer.result (sym c.is_fed_row.ensures ∙ c.if-not-is_fed_row.false))
    c.come_to_row-answer.ensures.turns in
    gives_from c.args.self.now _ c.come_to_row-answer.ensures.layout (kept_from c.args.self.now true _ turns refl)
    ArePackedRows room_of_packed
    (λ rows are. subst (λ (n : ℕ). StandPacked (spaced c.args.self.now.layout) n rows c.args.bytes.now c.pack_kept.new.bytes)
    (turned_columns c.args.self.now c.come_to_row-answer.new.self _ turns)
    (subst (λ (l : Layout). StandPacked (spaced l) (columns_of c.come_to_row-answer.new.self) rows c.args.bytes.now
    c.pack_kept.new.bytes) c.come_to_row-answer.ensures.layout are)) c.pack_kept.ensures
