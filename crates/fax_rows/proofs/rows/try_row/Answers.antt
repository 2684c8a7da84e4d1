use Rattle.fax_rows.proofs.Names.{arith}
use Rattle.fax_rows.proofs.Names.{common_steps}
use Rattle.fax_rows.proofs.Names.{rules, ◌≡◌, sym, ◌∙◌, true, false}
use Rattle.fax_rows.proofs.Names.{here, line_here, OnAnswer, ◌⊎◌}
use Rattle.fax_reading.proofs.DrawingLines.FullRows.{line_by_full}
use Rattle.fax_rows.proofs.Readings.RowsTried.{drawn_full, settled, tries, leaves_row}
use Rattle.fax_reading.specs.Continuations.{is_short}
use Rattle.fax_rows.specs.RowsTried.{ReadsRow}
use Rattle.fax_rows.proofs.rows.try_row.Goals.{After-settle_row-row}
use Rattle.fax_rows.proofs.rows.try_row.Goals as goal

pub settle_row-row-requires-clause-full : goal.settle_row-row-requires-clause-full
settle_row-row-requires-clause-full c = grind (arith, common_steps, drawn_full, line_by_full)

-- nothing that follows changes the line
unchanged : (c : After-settle_row-row) → OnAnswer c.decode_line-line.result ((c.args.is_last ≡ true)
    ⊎ (is_short (line_here c.args.ctx.now.held.settings c.args.ctx.now.held.reference (here c.args.reader.now)) ≡ false))
unchanged c = grind (arith, common_steps, settled)

-- what is read of the bits here
row_read : (c : After-settle_row-row) → ReadsRow c.args.ctx.now c.settle_row-row.new.ctx c.settle_row-row.result
    (here c.args.reader.now) (here c.settle_row-row.new.reader)
row_read c = c.settle_row-row.ensures.row c.args.ctx.now c.args.reader.now (search rules) c.decode_line-line.ensures.line

pub returns-clause-row : goal.returns-clause-row
returns-clause-row c =
    let at = (goal.at.returns-clause-row c).After-settle_row-row in
    let now = c.settle_row-row.new.reader in
    rw c.answer_of.ensures (tries c.args.is_last c.args.ctx.now c.settle_row-row.new.ctx c.args.reader.now now
    c.decode_line-line.result (unchanged at) c.settle_row-row.result (sym c.lacks_memory.ensures ∙ c.if-lacks_memory.false)
    (row_read at) c.settle_row-row.ensures.repairable c.settle_row-row.ensures.same)

pub returns-then-lacks_memory-clause-row : goal.returns-then-lacks_memory-clause-row
returns-then-lacks_memory-clause-row c =
    let at = (goal.at.returns-then-lacks_memory-clause-row c).After-settle_row-row in
    leaves_row c.args.is_last c.args.ctx.now c.settle_row-row.new.ctx _ c.settle_row-row.result c.args.reader.now
    _ (here c.settle_row-row.new.reader) (row_read at)
    (sym c.lacks_memory.ensures ∙ c.if-lacks_memory.true) c.leave_line-then-lacks_memory.ensures.frame
