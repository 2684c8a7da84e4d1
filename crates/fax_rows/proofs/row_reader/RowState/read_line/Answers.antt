use Rattle.fax_rows.proofs.Names.{common_steps}
use Rattle.fax_rows.proofs.Names.{rules, ◌≡◌, ap, sym, subst, drop, here, Bits, BitsAt, arith, length, IsStanding}
use Rattle.fax_rows.proofs.Names.{ReadsNext, seen, row_came}
use Rattle.fax_rows.proofs.Readings.LinesRead.{line_stays, line_is_next}
use Rattle.fax_rows.specs.declared.row_reader.RowState.{RowState}
use Rattle.fax_rows.specs.RowsTried.{ReadsRow, rows_after_line}
use Rattle.fax_rows.proofs.row_reader.RowState.read_line.Goals.{After-note_line}
use Rattle.fax_rows.proofs.row_reader.RowState.read_line.Goals as goal

-- what the line left
read_here : (c : After-note_line) → ReadsRow c.args.ctx.now c.read_row-row.new.ctx c.read_row-row.result
    (here c.args.reader.now)
    (drop c.read_row-row.new.reader.place c.args.reader.now.bits)
read_here c = grind (arith, common_steps)

at_line_end : (c : After-note_line)
    → record { bits = c.args.reader.now.bits; place = c.read_row-row.new.reader.place } ≡ c.read_row-row.new.reader
at_line_end c = ap (λ (b : Bits). record { bits = b; place = c.read_row-row.new.reader.place })
    (sym c.read_row-row.ensures.same_bits)

-- what is kept
kept_after_line : (c : After-note_line) → c.note_line.new.self ≡ rows_after_line c.args.self.now c.read_row-row.result
    c.args.reader.now.place c.args.ctx.now.held.repairs.rows c.args.ctx.now.held.repairs.cut c.read_row-row.new.ctx.held.repairs
kept_after_line c = search rules

pub returns-clause-stands : goal.returns-clause-stands
returns-clause-stands c from at =
    let before = c.args.reader.now in
    let ctx = c.read_row-row.new.ctx in
    let row = c.read_row-row.result in
    let rows = rows_after_line c.args.self.now row before.place c.args.ctx.now.held.repairs.rows
    c.args.ctx.now.held.repairs.cut
    ctx.held.repairs in
    subst (λ (r : RowState). IsStanding from r ctx c.read_row-row.new.reader) (sym (kept_after_line c))
    (subst (IsStanding from rows ctx) (at_line_end c)
    (line_stays from c.args.self.now c.args.ctx.now ctx before.bits before.place
    c.read_row-row.new.reader.place (omega (arith, c.bit_pos-line_start.ensures.place, c.bit_pos-line_start.ensures.within))
    (omega (arith, c.bit_pos-end.ensures.place, c.bit_pos-end.ensures.within, ap length c.read_row-row.ensures.same_bits))
    at row (read_here c)))

pub returns-clause-reads : goal.returns-clause-reads
returns-clause-reads c from at =
    let before = c.args.reader.now in
    let ctx = c.read_row-row.new.ctx in
    let row = c.read_row-row.result in
    let old = seen c.args.self.now c.args.ctx.now before in
    let rows = rows_after_line c.args.self.now row before.place c.args.ctx.now.held.repairs.rows
    c.args.ctx.now.held.repairs.cut
    ctx.held.repairs in
    subst (λ (r : RowState). ReadsNext old (seen r ctx c.read_row-row.new.reader) (row_came row)) (sym (kept_after_line c))
    (subst (λ (b : BitsAt). ReadsNext old (seen rows ctx b) (row_came row)) (at_line_end c)
    (line_is_next from c.args.self.now c.args.ctx.now ctx before.bits before.place
    c.read_row-row.new.reader.place (omega (arith, c.bit_pos-line_start.ensures.place, c.bit_pos-line_start.ensures.within))
    (omega (arith, c.bit_pos-end.ensures.place, c.bit_pos-end.ensures.within, ap length c.read_row-row.ensures.same_bits))
    at row (read_here c)))
