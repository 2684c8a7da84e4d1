use Rattle.fax_rows.proofs.Names.{◌∙◌, true, rules, sym, ap, subst, arith, Ok, Err, Result, Bool, DecodeError}
use Rattle.fax_rows.specs.RowsTried.{TriesRow}
use Rattle.std.proofs.lemmas.Bool.{false≢true}
use Rattle.hayro_ccitt.specs.TaggedBodies.{ReadsRowHere}
use Rattle.hayro_ccitt.proofs.TaggedBodies.RowsPassed.{always_read, failed_alone, fault_of, read_alone, row_here}
use Rattle.hayro_ccitt.proofs.tagged.read_row_here.Goals.{After-note_line, After-note_line-in-Err-2}
use Rattle.hayro_ccitt.proofs.tagged.read_row_here.Goals as goal

row_read : (c : After-note_line) → ReadsRowHere c.args.rows.now c.note_line.new.self c.args.ctx.now c.try_row-read.new.ctx
    c.args.reader.now c.try_row-read.new.reader
row_read c =
    row_here c.args.rows.now c.note_line.new.self c.args.ctx.now c.try_row-read.new.ctx c.args.reader.now
    c.try_row-read.new.reader
    (omega (arith, c.bit_pos-line_start.ensures.place, c.bit_pos-line_start.ensures.within))
    (omega (arith, c.bit_pos-end.ensures.place, c.bit_pos-end.ensures.within)) c.try_row-read.ensures.same_bits (Ok tt)
    (search rules)
    (read_alone c.try_row-read.ensures.row (always_read c.try_row-read.ensures.row c.in-Ok.field-0 c.in-Ok.is)) tt

pub returns-in-Ok-clause-reads : goal.returns-in-Ok-clause-reads
returns-in-Ok-clause-reads c = row_read (goal.at.returns-in-Ok-clause-reads c).After-note_line

pub returns-in-Ok-clause-settings : goal.returns-in-Ok-clause-settings
returns-in-Ok-clause-settings c = (row_read (goal.at.returns-in-Ok-clause-settings c).After-note_line).settings

fault_read : (c : After-note_line-in-Err-2) → ReadsRowHere c.args.rows.now c.note_line-in-Err-2.new.self c.args.ctx.now
    c.try_row-read.new.ctx c.args.reader.now c.try_row-read.new.reader
fault_read c =
    let error = c.in-Err.error in
    let fault = fault_of error (λ e. false≢true (sym c.if-wants_memory.false ∙ c.wants_memory.ensures.1 e))
    (λ e. c.try_row-read.ensures.row.not_refused (c.in-Err.is ∙ ap (λ (x : DecodeError). Err x) e)) in
    let tried = subst (λ (r : Result Bool DecodeError). TriesRow true c.args.ctx.now c.try_row-read.new.ctx r c.args.reader.now
    c.try_row-read.new.reader) c.in-Err.is c.try_row-read.ensures.row in
    row_here c.args.rows.now c.note_line-in-Err-2.new.self c.args.ctx.now c.try_row-read.new.ctx c.args.reader.now
    c.try_row-read.new.reader
    (omega (arith, c.bit_pos-line_start.ensures.place, c.bit_pos-line_start.ensures.within))
    (omega (arith, c.bit_pos-end.ensures.place, c.bit_pos-end.ensures.within)) c.try_row-read.ensures.same_bits (Err error)
    (search rules) (failed_alone tried fault) fault

pub returns-in-Err-2-clause-reads : goal.returns-in-Err-2-clause-reads
returns-in-Err-2-clause-reads c = fault_read (goal.at.returns-in-Err-2-clause-reads c).After-note_line-in-Err-2

pub returns-in-Err-2-clause-settings : goal.returns-in-Err-2-clause-settings
returns-in-Err-2-clause-settings c = (fault_read (goal.at.returns-in-Err-2-clause-settings c).After-note_line-in-Err-2).settings
