use Rattle.faxrows_lib.proofs.Names.{◌≡◌, ◌-◌, ◌^◌, cond, fed_bits, IsUnderWay, used}
use Rattle.faxrows_lib.proofs.by_row.put_all_rows.Given as goal

-- what was read was fed, and the rows so far were put
abbrev pub invariant-loop-outcome : goal.invariant-loop-outcome
invariant-loop-outcome g l = record {
  way : IsUnderWay l.fn.rows.ctx.held.settings l.fn.rows.order (used g.R.Read.remaining l.fn.reader l.reader)
      (g.W.Write.contents l.fn.writer.0) (g.W.Write.contents l.writer.0) l.rows l.waiting.items;
  reader : l.reader.1 ≡ l.fn.reader.1;
  writer : l.writer.1 ≡ l.fn.writer.1;
}

-- the bits that can still be fed, unless the data is finished
abbrev pub decreases-loop-outcome : goal.decreases-loop-outcome
decreases-loop-outcome g l = cond l.rows.finished 0 (2 ^ 64 - fed_bits l.rows)
