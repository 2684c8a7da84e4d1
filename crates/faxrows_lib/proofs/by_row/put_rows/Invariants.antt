use Rattle.faxrows_lib.proofs.Names.{◌≡◌, ◌-◌, ◌^◌, used}
use Rattle.faxrows_lib.proofs.{RowsPut.PutSoFar}
use Rattle.faxrows_lib.proofs.by_row.put_rows.Given as goal

-- the rows up to here were put
abbrev pub invariant-loop-rows : goal.invariant-loop-rows
invariant-loop-rows g l = record {
  so_far : PutSoFar (used g.W.Write.contents l.fn.writer l.writer) l.fn.rows l.rows l.fn.waiting.items l.waiting.items;
  flag : l.writer.1 ≡ l.fn.writer.1;
}

abbrev pub decreases-loop-rows : goal.decreases-loop-rows
decreases-loop-rows g l = 2 ^ 64 - l.rows.ctx.held.taken
