use Rattle.fax_encode.proofs.Names.{◌↔◌, ◌^◌, ◌≤◌, drop, AscendFrom}
use Rattle.fax_encode.proofs.rows.is_row.Given as goal

abbrev pub invariant-loop-change : goal.invariant-loop-change
invariant-loop-change l = record {
  small : l.least ≤ 2 ^ 32;
  same : AscendFrom l.least l.columns (drop l.change-index l.changes) ↔ AscendFrom 0 l.columns l.changes;
}
