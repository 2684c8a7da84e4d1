use Rattle.std.proofs.Common.{arith}
use Rattle.c_rows.proofs.ListedMemory.{few_changes, listed_more, same_listing}
use Rattle.c_rows.proofs.listed_rows.ListedRowsDecoder.push_row.Goals as goal

pub overflow_cast-self : goal.overflow_cast-self
overflow_cast-self c = omega (arith, few_changes 0 c.args.self.now.columns c.args.changes.now (omega arith) c.requires)

pub returns-clause-taken : goal.returns-clause-taken
returns-clause-taken c =
    let more = listed_more c.args.self.now.end c.args.changes.now c.args.self.now.lists.now c.copy_from_slice.new.self
    c.args.self.now.within c.if-self-changes.false c.copy_from_slice.ensures.after in
    same_listing _ _ _ _ _ _ _ _ _ (omega arith) more.0 more.1 c.counted-self.ensures

pub invariant_of-self : goal.invariant_of-self
invariant_of-self c = record {
  within = c.args.self.now.within;
  full = λ e.
      omega (arith, few_changes 0 c.args.self.now.columns c.args.changes.now (omega arith) c.requires, c.if-self-changes.true);
}
