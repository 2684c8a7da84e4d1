use Rattle.fax_encode.proofs.Names.{◌≡◌, ◌+◌, ◌-◌, ◌≤◌, chosen_run}
use Rattle.fax_encode.specs.Comparing.{IsPassed}
use Rattle.fax_encode.proofs.procedure.pass_run.Given as goal

abbrev pub invariant-long : goal.invariant-long
invariant-long l = record {
  passed : IsPassed (chosen_run l.color l.fn.pixels) (chosen_run l.color l.left) l.fn.reader l.reader;
  counted : l.ticks ≡ l.fn.ticks + (l.reader.place - l.fn.reader.place);
  onward : l.fn.reader.place ≤ l.reader.place;
}

abbrev pub decreases-long : goal.decreases-long
decreases-long l = l.left
