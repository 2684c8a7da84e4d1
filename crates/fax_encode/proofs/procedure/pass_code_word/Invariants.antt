use Rattle.std.proofs.Common.{◌≡◌, ◌+◌, ◌-◌, ◌≤◌}
use Rattle.fax_bits.specs.Bits.{low_bits}
use Rattle.fax_encode.specs.Comparing.{IsPassed}
use Rattle.fax_encode.proofs.procedure.pass_code_word.Given as goal

abbrev pub invariant-bits : goal.invariant-bits
invariant-bits l = record {
  passed : IsPassed (low_bits l.fn.word.count l.fn.word.bits) (low_bits l.left l.word.bits) l.fn.reader l.reader;
  counted : l.ticks ≡ l.fn.ticks + (l.reader.place - l.fn.reader.place);
  onward : l.fn.reader.place ≤ l.reader.place;
  few : l.left ≤ l.fn.word.count;
}

abbrev pub decreases-bits : goal.decreases-bits
decreases-bits l = l.left
