use Rattle.std.proofs.Common.{◌≡◌, ◌≤◌, ◌+◌, ◌-◌, false, length, drop}
use Rattle.faxpack.specs.Pictures.{gap_length}
use Rattle.faxpack.proofs.picture.gap_length.Given as goal

-- the gap so far, and that of the rest
abbrev pub invariant-loop-count : goal.invariant-loop-count
invariant-loop-count l = record {
  within : l.count ≤ length l.fn.bytes;
  gap : l.count + gap_length l.in_comment (drop l.count l.fn.bytes) ≡ gap_length false l.fn.bytes;
}

abbrev pub decreases-loop-count : goal.decreases-loop-count
decreases-loop-count l = length l.fn.bytes - l.count
