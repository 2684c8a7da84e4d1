use Rattle.std.proofs.Common.{◌≡◌, ◌≤◌, ◌+◌, ◌-◌, length, drop}
use Rattle.faxpack.specs.Pictures.{digit_count}
use Rattle.faxpack.proofs.picture.digit_count.Given as goal

-- the digits so far, and those of the rest
abbrev pub invariant-loop-count : goal.invariant-loop-count
invariant-loop-count l = record {
  within : l.count ≤ length l.fn.bytes;
  digits : l.count + digit_count (drop l.count l.fn.bytes) ≡ digit_count l.fn.bytes;
}

abbrev pub decreases-loop-count : goal.decreases-loop-count
decreases-loop-count l = length l.fn.bytes - l.count
