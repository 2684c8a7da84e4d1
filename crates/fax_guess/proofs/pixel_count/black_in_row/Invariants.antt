use Rattle.std.proofs.Common.{◌≡◌, ◌≤◌, ◌<◌, ◌+◌, ◌-◌, ◌^◌, min, length, drop}
use Rattle.fax_guess.specs.BlackPixels.{black_of}
use Rattle.fax_guess.proofs.pixel_count.black_in_row.Given as goal

abbrev pub invariant-runs : goal.invariant-runs
invariant-runs l = record {
  black : min (l.black + black_of l.columns (drop l.index l.changes)) (2 ^ 64 - 1)
      ≡ min (black_of l.columns l.changes) (2 ^ 64 - 1);
  within : l.index ≤ length l.changes;
  fits : l.black < 2 ^ 64;
}

abbrev pub decreases-runs : goal.decreases-runs
decreases-runs l = length l.changes - l.index
