use Rattle.fax_lines.proofs.Names.{ℕ, ◌≡◌, ◌+◌, ◌-◌, ◌≤◌, ◌<◌, length, get_or}
use Rattle.fax_lines.proofs.changes.b1_index.Given as goal

-- the changes so far are at most at a0
abbrev pub invariant-loop-index : goal.invariant-loop-index
invariant-loop-index l = record {
  within : l.index ≤ length l.changes;
  left : (k : ℕ) → k < l.index → get_or l.changes k 0 ≤ l.painted;
  forward : l.fn.passed ≤ l.index;
  work : l.ticks + l.fn.passed ≡ l.fn.ticks + l.index;
}

abbrev pub decreases-loop-index : goal.decreases-loop-index
decreases-loop-index l = length l.changes - l.index
