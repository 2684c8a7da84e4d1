use Rattle.fax_coding.proofs.Names.{◌≡◌, ◌+◌, ◌-◌, ◌<◌, ◌≤◌, ℕ, get_or}
use Rattle.fax_coding.proofs.group4.count_below.Given as goal

abbrev pub invariant-same : goal.invariant-same
invariant-same l = record {
  some : 0 < l.count;
  within : l.count ≤ l.most;
  same : (k : ℕ) → k < l.count → get_or l.changes (l.next + k) 0 ≡ get_or l.reference (l.index + k) 0;
}

abbrev pub decreases-same : goal.decreases-same
decreases-same l = l.most - l.count
