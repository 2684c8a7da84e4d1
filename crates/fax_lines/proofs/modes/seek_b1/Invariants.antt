use Rattle.fax_lines.proofs.Names.{◌≡◌, ◌+◌, ◌-◌, ◌%◌, ◌≤◌, length, IsNear, changes_in}
use Rattle.fax_lines.proofs.modes.seek_b1.Given as goal

-- each turn advances by two, and is one tick
abbrev pub invariant-changes : goal.invariant-changes
invariant-changes l = record {
  near : IsNear l.line.columns (changes_in l.line.places.now) l.painted l.index;
  within : l.index ≤ length (changes_in l.line.places.now) + 1;
  onward : (l.fn.start ≤ l.index) × (l.index % 2 ≡ l.fn.start % 2);
  work : l.ticks + l.ticks + l.fn.start ≡ l.fn.ticks + l.fn.ticks + l.index + 2;
}

abbrev pub decreases-changes : goal.decreases-changes
decreases-changes l = length l.line.places.now - l.index
