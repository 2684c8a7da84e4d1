use Rattle.fax_lines.proofs.Names.{◌≡◌, ◌-◌, ◌≤◌, ◌++◌, length, take}
use Rattle.std.specs.Prelude.{vec_capacity}
use Rattle.fax_lines.proofs.modes.repeat_changes.Given as goal

-- the changes stored so far
abbrev pub invariant-changes : goal.invariant-changes
invariant-changes l = record {
  stored : l.row.items ≡ l.fn.row.items ++ take l.done l.fn.changes;
  within : l.done ≤ length l.fn.changes;
  room : vec_capacity l.row ≡ vec_capacity l.fn.row;
}

-- the changes that are left
abbrev pub decreases-changes : goal.decreases-changes
decreases-changes l = length l.fn.changes - l.done
