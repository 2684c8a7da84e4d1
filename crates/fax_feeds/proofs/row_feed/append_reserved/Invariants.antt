use Rattle.std.specs.Prelude.{vec_capacity}
use Rattle.fax_feeds.proofs.Names.{◌≡◌, ◌-◌, ◌≤◌, ◌++◌, length, take}
use Rattle.fax_feeds.proofs.row_feed.append_reserved.Given as goal

-- so many bytes were appended
abbrev pub invariant-bytes : goal.invariant-bytes
invariant-bytes l = record {
  items : l.«data».items ≡ l.fn.«data».items ++ take l.index l.fn.bytes;
  within : l.index ≤ length l.fn.bytes;
  room : vec_capacity l.«data» ≡ vec_capacity l.fn.«data»;
}

abbrev pub decreases-bytes : goal.decreases-bytes
decreases-bytes l = length l.fn.bytes - l.index
