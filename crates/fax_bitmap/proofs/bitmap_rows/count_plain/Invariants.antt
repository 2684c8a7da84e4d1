use Rattle.fax_bitmap.proofs.Names.{◌≡◌, ◌*◌, ◌-◌, ◌≤◌, take, replicate, bits_of}
use Rattle.fax_bitmap.proofs.bitmap_rows.count_plain.Given as goal

abbrev pub invariant-eights : goal.invariant-eights
invariant-eights l = record {
  within : l.count ≤ l.most;
  same : bits_of (take (8 * l.count) l.bytes) ≡ replicate (64 * l.count) l.is_black;
}

abbrev pub decreases-eights : goal.decreases-eights
decreases-eights l = l.most - l.count

abbrev pub invariant-fours : goal.invariant-fours
invariant-fours l = record {
  within : l.count ≤ l.most;
  same : bits_of (take (8 * l.count) l.bytes) ≡ replicate (64 * l.count) l.is_black;
}

abbrev pub decreases-fours : goal.decreases-fours
decreases-fours l = l.most - l.count

abbrev pub invariant-ones : goal.invariant-ones
invariant-ones l = record {
  within : l.count ≤ l.most;
  same : bits_of (take (8 * l.count) l.bytes) ≡ replicate (64 * l.count) l.is_black;
}

abbrev pub decreases-ones : goal.decreases-ones
decreases-ones l = l.most - l.count
