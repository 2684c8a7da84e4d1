use Rattle.fax_bitmap.proofs.Names.{◌≡◌, ◌*◌, ◌-◌, ◌≤◌, false, length, take, replicate, bits_of}
use Rattle.fax_bitmap.proofs.bitmap_rows.zero_bytes.Given as goal

abbrev pub invariant-many : goal.invariant-many
invariant-many l = record {
  within : l.count ≤ length l.bytes;
  white : bits_of (take l.count l.bytes) ≡ replicate (8 * l.count) false;
}

abbrev pub decreases-many : goal.decreases-many
decreases-many l = length l.bytes - l.count

abbrev pub invariant-bytes : goal.invariant-bytes
invariant-bytes l = record {
  within : l.count ≤ length l.bytes;
  white : bits_of (take l.count l.bytes) ≡ replicate (8 * l.count) false;
}

abbrev pub decreases-bytes : goal.decreases-bytes
decreases-bytes l = length l.bytes - l.count
