use Rattle.fax_bitmap.proofs.Names.{◌≡◌, ◌-◌, ◌<◌, ◌^◌, ◌++◌, vec_capacity, vec_len, take, low_bits, ones_from}
use Rattle.fax_bitmap.proofs.bitmap_rows.push_ones_reserved.Given as goal

abbrev pub invariant-loop-ones : goal.invariant-loop-ones
invariant-loop-ones l = record {
  room : l.ones < 2 ^ (vec_capacity l.list - vec_len l.list);
  written : l.list.items ++ ones_from l.first (take l.count (low_bits 64 l.ones))
      ≡ l.fn.list.items ++ ones_from l.first (take l.count (low_bits 64 l.fn.word));
}

abbrev pub decreases-loop-ones : goal.decreases-loop-ones
decreases-loop-ones l = l.ones
