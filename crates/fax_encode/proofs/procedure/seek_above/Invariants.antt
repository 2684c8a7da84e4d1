use Rattle.fax_encode.proofs.Names.{◌≡◌, ◌+◌, ◌-◌, ◌≤◌, length, get_or, IsNear, place_of}
use Rattle.fax_encode.proofs.procedure.seek_above.Given as goal

abbrev pub invariant-twos : goal.invariant-twos
invariant-twos l = record {
  near : IsNear l.columns l.reference (place_of l.fn.at) l.index;
  onward : l.fn.at.above ≤ l.index;
  here : l.b1 ≡ get_or l.reference l.index l.columns;
  counts : l.fn.ticks ≤ l.ticks;
  work : l.ticks + l.fn.at.above ≤ l.fn.ticks + l.index;
}

abbrev pub decreases-twos : goal.decreases-twos
decreases-twos l = length l.reference + 2 - l.index
