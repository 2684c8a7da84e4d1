use Rattle.fax_coding.proofs.Names.{◌≡◌, ◌+◌, ◌-◌, ◌≤◌, length, get_or, IsNear, place_of}
use Rattle.fax_coding.proofs.group4.find_above.Given as goal

abbrev pub invariant-twos : goal.invariant-twos
invariant-twos l = record {
  near : IsNear l.columns l.reference (place_of l.fn.at) l.index;
  onward : l.fn.at.above ≤ l.index;
  here : l.b1 ≡ get_or l.reference l.index l.columns;
}

abbrev pub decreases-twos : goal.decreases-twos
decreases-twos l = length l.reference + 2 - l.index
