use Rattle.fax_coding.proofs.Names.{◌≡◌, ◌*◌, ◌+◌, ◌-◌, ◌≤◌, length, get_or, pixels, b2, IsNear, place_of}
use Rattle.fax_coding.specs.Ways.{passed_by}
use Rattle.fax_coding.proofs.ShortestSteps.{IsSearched}
use Rattle.fax_coding.proofs.shortest_lines.search_passes.Given as goal

abbrev pub invariant-passes : goal.invariant-passes
invariant-passes l = record {
  near : IsNear l.columns l.reference (passed_by (pixels l.columns l.reference) (place_of l.at) l.passes) l.above.index;
  within : l.above.index ≤ length l.reference + 1;
  b2_is : b2 (pixels l.columns l.reference) (passed_by (pixels l.columns l.reference) (place_of l.at) l.passes).from
      (passed_by (pixels l.columns l.reference) (place_of l.at) l.passes).color ≡ l.b2;
  b2_at : l.b2 ≡ get_or l.reference (l.above.index + 1) l.columns;
  count : 2 * l.passes ≤ l.above.index;
  searched : IsSearched (pixels l.columns l.reference) (pixels l.columns l._changes) (place_of l.at) l.passes l.best;
}

abbrev pub decreases-passes : goal.decreases-passes
decreases-passes l = length l.reference + 2 - l.above.index
