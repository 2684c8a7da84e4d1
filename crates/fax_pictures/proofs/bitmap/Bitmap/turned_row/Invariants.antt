use Rattle.fax_encode.proofs.Names.{◌-◌, ◌≤◌}
use Rattle.fax_pictures.specs.Turned.{pixel_shown}
use Rattle.fax_pictures.proofs.DrawnRows.{AreDrawn}
use Rattle.fax_pictures.proofs.bitmap.Bitmap.turned_row.Given as goal

abbrev pub invariant-loop-x : goal.invariant-loop-x
invariant-loop-x l = record {
  within : l.x ≤ l.columns;
  drawn : AreDrawn (λ x. pixel_shown l.orientation l.self x l.y) l.x l.changes.items l.was_black;
}

abbrev pub decreases-loop-x : goal.decreases-loop-x
decreases-loop-x l = l.columns - l.x
