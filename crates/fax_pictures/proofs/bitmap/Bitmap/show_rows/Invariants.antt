use Rattle.fax_encode.proofs.Names.{◌-◌, ◌≡◌, ℕ, ◌<◌, [], length, get_or}
use Rattle.fax_pictures.specs.Turned.{turned_row}
use Rattle.fax_pictures.proofs.bitmap.Bitmap.show_rows.Given as goal

abbrev pub invariant-loop-y : goal.invariant-loop-y
invariant-loop-y l = record {
  columns : l.made.columns ≡ l.columns;
  count : length l.made.rows ≡ l.rows;
  drawn : (k : ℕ) → k < l.y → get_or l.made.rows k [] ≡ turned_row l.orientation l.self k;
}

abbrev pub decreases-loop-y : goal.decreases-loop-y
decreases-loop-y l = l.rows - l.y
