use Rattle.fax_encode.proofs.Names.{◌-◌, ◌≡◌, ℕ, ◌<◌, ◌≤◌, [], length, get_or, map, not}
use Rattle.fax_pictures.proofs.bitmap.Bitmap.invert.Given as goal

abbrev pub invariant-loop-index : goal.invariant-loop-index
invariant-loop-index l = record {
  columns : l.self.columns ≡ l.initial.self.columns;
  count : length l.self.rows ≡ length l.initial.self.rows;
  above : (k : ℕ) → k < l.index → get_or l.self.rows k [] ≡ map not (get_or l.initial.self.rows k []);
  below : (k : ℕ) → l.index ≤ k → get_or l.self.rows k [] ≡ get_or l.initial.self.rows k [];
}

abbrev pub decreases-loop-index : goal.decreases-loop-index
decreases-loop-index l = length l.self.rows - l.index
