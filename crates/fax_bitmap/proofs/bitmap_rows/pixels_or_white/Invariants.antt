use Rattle.fax_bitmap.proofs.Names.{◌≡◌, ◌<◌, ℕ, length, get_or}
use Rattle.fax_bitmap.proofs.bitmap_rows.pixels_or_white.Given as goal

abbrev pub invariant-loop-index : goal.invariant-loop-index
invariant-loop-index l = record {
  long : length l.first ≡ 8;
  filled : (k : ℕ) → k < l.index → get_or l.first k 0 ≡ get_or l.bytes k 0;
}
