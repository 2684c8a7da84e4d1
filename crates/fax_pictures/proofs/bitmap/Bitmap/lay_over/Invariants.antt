use Rattle.fax_encode.proofs.Names.{◌≡◌, ◌-◌, ◌*◌, ◌≤◌, length, take, drop, shown}
use Rattle.fax_pictures.specs.Pictures.{LieOver}
use Rattle.fax_pictures.proofs.bitmap.Bitmap.lay_over.Given as goal

abbrev pub invariant-loop-rest : goal.invariant-loop-rest
invariant-loop-rest l = record {
  from : l.top ≤ l.index;
  left : shown (8 * l.width) l.rest ≡ drop (l.index - l.top) (shown (8 * l.width) l.part);
  laid : LieOver l.left l.top (take (l.index - l.top) (shown (8 * l.width) l.part)) l.initial.self l.self;
}

abbrev pub decreases-loop-rest : goal.decreases-loop-rest
decreases-loop-rest l = length l.rest
