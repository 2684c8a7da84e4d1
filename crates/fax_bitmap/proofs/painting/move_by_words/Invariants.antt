use Rattle.fax_bitmap.proofs.Names.{◌≡◌, ◌≤◌, ◌-◌, ◌*◌, ◌%◌, ◌++◌, length, replicate, under}
use Rattle.fax_bitmap.proofs.painting.move_by_words.Given as goal

abbrev pub invariant-words : goal.invariant-words
invariant-words l =
    record {
      begun : l.at.start % 8 ≡ 0;
      forward : l.fn.brush.start ≤ l.at.start;
      within : l.at.start ≤ l.start;
      color : l.at.is_black ≡ l.fn.brush.is_black;
      painted : under l.at l.row ≡ under l.fn.brush l.fn.row
          ++ replicate (8 * (l.at.start - l.fn.brush.start)) l.fn.brush.is_black;
      room : length l.row ≡ length l.fn.row;
    }

abbrev pub decreases-words : goal.decreases-words
decreases-words l = l.start - l.at.start
