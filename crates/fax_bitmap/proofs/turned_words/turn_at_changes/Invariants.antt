use Rattle.fax_bitmap.proofs.Names.{◌≡◌, ◌≤◌, ◌-◌, drop, false, joined_pixels, length, turned_at_all}
use Rattle.fax_bitmap.proofs.turned_words.turn_at_changes.Given as goal

-- what is left to turn makes the row
abbrev pub invariant-changes : goal.invariant-changes
invariant-changes l =
    record {
      left : turned_at_all (drop l.done l.changes) (joined_pixels false l.words)
          ≡ turned_at_all l.changes (joined_pixels false l.fn.words);
      within : l.done ≤ length l.changes;
      room : length l.words ≡ length l.fn.words;
    }

abbrev pub decreases-changes : goal.decreases-changes
decreases-changes l = length l.changes - l.done
