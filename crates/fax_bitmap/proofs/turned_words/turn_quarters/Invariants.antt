use Rattle.fax_bitmap.proofs.Names.{◌≡◌, ◌≤◌, ◌-◌, false, joined_pixels, length}
use Rattle.fax_bitmap.proofs.TurnedWords.{quarters_turned}
use Rattle.fax_bitmap.proofs.turned_words.turn_quarters.Given as goal

-- as many of each quarter are turned
abbrev pub invariant-quarters : goal.invariant-quarters
invariant-quarters l =
    record {
      turned : joined_pixels false l.words ≡ quarters_turned l.part l.done l.changes (joined_pixels false l.fn.words);
      within : l.done ≤ l.part;
      room : length l.words ≡ length l.fn.words;
    }

abbrev pub decreases-quarters : goal.decreases-quarters
decreases-quarters l = l.part - l.done
