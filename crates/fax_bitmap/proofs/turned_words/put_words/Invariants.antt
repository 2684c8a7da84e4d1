use Rattle.fax_bitmap.proofs.Names.{◌≡◌, ◌≤◌, ◌-◌, ◌*◌, ◌++◌, bit_of, bits_of, drop, false, joined_pixels, length, take}
use Rattle.fax_bitmap.proofs.Names.{plain_pixels}
use Rattle.fax_bitmap.proofs.turned_words.put_words.Given as goal

-- what is written, and the words that are left
abbrev pub invariant-words : goal.invariant-words
invariant-words l =
    record {
      written : bits_of (take (8 * l.at) l.row) ++ joined_pixels (bit_of l.color 0) (drop l.at l.words)
          ≡ joined_pixels false l.words;
      plain : l.color ≡ plain_pixels (bit_of l.color 0);
      within : 8 * l.at ≤ length l.row;
      room : length l.row ≡ length l.fn.row;
    }

abbrev pub decreases-words : goal.decreases-words
decreases-words l = length l.row - 8 * l.at
