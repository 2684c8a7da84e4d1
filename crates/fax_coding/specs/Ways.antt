-- How a two-dimensional line continues from a change with the fewest bits (T.4, 4.2.1.3; T.6, 2.2).
use Rattle.std.specs.Prelude.{◌≡◌, ℕ, zero, suc, ◌+◌, ◌-◌, ◌<◌, ◌≤◌, Bool, true, false, List, [], ◌∷◌, ◌++◌, length, get_or}
use Rattle.std.specs.Prelude.{if◌then◌else◌}
use Rattle.fax_bits.specs.declared.codes.Color.{Color}
use Rattle.fax_bits.specs.declared.codes.Color.TheVariants.{White}
use Rattle.fax_bits.specs.declared.codes.Mode.{Mode}
use Rattle.fax_bits.specs.declared.codes.Mode.TheVariants.{Pass, Horizontal}
use Rattle.fax_bits.specs.Bits.{Bits}
use Rattle.fax_reading.specs.Rows.{AreChanges, Row, opposite, pixels, a1, b1, b2}
use Rattle.fax_coding.specs.declared.group4.Coding.{Coding}
use Rattle.fax_coding.specs.declared.shortest_lines.Ahead.{Ahead}
use Rattle.fax_coding.specs.declared.shortest_lines.Way.{Way}
use Rattle.fax_words.specs.declared.words.Word.{Word}
use Rattle.fax_words.specs.Chosen.{Place, word_of_mode, vertical_mode, is_near, place_after}
use Rattle.fax_coding.specs.Coding.{IsNear, color_after, place_of}
use Rattle.fax_coding.specs.Shortest.{shortest_run, shortest_from, shortest_runs_of_mode, shortest_of}
use Rattle.fax_words.specs.Writing.{IsWord}

-- the modes from a position to the row's end that have the fewest bits
unfoldable pub shortest_rest : Row → Row → Place → Bits
shortest_rest reference row at = shortest_from (suc (length row) - at.from) reference row at

-- a mode, its runs, and the shortest rest
unfoldable pub begun_in : Row → Row → Place → Mode → Bits
begun_in reference row at mode =
    (word_of_mode mode ++ shortest_runs_of_mode row at mode) ++ shortest_rest reference row (place_after reference row at mode)

-- the bits of the vertical mode from a b1 to an a1 (T.4, table 4)
unfoldable pub bits_of_vertical : ℕ → ℕ → ℕ
bits_of_vertical start to = length (word_of_mode (vertical_mode start to))

-- the vertical mode from b1 to a1
abbrev pub vertical_at : Row → Row → Place → Mode
vertical_at reference row at = vertical_mode (b1 reference at.from at.color) (a1 row at.from)

-- vertical mode, or horizontal mode
abbrev pub mode_of : Row → Row → Place → Bool → Mode
mode_of reference row at vertical = if vertical then vertical_at reference row at else Horizontal

-- the shortest that begins in vertical mode, where that is valid, or in horizontal mode
unfoldable pub without_pass : Row → Row → Place → Bits
without_pass reference row at =
    shortest_of (begun_in reference row at)
    (if is_near (b1 reference at.from at.color) (a1 row at.from) then vertical_at reference row at ∷ [] else [])

-- one pass on
abbrev pub passed : Row → Place → Place
passed reference at = record at { from = suc (b2 reference at.from at.color) }

-- a number of passes on
unfoldable pub passed_by : Row → Place → ℕ → Place
passed_by reference at zero = at
passed_by reference at (suc n) = passed reference (passed_by reference at n)

-- the words of a number of passes
unfoldable pub words_of_passes : ℕ → Bits
words_of_passes zero = []
words_of_passes (suc n) = word_of_mode Pass ++ words_of_passes n

-- a number of passes, then vertical mode or horizontal mode, and the shortest rest
unfoldable pub way_bits : Row → Row → Place → ℕ → Bool → Bits
way_bits reference row at passes vertical =
    words_of_passes passes ++ begun_in reference row (passed_by reference at passes)
    (mode_of reference row (passed_by reference at passes) vertical)

-- b2 is left of a1
abbrev pub MayPass : Row → Row → Place → Type 0
MayPass reference row at = b2 reference at.from at.color < a1 row at.from

-- the passes of a way and the mode after them are valid (T.4, 4.2.1.3.1)
pub record IsLawful (reference row : Row) (at : Place) (way : Way) : Type 0 where
  pub passes : (k : ℕ) → k < way.passes → MayPass reference row (passed_by reference at k)
  pub near : way.is_vertical ≡ true → is_near (b1 reference (passed_by reference at way.passes).from
      (passed_by reference at way.passes).color) (a1 row (passed_by reference at way.passes).from) ≡ true

-- the word of the mode after the passes of a way
abbrev pub mode_word : Way → Word
mode_word way = record { count = way.count; bits = way.word }

-- the word of the mode from a position on, and in horizontal mode the length of its first run (T.4, 4.2.1.3.1)
pub record IsSpelled (reference row : Row) (at : Place) (way : Way) : Type 0 where
  pub word : IsWord (word_of_mode (mode_of reference row at way.is_vertical)) (mode_word way)
  pub first : way.is_vertical ≡ false → way.first ≡ a1 row at.from - (at.from - 1)

-- a way with this number of passes, the shortest without another pass
pub record IsFound (reference row : Row) (at : Place) (k : ℕ) (way : Way) : Type 0 where
  pub passes : way.passes ≡ k
  pub near : way.is_vertical ≡ true → is_near (b1 reference (passed_by reference at k).from (passed_by reference at k).color)
      (a1 row (passed_by reference at k).from) ≡ true
  pub bits : way.bits ≡ length (way_bits reference row at k way.is_vertical)
  pub is : words_of_passes k ++ without_pass reference row
      (passed_by reference at k) ≡ way_bits reference row at k way.is_vertical
  pub spelled : IsSpelled reference row (passed_by reference at k) way

-- a way is valid, and its bits are the fewest
pub record IsShortest (reference row : Row) (at : Place) (way : Way) : Type 0 where
  pub lawful : IsLawful reference row at way
  pub bits : way.bits ≡ length (way_bits reference row at way.passes way.is_vertical)
  pub is : shortest_rest reference row at ≡ way_bits reference row at way.passes way.is_vertical
  pub spelled : IsSpelled reference row (passed_by reference at way.passes) way

-- the position right of a number of changes, and the colour there
unfoldable pub right_of_changes : ℕ → List ℕ → ℕ → Place
right_of_changes columns changes zero = record { from = 0; color = White }
right_of_changes columns changes (suc n) = record { from = suc (get_or changes n columns); color = color_after (suc n) }

-- a row's coding below another stands right of a number of changes, and b1 is found from its index on
pub record StandsRight (columns : ℕ) (above row : List ℕ) (at : Coding) : Type 0 where
  pub reference : AreChanges columns above
  pub changes : AreChanges columns row
  pub inside : at.next ≤ length row
  pub right : place_of at ≡ right_of_changes columns row at.next
  pub near : IsNear columns above (place_of at) at.above

-- the fewest bits of what is right of a number of changes
unfoldable pub bits_right_of : ℕ → List ℕ → List ℕ → ℕ → ℕ
bits_right_of columns reference changes n =
    length (shortest_rest (pixels columns reference) (pixels columns changes) (right_of_changes columns changes n))

-- what is right of a number of changes: the next two, and the fewest bits from each on
pub record IsAhead (columns : ℕ) (reference changes : List ℕ) (n : ℕ) (ahead : Ahead) : Type 0 where
  pub a1 : ahead.a1 ≡ get_or changes n columns
  pub a2 : ahead.a2 ≡ get_or changes (n + 1) columns
  pub after_a1 : ahead.after_a1 ≡ bits_right_of columns reference changes (n + 1)
  pub after_a2 : ahead.after_a2 ≡ bits_right_of columns reference changes (n + 2)

-- the bits of vertical mode and of what follows it
abbrev pub bits_in_vertical : ℕ → Ahead → ℕ
bits_in_vertical start ahead = bits_of_vertical start ahead.a1 + ahead.after_a1

-- the bits of horizontal mode from a position, and of what follows it
abbrev pub bits_in_horizontal : Color → ℕ → Ahead → ℕ
bits_in_horizontal color from ahead =
    length (shortest_run color (ahead.a1 - (from - 1)))
    + (length (shortest_run (opposite color) (ahead.a2 - ahead.a1)) + 3 + ahead.after_a2)

-- auxiliary: no way
abbrev pub no_way : Way
no_way = record { bits = 0; passes = 0; first = 0; word = 0; count = 0; is_vertical = false }

-- a line's ways, one for each number of changes, the last first
pub record AreWays (columns : ℕ) (reference changes : List ℕ) (ways : List Way) : Type 0 where
  pub count : length ways ≡ length changes + 1
  pub each : (n : ℕ) → n ≤ length changes → IsShortest (pixels columns reference) (pixels columns changes)
      (right_of_changes columns changes n) (get_or ways (length changes - n) no_way)
