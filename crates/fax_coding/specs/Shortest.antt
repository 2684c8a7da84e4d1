-- The shortest encoding of a picture (T.4, 4.1.1 and 4.2.1.3; T.6, 2.2).
use Rattle.std.specs.Prelude.{◌≡◌, ℕ, zero, suc, ◌-◌, ◌*◌, ◌/◌, ◌==◌, ◌≤◌, Bool, ◌&&◌, ◌||◌, nat_le, nat_lt, List, [], ◌∷◌, ◌++◌}
use Rattle.std.specs.Prelude.{length, if◌then◌else◌}
use Rattle.fax_bits.specs.declared.codes.Color.{Color}
use Rattle.fax_bits.specs.declared.codes.Color.TheVariants.{White, Black}
use Rattle.fax_bits.specs.declared.codes.Mode.{Mode}
use Rattle.fax_bits.specs.declared.codes.Mode.TheVariants.{Pass, Horizontal, Vertical}
use Rattle.fax_bits.specs.Bits.{Bits}
use Rattle.fax_reading.specs.Rows.{Row, white_row, opposite, changes, b1, b2, a1, a2}
use Rattle.fax_reading.specs.Encodings.{Spells, EncodesLine2D, IsPicture, PictureT6, padding, eol}
use Rattle.fax_words.specs.Chosen.{word_of_length, word_of_mode, chosen_rest, Place, vertical_mode}
use Rattle.fax_words.specs.Chosen.{is_near, place_after, is_coded}
use Rattle.fax_words.specs.Chosen.{chosen_run, chosen_line_2d}

-- ---- runs

-- The first make-up word of a run of more than 40 times 64 pixels, in times of 64 pixels: the word of 2560 pixels, except
-- where shorter ones cost fewer bits. A white word of 1664 has 6 bits, black ones of 1792, 1856 and 1920 have 11 (T.4,
-- tables 3a and 3b).
abbrev pub first_makeup : Color → ℕ → ℕ
first_makeup White times = if nat_le 66 times && nat_le times 67 then 40 else 26
first_makeup Black times =
    if times == 56 || times == 84 then 28
    else (if times == 57 || times == 85 then 29
    else (if nat_le 48 times && nat_le times 67 || nat_le 82 times && nat_le times 107 || nat_le 121 times && nat_le times 123
    then 30 else 40))

-- the words of a run, of which this number of words may come before the last two
unfoldable pub shortest_words : Color → ℕ → ℕ → Bits
shortest_words color zero n = chosen_rest color n
shortest_words color (suc words) n =
    if nat_lt n 2624 then chosen_rest color n
    else word_of_length color (64 * first_makeup color (n / 64))
    ++ shortest_words color words (n - 64 * first_makeup color (n / 64))

-- The shortest words of a run: each word before the last two has at least 1664 pixels (T.4, 4.1.1).
unfoldable pub shortest_run : Color → ℕ → Bits
shortest_run color n = shortest_words color (n / 1664) n

-- ---- one-dimensional lines

-- the runs from a position on, up to each change and up to the width, by their shortest words
abbrev pub shortest_runs_1d : ℕ → Color → ℕ → List ℕ → Bits
shortest_runs_1d width color place [] = shortest_run color (width - place)
shortest_runs_1d width color place (change ∷ changes) =
    shortest_run color (change - place) ++ shortest_runs_1d width (opposite color) change changes

-- the runs of a row, white first, by their shortest words (T.4, 4.1.1)
abbrev pub shortest_line_1d : Row → Bits
shortest_line_1d row = shortest_runs_1d (length row) White 0 (changes row)

-- ---- two-dimensional lines

-- the runs after a mode's word, as short as they can be: in horizontal mode from a0 to a1 and from a1 to a2
abbrev pub shortest_runs_of_mode : Row → Place → Mode → Bits
shortest_runs_of_mode row at Pass = []
shortest_runs_of_mode row at (Vertical k) = []
shortest_runs_of_mode row at Horizontal =
    shortest_run at.color (a1 row at.from - (at.from - 1)) ++ shortest_run (opposite at.color) (a2 row at.from - a1 row at.from)

-- The modes besides horizontal mode that a line may continue with: pass where b2 is left of a1, and vertical where a1 is near
-- b1 (T.4, 4.2.1.3.1).
abbrev pub other_modes : Row → Row → Place → List Mode
other_modes reference row at =
    (if nat_lt (b2 reference at.from at.color) (a1 row at.from) then Pass ∷ [] else [])
    ++ (if is_near (b1 reference at.from at.color) (a1 row at.from)
    then vertical_mode (b1 reference at.from at.color) (a1 row at.from) ∷ [] else [])

-- the first of two, unless the second is shorter
abbrev pub shorter : Bits → Bits → Bits
shorter first second = if nat_le (length first) (length second) then first else second

-- the shortest of what these modes and horizontal mode yield, and the first of those
abbrev pub shortest_of : (Mode → Bits) → List Mode → Bits
shortest_of bits_with [] = bits_with Horizontal
shortest_of bits_with (mode ∷ modes) = shorter (bits_with mode) (shortest_of bits_with modes)

-- The modes from a position to the row's end that have the fewest bits, within this number of modes. Where several begin
-- equally short codings it is pass rather than vertical, and vertical rather than horizontal, as in T.4, 4.2.1.3.2.
unfoldable pub shortest_from : ℕ → Row → Row → Place → Bits
shortest_from zero reference row at = []
shortest_from (suc modes) reference row at =
    if is_coded row at then []
    else shortest_of (λ mode. (word_of_mode mode ++ shortest_runs_of_mode row at mode)
    ++ shortest_from modes reference row (place_after reference row at mode)) (other_modes reference row at)

-- the modes of a row with the fewest bits, from the position left of it: each makes progress to the right (T.4, 4.2.1.3)
unfoldable pub shortest_line_2d : Row → Row → Bits
shortest_line_2d reference row = shortest_from (suc (length row)) reference row (record { from = 0; color = White })

-- ---- pictures

-- lines of T.6 in order, each as short as it can be, and filled up to a whole byte where they are aligned
abbrev pub shortest_lines_2d : Bool → Row → List Row → Bits
shortest_lines_2d aligned reference [] = []
shortest_lines_2d aligned reference (row ∷ rows) =
    shortest_line_2d reference row ++ (if aligned then padding (length (shortest_line_2d reference row)) else [])
    ++ shortest_lines_2d aligned row rows

-- the shortest picture of T.6: its lines and EOFB (T.6, 2.4.1.1)
abbrev pub shortest_t6 : ℕ → Bool → List Row → Bits
shortest_t6 columns aligned rows = shortest_lines_2d aligned (white_row columns) rows ++ eol 0 ++ eol 0

-- ---- laws

-- The shortest words of a run spell it, no words that do have fewer bits, and they are those of T.4's rule unless these have
-- more bits (T.4, 4.1.1).
abbrev pub ShortestRuns : Type 0
ShortestRuns = (color : Color) (n : ℕ) → Spells color n (shortest_run color n)
    × ((bits : Bits) → Spells color n bits → length (shortest_run color n) ≤ length bits)
    × (length (chosen_run color n) ≤ length (shortest_run color n) → shortest_run color n ≡ chosen_run color n)

-- The shortest line encodes its row, no encoding of the row has fewer bits, and it is the one that T.6's procedure chooses
-- unless that has more bits (T.4, 4.2.1.3; T.6, 2.2).
abbrev pub ShortestLines : Type 0
ShortestLines = (reference row : Row) → length reference ≡ length row
    → EncodesLine2D reference row 0 White (shortest_line_2d reference row)
    × ((bits : Bits) → EncodesLine2D reference row 0 White bits → length (shortest_line_2d reference row) ≤ length bits)
    × (length (chosen_line_2d reference row) ≤ length (shortest_line_2d reference row)
    → shortest_line_2d reference row ≡ chosen_line_2d reference row)

-- The shortest T.6 picture is an encoding of its rows, and no encoding with the same alignment has fewer bits (T.6, 2).
abbrev pub ShortestPicturesT6 : Type 0
ShortestPicturesT6 = (columns : ℕ) (aligned : Bool) (rows : List Row) → IsPicture columns rows
    → PictureT6 columns aligned rows (shortest_t6 columns aligned rows)
    × ((bits : Bits) → PictureT6 columns aligned rows bits → length (shortest_t6 columns aligned rows) ≤ length bits)
