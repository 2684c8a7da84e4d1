-- What the words that a line finds say of the bits that it consumed: they pay for what it counts.
use Rattle.fax_reading.proofs.Names.{length-append, common_steps, append_assoc, EncodingMode, false≢true, line_found}
use Rattle.fax_reading.proofs.Names.{looked, tag_at, false, arith, Bool, true, List, ◌++◌, Bits, Line, ◌≡◌, ◌+◌, ◌<◌, ◌≤◌}
use Rattle.fax_reading.proofs.Names.{replicate, cases_lt, AreWords, found_1d, found_2d, line_1d, line_2d, length, joined}
use Rattle.fax_reading.proofs.Names.{◌∷◌, Row, [], ap, ℕ}
use Rattle.fax_bits.proofs.BitReading.ZerosInWords.{prefix_of_prefix, no_eleven_in, holds_a_one, word_one}
use Rattle.fax_reading.proofs.CodeWords.WordsFound.{words_synchronised, line_1d_stands, line_2d_stands, WordsStand, LineEnds}
use Rattle.fax_reading.proofs.DrawingLines.ReadLines.{line_1d_took_bits, line_2d_took_bits, TookBits}

-- ---- Consecutive words have a bit each, and contain a one.

some_bit : (word : Bits) → holds_a_one word ≡ true → 0 < length word
some_bit word e = grind (arith, common_steps, false≢true)

words_bits : (words : List Bits) → AreWords words → length words ≤ length (joined words)
words_bits [] are = omega arith
words_bits (word ∷ words) are =
    omega (arith, words_bits words are.1, some_bit word (word_one word are.0), length-append word (joined words))

-- there are no more words than bits
pub stands_count : (here : Bits) (found : List Bits) (rest : Bits) → WordsStand here found rest
    → length found + length rest ≤ length here
stands_count here found rest stands = grind (arith, common_steps, words_bits, length-append)

looked_word : (word more : Bits) → holds_a_one word ≡ true → looked (word ++ more) ≤ length word
looked_word [] more e = absurd (false≢true e)
looked_word (true ∷ word) more e = omega arith
looked_word (false ∷ word) more e = omega (arith, looked_word word more e)

-- an EOL at or after a line's start, its tag included, ends past each word
pub stands_before_eol : (tag : Bool) (here : Bits) (found : List Bits) (rest fill after : Bits) → WordsStand here found rest
    → tag ∷ here ≡ fill ++ replicate 11 false ++ true ∷ after → length after < length rest
stands_before_eol tag here found rest fill after stands e = grind (
  arith,
  common_steps,
  cases_lt (length after) (length rest),
  length-append (joined found) rest,
  length-append (fill ++ replicate 11 false) (true ∷ after),
  prefix_of_prefix (fill ++ replicate 11 false) (true ∷ after) (tag ∷ joined found) rest,
  no_eleven_in tag found stands.words,
)

-- ---- What a line pays.

-- a whole line: some words, within the bits that it consumed, and zeros ahead within them
pub record LineIsPaid (here rest : Bits) (found : List Bits) : Type 0 where
  pub some : 0 < length found
  pub words : length found + length rest ≤ length here
  pub zeros : looked here + length rest ≤ length here

paid_by : (here rest : Bits) (found : List Bits) → WordsStand here found rest → length rest < length here
    → LineIsPaid here rest found
paid_by here rest [] stands lt = absurd (omega (arith, lt, ap length stands.place))
paid_by here rest (word ∷ found) stands lt =
    grind (arith, common_steps, stands_count here (word ∷ found) rest stands, append_assoc, looked_word, word_one, length-append)

whole_paid : (here : Bits) (line : Line) (found : List Bits) (end : Bits) (row : Row) (rest : Bits) → WordsStand here found end
    → LineEnds line end → TookBits (length here) line → line ≡ Line.whole row rest → LineIsPaid here rest found
whole_paid here line found end row rest stands ends took e = grind (arith, common_steps, paid_by here rest found)

pub line_1d_paid : (strict : Bool) (columns : ℕ) (here : Bits) (row : Row) (rest : Bits) → 0 < columns
    → line_1d strict columns here ≡ Line.whole row rest → LineIsPaid here rest (found_1d strict columns here)
line_1d_paid strict columns here row rest wide e = let stands = line_1d_stands strict columns here in
    whole_paid here (line_1d strict columns here)
    (found_1d strict columns here) stands.0 row rest stands.1 stands.2 (line_1d_took_bits strict columns here wide) e

pub line_2d_paid : (strict : Bool) (columns : ℕ) (reference : Row) (here : Bits) (row : Row) (rest : Bits) → 0 < columns
    → line_2d strict columns reference here ≡ Line.whole row rest → LineIsPaid here rest (found_2d strict columns reference here)
line_2d_paid strict columns reference here row rest wide e = let stands = line_2d_stands strict columns reference here in
    whole_paid here (line_2d strict columns reference here) (found_2d strict columns reference here) stands.0 row rest stands.1
    stands.2 (line_2d_took_bits strict columns reference here wide) e

-- a line finds no more words than there are bits
pub found_within : (encoding : EncodingMode) (strict : Bool) (columns : ℕ) (reference : Row) (here : Bits)
    → length (line_found encoding strict columns reference here) ≤ length here
found_within encoding strict columns reference here =
    let words : List Bits = line_found encoding strict columns reference here in
    let found = words_synchronised.before_eol encoding strict columns reference here in
    omega (
      arith,
      words_bits words found.are,
      ap length found.stand.1,
      length-append (tag_at encoding here ++ joined words) found.stand.0,
      length-append (tag_at encoding here) (joined words),
    )

-- and if there is an EOL at or after its start, no more than there are bits before the EOL's end
pub found_before_eol : (encoding : EncodingMode) (strict : Bool) (columns : ℕ) (reference : Row) (here fill after : Bits)
    → here ≡ fill ++ replicate 11 false ++ true ∷ after
    → length (line_found encoding strict columns reference here) + length after ≤ length here
found_before_eol encoding strict columns reference here fill after e =
    let words : List Bits = line_found encoding strict columns reference here in
    let found = words_synchronised.before_eol encoding strict columns reference here in
    omega (
      arith,
      words_bits words found.are,
      found.end fill after e,
      length-append (tag_at encoding here) (joined words),
      ap length e,
      length-append (fill ++ replicate 11 false) (true ∷ after),
      length-append fill (replicate 11 false),
    )
