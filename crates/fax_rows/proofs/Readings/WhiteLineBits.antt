-- White lines below a white row are read from their bits, whatever follows.
use Rattle.fax_rows.proofs.Names.{common_steps, ◌≡◌, ℕ, ◌+◌, ◌-◌, ◌*◌, ◌/◌, ◌%◌, ◌<◌, ◌≤◌, ◌++◌, ◌∷◌, [], Bool}
use Rattle.fax_rows.proofs.Names.{true, false, cond, leb, List, length, drop, None, Ok, pos, refl, sym, ap, subst, ◌∙◌, arith}
use Rattle.fax_rows.proofs.Names.{le-leb, false≢true, append_assoc, drop-drop, Bits, BitsAt, here, moved, Color, White, Black}
use Rattle.fax_rows.proofs.Names.{codes_of, Has, read_code, mode_codes, Vertical, IsWordHere, IsRunHere, GoesOn, GoesOn2d}
use Rattle.fax_rows.proofs.Names.{pen_at, Line, Pen, Row, Turn, Step, drawn, draw_2d, words_drawn, turn_following, words_after}
use Rattle.fax_rows.proofs.Names.{line_1d, line_2d, found_1d, pixels, Spells, after_eol, Group3_1D, Group3_2D, Group4}
use Rattle.fax_reading.specs.Lines.{draw_1d, found_2d}
use Rattle.fax_rows.specs.WhiteLines.{AreWhiteLine, IsWhiteRun, FitsIn, bits_of_word}
use Rattle.fax_bits.specs.Bits.{low_bits}
use Rattle.fax_bits.specs.WhiteWords.{IsWhiteWord}
use Rattle.fax_bits.specs.declared.tables.CodeWord.{CodeWord}
use Rattle.fax_bits.proofs.BitReading.BitLists.{length-low_bits}
use Rattle.fax_bits.proofs.BitReading.ZerosInWords.{codes_free}
use Rattle.fax_bits.proofs.CodeWords.ReadCodes.{read_code_again}
use Rattle.fax_bits.proofs.CodeWords.WordsHere.{run_of_two, word_is_run}
use Rattle.fax_reading.proofs.DrawingLines.CountedLines.{found_1d_from, found_2d_from, found_after}
use Rattle.fax_reading.proofs.DrawingLines.Drawings.{step_1d, step_2d}
use Rattle.fax_reading.proofs.DrawingLines.ReadLines.{drawn1, drawn2, pen_left, step_1d_shrinks, step_2d_shrinks}
use Rattle.fax_lines.proofs.DrawingLines.UsualModes.{white_line}
use Rattle.fax_lines.proofs.DrawingLines.UsualStrokes.{white_ends}
use Rattle.fax_reading.proofs.EncodedPictures.PicturesT4.{run_starts}
use Rattle.fax_reading.proofs.PixelRows.ChangesAndPixels.{length-pixels}
use Rattle.fax_bits.proofs.Repetition.Gathered.{gathered_turn}
use Rattle.fax_bits.proofs.Repetition.Repeated.{after_turn}
use Rattle.std.specs.Prelude.{◌^◌}
use Rattle.std.proofs.Math.Seq.{drop-append_seam}
use Rattle.std.proofs.lemmas.Nat.{or_shifted, pow-add, shl_whole, mul-add-lt}
use Rattle.std.specs.Int.Bits.{bit_or}
use Rattle.fax_bits.proofs.BitReading.WordRanges.{low_bits_joined}

-- ---- Two words as one

module _ (first second : CodeWord) (bits : ℕ) (a : FitsIn first 12) (b : FitsIn second 21)
    (is : bits ≡ bit_or (first.bits * 2 ^ second.count % 2 ^ 64) second.bits) where
  sum : bits ≡ first.bits * 2 ^ second.count + second.bits
  sum =
      is
      ∙ ap (λ (n : ℕ). bit_or n second.bits) (shl_whole first.bits first.count second.count 64 a.fits
      (omega (arith, a.few, b.few)))
      ∙ or_shifted first.bits second.count second.bits b.fits

  pub joined_fits : bits < 2 ^ (first.count + second.count)
  joined_fits = omega (
    arith,
    sum,
    mul-add-lt first.bits (2 ^ second.count) second.bits (2 ^ first.count) a.fits b.fits,
    pow-add 2 second.count first.count,
    ap (λ (k : ℕ). 2 ^ k) (let e : first.count + second.count ≡ second.count + first.count = omega arith in e),
  )

  pub joined_bits : low_bits (first.count + second.count) bits ≡ bits_of_word first ++ bits_of_word second
  joined_bits = grind (arith, common_steps, sum, low_bits_joined)

-- ---- A white run of one word or two

-- a word that begins the bits here
word_there : (color : Color) (at : BitsAt) (run width : ℕ) (word rest : Bits) → Has (codes_of color) run word
    → here at ≡ word ++ rest → length word ≡ width → width ≤ 13 → IsWordHere color at run width
word_there color at run width word rest has is long few =
    let after : here (moved width at) ≡ rest = sym (drop-drop width at.place at.bits) ∙ ap (drop width) is
    ∙ ap (λ (n : ℕ). drop n (word ++ rest)) (sym long) ∙ drop-append_seam word rest in
    record {
      read = ap (read_code (codes_of color)) is ∙ read_code_again (codes_of color) run word rest (codes_free color) has
          ∙ ap (λ (b : Bits). Ok (run, b)) (sym after);
      few = few;
    }

after_word : (at : BitsAt) (width : ℕ) (word rest : Bits) → here at ≡ word ++ rest → length word ≡ width
    → here (moved width at) ≡ rest
after_word at width word rest is long =
    sym (drop-drop width at.place at.bits) ∙ ap (drop width) is
    ∙ ap (λ (n : ℕ). drop n (word ++ rest)) (sym long) ∙ drop-append_seam word rest

pub one_word_run : (columns : ℕ) (word : CodeWord) → columns < 64 → IsWhiteWord columns word → IsWhiteRun columns word
one_word_run columns word lt is = record {
  is_whole = record { few = omega (arith, is.few); fits = is.fits };
  some = is.some;
  spells = Spells.terminating columns (bits_of_word word) is.listed lt;
  run = λ rest. (
    1,
    omega arith,
    word_is_run White (record { bits = bits_of_word word ++ rest; place = 0 }) columns word.count
        (word_there White (record { bits = bits_of_word word ++ rest; place = 0 }) columns word.count (bits_of_word word) rest
        is.listed refl (length-low_bits word.count word.bits) (omega (arith, is.few))) lt,
  );
}

module _ (columns : ℕ) (first second word : CodeWord) (some : 64 ≤ columns) (few : columns ≤ 2623)
    (makeup : IsWhiteWord (64 * (columns / 64)) first) (last : IsWhiteWord (columns % 64) second)
    (is_whole : FitsIn word (first.count + second.count)) (count : word.count ≡ first.count + second.count)
    (bits : bits_of_word word ≡ bits_of_word first ++ bits_of_word second) where
  short : columns % 64 < 64
  short = omega arith

  long : 64 ≤ 64 * (columns / 64)
  long = omega (arith, some)

  width : ℕ
  width = 64 * (columns / 64) + columns % 64

  total : 64 * (columns / 64) + columns % 64 ≡ columns
  total = omega arith

  spells_both : Spells White columns (bits_of_word word)
  spells_both = subst (λ (n : ℕ). Spells White n (bits_of_word word)) total (subst (λ (b : Bits). Spells White (64 *
      (columns / 64)
      + columns % 64) b) (sym bits) (Spells.makeup (64 * (columns / 64)) (bits_of_word first) makeup.listed long
      (Spells.terminating (columns % 64) (bits_of_word second) last.listed short)))

  abbrev at : Bits → BitsAt
  at rest = record { bits = bits_of_word word ++ rest; place = 0 }

  starts_with : (rest : Bits) → here (at rest) ≡ bits_of_word first ++ (bits_of_word second ++ rest)
  starts_with rest = ap (λ (b : Bits). b ++ rest) bits ∙ append_assoc (bits_of_word first) (bits_of_word second) rest

  first_there : (rest : Bits) → IsWordHere White (at rest) (64 * (columns / 64)) first.count
  first_there rest = word_there White (at rest) (64 * (columns / 64)) first.count (bits_of_word first) (bits_of_word
      second ++ rest)
      makeup.listed (starts_with rest) (length-low_bits first.count first.bits) (omega (arith, makeup.few))

  second_there : (rest : Bits) → IsWordHere White (moved first.count (at rest)) (columns % 64) second.count
  second_there rest = word_there White (moved first.count (at rest)) (columns % 64) second.count (bits_of_word second) rest
      last.listed (after_word (at rest) first.count (bits_of_word first) (bits_of_word second ++ rest) (starts_with rest)
      (length-low_bits first.count first.bits)) (length-low_bits second.count second.bits) (omega (arith, last.few))

  runs : (rest : Bits) → IsRunHere White (at rest) columns word.count 2
  runs rest =
      subst (λ (n : ℕ). IsRunHere White (at rest) n word.count 2) total
      (subst (λ (n : ℕ). IsRunHere White (at rest) (64 * (columns / 64) + columns % 64) n 2) (sym count)
      (run_of_two White (at rest) (64 * (columns / 64)) first.count (columns % 64) second.count (first_there rest)
      (second_there rest) long short (omega (arith, few))))

  pub two_word_run : IsWhiteRun columns word
  two_word_run = grind (arith, common_steps, short, spells_both, runs)

-- ---- The line of a white run

-- a row that is full is drawn, and finds no word more
pub full_words : (full : Bool) (line : Line) (pen : Pen) (words : Pen → List Bits) → full ≡ true
    → ◌≡◌ {A = List Bits} ([] ++ words_after (cond full (Turn.done line) (Turn.next pen)) words) []
full_words true _ pen words is = refl
full_words false _ pen words is = absurd (false≢true is)

pub full_step : (full : Bool) (line : Line) (pen : Pen) (step : Pen → Step) → full ≡ true
    → turn_following (cond full (Turn.done line) (Turn.next pen)) step ≡ Turn.done line
full_step true _ pen step is = refl
full_step false _ pen step is = absurd (false≢true is)

module _ (strict : Bool) (columns : ℕ) (pen : Pen) (full : columns ≤ length pen.front) where
  is_full1 : leb columns (length pen.front) ≡ true
  is_full1 = le-leb columns (length pen.front) full

  last_step1 : step_1d strict columns pen ≡ Turn.done (Line.whole pen.front pen.rest)
  last_step1 = full_step (leb columns (length pen.front)) (Line.whole pen.front pen.rest) pen _ is_full1

  full_line1 : drawn (draw_1d strict columns) pen ≡ Line.whole pen.front pen.rest
  full_line1 = drawn1 strict columns pen ∙ ap (after_turn (drawn (draw_1d strict columns))) last_step1

  no_words1 : words_drawn (draw_1d strict columns) pen ≡ []
  no_words1 =
      grind (
        arith,
        common_steps,
        gathered_turn,
        step_1d,
        pen_left,
        step_1d_shrinks,
        found_after,
        found_1d_from,
        full_words,
        is_full1,
        last_step1,
      )

module _ (columns : ℕ) (word : CodeWord) (wide : 0 < columns) (run : IsWhiteRun columns word) (rest : Bits) where
  abbrev at_run : BitsAt
  at_run = record { bits = bits_of_word word ++ rest; place = 0 }

  abbrev end_run : Pen
  end_run = pen_at columns [] Black (moved word.count at_run)

  after_run : here (moved word.count at_run) ≡ rest
  after_run = after_word at_run word.count (bits_of_word word) rest refl (length-low_bits word.count word.bits)

  goes_run : (strict : Bool) → GoesOn strict columns (pen_at 0 [] White at_run) end_run 0 (run.run rest).0
  goes_run strict =
      let found = run.run rest in
      let whole : columns ≤ columns - 0 = omega arith in
      let within : columns - 0 ≤ columns = omega arith in
      let none : at_run.place + 0 ≡ at_run.place = omega arith in
      let there : IsRunHere White (moved 0 at_run) columns word.count found.0 = found.2 in
      white_ends strict columns 0 [] at_run at_run (moved word.count at_run) columns word.count found.0 0 found.0 wide tt refl
      refl there whole within refl (omega arith)

  width_run : columns ≤ length (pixels columns [])
  width_run = omega (arith, length-pixels columns [] tt)

  pub run_is_row : (strict : Bool) → line_1d strict columns (bits_of_word word ++ rest) ≡ Line.whole (pixels columns []) rest
  run_is_row strict = sym (goes_run strict).line ∙ full_line1 strict columns end_run width_run
      ∙ ap (Line.whole (pixels columns [])) after_run

  pub run_words : (strict : Bool) → length (found_1d strict columns (bits_of_word word ++ rest)) ≤ 2
  run_words strict =
      omega (arith, (goes_run strict).counted, ap length (no_words1 strict columns end_run width_run), (run.run rest).1)

  pub no_eol_at_run : after_eol 0 (bits_of_word word ++ rest) ≡ None
  no_eol_at_run = (run_starts White columns (bits_of_word word) rest run.spells).no_eol

length_some : (word : CodeWord) → 0 < word.count → 0 < length (bits_of_word word)
length_some word some = omega (arith, length-low_bits word.count word.bits, some)

pub run_line : (columns : ℕ) (word : CodeWord) → 0 < columns → IsWhiteRun columns word
    → AreWhiteLine Group3_1D columns (bits_of_word word)
run_line columns word wide run = grind (arith, common_steps, length_some, run_is_row, run_words, no_eol_at_run)

pub tagged_run_line : (columns : ℕ) (word : CodeWord) (line : Bits) → 0 < columns → IsWhiteRun columns word
    → line ≡ true ∷ bits_of_word word → AreWhiteLine Group3_2D columns line
tagged_run_line columns word line wide run is = grind (arith, common_steps, run_is_row, run_words, no_eol_at_run)

-- ---- V0

module _ (strict : Bool) (columns : ℕ) (reference : Row) (pen : Pen) (full : columns ≤ length pen.front) where
  is_full2 : leb columns (length pen.front) ≡ true
  is_full2 = le-leb columns (length pen.front) full

  last_step2 : step_2d strict columns reference pen ≡ Turn.done (Line.whole pen.front pen.rest)
  last_step2 = full_step (leb columns (length pen.front)) (Line.whole pen.front pen.rest) pen _ is_full2

  full_line2 : drawn (draw_2d strict columns reference) pen ≡ Line.whole pen.front pen.rest
  full_line2 = drawn2 strict columns reference pen ∙ ap (after_turn (drawn (draw_2d strict columns reference))) last_step2

  no_words2 : words_drawn (draw_2d strict columns reference) pen ≡ []
  no_words2 =
      grind (
        arith,
        common_steps,
        gathered_turn,
        step_2d,
        pen_left,
        step_2d_shrinks,
        found_after,
        found_2d_from,
        full_words,
        is_full2,
        last_step2,
      )

-- the code of V0
v0_read : (rest : Bits) → read_code mode_codes (true ∷ rest) ≡ Ok (Vertical (pos 0), rest)
v0_read rest = refl

module _ (columns : ℕ) (wide : 0 < columns) (fits : columns ≤ 4294967295) (rest : Bits) where
  abbrev at_v0 : BitsAt
  at_v0 = record { bits = true ∷ rest; place = 0 }

  abbrev end_v0 : Pen
  end_v0 = pen_at columns [] Black (moved 1 at_v0)

  goes_v0 : (strict : Bool) → GoesOn2d strict columns (pixels columns []) (pen_at 0 [] White at_v0) end_v0 0 2 0 0
  goes_v0 strict = white_line strict columns at_v0 0 2 wide fits (v0_read rest) refl

  width_v0 : columns ≤ length (pixels columns [])
  width_v0 = omega (arith, length-pixels columns [] tt)

  pub v0_is_row : (strict : Bool) → line_2d strict columns (pixels columns []) (true ∷ rest) ≡ Line.whole (pixels columns []) rest
  v0_is_row strict = sym (goes_v0 strict).line ∙ full_line2 strict columns (pixels columns []) end_v0 width_v0

  pub v0_words : (strict : Bool) → length (found_2d strict columns (pixels columns []) (true ∷ rest)) ≤ 2
  v0_words strict =
      omega (arith, (goes_v0 strict).at_least, ap length (no_words2 strict columns (pixels columns []) end_v0 width_v0))

pub v0_line : (columns : ℕ) → 0 < columns → columns ≤ 4294967295 → AreWhiteLine Group4 columns (true ∷ [])
v0_line columns wide fits = grind (arith, common_steps, v0_is_row, v0_words)

pub tagged_v0_line : (columns : ℕ) → 0 < columns → columns ≤ 4294967295 → AreWhiteLine Group3_2D columns (false ∷ true ∷ [])
tagged_v0_line columns wide fits = grind (arith, common_steps, v0_is_row, v0_words)
