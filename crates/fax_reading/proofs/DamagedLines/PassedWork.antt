-- What passing lines counts.
use Rattle.fax_reading.proofs.Names.{Horizontal, mode_codes, mode_found, runs_found, word_found, none-some, read_code, after_eol}
use Rattle.fax_reading.proofs.Names.{after_second_run, runs_found_after, after_first_run, second_run_found, most_for_lines, []}
use Rattle.fax_reading.proofs.Names.{false, subst, arith, Color, true, List, ◌++◌, drop, Some, None, refl, Mode, Pass, Bits, ◌≡◌}
use Rattle.fax_reading.proofs.Names.{length-append, common_steps, DecodeError, tagged_eols, after_mode, after_read, after_word}
use Rattle.fax_reading.proofs.Names.{run_found, Vertical, opposite, read_run, next_eol, IsLine2D, length, Option, Result, looked}
use Rattle.fax_reading.proofs.Names.{suc, ◌+◌, ◌*◌, ◌<◌, ◌≤◌, ◌∷◌, Err, inr, Ok, ℕ}
use Rattle.fax_bits.proofs.BitReading.{ConsecutiveEols.all_tagged-some, ConsecutiveEols.next_eol_found, ZeroRuns.looked_eol}
use Rattle.fax_reading.proofs.CodeWords.WordsFound.{no_word_stands, stands_append, stands_none, word_stands, WordsStand, RunEnds}
use Rattle.fax_reading.proofs.{Work.EolsPassed.next_eol_within, Work.EolsPassed.looked_most, CodeWords.WordsFound.run_stands}
use Rattle.fax_reading.proofs.{Work.WordsPay.stands_before_eol, Work.WordsPay.stands_count, DamagedLines.LineTails.after_eol_more}

-- ---- The words of a mode and its runs are consecutive

-- what follows a mode that is read
abbrev pub ModeEnds : Option (Color × Bits) → Bits → Type 0
ModeEnds (Some found) rest = found.1 ≡ rest
ModeEnds None rest = Unit {0}

second_ends : (color : Color) (r : Result (ℕ × Bits) DecodeError) (rest : Bits) → RunEnds r rest
    → ModeEnds (after_second_run color r) rest
second_ends color r rest ends = grind arith

second_stands : (color : Color) (r : Result (ℕ × Bits) DecodeError) (middle : Bits) → RunEnds r middle
    → (rest : Bits) × WordsStand middle (second_run_found color r) rest × ModeEnds (after_first_run color r) rest
second_stands color (Ok (n, left)) middle ends = grind (arith, common_steps, run_stands (opposite color) 0 left, second_ends)
second_stands color (Err fault) middle ends = (middle, stands_none middle, tt)

runs_stand : (color : Color) (mode : Mode) (here : Bits) → (rest : Bits) × WordsStand here (runs_found color mode here) rest
    × ModeEnds (after_word color mode here) rest
runs_stand color Pass here = (here, stands_none here, refl)
runs_stand color (Vertical k) here = (here, stands_none here, refl)
runs_stand color Horizontal here =
    let first = run_stands color 0 here in
    let second = second_stands color (read_run color here) first.0 first.2 in (
      second.0,
      stands_append here first.0 second.0 (run_found color (0, here)) (second_run_found color (read_run color here)) first.1
          second.1,
      second.2,
    )

mode_words_stand : (color : Color) (here : Bits) → (rest : Bits) × WordsStand here (mode_found color here) rest
    × ModeEnds (after_mode color here) rest
mode_words_stand color here = by_read_code (read_code mode_codes here) refl
  where
    by_read_code : (r : Result (Mode × Bits) DecodeError) → read_code mode_codes here ≡ r → (rest : Bits)
        × WordsStand here (word_found mode_codes here ++ runs_found_after color r) rest × ModeEnds (after_read color r) rest
    by_read_code (Ok (mode, left)) e = let runs = runs_stand color mode left in (
      runs.0,
      stands_append here left runs.0 (word_found mode_codes here) (runs_found color mode left)
          (word_stands mode_codes here mode left (λ w i. inr (mode, i)) e) runs.1,
      runs.2,
    )
    by_read_code (Err fault) e = (
      here,
      stands_append here here here (word_found mode_codes here) [] (no_word_stands mode_codes here fault e) (stands_none here),
      tt,
    )

-- ---- Modes, one after another

-- the words that were read from the start up to here are consecutive, and as many were counted
abbrev pub WordsPassed : Bits → Bits → ℕ → ℕ → Type 0
WordsPassed start here begun now = (found : List Bits) × WordsStand start found here × (now ≤ begun + length found)

-- a mode more
pub passed_mode : (start : Bits) (color : Color) (here : Bits) (next : Color) (rest : Bits) (begun before now : ℕ)
    → WordsPassed start here begun before → after_mode color here ≡ Some (next, rest)
    → now ≤ before + length (mode_found color here) → WordsPassed start rest begun now
passed_mode start color here next rest begun before now (found, stands, most) e work =
    let mode = mode_words_stand color here in
    let same : rest ≡ mode.0 = subst (λ (o : Option (Color × Bits)). ModeEnds o mode.0) e mode.2 in (
      found ++ mode_found color here,
      grind (arith, common_steps, stands_append start here rest found (mode_found color here) stands),
      omega (arith, most, work, length-append found (mode_found color here)),
    )

-- consecutive words are fewer than the bits before the end of the next EOL
words_before_eol : (here next after rest : Bits) (found : List Bits) → WordsStand here found rest → next_eol here ≡ Some next
    → after_eol 0 next ≡ Some after → length found + length after < length here
words_before_eol here next after rest found stands sought eol = let within = next_eol_within here next sought in
    grind (arith, stands_count, stands_before_eol true here found rest (true ∷ within.2.fill) within.0 stands)

-- the mode that isn't read, and those before it
pub all_passed : (start : Bits) (color : Color) (here : Bits) (begun before now : ℕ) → WordsPassed start here begun before
    → now ≤ before + length (mode_found color here) + 1 → (next after : Bits) → next_eol start ≡ Some next
    → after_eol 0 next ≡ Some after → now + length after ≤ begun + length start
all_passed start color here begun before now (found, stands, most) work next after sought eol =
    let mode = mode_words_stand color here in
    omega (
      arith,
      length-append found (mode_found color here),
      words_before_eol start next after mode.0 (found ++ mode_found color here)
          (stands_append start here mode.0 found (mode_found color here) stands mode.1) sought eol,
    )

-- ---- A line

-- a count of zeros ends before the next EOL, if none is here
looked_before_eol : (seen : ℕ) (here next : Bits) → after_eol seen here ≡ None → next_eol here ≡ Some next
    → looked here + length next ≤ length here
looked_before_eol seen [] next none sought = absurd cc
looked_before_eol seen (true ∷ here) next none sought = omega (arith, (next_eol_found here next sought).0)
looked_before_eol seen (false ∷ here) next none sought =
    grind (arith, common_steps, none-some, after_eol_more, looked_before_eol (suc seen) here next none)

-- after the tag the next EOL is the same
pub next_after_tag : (line next : Bits) → after_eol 0 (false ∷ line) ≡ None → next_eol (false ∷ line) ≡ Some next
    → next_eol line ≡ Some next
next_after_tag line next none sought = rw (none, next_eol) at sought

-- what is counted at the tag, up to the next EOL, in that EOL, and while the modes are passed
pub line_work : (old line next after : Bits) (start at_tag sought read now : ℕ) → old ≡ false ∷ line → after_eol 0 old ≡ None
    → next_eol old ≡ Some next → after_eol 0 next ≡ Some after → at_tag ≡ start + looked old
    → sought + length next ≡ at_tag + length old + looked next → read ≡ sought + looked next
    → ((found end : Bits) → next_eol line ≡ Some found → after_eol 0 found ≡ Some end → now + length end ≤ read + length line)
    → now + 3 * length next ≤ start + 3 * length old + 3 * looked next
line_work old line next after start at_tag sought read now is none found eol tag passed again modes =
    grind (arith, looked_eol 0 next after eol, looked_before_eol 0 old next none found)

-- ---- A line after another

-- what is counted between lines: the bits so far were paid, and the EOL here beforehand
abbrev pub LinesPaid : Bits → Bits → ℕ → ℕ → Type 0
LinesPaid start here begun now = now + 6 * length here ≤ begun + 6 * length start + 3 * looked here

-- a line more
pub line_paid : (start here line next rest : Bits) (count begun before eol tags now : ℕ) → LinesPaid start here begun before
    → after_eol 0 here ≡ Some (false ∷ line) → IsLine2D line next → tagged_eols here ≡ (count, rest) → eol ≡ before + looked here
    → tags + 2 * length rest ≤ eol + 2 * length here + 3 + looked (drop 1 rest)
    → now + 3 * length next ≤ tags + 3 * length (false ∷ line) + 3 * looked next → LinesPaid start next begun now
line_paid start here line next rest count begun before eol tags now paid e is counted read ahead passed =
    grind (arith, all_tagged-some here (false ∷ line) e, looked_eol, looked_before_eol)

-- no EOL
pub lines_end : (start here : Bits) (begun before now : ℕ) → LinesPaid start here begun before → now ≡ before + looked here
    → now ≤ begun + most_for_lines (length start)
lines_end start here begun before now paid read = omega (arith, paid, read, looked_most here)

-- an EOL, and no line after it
pub lines_end_after : (start here after rest : Bits) (begun before eol tags now : ℕ) → LinesPaid start here begun before
    → after_eol 0 here ≡ Some after → eol ≡ before + looked here → tags + 2 * length rest ≤ eol + 2 * length here + 3 + looked
    (drop 1 rest) → now ≤ tags + 3 * length after → now ≤ begun + most_for_lines (length start)
lines_end_after start here after rest begun before eol tags now paid e read ahead passed =
    grind (arith, common_steps, paid, read, ahead, passed, looked_eol 0 here after e, looked_most)
