-- Two-dimensional lines that are passed without their reference rows.
use Rattle.fax_reading.proofs.Names.{common_steps, ◌≡◌, ℕ, zero, suc, ◌+◌, ◌-◌, ◌<◌, ◌≤◌, ◌⊎◌, Bool, cond, true, false, [], ◌∷◌}
use Rattle.fax_reading.proofs.Names.{length, drop, Option, Some, None, Result, Ok, Err, refl, ap, subst, ◌∙◌, arith, ◌↔◌}
use Rattle.fax_reading.proofs.Names.{Color, White, Mode, Pass, Horizontal, Vertical, DecodeError, DecodeSettings, Group3_2D, Bits}
use Rattle.fax_reading.proofs.Names.{mode_codes, read_code, after_eol, next_eol, one_more, pass_last_tag, tagged_eols, ReadsModes}
use Rattle.fax_reading.proofs.Names.{IsLine2D, ComesBefore1D, ComeBefore1D, IsFollowedBy, after_mode, after_read, after_word}
use Rattle.fax_reading.proofs.Names.{after_first_run, after_second_run, opposite, read_run}
use Rattle.fax_bits.proofs.CodeWords.ReadRuns.{read_code_shorter, run_shorter}
use Rattle.fax_bits.proofs.BitReading.ConsecutiveEols.{all_tagged-some, all_tagged-none}
use Rattle.fax_reading.proofs.{DamagedLines.AnyReference.left_following, DrawingLines.ReadLines.modes_not_empty}

-- ---- A mode that is read takes bits
some_rest : (a b : Color × Bits) → ◌≡◌ {A = Option (Color × Bits)} (Some a) (Some b) → a.1 ≡ b.1
some_rest a b e = let same : a ≡ b = cc in ap (λ (x : Color × Bits). x.1) same

none_is_not_some : (a : Color × Bits) → ◌≡◌ {A = Option (Color × Bits)} None (Some a) → ⊥
none_is_not_some a e = cc

second_shorter : (color : Color) (here : Bits) (r : Result (ℕ × Bits) DecodeError) → read_run (opposite color) here ≡ r
    → (found : Color × Bits) → after_second_run color r ≡ Some found → length found.1 ≤ length here
second_shorter color here (Ok (n, rest)) e found f =
    omega (arith, run_shorter (opposite color) 0 here n rest e, ap length (some_rest (color, rest) found f))
second_shorter color here (Err fault) e found f = absurd (none_is_not_some found f)

first_shorter : (color : Color) (here : Bits) (r : Result (ℕ × Bits) DecodeError) → read_run color here ≡ r
    → (found : Color × Bits) → after_first_run color r ≡ Some found → length found.1 ≤ length here
first_shorter color here (Ok (n, rest)) e found f =
    omega (arith, run_shorter color 0 here n rest e, second_shorter color rest (read_run (opposite color) rest) refl found f)
first_shorter color here (Err fault) e found f = absurd (none_is_not_some found f)

word_shorter : (color : Color) (mode : Mode) (here : Bits) (found : Color × Bits) → after_word color mode here ≡ Some found
    → length found.1 ≤ length here
word_shorter color Pass here found e = omega (arith, ap length (some_rest (color, here) found e))
word_shorter color (Vertical k) here found e = omega (arith, ap length (some_rest (opposite color, here) found e))
word_shorter color Horizontal here found e = first_shorter color here (read_run color here) refl found e

pub after_mode_shorter : (color : Color) (here : Bits) (found : Color × Bits) → after_mode color here ≡ Some found
    → length found.1 < length here
after_mode_shorter color here found e = by_read_code (read_code mode_codes here) refl e
  where
    by_read_code : (r : Result (Mode × Bits) DecodeError) → read_code mode_codes here ≡ r → after_read color r ≡ Some found
        → length found.1 < length here
    by_read_code v0 f g = grind (arith, common_steps, read_code_shorter, modes_not_empty, word_shorter, none_is_not_some)

-- ---- Modes that are passed, one after another

-- what is read from the start is read from here on, or not beyond here
abbrev pub ReadFurther : Bits → Color → Bits → Type 0
ReadFurther start color here = ((last : Bits) → ReadsModes color here last → ReadsModes White start last)
    × ((last : Bits) → ReadsModes White start last → ReadsModes color here last ⊎ (length here ≤ length last))

pub further : (start : Bits) (color : Color) (here : Bits) (next : Color) (rest : Bits) → ReadFurther start color here
    → after_mode color here ≡ Some (next, rest) → ReadFurther start next rest
further start color here next rest so_far found =
    (λ last reads. so_far.0 last (ReadsModes.mode next rest found reads), λ last reads. by_last last (so_far.1 last reads))
  where
    less : length rest < length here
    less = after_mode_shorter color here (next, rest) found

    by_last : (last : Bits) → ReadsModes color here last ⊎ (length here ≤ length last)
        → ReadsModes next rest last ⊎ (length rest ≤ length last)
    by_last last e2 = grind (arith, left_following, less)

-- where no more is read all were
pub all_read : (start : Bits) (color : Color) (here : Bits) → ReadFurther start color here → after_mode color here ≡ None
    → (last : Bits) → ReadsModes White start last → length here ≤ length last
all_read start color here so_far none last reads = grind (arith, common_steps, left_following)

-- ---- A line that is passed
pub line_passed : (here line found after rest : Bits) → here ≡ false ∷ line → after_eol 0 here ≡ None → next_eol here ≡ Some found
    → after_eol 0 found ≡ Some after → ((last : Bits) → ReadsModes White line last → length rest ≤ length last)
    → length after + 12 ≤ length rest → (tagged : Bits) × (here ≡ false ∷ tagged) × IsLine2D tagged found
line_passed here line found after rest is none next eol all le = grind (arith, common_steps)

-- where there is an EOL, it is what was passed
pub eol_passed : (is_one : Bool) (found rest new : Bits) → after_eol 0 found ≡ Some rest
    → after_eol 0 found ≡ cond is_one (Some new) None → after_eol 0 found ≡ Some new
eol_passed is_one found rest new e f = grind arith

-- ---- Lines that are counted

-- what follows EOLs that were counted decides whether a one-dimensional line, RTC or the end follows
pub before_1d : (settings : DecodeSettings) (here after rest : Bits) (count : ℕ)
    → after_eol 0 here ≡ Some after → tagged_eols here ≡ (count, rest) → ((settings.end_of_block ≡ true) × (6 ≤ count))
    ⊎ (((line : Bits) × (rest ≡ true ∷ line)) ⊎ (rest ≡ [])) → ComesBefore1D settings here
before_1d settings here after rest count eol counted ends = grind (arith, common_steps)

not_over : (rest line : Bits) → rest ≡ false ∷ line → rest ≡ [] → ⊥
not_over rest line e f = cc

pub not_before_1d : (settings : DecodeSettings) (here rest line : Bits) (count : ℕ) → tagged_eols here ≡ (count, rest)
    → (settings.end_of_block ≡ true → 6 ≤ count → ⊥) → rest ≡ false ∷ line → ComesBefore1D settings here → ⊥
not_before_1d settings here rest line count counted no_rtc tag (eol, ends) = grind (arith, common_steps, not_over)

-- a two-dimensional line is none of these
line_not_before_1d : (settings : DecodeSettings) (here line next : Bits) → after_eol 0 here ≡ Some (false ∷ line)
    → IsLine2D line next → ComesBefore1D settings here → ⊥
line_not_before_1d settings here line next e is = not_before_1d settings here (false ∷ line) line 1
    (ap pass_last_tag (all_tagged-some here (false ∷ line) e ∙ ap one_more (all_tagged-none (false ∷ line) is.no_eol)))
    (λ block six. absurd (omega (arith, six))) refl

-- as many rows, less one, as lines from the start up to here
abbrev pub CountsRows : DecodeSettings → Bits → ℕ → Bits → Type 0
CountsRows settings start rows here =
    (0 < rows) × ((lines : ℕ) → ComeBefore1D settings lines here → ComeBefore1D settings (lines + (rows - 1)) start) ×
    ((lines : ℕ) → ComeBefore1D settings lines start → (left : ℕ) × (lines ≡ left + (rows - 1)) × ComeBefore1D settings left here)

same_line : (line other : Bits) (o : Option Bits) → o ≡ Some (false ∷ line) → o ≡ Some (false ∷ other) → line ≡ other
same_line line other o e f = grind (arith, common_steps)

pub counted_on : (settings : DecodeSettings) (start here line next : Bits) (rows : ℕ) → CountsRows settings start rows here
    → after_eol 0 here ≡ Some (false ∷ line) → IsLine2D line next → CountsRows settings start (rows + 1) next
counted_on settings start here line next rows so_far e is = (
  omega (arith, so_far.0),
  λ lines comes. subst (λ (n : ℕ). ComeBefore1D settings n start)
      (let same : suc lines + (rows - 1) ≡ lines + (rows + 1 - 1) = omega (arith, so_far.0) in same)
      (so_far.1 (suc lines) (line, next, e, is, comes)),
  λ lines comes. by_left lines (so_far.2 lines comes),
)
  where
    by_left : (lines : ℕ) → (left : ℕ) × (lines ≡ left + (rows - 1)) × ComeBefore1D settings left here
        → (left : ℕ) × (lines ≡ left + (rows + 1 - 1)) × ComeBefore1D settings left next
    by_left lines (zero, same, comes) = absurd (line_not_before_1d settings here line next e is comes)
    by_left lines (suc left, same, (other, found, f, is2, more)) = grind (arith, common_steps, same_line)

pub last_line_counted : (settings : DecodeSettings) (start here : Bits) (rows : ℕ) → CountsRows settings start rows here
    → ComesBefore1D settings here → (lines : ℕ) → (Some rows ≡ Some (suc lines)) ↔ ComeBefore1D settings lines start
last_line_counted settings start here rows so_far comes lines =
    (λ e. subst (λ (n : ℕ). ComeBefore1D settings n start) (less e) (so_far.1 0 comes), λ given. by_left (so_far.2 lines given))
  where
    less : Some rows ≡ Some (suc lines) → 0 + (rows - 1) ≡ lines
    less e = let same : rows ≡ suc lines = cc in omega (arith, same)

    by_left : (left : ℕ) × (lines ≡ left + (rows - 1)) × ComeBefore1D settings left here → Some rows ≡ Some (suc lines)
    by_left (zero, same, again) = grind (arith, common_steps)
    by_left (suc left, same, (line, next, e, is, more)) = absurd (line_not_before_1d settings here line next e is comes)

-- if none of these is here, there is no number of lines
pub counted_none : (settings : DecodeSettings) (start here : Bits) (rows : ℕ) → CountsRows settings start rows here
    → (ComesBefore1D settings here → ⊥) → ((line next : Bits) → after_eol 0 here ≡ Some (false ∷ line) → IsLine2D line next → ⊥)
    → (lines : ℕ) → (None ≡ Some (suc lines)) ↔ ComeBefore1D settings lines start
counted_none settings start here rows so_far no_end no_line lines =
    (λ e. absurd cc, λ given. absurd (by_left (so_far.2 lines given)))
  where
    by_left : (left : ℕ) × (lines ≡ left + (rows - 1)) × ComeBefore1D settings left here → ⊥
    by_left (zero, same, comes) = no_end comes
    by_left (suc left, same, (line, next, e, is, more)) = no_line line next e is

pub no_eol_no_end : (settings : DecodeSettings) (here : Bits) → after_eol 0 here ≡ None → ComesBefore1D settings here → ⊥
no_eol_no_end settings here none (eol, ends) = cc

pub no_eol_no_line : (here : Bits) → after_eol 0 here ≡ None → (line next : Bits) → after_eol 0 here ≡ Some (false ∷ line)
    → IsLine2D line next → ⊥
no_eol_no_line here none line next e is = cc

pub no_line_there : (here after : Bits) → after_eol 0 here ≡ Some after → ((line next : Bits) → after ≡ false ∷ line
    → IsLine2D line next → ⊥) → (line next : Bits) → after_eol 0 here ≡ Some (false ∷ line) → IsLine2D line next → ⊥
no_line_there here after eol none line next e is = none line next (cc) is

-- ---- What a call that tests the settings first returns
pub reaches_if : (settings : DecodeSettings) (bits : Bits) (to : ℕ) (result : Option ℕ) → settings.encoding ≡ Group3_2D
    → settings.strict ≡ false → to ≤ length bits
    → ((lines : ℕ) → (result ≡ Some (suc lines)) ↔ ComeBefore1D settings lines (drop to bits))
    → (lines : ℕ) → (result ≡ Some (suc lines)) ↔ IsFollowedBy settings bits to lines
reaches_if settings bits to result encoding lenient within counts lines = grind (arith, common_steps)

pub reaches_none : (settings : DecodeSettings) (bits : Bits) (to : ℕ) → ((lines : ℕ) → IsFollowedBy settings bits to lines → ⊥)
    → (lines : ℕ) → (None ≡ Some (suc lines)) ↔ IsFollowedBy settings bits to lines
reaches_none settings bits to none lines = (λ e. absurd cc, λ given. absurd (none lines given))
