-- A two-dimensional line, read against any reference row: it ends after one of its modes or is broken, so that the next
-- EOL is the one after it.
use Rattle.fax_reading.proofs.Names.{Group3_2D, Overflow, opposite, codes_of, run_from, read_run, cases_lt, line_2d, line_by, ◌≡◌}
use Rattle.fax_reading.proofs.Names.{UnexpectedEof, append_assoc, EncodingMode, common_steps, DecodeError, InvalidCode, read_code}
use Rattle.fax_reading.proofs.Names.{after_mode, after_read, Horizontal, mode_codes, ReadsModes, after_eol, line_here, Vertical}
use Rattle.fax_reading.proofs.Names.{length, Option, lt-ltb, le-ltb, lt-leb, Spells, false, subst, arith, Color, White, paint, []}
use Rattle.fax_reading.proofs.Names.{replicate-append-replicate, after_first_run, DecodeSettings, EncodesLine2D, length-append}
use Rattle.fax_reading.proofs.Names.{start, Bool, true, ◌++◌, Some, None, refl, Mode, Pass, Bits, Turn, Line, Step, suc, ◌+◌, ◌-◌}
use Rattle.fax_reading.proofs.Names.{◌≤◌, ◌∷◌, Err, sym, ◌∙◌, ◌⊎◌, inl, inr, Has, Row, Pen, Ok, ap, ℕ}
use Rattle.fax_bits.proofs.BitReading.ZerosInWords.{is_quiet}
use Rattle.fax_bits.proofs.BitReading.ZerosInWords.{scan-append, scan_below, word_quiet, codes_free, modes_free, quiet_is, scan}
use Rattle.fax_bits.proofs.CodeWords.ReadRuns.{run_goes_on, run_passes, run_ends}
use Rattle.fax_bits.proofs.{Repetition.Repeated.repeated_keeps, Repetition.Repeated.next_is, CodeWords.ReadCodes.read_code_again}
use Rattle.fax_reading.proofs.DamagedLines.PastEol.{after_eol_is, past}
use Rattle.fax_reading.proofs.DrawingLines.Drawings.{horizontal_is, step_2d_is, mode_step, run_then, step_2d, try}
use Rattle.fax_reading.proofs.DrawingLines.ReadLines.{draw_mode_goes_on, unless_full_next, try_goes_on, try_next, full_by}
use Rattle.fax_reading.proofs.PixelRows.ReferencePlaces.{opposite_twice}

-- ---- Words contain no EOL

-- bits that contain no eleven zeros, even after some, contain no EOL
pub scan_past : (n k : ℕ) (bits : Bits) → n ≤ 10 → scan n bits ≡ Some k → past n bits ≡ None
scan_past n k [] le e = refl
scan_past n k (true ∷ bits) le e = rw (lt-leb 11 n (omega arith)) (scan_past 0 k bits (omega arith) e)
scan_past n k (false ∷ bits) le e = grind (arith, common_steps, cases_lt, le-ltb, lt-ltb, scan_past (suc n) k bits)

-- after three zeros at most the bits contain no eleven, and end with three at most
abbrev pub Quiet : Bits → Type 0
Quiet bits = (n : ℕ) → n ≤ 3 → (k : ℕ) × (scan n bits ≡ Some k) × (k ≤ 3)

quiet_word : (word : Bits) → is_quiet word ≡ true → Quiet word
quiet_word word quiet n le = grind (arith, common_steps, quiet_is (scan 3 word) quiet, scan_below n 3)

pub quiet_append : (a b : Bits) → Quiet a → Quiet b → Quiet (a ++ b)
quiet_append a b p q n le = let f = p n le in grind (arith, common_steps, scan-append n f.0 a b f.1)

pub quiet_run : (color : Color) (n : ℕ) (bits : Bits) → Spells color n bits → Quiet bits
quiet_run color n bits (Spells.terminating m word has small) = quiet_word bits (word_quiet bits (inl (color, n, has)))
quiet_run color n bits (Spells.makeup m word {n = k} {bits = next} has large rest) =
    quiet_append word next (quiet_word word (word_quiet word (inl (color, m, has)))) (quiet_run color k next rest)

quiet_mode : (mode : Mode) (word : Bits) → Has mode_codes mode word → Quiet word
quiet_mode mode word has = quiet_word word (word_quiet word (inr (mode, has)))

-- a two-dimensional line of an encoding
pub quiet_line : (reference row : Row) (from : ℕ) (color : Color) (bits : Bits) → EncodesLine2D reference row from color bits
    → Quiet bits
quiet_line reference row from color bits EncodesLine2D.over = λ n le. (n, refl, le)
quiet_line reference row from color bits (EncodesLine2D.pass from2 word {bits = next} inside has left_of steps) =
    quiet_append word next (quiet_mode Pass word has) (quiet_line reference row _ color next steps)
quiet_line reference row from color bits (EncodesLine2D.vertical from2 word k {bits = next} inside has exact steps) =
    quiet_append word next (quiet_mode (Vertical k) word has) (quiet_line reference row _ (opposite color) next steps)
quiet_line reference row from color bits (EncodesLine2D.horizontal from2 word {first = run1} {second = run2} {bits = next} inside
    has spells1 spells2 steps) = quiet_append word (run1 ++ (run2 ++ next)) (quiet_mode Horizontal word has)
    (quiet_append run1 (run2 ++ next) (quiet_run color _ run1 spells1)
    (quiet_append run2 next (quiet_run (opposite color) _ run2 spells2) (quiet_line reference row _ color next steps)))

-- ---- The words of a run are read, unless they sum to too much
spelled_is_read : (color : Color) (n : ℕ) (bits : Bits) (total : ℕ) (more : Bits) → Spells color n bits
    → (run_from color (total, bits ++ more) ≡ Ok (total + n, more))
    ⊎ ((fault : DecodeError) × (run_from color (total, bits ++ more) ≡ Err fault))
spelled_is_read color n bits total more (Spells.terminating m word has small) = grind
    (arith, common_steps, read_code_again (codes_of color) n bits more (codes_free color) has, run_passes, run_ends)
spelled_is_read color n bits total more (Spells.makeup m word {n = k} {bits = next} has large rest) =
    let here : (word ++ next) ++ more ≡ word ++ (next ++ more) = append_assoc word next more in
    let read : read_code (codes_of color)
    ((word ++ next) ++ more) ≡ Ok (m, next ++ more) = grind (arith, common_steps, read_code_again, codes_free) in
    elim (cases_lt 4294967295 (total + m)) [
      | inl big ↦ inr (Overflow, run_passes color total m ((word ++ next) ++ more) (next ++ more) read big)
      | inr fits ↦ grind (arith, spelled_is_read color k next (total + m) more rest, run_goes_on)
    ]

-- ---- Modes that are read

-- what is left after modes that are read, if this stands after the first
abbrev pub LeftAfter : Bits → Bits → Option (Color × Bits) → Type 0
LeftAfter here last (Some (next, rest)) = (last ≡ here) ⊎ ReadsModes next rest last
LeftAfter here last None = last ≡ here

-- none is read, or the one that is here
pub left_following : (color : Color) (here last : Bits) → ReadsModes color here last → LeftAfter here last (after_mode color here)
left_following color here last ReadsModes.over = by_found (after_mode color here)
  where
    by_found : (found : Option (Color × Bits)) → LeftAfter here here found
    by_found found = grind arith
left_following color here last (ReadsModes.mode next rest found more) = grind (arith, common_steps)

-- ---- A whole line ends after modes that are read
abbrev pen_with : Row → Color → Bits → Pen
pen_with front color rest = record { front = front; color = color; rest = rest }

-- a run that was drawn was read
run_was_read : (strict : Bool) (columns : ℕ) (pen : Pen) (f : Pen → Step) (t : Pen) → run_then strict columns pen f ≡ Turn.next t
    → (n : ℕ) × (front : Row) × (rest : Bits) × (read_run pen.color pen.rest ≡ Ok (n, rest))
    × (f (pen_with front (opposite pen.color) rest) ≡ Turn.next t)
run_was_read strict columns pen f t e = let a = try_next pen.front (run_from pen.color (0, pen.rest)) (λ run. try pen.front
    (paint strict columns pen.front pen.color run.0) (λ front. f (pen_with front (opposite pen.color) run.1))) t e in
    let b = try_next pen.front (paint strict columns pen.front pen.color a.0.0)
    (λ front. f (pen_with front (opposite pen.color) a.0.1)) t a.2 in
    (a.0.0, b.0, a.0.1, a.1, b.2)

module _ (strict : Bool) (columns : ℕ) (other : Row) where
  abbrev reads_at : Pen → Bits → Type 0
  reads_at pen last = ReadsModes pen.color pen.rest last

  -- a mode that was drawn was read
  mode_on : (front : Row) (color : Color) (here last : Bits) (mode : Mode) (rest : Bits) (t : Pen)
      → read_code mode_codes here ≡ Ok (mode, rest) → mode_step strict columns other
      (pen_with front color rest) mode ≡ Turn.next t → reads_at t last → ReadsModes color here last
  mode_on front color here last Pass rest t read e reads =
      let a = try_next front _ (λ more. Turn.next (pen_with more color rest)) t e in
      ReadsModes.mode color rest (ap (after_read color) read)
      (subst (λ (p : Pen). reads_at p last) {y = pen_with a.0 color rest} (sym (next_is _ t a.2)) reads)
  mode_on front color here last (Vertical k) rest t read e reads = let a = try_next front _ (λ place. try front
      (paint strict columns front color (place - length front)) (λ more. Turn.next (pen_with more (opposite color) rest))) t e in
      let b = try_next front _ (λ more. Turn.next (pen_with more (opposite color) rest)) t a.2 in
      ReadsModes.mode (opposite color) rest (ap (after_read color) read)
      (subst (λ (p : Pen). reads_at p last) {y = pen_with b.0 (opposite color) rest} (sym (next_is _ t b.2)) reads)
  mode_on front color here last Horizontal rest t read e reads = let one = run_was_read strict columns (pen_with front color rest)
      (λ p. run_then strict columns p Turn.next) t (horizontal_is strict columns other (pen_with front color rest) ∙ e) in
      let two = run_was_read strict columns (pen_with one.1 (opposite color) one.2) Turn.next t one.4 in
      ReadsModes.mode color two.2 (grind (arith, common_steps))
      (subst (λ (c : Color). ReadsModes c two.2 last) (opposite_twice color) (grind (arith, common_steps)))

  abbrev Keeps : Bits → Pen → Type 0
  Keeps here pen = (last : Bits) → reads_at pen last → ReadsModes White here last

  abbrev EndsFollowing : Bits → Line → Type 0
  EndsFollowing here (Line.whole row rest) = ReadsModes White here rest
  EndsFollowing here (Line.broken front fault) = Unit {0}

  abbrev mode_here : Pen → Step
  mode_here pen = try pen.front (read_code mode_codes pen.rest)
      (λ mode. mode_step strict columns other (pen_with pen.front pen.color mode.1) mode.0)

  keeps : (here : Bits) (s t : Pen) → Keeps here s → step_2d strict columns other s ≡ Turn.next t → Keeps here t
  keeps here s t kept e last reads = let a = try_next s.front (read_code mode_codes s.rest)
      (λ mode. mode_step strict columns other (pen_with s.front s.color mode.1) mode.0) t
      (unless_full_next columns s (mode_here s) t (sym (step_2d_is strict columns other s) ∙ e)) in
      kept last (mode_on s.front s.color s.rest last a.0.0 a.0.1 t a.1 a.2 reads)

  ends : (here : Bits) (s : Pen) (line : Line) → Keeps here s → step_2d strict columns other s ≡ Turn.done line
      → EndsFollowing here line
  ends here s (Line.broken front fault) kept e = tt
  ends here s (Line.whole row rest) kept e = let f = full_by columns s (mode_here s) row rest
      (grind (arith, common_steps, try_goes_on, draw_mode_goes_on)) (sym (step_2d_is strict columns other s) ∙ e) in
      let there : s.rest ≡ rest = grind (arith, common_steps) in
      subst (ReadsModes White here) there (kept s.rest ReadsModes.over)

  -- Whatever row it is read against, its modes were read up to where it ends.
  pub modes_read : (here : Bits) (row : Row) (rest : Bits) → line_2d strict columns other here ≡ Line.whole row rest
      → ReadsModes White here rest
  modes_read here row rest e =
      subst (EndsFollowing here) e (repeated_keeps (step_2d strict columns other) (Line.broken [] UnexpectedEof) (Keeps here)
      (EndsFollowing here) tt (keeps here) (ends here) (suc (length here)) (start here) (λ last reads. reads))

-- ---- A line of an encoding

-- a mode of an encoding is read
mode_is : (mode : Mode) (word next tail : Bits) → Has mode_codes mode word
    → read_code mode_codes ((word ++ next) ++ tail) ≡ Ok (mode, next ++ tail)
mode_is mode word next tail has = grind (arith, append_assoc, read_code_again, modes_free)

long : (bits tail rest : Bits) → rest ≡ bits ++ tail → length tail ≤ length rest
long bits tail rest e = omega (arith, ap length e, length-append bits tail)

-- the two runs of a horizontal one, unless they sum to too much
runs_are : (color : Color) (n m : ℕ) (run1 run2 more : Bits) → Spells color n run1 → Spells (opposite color) m run2
    → (after_first_run color (read_run color (run1 ++ (run2 ++ more))) ≡ Some (color, more))
    ⊎ (after_first_run color (read_run color (run1 ++ (run2 ++ more))) ≡ None)
runs_are color n m run1 run2 more spells1 spells2 = grind (arith, common_steps, spelled_is_read)

-- what its words leave, from the zeros of an EOL on, is left by the modes that are read
encoded_from : (reference row : Row) (from : ℕ) (color : Color) (bits tail rest : Bits) → EncodesLine2D reference row from color
    bits → read_code mode_codes tail ≡ Err InvalidCode → ReadsModes color (bits ++ tail) rest → length tail ≤ length rest
encoded_from reference row from color bits tail rest EncodesLine2D.over none reads = grind (arith, common_steps, left_following)
encoded_from reference row from color bits tail rest (EncodesLine2D.pass from2 word {bits = next} inside has left_of steps) none
    reads = grind (arith, encoded_from reference row _ color next tail rest steps none, mode_is, left_following, long)
encoded_from reference row from color bits tail rest (EncodesLine2D.vertical from2 word k {bits = next} inside has exact steps)
    none reads = grind
    (arith, common_steps, mode_is, left_following, long, encoded_from reference row _ (opposite color) next tail rest steps)
encoded_from reference row from color bits tail rest (EncodesLine2D.horizontal from2 word {first = run1} {second = run2}
    {bits = next} inside has spells1 spells2 steps) none reads = grind
    (arith, encoded_from reference row _ color next tail rest steps none, append_assoc, mode_is, left_following, runs_are, long)

-- its modes end before the EOL after it
pub encoded_ends : (reference row : Row) (line next after rest : Bits) → EncodesLine2D reference row 0 White line
    → after_eol 0 next ≡ Some after → ReadsModes White (line ++ next) rest → length next ≤ length rest
encoded_ends reference row line next after rest encodes eol reads = encoded_from reference row 0 White line next rest encodes
    (grind (arith, common_steps, after_eol_is, replicate-append-replicate, append_assoc)) reads

-- a whole line leaves that EOL, whatever row it is read against
pub leaves_next : (settings : DecodeSettings) → settings.encoding ≡ Group3_2D → (other reference row : Row)
    (line next after : Bits) → EncodesLine2D reference row 0 White line → after_eol 0 next ≡ Some after → (read : Row)
    (rest : Bits) → line_here settings other (false ∷ line ++ next) ≡ Line.whole read rest → length next ≤ length rest
leaves_next settings encoding other reference row line next after encodes eol read rest e = encoded_ends reference row line next
    after rest encodes eol (modes_read settings.strict settings.columns other (line ++ next) read rest
    (sym (ap (λ (e : EncodingMode). line_by e settings.strict settings.columns other (false ∷ line ++ next)) encoding) ∙ e))
