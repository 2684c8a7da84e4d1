-- Code words, runs and lines where more bits follow.
use Rattle.fax_reading.proofs.Names.{DecodeSettings, is_prefix_free, AreWholeBytes, LineIsSettled, UnexpectedEof, row_continued}
use Rattle.fax_reading.proofs.Names.{EncodingMode, append_assoc, common_steps, unless_fault, DecodeError, draw_mode}
use Rattle.fax_reading.proofs.Names.{InvalidCode, line_before, row_of_line, unless_full, Horizontal, false≢true, Err}
use Rattle.fax_reading.proofs.Names.{found_here, line_found, misses_end, mode_codes, word_found, line_here, mode_here, read_code}
use Rattle.fax_reading.proofs.Names.{run_found, run_gives, Vertical, cases_lt, codes_of, draw_run, found_1d, found_2d, gathered}
use Rattle.fax_reading.proofs.Names.{is_short, opposite, repeated, run_from, run_here, run_turn, Drawing, draw_1d, draw_2d, Color}
use Rattle.fax_reading.proofs.Names.{line_1d, line_2d, line_by, painted, Result, length, arith, false, go_on, start, ◌>>=◌, Bits}
use Rattle.fax_reading.proofs.Names.{Bool, Code, Line, List, Mode, Pass, Turn, refl, take, true, zero, ◌++◌, Pen, Row, inl, inr}
use Rattle.fax_reading.proofs.Names.{suc, sym, ◌-◌, ◌<◌, ◌∙◌, ◌∷◌, ◌≡◌, Ok, [], ap, ℕ}
use Rattle.fax_bits.proofs.BitReading.ZerosInWords.{prefix_of_prefix, codes_free, modes_free}
use Rattle.fax_bits.specs.CodeReading.{NoneStands, ReadsCodes, IsCut}
use Rattle.fax_reading.proofs.DrawingLines.ReadLines.{step_1d_shrinks, step_2d_shrinks, pen_left}
use Rattle.fax_bits.proofs.{Repetition.Repeated.after_turn, Repetition.Repeated.Shrinks, CodeWords.CodeReadings.reads_codes}
use Rattle.fax_bits.proofs.{CodeWords.ReadRuns.run_shrinks, CodeWords.ReadRuns.size, Repetition.Gathered.gathered_after}
use Rattle.fax_bits.proofs.CodeWords.ReadCodes.{cases_reading}

-- ---- Repetitions whose states go on where more follows

-- a turn, with states and results that go on
abbrev pub turn_on : {S R : Type 0} → (S → S) → (R → R) → Turn S R → Turn S R
turn_on on ends (Turn.next s) = Turn.next (on s)
turn_on on ends (Turn.done r) = Turn.done (ends r)

-- a turn is done, and what comes of it isn't known before more follows
abbrev pub turn_waits : {S R : Type 0} → (R → Bool) → Turn S R → Bool
turn_waits waits (Turn.next s) = false
turn_waits waits (Turn.done r) = waits r

-- a step is the same from each state that goes on, unless what comes of it waits for more bits
abbrev pub StepGoesOn : {S R A : Type 0} → (S → Turn S R) → (S → List A) → (S → S) → (R → R) → (R → Bool) → Type 0
StepGoesOn {S} step gives on ends waits = (s : S) → turn_waits waits (step s) ≡ false
    → (step (on s) ≡ turn_on on ends (step s)) × (gives (on s) ≡ gives s)

module _ {S R A : Type 0} (step : S → Turn S R) (gives : S → List A) (late : R) (size_of : S → ℕ) (shrinks : Shrinks step size_of)
    (on : S → S) (ends : R → R) (waits : R → Bool) (goes : StepGoesOn step gives on ends waits) where
  -- what comes of the repetition of such a step, and what its turns yield, is the same from a state that goes on
  pub repeated_on : (n m : ℕ) (s : S) → size_of s < n → size_of (on s) < m → waits (repeated step late n s) ≡ false
      → (repeated step late m (on s) ≡ ends (repeated step late n s)) × (gathered step gives m (on s) ≡ gathered step gives n s)
  repeated_on zero m s lt other_lt known = absurd (omega arith)
  repeated_on (suc n) zero s lt other_lt known = absurd (omega arith)
  repeated_on (suc n) (suc m) s lt other_lt known =
      by_step (λ t small other k. repeated_on n m t small other k) (step s) refl known
    where
      by_step : ((t : S) → size_of t < n → size_of (on t) < m → waits (repeated step late n t) ≡ false → (repeated step late m
          (on t) ≡ ends (repeated step late n t)) × (gathered step gives m (on t) ≡ gathered step gives n t)) → (turn : Turn S R)
          → step s ≡ turn → waits (after_turn (repeated step late n) turn) ≡ false
          → (after_turn (repeated step late m) (step (on s)) ≡ ends (after_turn (repeated step late n) turn)) × (gives (on s)
          ++ gathered_after (gathered step gives m) (step (on s)) ≡ gives s ++ gathered_after (gathered step gives n) turn)
      by_step later v1 e k = grind (arith, common_steps)

-- ---- Code words

-- a value, and more bits after it
abbrev pub rest_on : {V : Type 0} → Bits → V × Bits → V × Bits
rest_on more (v, rest) = (v, rest ++ more)

-- what is read, where more bits follow
abbrev pub result_on : {A : Type 0} → (A → A) → Result A DecodeError → Result A DecodeError
result_on on (Ok x) = Ok (on x)
result_on on (Err fault) = Err fault

-- it is the end of the data that is missing
abbrev pub result_waits : {A : Type 0} → Result A DecodeError → Bool
result_waits (Ok x) = false
result_waits (Err fault) = misses_end fault

-- the word of a reading
abbrev word_of : {V : Type 0} → Bits → Result (V × Bits) DecodeError → List Bits
word_of here (Ok found) = take (length here - length found.1) here ∷ []
word_of here (Err fault) = []

module _ {V : Type 0} (list : List (Code V)) (free : is_prefix_free list ≡ true) (here more : Bits) where
  codes : ReadsCodes list
  codes = reads_codes list free

  none_further : NoneStands list here → (IsCut list here → ⊥) → NoneStands list (here ++ more)
  none_further none uncut v rest (w, has, is) = elim (cases_lt (length here) (length w)) [
    | inl lt ↦ let f = prefix_of_prefix here more w rest (sym is) (omega arith) in uncut (v, w, has, f)
    | inr ge ↦ let f = prefix_of_prefix w rest here more is ge in none v f.0 (w, has, f.1)
  ]

  uncut_further : (IsCut list here → ⊥) → IsCut list (here ++ more) → ⊥
  uncut_further uncut (v, w, has, begins) = grind (arith, common_steps, append_assoc)

  -- A word that is found stays, and a wrong code stays wrong. Only where the end is missing can more bits change what is read.
  pub code_continues : result_waits (read_code list here) ≡ false → (read_code list (here ++ more)
      ≡ result_on (rest_on more) (read_code list here)) × (word_found list (here ++ more) ≡ word_found list here)
  code_continues known = by_read_code (read_code list here) refl known
    where
      by_read_code : (r : Result (V × Bits) DecodeError) → read_code list here ≡ r → result_waits r ≡ false
          → (read_code list (here ++ more) ≡ result_on (rest_on more) r)
          × (word_of (here ++ more) (read_code list (here ++ more)) ≡ word_of here r)
      by_read_code (Ok (v, rest)) e k = let again = codes.alone here v rest more e in grind (arith, common_steps, append_assoc)
      by_read_code (Err fault) e k = elim (cases_reading list here (Err fault) e) [
        | inl found ↦ absurd cc
        | inr (inl cut) ↦ let is : fault ≡ UnexpectedEof = cc in absurd (false≢true (sym k ∙ ap misses_end is))
        | inr (inr none) ↦ let is : fault ≡ InvalidCode = cc in
            let wrong = (codes.wrong here).0 (e ∙ ap Err is) in
            let again = (codes.wrong (here ++ more)).1 (none_further wrong.0 wrong.1, uncut_further wrong.1) ∙ ap Err (sym is) in
            (again, ap (word_of (here ++ more)) again)
      ]

-- ---- Runs

run_turn_on : (color : Color) (more : Bits)
    → StepGoesOn (run_turn color) (run_gives color) (rest_on more) (result_on (rest_on more)) result_waits
run_turn_on color more (total, here) known = by_read_code (read_code (codes_of color) here) refl
  where
    by_read_code : (r : Result (ℕ × Bits) DecodeError) → read_code (codes_of color) here ≡ r →
        (run_turn color (total, here ++ more) ≡ turn_on (rest_on more) (result_on (rest_on more)) (run_turn color (total, here)))
        × (word_found (codes_of color) (here ++ more) ≡ word_found (codes_of color) here)
    by_read_code (Ok found) e = grind (arith, common_steps, code_continues, codes_free)
    by_read_code (Err fault) e = grind (arith, common_steps, code_continues, codes_free)

-- ---- Drawing

-- two turns and the words before them are the same where more bits follow, unless the first is a short line
abbrev pub AreContinued : {A : Type 0} → Bits → (A → A) → Turn A Line → Turn A Line → List Bits → List Bits → Type 0
AreContinued more on turn other words others = turn_waits is_short turn ≡ false
    → (other ≡ turn_on on (line_before more) turn) × (others ≡ words)

-- a drawing and one where more bits follow
abbrev pub Continues : {A : Type 0} → Bits → (A → A) → Drawing A → Drawing A → Type 0
Continues more on drawing other = AreContinued more on drawing.turn other.turn drawing.words other.words

module _ (more : Bits) where
  module _ {A B : Type 0} (on : A → A) (further : B → B) (after other_after : A → Drawing B)
      (second : (x : A) → Continues more further (after x) (other_after (on x))) where
    -- one step after another
    pub then_continues : (drawing other : Drawing A) → Continues more on drawing other
        → Continues more further (drawing >>= after) (other >>= other_after)
    then_continues drawing other first = λ known. grind arith

  -- what is read or painted
  pub finds_continue : {A : Type 0} (on : A → A) (front : Row) (result other : Result A DecodeError) (words others : List Bits)
      → (result_waits result ≡ false → (other ≡ result_on on result) × (others ≡ words))
      → AreContinued more on (unless_fault front result) (unless_fault front other) words others
  finds_continue {A} on front result other words others first known = grind arith

  -- what needs no bits is the same
  pub same_continues : {A : Type 0} (front : Row) (result : Result A DecodeError)
      → AreContinued more (λ x. x) (unless_fault front result) (unless_fault front result) [] []
  same_continues front result known = grind arith

  -- a pen, where more bits follow
  abbrev pub pen_on : Pen → Pen
  pen_on pen = record pen { rest = pen.rest ++ more }

  pub mode_goes_on : (pen : Pen) → Continues more (rest_on more) (mode_here pen) (mode_here (pen_on pen))
  mode_goes_on pen = finds_continue (rest_on more) pen.front (read_code mode_codes pen.rest)
      (read_code mode_codes (pen.rest ++ more)) (word_found mode_codes pen.rest) (word_found mode_codes (pen.rest ++ more))
      (code_continues mode_codes modes_free pen.rest more)

  draw_run_on : (strict : Bool) (columns : ℕ) (pen : Pen)
      → Continues more pen_on (draw_run strict columns pen) (draw_run strict columns (pen_on pen))
  draw_run_on strict columns pen = then_continues (rest_on more) pen_on
      (after pen) (after (pen_on pen)) (λ run. second run) (run_here pen) (run_here (pen_on pen))
      (finds_continue (rest_on more) pen.front (run_from pen.color (0, pen.rest)) (run_from pen.color (0, pen.rest ++ more))
      (run_found pen.color (0, pen.rest)) (run_found pen.color (0, pen.rest ++ more)) (λ known. repeated_on (run_turn pen.color)
      (run_gives pen.color) (Err UnexpectedEof) size (run_shrinks pen.color) (rest_on more) (result_on (rest_on more))
      result_waits (run_turn_on pen.color more) (suc (length pen.rest)) (suc (length (pen.rest ++ more))) (0, pen.rest)
      (omega arith) (omega arith) known))
    where
      after : Pen → ℕ × Bits → Drawing Pen
      after p run = painted strict columns p run.0
          >>= (λ front. go_on (record { front = front; color = opposite p.color; rest = run.1 }))

      second : (run : ℕ × Bits) → Continues more pen_on (after pen run) (after (pen_on pen) (rest_on more run))
      second run = grind (arith, common_steps, then_continues, same_continues)

  draw_mode_on : (strict : Bool) (columns : ℕ) (reference : Row) (pen : Pen) (mode : Mode)
      → Continues more pen_on (draw_mode strict columns reference pen mode) (draw_mode strict columns reference (pen_on pen) mode)
  draw_mode_on strict columns reference pen Pass = grind (arith, common_steps, then_continues, same_continues)
  draw_mode_on strict columns reference pen Horizontal =
      then_continues pen_on pen_on (draw_run strict columns) (draw_run strict columns) (draw_run_on strict columns)
      (draw_run strict columns pen) (draw_run strict columns (pen_on pen)) (draw_run_on strict columns pen)
  draw_mode_on strict columns reference pen (Vertical k) = grind (arith, common_steps, then_continues, same_continues)

  pub full_on : (columns : ℕ) (pen : Pen) → Continues more pen_on (unless_full columns pen) (unless_full columns (pen_on pen))
  full_on columns pen = grind (arith, common_steps)

  draw_2d_on : (strict : Bool) (columns : ℕ) (reference : Row) (pen : Pen)
      → Continues more pen_on (draw_2d strict columns reference pen) (draw_2d strict columns reference (pen_on pen))
  draw_2d_on strict columns reference pen = then_continues pen_on pen_on after after second
      (unless_full columns pen) (unless_full columns (pen_on pen)) (full_on columns pen)
    where
      drew : Pen → Mode × Bits → Drawing Pen
      drew p mode = draw_mode strict columns reference (record p { rest = mode.1 }) mode.0

      after : Pen → Drawing Pen
      after p = mode_here p >>= drew p

      second : (p : Pen) → Continues more pen_on (after p) (after (pen_on p))
      second p = then_continues (rest_on more) pen_on (drew p) (drew (pen_on p)) (λ mode. draw_mode_on strict columns reference
          (record p { rest = mode.1 }) mode.0) (mode_here p) (mode_here (pen_on p)) (mode_goes_on p)

  -- ---- Lines

  -- a one-dimensional line that isn't short is the same, and so are its words
  line_1d_on : (strict : Bool) (columns : ℕ) (here : Bits) → is_short (line_1d strict columns here) ≡ false
      → (line_1d strict columns (here ++ more) ≡ line_before more (line_1d strict columns here))
      × (found_1d strict columns (here ++ more) ≡ found_1d strict columns here)
  line_1d_on strict columns here known =
      repeated_on (λ pen. (draw_1d strict columns pen).turn) (λ pen. (draw_1d strict columns pen).words)
      (Line.broken [] UnexpectedEof) pen_left (step_1d_shrinks strict columns) pen_on (line_before more) is_short
      (λ pen. grind (arith, common_steps, then_continues, draw_run_on strict columns, full_on columns pen)) (suc (length here))
      (suc (length (here ++ more))) (start here) (omega arith) (omega arith) known

  -- and a two-dimensional one
  line_2d_on : (strict : Bool) (columns : ℕ) (reference : Row) (here : Bits) → is_short (line_2d strict columns reference here)
      ≡ false → (line_2d strict columns reference (here ++ more) ≡ line_before more (line_2d strict columns reference here))
      × (found_2d strict columns reference (here ++ more) ≡ found_2d strict columns reference here)
  line_2d_on strict columns reference here known = repeated_on (λ pen. (draw_2d strict columns reference pen).turn)
      (λ pen. (draw_2d strict columns reference pen).words) (Line.broken [] UnexpectedEof) pen_left
      (step_2d_shrinks strict columns reference) pen_on (line_before more) is_short (draw_2d_on strict columns reference)
      (suc (length here)) (suc (length (here ++ more))) (start here) (omega arith) (omega arith) known

  -- a line of any kind
  line_on : (encoding : EncodingMode) (strict : Bool) (columns : ℕ) (reference : Row) (here : Bits) → is_short
      (line_by encoding strict columns reference here) ≡ false → (line_by encoding strict columns reference (here ++ more)
      ≡ line_before more (line_by encoding strict columns reference here))
      × (line_found encoding strict columns reference (here ++ more) ≡ line_found encoding strict columns reference here)
  line_on encoding strict columns reference here known = grind (arith, line_1d_on, false≢true, line_2d_on)

-- A line that isn't short is settled.
pub line_settled : (settings : DecodeSettings) (reference : Row) (here : Bits)
    → is_short (line_here settings reference here) ≡ false → LineIsSettled settings reference here
line_settled settings reference here known more = grind (arith, common_steps, line_on)

-- Its words are the same with more bits.
pub found_settled : (settings : DecodeSettings) (reference : Row) (here more : Bits)
    → is_short (line_here settings reference here) ≡ false
    → found_here settings reference (here ++ more) ≡ found_here settings reference here
found_settled settings reference here more known =
    (line_on more settings.encoding settings.strict settings.columns reference here known).1

-- What it yields is the same, where whole bytes follow.
pub row_continues : (settings : DecodeSettings) (reference : Row) (has_eols : Bool) (here more : Bits) → AreWholeBytes more
    → is_short (line_here settings reference here) ≡ false
    → row_of_line settings has_eols (here ++ more) (line_here settings reference (here ++ more))
    ≡ row_continued more (row_of_line settings has_eols here (line_here settings reference here))
row_continues settings reference has_eols here more bytes known = ap (row_of_line settings has_eols (here ++ more))
    (line_settled settings reference here known more) ∙ by_line (line_here settings reference here)
  where
    by_line : (line : Line) → row_of_line settings has_eols (here ++ more) (line_before more line)
        ≡ row_continued more (row_of_line settings has_eols here line)
    by_line line = grind (arith, common_steps)
