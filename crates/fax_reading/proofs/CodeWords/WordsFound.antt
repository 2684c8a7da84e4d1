-- The words that a line finds are consecutive from where it begins, and end before each EOL's one.
use Rattle.fax_reading.proofs.Names.{◌≡◌, Result, Ok, Err, subst, append_assoc, ℕ, zero, suc, ◌+◌, ◌<◌, Bool, true, false, List}
use Rattle.fax_reading.proofs.Names.{[], ◌∷◌, ◌++◌, length, replicate, refl, sym, ap, ◌∙◌, arith, inl, inr, false≢true, cases_lt}
use Rattle.fax_reading.proofs.Names.{length-append, length-replicate, append-nil, DecodeError, UnexpectedEof, Color, Mode, Pass}
use Rattle.fax_reading.proofs.Names.{Horizontal, Vertical, EncodingMode, Group4, Group3_1D, Group3_2D, Bits, Code, mode_codes}
use Rattle.fax_reading.proofs.Names.{read_code, Has, Turn, repeated, gathered, Row, opposite, b2, right_of, codes_of, run_turn}
use Rattle.fax_reading.proofs.Names.{run_from, Line, Pen, Drawing, ◌>>=◌, go_on, unless_fault, finds, run_here, mode_here}
use Rattle.fax_reading.proofs.Names.{painted, painted_to, place_by, unless_full, draw_run, draw_mode, draw_1d, draw_2d, start}
use Rattle.fax_reading.proofs.Names.{line_1d, line_2d, found_1d, found_2d, tag_at, line_found, word_found, run_gives, run_found}
use Rattle.fax_reading.proofs.Names.{line_by, IsWord, AreWords, joined, HoldsZeros, EndBeforeEol, Synchronised, common_steps}
use Rattle.fax_bits.proofs.CodeWords.ReadCodes.{read_code_found}
use Rattle.fax_bits.proofs.BitReading.ZerosInWords.{codes_free, modes_free, free_by, no_one, holds_a_one, word_one, no_eleven_in}
use Rattle.fax_bits.proofs.BitReading.ZerosInWords.{prefix_of_prefix}
use Rattle.fax_bits.proofs.CodeWords.ReadRuns.{chosen, word_next, not_done, done_is}
use Rattle.fax_bits.proofs.Repetition.{Gathered.gathered_after, Repeated.after_turn}

-- ---- Consecutive words here.
pub record WordsStand (here : Bits) (found : List Bits) (rest : Bits) : Type 0 where
  pub words : AreWords found
  pub place : here ≡ joined found ++ rest

-- two lists of words
pub are_words_append : (a b : List Bits) → AreWords a → AreWords b → AreWords (a ++ b)
are_words_append [] b p q = q
are_words_append (w ∷ a) b p q = (p.0, are_words_append a b p.1 q)

-- their bits
pub joined_append : (a b : List Bits) → joined (a ++ b) ≡ joined a ++ joined b
joined_append [] b = refl
joined_append (w ∷ a) b = ap (λ (x : Bits). w ++ x) (joined_append a b) ∙ sym (append_assoc w (joined a) (joined b))

-- words after words
pub stands_append : (here middle rest : Bits) (a b : List Bits) → WordsStand here a middle → WordsStand middle b rest
    → WordsStand here (a ++ b) rest
stands_append here middle rest a b p q = grind (arith, common_steps, append_assoc, are_words_append, joined_append)

-- no words are anywhere
pub stands_none : (here : Bits) → WordsStand here [] here
stands_none here = record { words = tt; place = refl }

-- what the turns find is consecutive, and if a result names the rest it is what follows
pub gathered_stands : {S R : Type 0} (step : S → Turn S R) (late : R) (gives : S → List Bits) (here_of : S → Bits) (Ends : R
    → Bits → Type 0) → ((b : Bits) → Ends late b) → ((s t : S) → step s ≡ Turn.next t
    → WordsStand (here_of s) (gives s) (here_of t)) → ((s : S) (r : R) → step s ≡ Turn.done r → (rest : Bits)
    × WordsStand (here_of s) (gives s) rest × Ends r rest) → (n : ℕ) (s : S) → (rest : Bits)
    × WordsStand (here_of s) (gathered step gives n s) rest × Ends (repeated step late n s) rest
gathered_stands step late gives here_of Ends l goes ends zero s = (here_of s, stands_none (here_of s), l (here_of s))
gathered_stands {S} {R} step late gives here_of Ends l goes ends (suc n) s = let by_turn : (turn : Turn S R) → step s ≡ turn
    → (rest : Bits) × WordsStand (here_of s) (gives s ++ gathered_after (gathered step gives n) turn) rest × Ends (after_turn
    (repeated step late n) turn) rest = λ turn. elim turn as (λ (t : Turn S R). step s ≡ t → (rest : Bits) × WordsStand
    (here_of s) (gives s ++ gathered_after (gathered step gives n) t) rest × Ends (after_turn (repeated step late n) t) rest) [
      | Turn.next t ↦ λ e. let more = gathered_stands step late gives here_of Ends l goes ends n t in
          (more.0, stands_append (here_of s) (here_of t) more.0 (gives s) (gathered step gives n t) (goes s t e) more.1, more.2)
      | Turn.done r ↦ grind (arith, common_steps, stands_append, stands_none)
    ] in by_turn (step s) refl

-- a word that a reading found is here
pub word_stands : {V : Type 0} (list : List (Code V)) (here : Bits) (v : V) (rest : Bits) → ((w : Bits) → Has list v w → IsWord w)
    → read_code list here ≡ Ok (v, rest) → WordsStand here (word_found list here) rest
word_stands {V} list here v rest is e = grind (arith, common_steps, append-nil, length-append, read_code_found list here v rest e)

-- a reading that found no word
pub no_word_stands : {V : Type 0} (list : List (Code V)) (here : Bits) (fault : DecodeError) → read_code list here ≡ Err fault
    → WordsStand here (word_found list here) here
no_word_stands list here fault e = grind (arith, common_steps)

-- ---- The words of a run.
abbrev pub RunEnds : Result (ℕ × Bits) DecodeError → Bits → Type 0
RunEnds (Ok found) rest = found.1 ≡ rest
RunEnds (Err fault) rest = Unit {0}

run_word : (color : Color) (v : ℕ) (w : Bits) → Has (codes_of color) v w → IsWord w
run_word color v w i = inl (color, v, i)

run_goes : (color : Color) (total : ℕ) (here : Bits) (t : ℕ × Bits) (r : Result (ℕ × Bits) DecodeError)
    → read_code (codes_of color) here ≡ r → run_turn color (total, here) ≡ Turn.next t
    → WordsStand here (word_found (codes_of color) here) t.1
run_goes color total here t (Err e) h k = grind (arith, common_steps)
run_goes color total here t (Ok found) h k =
    let step = word_stands (codes_of color) here found.0 found.1 (run_word color found.0) h in
    grind (arith, common_steps, run_word color found.0, word_next total found t, step)

run_stands_at_end : (color : Color) (total : ℕ) (here : Bits)
    (r : Result (ℕ × Bits) DecodeError) (q : Result (ℕ × Bits) DecodeError) → read_code (codes_of color) here ≡ q → run_turn
    color (total, here) ≡ Turn.done r → (rest : Bits) × WordsStand here (word_found (codes_of color) here) rest × RunEnds r rest
run_stands_at_end color total here r (Err e) h k = grind (arith, common_steps, done_is, no_word_stands (codes_of color) here e h)
run_stands_at_end color total here r (Ok found) h k =
    let stands = word_stands (codes_of color) here found.0 found.1 (run_word color found.0) h in
    grind (arith, common_steps, chosen, done_is, not_done)

-- the words of a run are consecutive
pub run_stands : (color : Color) (total : ℕ) (here : Bits) → (rest : Bits) × WordsStand here (run_found color (total, here)) rest
    × RunEnds (run_from color (total, here)) rest
run_stands color total here = gathered_stands (run_turn color) (Err UnexpectedEof)
    (run_gives color) (λ s. s.1) RunEnds (λ b. tt) (λ s t e. run_goes color s.0 s.1 t (read_code (codes_of color) s.1) refl e)
    (λ s r e. run_stands_at_end color s.0 s.1 r (read_code (codes_of color) s.1) refl e) (suc (length here)) (total, here)

-- ---- The words of a line.
abbrev pub LineEnds : Line → Bits → Type 0
LineEnds (Line.whole row after) rest = after ≡ rest
LineEnds (Line.broken front fault) rest = Unit {0}

-- what a turn finds is consecutive, up to where it continues or ends
abbrev pub TurnStands : {A : Type 0} → Bits → (A → Bits) → Turn A Line → List Bits → Type 0
TurnStands here rest_of (Turn.next x) found = WordsStand here found (rest_of x)
TurnStands here rest_of (Turn.done line) found = (rest : Bits) × WordsStand here found rest × LineEnds line rest

-- what drawing finds is consecutive
abbrev pub DrawingStands : {A : Type 0} → Bits → (A → Bits) → Drawing A → Type 0
DrawingStands here rest_of drawing = TurnStands here rest_of drawing.turn drawing.words

-- the bits after a pen
abbrev pub rest_of_pen : Pen → Bits
rest_of_pen pen = pen.rest

-- a turn after words
pub turn_after : {A : Type 0} (here middle : Bits) (rest_of : A → Bits) (a b : List Bits) (turn : Turn A Line)
    → WordsStand here a middle → TurnStands middle rest_of turn b → TurnStands here rest_of turn (a ++ b)
turn_after here middle rest_of a b (Turn.next x) p q = stands_append here middle (rest_of x) a b p q
turn_after here middle rest_of a b (Turn.done line) p q = (q.0, stands_append here middle q.0 a b p q.1, q.2)

-- drawing, and what is drawn after it
pub after_stands : {A B : Type 0} (here : Bits) (rest_of : A → Bits) (last_of : B → Bits) (drawing : Drawing A)
    (after : A → Drawing B) → DrawingStands here rest_of drawing → ((x : A) → DrawingStands (rest_of x) last_of (after x))
    → DrawingStands here last_of (drawing >>= after)
after_stands {A} {B} here rest_of last_of drawing after stands each =
    grind (arith, common_steps, stands_append, stands_none, turn_after)

-- what finds no words
wordless_stands : {A : Type 0} (here : Bits) (pen : Pen) (result : Result A DecodeError)
    → DrawingStands here (λ (x : A). here) (finds pen [] result)
wordless_stands here pen result = grind (arith, common_steps)

-- a run that is read
run_read_stands : (pen : Pen) → DrawingStands pen.rest (λ (run : ℕ × Bits). run.1) (run_here pen)
run_read_stands pen = by_result (run_from pen.color (0, pen.rest)) stands.2
  where
    stands : (rest : Bits) × WordsStand pen.rest (run_found pen.color (0, pen.rest)) rest
        × RunEnds (run_from pen.color (0, pen.rest)) rest
    stands = run_stands pen.color 0 pen.rest

    by_result : (r : Result (ℕ × Bits) DecodeError) → RunEnds r stands.0
        → TurnStands pen.rest (λ (run : ℕ × Bits). run.1) (unless_fault pen.front r) (run_found pen.color (0, pen.rest))
    by_result r ends = grind (arith, common_steps, stands)

mode_word : (v : Mode) (w : Bits) → Has mode_codes v w → IsWord w
mode_word v w i = inr (v, i)

-- a mode that is read
mode_read_stands : (pen : Pen) → DrawingStands pen.rest (λ (mode : Mode × Bits). mode.1) (mode_here pen)
mode_read_stands pen = by_read_code (read_code mode_codes pen.rest) refl
  where
    by_read_code : (r : Result (Mode × Bits) DecodeError) → read_code mode_codes pen.rest ≡ r
        → TurnStands pen.rest (λ (mode : Mode × Bits). mode.1) (unless_fault pen.front r) (word_found mode_codes pen.rest)
    by_read_code (Ok mode) e = word_stands mode_codes pen.rest mode.0 mode.1 (mode_word mode.0) e
    by_read_code (Err fault) e = (pen.rest, no_word_stands mode_codes pen.rest fault e, tt)

-- a run that is drawn
pub draw_run_stands : (strict : Bool) (columns : ℕ) (pen : Pen) → DrawingStands pen.rest rest_of_pen (draw_run strict columns pen)
draw_run_stands strict columns pen = after_stands pen.rest (λ (run : ℕ × Bits). run.1) rest_of_pen (run_here pen) (λ run.
    painted strict columns pen run.0 >>= (λ front. go_on (record { front = front; color = opposite pen.color; rest = run.1 })))
    (run_read_stands pen) (λ run. after_stands run.1 (λ (front : Row). run.1) rest_of_pen
    (painted strict columns pen run.0) (λ front. go_on (record { front = front; color = opposite pen.color; rest = run.1 }))
    (wordless_stands run.1 pen _) (λ front. stands_none run.1))

-- a full line finds nothing more
pub unless_full_stands : (columns : ℕ) (pen : Pen) → DrawingStands pen.rest rest_of_pen (unless_full columns pen)
unless_full_stands columns pen = grind (arith, common_steps)

-- what a mode draws
mode_word_stands : (strict : Bool) (columns : ℕ) (reference : Row) (pen : Pen) (mode : Mode)
    → DrawingStands pen.rest rest_of_pen (draw_mode strict columns reference pen mode)
mode_word_stands strict columns reference pen Pass = after_stands pen.rest
    (λ (front : Row). pen.rest) rest_of_pen (painted_to strict columns pen (b2 reference (right_of pen.front) pen.color))
    (λ front. go_on (record pen { front = front })) (wordless_stands pen.rest pen _) (λ front. stands_none pen.rest)
mode_word_stands strict columns reference pen Horizontal = after_stands pen.rest rest_of_pen rest_of_pen
    (draw_run strict columns pen) (draw_run strict columns) (draw_run_stands strict columns pen) (draw_run_stands strict columns)
mode_word_stands strict columns reference pen (Vertical k) = let paints : ℕ → Drawing Row = painted_to strict columns pen in
    let turns : Row → Drawing Pen = λ front. go_on (record { front = front; color = opposite pen.color; rest = pen.rest }) in
    after_stands pen.rest (λ (place : ℕ). pen.rest) rest_of_pen (place_by reference pen k) (λ place. paints place >>= turns)
    (wordless_stands pen.rest pen _) (λ place. after_stands pen.rest (λ (front : Row). pen.rest) rest_of_pen (paints place) turns
    (wordless_stands pen.rest pen _) (λ front. stands_none pen.rest))

-- a step of a one-dimensional line
pub draw_1d_stands : (strict : Bool) (columns : ℕ) (pen : Pen) → DrawingStands pen.rest rest_of_pen (draw_1d strict columns pen)
draw_1d_stands strict columns pen = after_stands pen.rest rest_of_pen rest_of_pen
    (unless_full columns pen) (draw_run strict columns) (unless_full_stands columns pen) (draw_run_stands strict columns)

-- a step of a two-dimensional line
pub draw_2d_stands : (strict : Bool) (columns : ℕ) (reference : Row) (pen : Pen)
    → DrawingStands pen.rest rest_of_pen (draw_2d strict columns reference pen)
draw_2d_stands strict columns reference pen = let draws : Pen → Mode × Bits
    → Drawing Pen = λ p mode. draw_mode strict columns reference (record p { rest = mode.1 }) mode.0 in
    after_stands pen.rest rest_of_pen rest_of_pen (unless_full columns pen) (λ p. mode_here p >>= draws p)
    (unless_full_stands columns pen) (λ p. after_stands p.rest (λ (mode : Mode × Bits). mode.1) rest_of_pen (mode_here p)
    (draws p) (mode_read_stands p) (λ mode. mode_word_stands strict columns reference (record p { rest = mode.1 }) mode.0))

-- what a repeated step finds
pub pen_stands : (draw : Pen → Drawing Pen) → ((pen : Pen) → DrawingStands pen.rest rest_of_pen (draw pen)) → (n : ℕ) (pen : Pen)
    → (rest : Bits) × WordsStand pen.rest (gathered (λ pen. (draw pen).turn) (λ pen. (draw pen).words) n pen) rest
    × LineEnds (repeated (λ pen. (draw pen).turn) (Line.broken [] UnexpectedEof) n pen) rest
pen_stands draw each n pen =
    gathered_stands (λ (p : Pen). (draw p).turn) (Line.broken [] UnexpectedEof) (λ p. (draw p).words) rest_of_pen LineEnds
    (λ b. tt) (λ s t e. subst (λ (x : Turn Pen Line). TurnStands s.rest rest_of_pen x (draw s).words) e (each s))
    (λ s r e. subst (λ (x : Turn Pen Line). TurnStands s.rest rest_of_pen x (draw s).words) e (each s)) n pen

-- the words of a one-dimensional line are consecutive
pub line_1d_stands : (strict : Bool) (columns : ℕ) (here : Bits) → (rest : Bits)
    × WordsStand here (found_1d strict columns here) rest × LineEnds (line_1d strict columns here) rest
line_1d_stands strict columns here =
    pen_stands (draw_1d strict columns) (draw_1d_stands strict columns) (suc (length here)) (start here)

-- the words of a two-dimensional line are consecutive
pub line_2d_stands : (strict : Bool) (columns : ℕ) (reference : Row) (here : Bits) → (rest : Bits)
    × WordsStand here (found_2d strict columns reference here) rest × LineEnds (line_2d strict columns reference here) rest
line_2d_stands strict columns reference here =
    pen_stands (draw_2d strict columns reference) (draw_2d_stands strict columns reference) (suc (length here)) (start here)

-- ---- No EOL's one precedes their end.
ends_before : (tag : Bits) (words : List Bits) (here rest : Bits) → (HoldsZeros 11 (tag ++ joined words) → ⊥)
    → here ≡ (tag ++ joined words) ++ rest → (before after : Bits) → here ≡ before ++ replicate 11 false ++ true ∷ after
    → length (tag ++ joined words) < length before + 11
ends_before tag words here rest free stand before after eol =
    elim (cases_lt (length (tag ++ joined words)) (length before + 11)) [
      | inl lt ↦ lt
      | inr ge ↦ let zeros : Bits = before ++ replicate 11 false in
          let cut : (tag ++ joined words) ++ rest ≡ zeros ++ (true ∷ after) = sym stand ∙ eol in
          let f = prefix_of_prefix zeros (true ∷ after)
          (tag ++ joined words) rest cut (omega (arith, length-append before (replicate 11 false), length-replicate 11 false)) in
          absurd (free (before, f.0, f.1))
    ]

untagged_end : (here rest : Bits) (words : List Bits) → WordsStand here words rest → EndBeforeEol [] words here
untagged_end here rest words stands = record {
  are = stands.words;
  stand = (rest, stands.place);
  end = ends_before [] words here rest (λ holds. no_eleven_in true words stands.words
      (true ∷ holds.0, holds.1, ap (λ (x : Bits). true ∷ x) holds.2)) stands.place;
}

tagged_end : (tag : Bool) (here rest : Bits) (words : List Bits) → WordsStand here words rest
    → EndBeforeEol (tag ∷ []) words (tag ∷ here)
tagged_end tag here rest words stands =
    let stand : tag ∷ here ≡ (tag ∷ joined words) ++ rest = ap (λ (x : Bits). tag ∷ x) stands.place in
    record {
      are = stands.words;
      stand = (rest, stand);
      end = ends_before (tag ∷ []) words (tag ∷ here) rest (no_eleven_in tag words stands.words) stand;
    }

found_end : (encoding : EncodingMode) (strict : Bool) (columns : ℕ) (reference : Row) (here : Bits)
    → EndBeforeEol (tag_at encoding here) (line_found encoding strict columns reference here) here
found_end Group3_2D strict columns reference [] = untagged_end [] [] [] (stands_none [])
found_end Group3_2D strict columns reference (true ∷ here) = let found
    = line_1d_stands strict columns here in tagged_end true here found.0 (found_1d strict columns here) found.1
found_end Group3_2D strict columns reference (false ∷ here) = let found = line_2d_stands strict columns reference here in
    tagged_end false here found.0 (found_2d strict columns reference here) found.1
found_end Group3_1D strict columns reference here = let found
    = line_1d_stands strict columns here in untagged_end here found.0 (found_1d strict columns here) found.1
found_end Group4 strict columns reference here = let found
    = line_2d_stands strict columns reference here in untagged_end here found.0 (found_2d strict columns reference here) found.1

-- ---- A whole line ends with the last of its words.

found_to_the_end : (encoding : EncodingMode) (strict : Bool) (columns : ℕ) (reference row : Row) (here rest : Bits)
    → line_by encoding strict columns reference here ≡ Line.whole row rest
    → here ≡ (tag_at encoding here ++ joined (line_found encoding strict columns reference here)) ++ rest
found_to_the_end Group3_2D strict columns reference row [] rest whole = absurd cc
found_to_the_end Group3_2D strict columns reference row (true ∷ here) rest whole =
    grind (arith, common_steps, line_1d_stands strict columns here)
found_to_the_end Group3_2D strict columns reference row (false ∷ here) rest whole =
    grind (arith, common_steps, line_2d_stands strict columns reference here)
found_to_the_end Group3_1D strict columns reference row here rest whole =
    grind (arith, common_steps, line_1d_stands strict columns here)
found_to_the_end Group4 strict columns reference row here rest whole =
    grind (arith, common_steps, line_2d_stands strict columns reference here)

-- the law
pub words_synchronised : Synchronised
words_synchronised = record {
  runs_prefix_free = λ color. free_by (codes_of color) (codes_free color);
  modes_prefix_free = free_by mode_codes modes_free;
  holds_one = λ word is e. false≢true (sym (no_one (length word)) ∙ ap holds_a_one (sym e) ∙ word_one word is);
  no_eleven = no_eleven_in;
  before_eol = found_end;
  to_the_end = found_to_the_end;
}
