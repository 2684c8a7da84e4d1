-- Lines that go on from a part of them.
use Rattle.fax_reading.proofs.Names.{◌≡◌, Result, arith, Color, Group4, paint, Drawing, drawn, painted, OpenRun, left_of, read_on}
use Rattle.fax_reading.proofs.Names.{ℕ, suc, ◌+◌, ◌*◌, ◌<◌, ◌≤◌, leb, ◌∷◌, Ok, Err, sym, ap, ◌∙◌, inl, inr, Has, Row, Pen, Step}
use Rattle.fax_reading.proofs.Names.{zero, Bool, true, cond, List, ◌++◌, refl, Mode, Pass, Bits, Code, Turn, Line, go_on, ◌>>=◌}
use Rattle.fax_reading.proofs.Names.{false, leb-true, read_code, mode_here, line_here, draw_step, word_here, LacksWord, LinesGoOn}
use Rattle.fax_reading.proofs.Names.{[], Vertical, Overflow, codes_of, run_turn, run_from, opposite, draw_run, is_short, LinePart}
use Rattle.fax_reading.proofs.Names.{length, false≢true, append-nil, Horizontal, mode_codes, word_found, turn_following}
use Rattle.fax_reading.proofs.Names.{part_before}
use Rattle.fax_reading.proofs.Names.{length-append, append_assoc, DecodeSettings, is_prefix_free, line_after_turn, line_from_part}
use Rattle.fax_reading.proofs.Names.{and_parts, DecodeError, EncodingMode, UnexpectedEof, run_of_word, unless_fault, common_steps}
use Rattle.fax_reading.proofs.Names.{Group3_1D, Group3_2D, after_run, word_added, mode_added, begin_step, begin_line, GoesOnFrom}
use Rattle.std.specs.List.{list_all}
use Rattle.fax_bits.specs.CodeReading.{NoneStands}
use Rattle.fax_bits.proofs.BitReading.ZerosInWords.{codes_free, modes_free}
use Rattle.fax_bits.proofs.CodeWords.ReadRuns.{read_code_shorter, words_not_empty, has_no_empty_word, run_shrinks, size}
use Rattle.fax_bits.proofs.Repetition.Repeated.{after_turn, repeated_turn}
use Rattle.fax_reading.proofs.Continuations.LinesContinued.{Continues, then_continues, finds_continue, same_continues}
use Rattle.fax_reading.proofs.Continuations.LinesContinued.{mode_goes_on, full_on}
use Rattle.fax_reading.proofs.Continuations.ShortLines.{GoesOrEnds, Anything, place_known}
use Rattle.fax_reading.proofs.Continuations.LinesContinued.{code_continues, rest_on}
use Rattle.fax_reading.proofs.DrawingLines.Drawings.{run_then, mode_step, step_1d_is, step_2d_is}
use Rattle.fax_reading.proofs.DrawingLines.ReadLines.{drawn1, drawn2, modes_not_empty}
use Rattle.fax_bits.proofs.{CodeWords.CodeReadings.reads_codes, CodeWords.ReadCodes.read_code_found, ErrorKinds.missing_end}

-- ---- A line from a part of it on is what one word more leads to

-- what comes of a value that is read or painted, or the line that its fault ends
abbrev if_read : {A B : Type 0} → Row → Result A DecodeError → (A → Turn B Line) → Turn B Line
if_read front result after = turn_following (unless_fault front result) after

-- a turn that goes on with its state is that turn
same_turn : (f : Pen → Line) (turn : Step) → after_turn f turn ≡ after_turn f (turn_following turn Turn.next)
same_turn f turn = grind arith

module _ (settings : DecodeSettings) (reference : Row) where
  -- steps of a line from a pen on
  abbrev steps_from : Bool → Pen → Line
  steps_from is_2d = drawn (draw_step is_2d settings.strict settings.columns reference)

  -- the line after one word more
  abbrev line_then : Turn LinePart Line → Line
  line_then = after_turn (line_from_part settings reference)

  -- a run that is painted, and what follows it
  painted_run_is : (run : OpenRun) (front : Row) (result : Result Row DecodeError) (pen_with : Row → Pen)
      → line_after_turn (steps_from run.is_2d) (turn_following (if_read front result (λ row. Turn.next (pen_with row)))
      (λ p. (cond run.another (draw_run settings.strict settings.columns p) (go_on p)).turn))
      ≡ line_then (if_read front result (λ row. Turn.next (after_run run (pen_with row))))
  painted_run_is run front (Err fault) pen_with = refl
  painted_run_is run front (Ok row) pen_with = either_way run.another
    where
      either_way : (another : Bool) → line_after_turn (steps_from run.is_2d)
          (cond another (draw_run settings.strict settings.columns (pen_with row)) (go_on (pen_with row))).turn
          ≡ line_from_part settings reference (cond another (LinePart.in_run
          (record { is_2d = run.is_2d; another = false; total = 0 }) (pen_with row)) (LinePart.at_step run.is_2d (pen_with row)))
      either_way true = same_turn (steps_from run.is_2d) (draw_run settings.strict settings.columns (pen_with row)).turn
      either_way false = refl

  -- a line within a run
  in_run_is : (run : OpenRun) (pen : Pen) → line_from_part settings reference (LinePart.in_run run pen)
      ≡ line_then (read_on settings reference (LinePart.in_run run pen)).turn
  in_run_is run pen = ap after (repeated_turn (run_turn pen.color) (Err UnexpectedEof) size (run_shrinks pen.color)
      (run.total, pen.rest)) ∙ by_read_code (read_code (codes_of pen.color) pen.rest)
    where
      with_run : ℕ × Bits → Step
      with_run found = if_read pen.front (paint settings.strict settings.columns pen.front pen.color found.0)
          (λ row. Turn.next (record { front = row; color = opposite pen.color; rest = found.1 }))

      after : Result (ℕ × Bits) DecodeError → Line
      after result = line_after_turn (steps_from run.is_2d) (turn_following (if_read pen.front result with_run)
          (λ p. (cond run.another (draw_run settings.strict settings.columns p) (go_on p)).turn))

      turn_of : Result (ℕ × Bits) DecodeError → Turn (ℕ × Bits) (Result (ℕ × Bits) DecodeError)
      turn_of (Ok found) = run_of_word run.total found
      turn_of (Err fault) = Turn.done (Err fault)

      added : ℕ × Bits → Turn LinePart Line
      added found = (word_added settings.strict settings.columns run (record pen { rest = found.1 }) found.0).turn

      either_way : (n : ℕ) (rest : Bits) (b c : Bool) → after (after_turn (run_from pen.color)
          (cond b (Turn.done (Err Overflow)) (cond c (Turn.done (Ok (run.total + n, rest))) (Turn.next (run.total + n, rest)))))
          ≡ line_then (if_read pen.front (cond b (Err Overflow) (Ok (run.total + n)))
          (λ total. (cond c (painted settings.strict settings.columns (record pen { rest = rest }) total >>=
          (λ row. go_on (after_run run (record { front = row; color = opposite pen.color; rest = rest }))))
          (go_on (LinePart.in_run (record run { total = total }) (record pen { rest = rest })))).turn))
      either_way n rest true c = refl
      either_way n rest false true = painted_run_is run pen.front (paint settings.strict settings.columns pen.front pen.color
          (run.total + n)) (λ row. record { front = row; color = opposite pen.color; rest = rest })
      either_way n rest false false = refl

      by_read_code : (r : Result (ℕ × Bits) DecodeError)
          → after (after_turn (run_from pen.color) (turn_of r)) ≡ line_then (if_read pen.front r added)
      by_read_code r = grind (arith, either_way)

  -- a line before a mode
  mode_is : (pen : Pen) (mode : Mode)
      → after_turn (steps_from true) (mode_step settings.strict settings.columns reference pen mode)
      ≡ line_then (mode_added settings.strict settings.columns reference pen mode).turn
  mode_is pen Pass = grind (arith, common_steps)
  mode_is pen Horizontal = refl
  mode_is pen (Vertical k) = grind (arith, common_steps)

  -- The line from a part of it on is the line from what one word more leads to.
  pub line_from_is : (part : LinePart) → line_from_part settings reference part ≡ line_then (read_on settings reference part).turn
  line_from_is (LinePart.begins here) = grind (arith, common_steps)
  line_from_is (LinePart.at_step false pen) = drawn1 settings.strict settings.columns pen ∙ ap (after_turn (steps_from false))
      (step_1d_is settings.strict settings.columns pen) ∙ either_way (leb settings.columns (length pen.front))
    where
      either_way : (full : Bool) → after_turn (steps_from false)
          (cond full (Turn.done (Line.whole pen.front pen.rest)) (run_then settings.strict settings.columns pen Turn.next))
          ≡ line_then (turn_following (cond full (Turn.done (Line.whole pen.front pen.rest)) (Turn.next pen))
          (λ p. Turn.next (LinePart.in_run (record { is_2d = false; another = false; total = 0 }) p)))
      either_way true = refl
      either_way false = same_turn (steps_from false) (run_then settings.strict settings.columns pen Turn.next)
  line_from_is (LinePart.at_step true pen) = drawn2 settings.strict settings.columns reference pen
      ∙ ap (after_turn (steps_from true)) (step_2d_is settings.strict settings.columns reference pen)
      ∙ either_way (leb settings.columns (length pen.front))
    where
      drew : Mode × Bits → Step
      drew mode = mode_step settings.strict settings.columns reference (record pen { rest = mode.1 }) mode.0

      added : Pen → Mode × Bits → Turn LinePart Line
      added p mode = (mode_added settings.strict settings.columns reference (record p { rest = mode.1 }) mode.0).turn

      by_read_code : (r : Result (Mode × Bits) DecodeError)
          → after_turn (steps_from true) (if_read pen.front r drew) ≡ line_then (if_read pen.front r (added pen))
      by_read_code r = grind (arith, mode_is)

      either_way : (full : Bool) → after_turn (steps_from true)
          (cond full (Turn.done (Line.whole pen.front pen.rest)) (if_read pen.front (read_code mode_codes pen.rest) drew))
          ≡ line_then (turn_following (cond full (Turn.done (Line.whole pen.front pen.rest)) (Turn.next pen))
          (λ p. if_read p.front (read_code mode_codes p.rest) (added p)))
      either_way full = grind (arith, by_read_code)
  line_from_is (LinePart.in_run run pen) = in_run_is run pen

-- ---- One word more, where more bits follow

module _ (settings : DecodeSettings) (reference : Row) (more : Bits) where
  -- a pen, where more bits follow
  abbrev longer : Pen → Pen
  longer pen = record pen { rest = pen.rest ++ more }

  word_added_on : (run : OpenRun) (pen : Pen) (n : ℕ) → Continues more (part_before more)
      (word_added settings.strict settings.columns run pen n) (word_added settings.strict settings.columns run (longer pen) n)
  word_added_on run pen n = grind (arith, common_steps, then_continues, same_continues)

  begin_step_on : (is_2d : Bool) (pen : Pen)
      → Continues more (part_before more) (begin_step is_2d settings.strict settings.columns reference pen)
      (begin_step is_2d settings.strict settings.columns reference (longer pen))
  begin_step_on true pen = then_continues more (rest_on more) (part_before more) (added pen) (added (longer pen)) (λ
      mode. (grind (arith, common_steps, then_continues, same_continues))) (mode_here pen) (mode_here (longer pen)) (mode_goes_on
      more pen)
    where
      added : Pen → Mode × Bits → Drawing LinePart
      added p mode = mode_added settings.strict settings.columns reference (record p { rest = mode.1 }) mode.0
  begin_step_on false pen = λ known. (refl, refl)

  -- One word more is the same where more bits follow, unless it isn't whole.
  pub read_on_continues : (part : LinePart)
      → Continues more (part_before more) (read_on settings reference part) (read_on settings reference (part_before more part))
  read_on_continues (LinePart.begins here) = grind (arith, common_steps, false≢true)
  read_on_continues (LinePart.at_step is_2d pen) = grind (arith, common_steps, then_continues, begin_step_on, full_on)
  read_on_continues (LinePart.in_run run pen) = then_continues more (rest_on more) (part_before more) (added pen)
      (added (longer pen)) (λ found. word_added_on run (record pen { rest = found.1 }) found.0) (word_here pen)
      (word_here (longer pen)) (finds_continue more (rest_on more) pen.front (read_code (codes_of pen.color) pen.rest)
      (read_code (codes_of pen.color) (pen.rest ++ more)) (word_found (codes_of pen.color) pen.rest)
      (word_found (codes_of pen.color) (pen.rest ++ more)) (code_continues (codes_of pen.color) (codes_free pen.color) pen.rest
      more))
    where
      added : Pen → ℕ × Bits → Drawing LinePart
      added p found = word_added settings.strict settings.columns run (record p { rest = found.1 }) found.0

-- Where one word more leads to a part, the line is that from there on, whatever follows.
pub word_leads : (settings : DecodeSettings) (reference : Row) (part next : LinePart)
    → (read_on settings reference part).turn ≡ Turn.next next → (more : Bits)
    → line_from_part settings reference (part_before more part) ≡ line_from_part settings reference (part_before more next)
word_leads settings reference part next e more = grind (arith, common_steps, read_on_continues, line_from_is)

-- ---- Short lines: what one word more reads

-- twice the bits that are left, and the steps that read none
abbrev pub part_size : LinePart → ℕ
part_size (LinePart.begins here) = 2 * length here + 2
part_size (LinePart.at_step is_2d pen) = 2 * length pen.rest + 1
part_size (LinePart.in_run run pen) = 2 * length pen.rest

-- the bits after some that were read
abbrev pub Precedes : Bits → Bits → Type 0
Precedes here rest = (taken : Bits) × (here ≡ taken ++ rest)

-- what one word more leads to, or why the line that it ends is short
abbrev pub LeadsOn : LinePart → Turn LinePart Line → Type 0
LeadsOn part (Turn.next next) = Precedes (left_of part) (left_of next) × (part_size next < part_size part)
LeadsOn part (Turn.done line) = is_short line ≡ true → LacksWord part

-- what is read goes on with a value of which this is true, or this part of the line lacks a word
abbrev GoesOrLacks : {A : Type 0} → LinePart → (A → Type 0) → Turn A Line → Type 0
GoesOrLacks part P (Turn.next x) = P x
GoesOrLacks part P (Turn.done line) = is_short line ≡ true → LacksWord part

after_leads : {A : Type 0} (part : LinePart) (P : A → Type 0) (turn : Turn A Line) (after : A → Turn LinePart Line)
    → GoesOrLacks part P turn → ((x : A) → P x → LeadsOn part (after x)) → LeadsOn part (turn_following turn after)
after_leads part P turn after first second = grind arith

-- what is painted needs no bits
paint_leads : {A : Type 0} (part : LinePart) (turn : Turn A Line) → GoesOrEnds Anything turn → GoesOrLacks part Anything turn
paint_leads part turn known = grind (arith, false≢true)

-- the bits after a word are fewer
abbrev WordIsRead : {V : Type 0} → Bits → V × Bits → Type 0
WordIsRead here found = Precedes here found.1 × (length found.1 < length here)

word_leads_on : {V : Type 0} (part : LinePart) (list : List (Code V)) (here : Bits) (front : Row)
    → has_no_empty_word list ≡ true → (read_code list here ≡ Err UnexpectedEof → LacksWord part)
    → GoesOrLacks part (WordIsRead here) (unless_fault front (read_code list here))
word_leads_on {V} part list here front full lacks = by_read_code (read_code list here) refl
  where
    by_read_code : (r : Result (V × Bits) DecodeError) → read_code list here ≡ r
        → GoesOrLacks part (WordIsRead here) (unless_fault front r)
    by_read_code (Ok (v, rest)) e = grind (arith, common_steps, read_code_found, read_code_shorter)
    by_read_code (Err fault) e = λ short. lacks (grind (arith, common_steps, missing_end))

module _ (settings : DecodeSettings) (reference : Row) (part : LinePart) (pen : Pen) (is : left_of part ≡ pen.rest) where
  -- a pen after a word
  after_word_leads : (next : LinePart) (taken : Bits) → pen.rest ≡ taken ++ left_of next → part_size next < part_size part
      → LeadsOn part (Turn.next next)
  after_word_leads next taken e small = ((taken, is ∙ e), small)

  mode_leads_on : (rest : Bits) (mode : Mode) → WordIsRead {V = Mode} pen.rest (mode, rest) → 2 * length pen.rest ≤ part_size part
      → LeadsOn part (mode_added settings.strict settings.columns reference (record pen { rest = rest }) mode).turn
  mode_leads_on rest mode word size_is = grind
      (arith, common_steps, after_leads, paint_leads, after_word_leads, place_known)

  run_leads_on : (run : OpenRun) (rest : Bits) (n : ℕ) → WordIsRead {V = ℕ} pen.rest (n, rest) → 2 * length pen.rest
      ≤ part_size part → LeadsOn part (word_added settings.strict settings.columns run (record pen { rest = rest }) n).turn
  run_leads_on run rest n word size_is =
      grind (arith, common_steps, after_leads, false≢true, after_word_leads, paint_leads)

module _ (settings : DecodeSettings) (reference : Row) where
  -- One word more leads to a part with fewer bits left, or ends the line; which is short only if that word isn't whole.
  pub part_leads_on : (part : LinePart) → LeadsOn part (read_on settings reference part).turn
  part_leads_on (LinePart.begins here) = by_encoding settings.encoding here
    where
      by_encoding : (encoding : EncodingMode) (bits : Bits) → LeadsOn (LinePart.begins bits) (begin_line encoding bits).turn
      by_encoding Group3_1D bits = (([], refl), omega arith)
      by_encoding Group3_2D [] = λ short. refl
      by_encoding Group3_2D (true ∷ bits) = ((true ∷ [], refl), omega arith)
      by_encoding Group3_2D (false ∷ bits) = ((false ∷ [], refl), omega arith)
      by_encoding Group4 bits = (([], refl), omega arith)
  part_leads_on (LinePart.at_step false pen) = grind (arith, common_steps, false≢true)
  part_leads_on (LinePart.at_step true pen) = either_way (leb settings.columns (length pen.front))
    where
      added : Pen → Mode × Bits → Turn LinePart Line
      added p mode = (mode_added settings.strict settings.columns reference (record p { rest = mode.1 }) mode.0).turn

      either_way : (full : Bool) → LeadsOn (LinePart.at_step true pen) (turn_following (cond full (Turn.done
          (Line.whole pen.front pen.rest)) (Turn.next pen)) (λ p. if_read p.front (read_code mode_codes p.rest) (added p)))
      either_way true = λ short. absurd (false≢true short)
      either_way false =
          after_leads (LinePart.at_step true pen) (WordIsRead pen.rest) (unless_fault pen.front (read_code mode_codes pen.rest))
          (added pen) (word_leads_on (LinePart.at_step true pen) mode_codes pen.rest pen.front modes_not_empty (λ e. e))
          (λ mode word. mode_leads_on settings reference (LinePart.at_step true pen) pen refl mode.1 mode.0 word (omega arith))
  part_leads_on (LinePart.in_run run pen) = after_leads (LinePart.in_run run pen) (WordIsRead pen.rest)
      (unless_fault pen.front (read_code (codes_of pen.color) pen.rest))
      (λ found. (word_added settings.strict settings.columns run (record pen { rest = found.1 }) found.0).turn)
      (word_leads_on (LinePart.in_run run pen) (codes_of pen.color) pen.rest pen.front (words_not_empty pen.color) (λ e. e))
      (λ found word. run_leads_on settings reference (LinePart.in_run run pen) pen refl run found.1 found.0 word (omega arith))

-- ---- Short lines: the part from which they go on

-- no word is longer than this
abbrev IsShorter : {V : Type 0} → ℕ → List (Code V) → Bool
IsShorter n list = list_all (λ c. leb (length c.word) n) list

words_few : (color : Color) → IsShorter 13 (codes_of color) ≡ true
words_few color = grind (arith, common_steps)

word_few : {V : Type 0} (n : ℕ) (list : List (Code V)) (v : V) (w : Bits) → IsShorter n list ≡ true → Has list v w → length w ≤ n
word_few n [] v w e i = elim i [ ]
word_few n (c ∷ list) v w e (inl i) = grind (arith, common_steps, leb-true, and_parts)
word_few n (c ∷ list) v w e (inr i) = word_few n list v w (and_parts (leb (length c.word) n) (IsShorter n list) e).1 i

-- the bits of a word that isn't whole are fewer than its own
cut_few : {V : Type 0} (n : ℕ) (list : List (Code V)) (here : Bits) → is_prefix_free list ≡ true → IsShorter n list ≡ true
    → read_code list here ≡ Err UnexpectedEof → length here < n
cut_few {V} n list here free few e = let cut = ((reads_codes list free).cut here).0 e in grind (arith, by_rest)
  where
    by_rest : (v : V) (w : Bits) → Has list v w → NoneStands list here → (rest : Bits) → w ≡ here ++ rest → length here < n
    by_rest v w has none [] is = absurd (none v [] (w, has, sym (ap (λ (b : Bits). b ++ []) is ∙ append-nil _ ∙ append-nil here)))
    by_rest v w has none (b ∷ rest) is = omega (arith, word_few n list v w few has, ap length is, length-append here (b ∷ rest))

pub lacks_few : (part : LinePart) → LacksWord part → length (left_of part) < 13
lacks_few (LinePart.begins here) e = omega (arith, ap length e)
lacks_few (LinePart.at_step true pen) e = cut_few 13 mode_codes pen.rest modes_free (refl) e
lacks_few (LinePart.at_step false pen) e = cut_few 13 (codes_of pen.color) pen.rest (codes_free pen.color) (words_few pen.color) e
lacks_few (LinePart.in_run run pen) e = cut_few 13 (codes_of pen.color) pen.rest (codes_free pen.color) (words_few pen.color) e

module _ (settings : DecodeSettings) (reference : Row) where
  -- the line from a part of it on goes on from another
  abbrev GoesOnAt : LinePart → LinePart → Type 0
  GoesOnAt part last = ((more : Bits) → line_from_part settings reference (part_before more part)
      ≡ line_from_part settings reference (part_before more last)) × Precedes (left_of part) (left_of last) × LacksWord last

  leads_to_last : (n : ℕ) (part : LinePart) → part_size part < n → is_short (line_from_part settings reference part) ≡ true
      → (last : LinePart) × GoesOnAt part last
  leads_to_last zero part lt short = absurd (omega arith)
  leads_to_last (suc n) part lt short = by_turn (λ next small known. leads_to_last n next small known)
      (read_on settings reference part).turn refl (part_leads_on settings reference part)
    where
      by_turn : ((next : LinePart) → part_size next < n → is_short (line_from_part settings reference next) ≡ true
          → (last : LinePart) × GoesOnAt next last) → (turn : Turn LinePart Line)
          → (read_on settings reference part).turn ≡ turn → LeadsOn part turn → (last : LinePart) × GoesOnAt part last
      by_turn later (Turn.next next) e leads =
          let there = line_from_is settings reference part ∙ ap (line_then settings reference) e in
          let (last, goes) = later next (omega (arith, lt, leads.1)) (sym (ap is_short there) ∙ short) in
          let read : Precedes (left_of part) (left_of last) =
          grind (arith, common_steps, append_assoc leads.0.0 goes.1.0 (left_of last)) in
          (last, (λ more. word_leads settings reference part next e more ∙ goes.0 more, read, goes.2))
      by_turn later (Turn.done line) e leads = grind (arith, common_steps, line_from_is)

-- Each short line goes on from a part of it.
pub short_line_goes_on : (settings : DecodeSettings) (reference : Row) (here : Bits)
    → is_short (line_here settings reference here) ≡ true → (part : LinePart) × GoesOnFrom settings reference here part
short_line_goes_on settings reference here short = let part = LinePart.begins here in
    let (last, goes) = leads_to_last settings reference (suc (part_size part)) part (omega arith) short in
    (last, record { line = goes.0; read = goes.1; lacks = goes.2; few = lacks_few last goes.2 })

-- the law
pub lines_go_on : LinesGoOn
lines_go_on = grind (arith, common_steps, word_leads, read_on_continues, line_from_is, short_line_goes_on)
