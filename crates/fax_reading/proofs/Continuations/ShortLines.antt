-- Lines before zeros: none is short.
use Rattle.fax_reading.proofs.Names.{DecodeSettings, is_prefix_free, UnexpectedEof, LineIsSettled, common_steps, EncodingMode, []}
use Rattle.fax_reading.proofs.Names.{Result, Group4, false, subst, arith, Color, start, Bits, Code, Turn, Some, Bool, None}
use Rattle.fax_reading.proofs.Names.{replicate, Group3_1D, Group3_2D, read_code, line_here, Overflow, codes_of, run_turn, line_by}
use Rattle.fax_reading.proofs.Names.{run_from, is_short, cases_lt, line_1d, line_2d, IsWord, Option, le-ltb, lt-ltb, length, refl}
use Rattle.fax_reading.proofs.Names.{true, cond, List, ◌++◌, Line, ◌+◌, ◌∷◌, Err, sym, ◌∙◌, inl, inr, Has, Row, ◌≤◌, ◌≡◌, Ok}
use Rattle.fax_reading.proofs.Names.{unless_fault, DecodeError, LinesSettle, StaysAsRead, mode_codes, place_from, misses_end, suc}
use Rattle.fax_bits.proofs.BitReading.ZerosInWords.{scan-append, scan_below, scan_holds, word_quiet, codes_free, modes_free, scan}
use Rattle.fax_bits.proofs.CodeWords.{ReadRuns.run_shrinks, ReadRuns.size, ReadCodes.read_code_found, CodeReadings.reads_codes}
use Rattle.fax_bits.proofs.{Repetition.Repeated.repeated_induct, BitReading.ZerosInWords.quiet_is, ErrorKinds.not_missing_end}
use Rattle.fax_bits.specs.CodeReading.{IsCut}
use Rattle.fax_reading.proofs.Continuations.LinesContinued.{found_settled, row_continues, line_settled}
use Rattle.fax_reading.proofs.DrawingLines.KeptInLines.{line_1d_keeps, line_2d_keeps, AreKept, Yields}
use Rattle.fax_reading.proofs.{Continuations.StrictLines.strict_settled, Names.ap, Names.ℤ, Names.ℕ}

-- zeros that some bits contain they contain with what follows them
scan_stays : (n : ℕ) (a b : Bits) → scan n a ≡ None → scan n (a ++ b) ≡ None
scan_stays n [] b e = absurd cc
scan_stays n (true ∷ a) b e = scan_stays 0 a b e
scan_stays n (false ∷ a) b e = grind (arith, common_steps, cases_lt, le-ltb, lt-ltb, scan_stays (suc n) a b)

-- with more zeros before them the bits contain eleven zeros too
scan_above : (m n : ℕ) (bits : Bits) → m ≤ n → scan m bits ≡ None → scan n bits ≡ None
scan_above m n bits le e = by_scan (scan n bits) refl
  where
    by_scan : (o : Option ℕ) → scan n bits ≡ o → scan n bits ≡ None
    by_scan None f = f
    by_scan (Some k) f = absurd (let g = scan_below m n k bits le f in let h = g.1 in cc)

-- eleven zeros are here, of which three may be before
abbrev HasZeros : Bits → Type 0
HasZeros here = scan 3 here ≡ None

-- this is true of what is read, or the fault isn't that the end is missing
abbrev IsKnown : {A : Type 0} → (A → Type 0) → Result A DecodeError → Type 0
IsKnown P (Ok x) = P x
IsKnown P (Err fault) = misses_end fault ≡ false

-- ---- Words and runs

zeros_after : (here word rest : Bits) → IsWord word → HasZeros here → here ≡ word ++ rest → HasZeros rest
zeros_after here word rest is_word zeros is = let q = quiet_is (scan 3 word) (word_quiet word is_word) in
    scan_above q.0 3 rest q.2 (sym (scan-append 3 q.0 word rest q.1) ∙ ap (scan 3) (sym is) ∙ zeros)

module _ {V : Type 0} (list : List (Code V)) (free : is_prefix_free list ≡ true)
    (words : (v : V) (word : Bits) → Has list v word → IsWord word) where
  uncut_zeros : (here : Bits) → HasZeros here → IsCut list here → ⊥
  uncut_zeros here zeros (v, w, has, begins) = let q = quiet_is (scan 3 w) (word_quiet w (words v w has)) in
      grind (arith, scan_stays)

  code_known : (here : Bits) → HasZeros here → IsKnown (λ found. HasZeros found.1) (read_code list here)
  code_known here zeros = by_read_code (read_code list here) refl
    where
      by_read_code : (r : Result (V × Bits) DecodeError) → read_code list here ≡ r → IsKnown (λ found. HasZeros found.1) r
      by_read_code (Ok (v, rest)) e = grind (arith, common_steps, read_code_found, zeros_after)
      by_read_code (Err fault) e = not_missing_end fault
          (λ is. uncut_zeros here zeros (((reads_codes list free).cut here).0 (e ∙ ap Err is)).1)

-- a turn of a run
abbrev TurnIsKnown : Turn (ℕ × Bits) (Result (ℕ × Bits) DecodeError) → Type 0
TurnIsKnown (Turn.next s) = HasZeros s.1
TurnIsKnown (Turn.done r) = IsKnown (λ found. HasZeros found.1) r

run_turn_known : (color : Color) (s : ℕ × Bits) → HasZeros s.1 → TurnIsKnown (run_turn color s)
run_turn_known color (total, here) zeros = by_read_code (read_code (codes_of color) here) refl
    (code_known (codes_of color) (codes_free color) (λ n word has. inl (color, n, has)) here zeros)
  where
    either_way : (n : ℕ) (rest : Bits) → HasZeros rest → (b c : Bool) → TurnIsKnown
        (cond b (Turn.done (Err Overflow)) (cond c (Turn.done (Ok (total + n, rest))) (Turn.next (total + n, rest))))
    either_way n rest left b c = grind arith

    by_read_code : (r : Result (ℕ × Bits) DecodeError) → read_code (codes_of color) here ≡ r
        → IsKnown (λ found. HasZeros found.1) r → TurnIsKnown (run_turn color (total, here))
    by_read_code r e left = grind (arith, either_way)

-- ---- Lines

-- a turn goes on with such a value, or its line isn't short
abbrev pub GoesOrEnds : {A : Type 0} → (A → Type 0) → Turn A Line → Type 0
GoesOrEnds P (Turn.next x) = P x
GoesOrEnds P (Turn.done line) = is_short line ≡ false

found_known : {A : Type 0} (P : A → Type 0) (front : Row) (r : Result A DecodeError) → IsKnown P r
    → Yields P (λ line. is_short line ≡ false) (unless_fault front r)
found_known P front r known = grind arith

-- painting needs no bits
abbrev pub Anything : {A : Type 0} → A → Type 0
Anything x = Unit {0}

pub place_known : (front : Row) (z : ℤ) → GoesOrEnds Anything (unless_fault front (place_from (length front) z))
place_known front z = grind arith

-- no line is short that begins before such zeros
before_zeros : (strict : Bool) (columns : ℕ)
    → AreKept strict columns (λ front rest. HasZeros rest) (λ line. is_short line ≡ false)
before_zeros strict columns = record {
  paints = λ front rest color n zeros. grind (arith, common_steps);
  run = λ front rest color zeros. found_known (λ run. HasZeros run.1) front (run_from color (0, rest))
      (repeated_induct (run_turn color) (Err UnexpectedEof) size (run_shrinks color) (λ s r. HasZeros s.1 → IsKnown
      (λ found. HasZeros found.1) r) (λ s r e left. subst TurnIsKnown e (run_turn_known color s left)) (λ s t r e on left. on
      (subst TurnIsKnown e (run_turn_known color s left))) (suc (length rest)) (0, rest) (omega arith) zeros);
  mode = λ front rest zeros. found_known (λ mode. HasZeros mode.1) front (read_code mode_codes rest)
      (code_known mode_codes modes_free (λ mode word has. inr (mode, has)) rest zeros);
  place = λ front rest zeros. refl;
  whole = λ front rest zeros. refl;
}

line_1d_known : (strict : Bool) (columns : ℕ) (here : Bits) → HasZeros here → is_short (line_1d strict columns here) ≡ false
line_1d_known strict columns here zeros = line_1d_keeps (before_zeros strict columns) (start here) zeros

line_2d_known : (strict : Bool) (columns : ℕ) (reference : Row) (here : Bits) → HasZeros here
    → is_short (line_2d strict columns reference here) ≡ false
line_2d_known strict columns reference here zeros = line_2d_keeps (before_zeros strict columns) reference (start here) zeros

-- No line is short with eleven zeros among its bits.
pub zeros_end_line : (settings : DecodeSettings) (reference : Row) (fill after : Bits)
    → is_short (line_here settings reference (fill ++ (replicate 11 false ++ after))) ≡ false
zeros_end_line settings reference fill after = by_encoding settings.encoding fill
  where
    zeros : (fill : Bits) → HasZeros (fill ++ (replicate 11 false ++ after))
    zeros fill = scan_holds 3 fill after (omega arith)

    by_encoding : (encoding : EncodingMode) (fill : Bits) → is_short
        (line_by encoding settings.strict settings.columns reference (fill ++ (replicate 11 false ++ after))) ≡ false
    by_encoding Group3_1D fill = line_1d_known settings.strict settings.columns _ (zeros fill)
    by_encoding Group3_2D [] = line_2d_known settings.strict settings.columns reference (replicate 10 false ++ after) refl
    by_encoding Group3_2D (true ∷ fill) = line_1d_known settings.strict settings.columns _ (zeros fill)
    by_encoding Group3_2D (false ∷ fill) = line_2d_known settings.strict settings.columns reference _ (zeros fill)
    by_encoding Group4 fill = line_2d_known settings.strict settings.columns reference _ (zeros fill)

-- A line that is settled isn't short.
pub settled_not_short : (settings : DecodeSettings) (reference : Row) (here : Bits) → LineIsSettled settings reference here
    → is_short (line_here settings reference here) ≡ false
settled_not_short settings reference here settled = sym (grind (arith, common_steps))
    ∙ sym (ap is_short (settled (replicate 16 false))) ∙ zeros_end_line settings reference here (replicate 5 false)

-- A line that isn't short stays as it was read.
pub line_stays : (settings : DecodeSettings) (reference : Row) (here : Bits)
    → is_short (line_here settings reference here) ≡ false → StaysAsRead settings reference here
line_stays settings reference here known = grind (arith, common_steps, line_settled, strict_settled, found_settled, row_continues)

-- the law
pub lines_settle : LinesSettle
lines_settle = grind (arith, common_steps, line_settled, settled_not_short, line_stays, zeros_end_line)
