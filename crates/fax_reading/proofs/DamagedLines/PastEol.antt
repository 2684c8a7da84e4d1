-- What follows the next EOL, and a turn of a lenient run that seeks EOLs.
use Rattle.fax_reading.proofs.Names.{DecodeSettings, not_from_false, length-append, pass_last_tag, EncodingMode, common_steps, Ok}
use Rattle.fax_reading.proofs.Names.{line_of_turn, after_line, cond-false, misses_eol, Group3_1D, Group3_2D, after_eol, cond-true}
use Rattle.fax_reading.proofs.Names.{ends_with, eols_here, limit_met, line_here, replicate, Progress, all_eols, and_from, eols_by}
use Rattle.fax_reading.proofs.Names.{cases_lt, next_eol, one_more, line_1d, line_by, move_on, Group4, Option, at_end, le-leb, Row}
use Rattle.fax_reading.proofs.Names.{length, lt-leb, ne_eqb, row_at, row_of, arith, false, Bits, Bool, Line, List, None, Some, []}
use Rattle.fax_reading.proofs.Names.{cond, refl, true, ◌++◌, leb, suc, sym, ◌+◌, ◌<◌, ◌∙◌, ◌∷◌, ◌≡◌, ◌≤◌, ap, ℕ}
use Rattle.fax_bits.proofs.BitReading.ConsecutiveEols.{all_tagged-none, all_tagged-some, all_eols-none, all_eols-some, eols-none}
use Rattle.fax_reading.proofs.Readings.RowsAndGaps.{after_damage-is, after_whole-is, unless_over, after_row}
use Rattle.fax_bits.proofs.BitReading.ConsecutiveEols.{eols-some}
use Rattle.fax_reading.proofs.{DrawingLines.LinesLeaveBits.LeavesBits, Readings.TurnsMoveOn.eols_here_some}
use Rattle.fax_reading.proofs.Readings.RowsAndGaps.{row_added}

-- what follows the next EOL that ends further on, given the number of zeros just before
abbrev pub past : ℕ → Bits → Option Bits
past seen [] = None
past seen (false ∷ here) = past (suc seen) here
past seen (true ∷ here) = cond (leb 11 seen) (Some here) (past 0 here)

-- one that ends among some bits stays it, whatever follows
pub past-front : (seen : ℕ) (front after more : Bits) → past seen front ≡ Some after
    → past seen (front ++ more) ≡ Some (after ++ more)
past-front seen [] after more e = absurd cc
past-front seen (false ∷ front) after more e = past-front (suc seen) front after more e
past-front seen (true ∷ front) after more e = grind (arith, past-front 0 front after more)

-- the EOL here is the next
pub past-eol : (seen : ℕ) (here after : Bits) → after_eol seen here ≡ Some after → past seen here ≡ Some after
past-eol seen [] after e = absurd cc
past-eol seen (false ∷ here) after e = past-eol (suc seen) here after e
past-eol seen (true ∷ here) after e = grind (arith, common_steps)

-- if there is none, a zero less makes no difference
past-none : (seen : ℕ) (here : Bits) → after_eol (suc seen) here ≡ None → past (suc seen) here ≡ past seen here
past-none seen [] e = refl
past-none seen (false ∷ here) e = past-none (suc seen) here e
past-none seen (true ∷ here) e = grind (arith, common_steps)

-- what follows the EOL that was found
abbrev pub then_after : Option Bits → Option Bits
then_after None = None
then_after (Some found) = after_eol 0 found

-- what follows the next EOL, by looking for it
pub past_is : (here : Bits) → past 0 here ≡ then_after (next_eol here)
past_is [] = refl
past_is (bit ∷ here) = grind (arith, common_steps, past-eol, past-none, past_is here)

-- no EOL is counted where there is none
pub eols_here-none : (settings : DecodeSettings) (here : Bits) → after_eol 0 here ≡ None → eols_here settings here ≡ (0, here)
eols_here-none settings here e = grind (arith, common_steps, all_eols-none, all_tagged-none, eols-none)

-- the next EOL is further on in the same bits
pub next_eol_leaves : (here found : Bits) → next_eol here ≡ Some found → (before : Bits) × (here ≡ before ++ found)
next_eol_leaves [] found e = absurd cc
next_eol_leaves (bit ∷ here) found e = by_before (next_eol_leaves here found) (after_eol 0 (bit ∷ here)) refl
  where
    by_before : (next_eol here ≡ Some found → (before : Bits) × (here ≡ before ++ found)) → (o : Option Bits)
        → after_eol 0 (bit ∷ here) ≡ o → (before : Bits) × ((bit ∷ here) ≡ before ++ found)
    by_before on None f = let g : next_eol here ≡ Some found = rw (f, next_eol) at e in let h = on g in
        (bit ∷ h.0, ap (λ (b : Bits). bit ∷ b) h.1)
    by_before on (Some rest) f = grind (arith, common_steps)

-- If twelve bits are left before the end of the next EOL, it is also the next one from there.
pub past_here : (seen fewer : ℕ) (here after : Bits) → fewer ≤ seen → past seen here ≡ Some after
    → length after + 12 ≤ fewer + length here → past fewer here ≡ Some after
past_here seen fewer [] after le e far = absurd cc
past_here seen fewer (false ∷ here) after le e far = past_here (suc seen) (suc fewer) here after (omega arith) e (omega arith)
past_here seen fewer (true ∷ here) after le e far = grind (arith, common_steps)

-- an EOL with its last twelve bits still to come is the next one from further on too
pub past_later : (seen : ℕ) (before here after : Bits) → past seen (before ++ here) ≡ Some after → length after + 12 ≤ length here
    → past 0 here ≡ Some after
past_later seen [] here after e far = past_here seen 0 here after (omega arith) e (omega (arith, far))
past_later seen (false ∷ before) here after e far = past_later (suc seen) before here after e far
past_later seen (true ∷ before) here after e far =
    grind (arith, common_steps, cases_lt, le-leb, length-append, lt-leb, past_later 0 before here after)

-- at a one eleven zeros were seen, and what follows is the rest
pub eol_at_one : (seen : ℕ) (here rest : Bits) → after_eol seen (true ∷ here) ≡ Some rest → (11 ≤ seen) × (here ≡ rest)
eol_at_one seen here rest e = grind (arith, common_steps)

-- the zeros and the one of an EOL
pub after_eol_is : (seen : ℕ) (here rest : Bits) → after_eol seen here ≡ Some rest → (k : ℕ)
    × (here ≡ replicate k false ++ true ∷ rest) × (11 ≤ seen + k)
after_eol_is seen [] rest e = absurd cc
after_eol_is seen (false ∷ here) rest e = let f = after_eol_is (suc seen) here rest e in
    (suc f.0, ap (λ (x : Bits). false ∷ x) f.1, omega (arith, f.2))
after_eol_is seen (true ∷ here) rest e = grind (arith, common_steps, eol_at_one)

-- what follows the next EOL is shorter
pub past_shorter : (seen : ℕ) (here after : Bits) → past seen here ≡ Some after → length after < length here
past_shorter seen [] after e = absurd cc
past_shorter seen (false ∷ here) after e = omega (arith, past_shorter (suc seen) here after e)
past_shorter seen (true ∷ here) after e = grind (arith, common_steps, cases_lt, le-leb, lt-leb, past_shorter 0 here after)

-- a run that seeks EOLs
abbrev pub sought : List Row → Bits → Progress
sought rows rest = record { rows = rows; has_eols = true; rest = rest }

-- where a line ends: a broken one is read again
abbrev pub rest_of : Line → Bits → Bits
rest_of (Line.whole row rest) here = rest
rest_of (Line.broken front fault) here = here

-- the next EOL, by what follows it
pub found_next : (here after : Bits) → past 0 here ≡ Some after → (found : Bits) × (next_eol here ≡ Some found)
    × (after_eol 0 found ≡ Some after)
found_next here after e = grind (arith, common_steps, past_is, then_after)

-- where an EOL is due the data continues
pub not_past_end : (here after : Bits) → past 0 here ≡ Some after → at_end here ≡ false
not_past_end here after e = grind (arith, common_steps)

module _ (settings : DecodeSettings) where
  -- the EOLs from one on are given by what follows it
  pub eols_here_same : (here there after : Bits) → after_eol 0 here ≡ Some after → after_eol 0 there ≡ Some after
      → eols_here settings here ≡ eols_here settings there
  eols_here_same here there after e f = by_encoding settings.encoding settings.end_of_block
    where
      by_encoding : (encoding : EncodingMode) (block : Bool) → eols_by encoding block here ≡ eols_by encoding block there
      by_encoding Group3_1D block = all_eols-some here after e ∙ sym (all_eols-some there after f)
      by_encoding Group3_2D block = ap pass_last_tag (all_tagged-some here after e ∙ sym (all_tagged-some there after f))
      by_encoding Group4 true = eols-some 1 here after e ∙ sym (eols-some 1 there after f)
      by_encoding Group4 false = all_eols-some here after e ∙ sym (all_eols-some there after f)

  -- at the limit a run is over, past the EOLs here
  pub sought_done : (rows : List Row) (here : Bits) → limit_met settings (length rows) ≡ true
      → after_row settings (sought rows here) ≡ ends_with (sought rows here) (Ok (eols_here settings here).1)
  sought_done rows here met = grind (arith, common_steps)

  module _ (lenient : settings.strict ≡ false) where
    -- if an EOL follows and the limit isn't met, the EOLs are counted from the next on
    pub row_past : (rows : List Row) (here after : Bits) → limit_met settings (length rows) ≡ false → past 0 here ≡ Some after
        → (found : Bits) × LeavesBits here found × (after_eol 0 found ≡ Some after)
        × (after_row settings (sought rows here) ≡ unless_over settings (sought rows here) (eols_here settings found))
    row_past rows here after short e = by_after_eol (after_eol 0 here) refl
      where
        by_after_eol : (o : Option Bits) → after_eol 0 here ≡ o → (found : Bits) × LeavesBits here found
            × (after_eol 0 found ≡ Some after)
            × (after_row settings (sought rows here) ≡ unless_over settings (sought rows here) (eols_here settings found))
        by_after_eol (Some next) f = grind (arith, common_steps, past-eol, eols_here_some, ne_eqb, cond-false)
        by_after_eol None f = let next = found_next here after e in
            let missed : misses_eol settings (length rows) true here ≡ true = grind
            (arith, common_steps, and_from, not_from_false, not_past_end) in
            grind (arith, next_eol_leaves, cond-true, cond-false)

    -- a line's row is added, and what follows it is counted
    pub move_sought : (rows : List Row) (here : Bits) → move_on settings (sought rows here) ≡ after_row settings
        (sought (rows ++ row_of settings.columns (line_of_turn settings (sought rows here)) ∷ [])
        (rest_of (line_of_turn settings (sought rows here)) here))
    move_sought rows here = by_line (line_of_turn settings (sought rows here))
      where
        unaligned : (row : Row) (rest : Bits) → row_added settings (sought rows here) row rest
            ≡ after_row settings (sought (rows ++ row ∷ []) rest)
        unaligned row rest = grind (arith, common_steps)

        by_line : (line : Line) → after_line settings (sought rows here) line ≡ after_row settings
            (sought (rows ++ row_of settings.columns line ∷ []) (rest_of line here))
        by_line (Line.whole row rest) = after_whole-is settings (sought rows here) row rest ∙ unaligned row rest
        by_line (Line.broken front fault) = grind (arith, common_steps, after_damage-is, cond-false, unaligned)

-- ---- One-dimensional data

module _ (settings : DecodeSettings) (encoding : settings.encoding ≡ Group3_1D) (lenient : settings.strict ≡ false) where
  -- if an EOL follows and the limit isn't met, the EOLs are counted that begin with the next
  pub after_row_past : (rows : List Row) (here after : Bits) → limit_met settings (length rows) ≡ false → past 0 here ≡ Some after
      → after_row settings (sought rows here) ≡ unless_over settings (sought rows here) (one_more (all_eols after))
  after_row_past rows here after short e =
      grind (arith, common_steps, row_past settings lenient rows here after short e, all_eols-some)

  -- its lines have no reference row
  pub sought_line_is : (reference : Row) (here : Bits) → line_here settings reference here ≡ line_1d false settings.columns here
  sought_line_is reference here = ap (λ (e : EncodingMode). line_by e settings.strict settings.columns reference here) encoding
      ∙ ap (λ (s : Bool). line_1d s settings.columns here) lenient

  -- a line's row is added, and the EOLs after it are counted
  pub move_line : (rows : List Row) (here : Bits) → move_on settings (sought rows here) ≡ after_row settings
      (sought (rows ++ row_at settings.columns here ∷ []) (rest_of (line_1d false settings.columns here) here))
  move_line rows here = grind (arith, common_steps, move_sought, sought_line_is)
