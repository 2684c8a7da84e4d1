-- What is read doesn't depend on what follows it.
use Rattle.fax_reading.proofs.Names.{Line, ◌≡◌, suc, ◌+◌, ◌<◌, leb, Err, sym, ◌∙◌, inl, inr, Row, Pen, Ok, ap, []}
use Rattle.fax_reading.proofs.Names.{UnexpectedEof, common_steps, append_assoc, DecodeError, Horizontal, mode_codes, cond-false}
use Rattle.fax_reading.proofs.Names.{length, Result, start, arith, Color, Step, zero, Bool, ◌++◌, refl, Mode, Pass, Bits, Turn, ℕ}
use Rattle.fax_reading.proofs.Names.{read_code, cases_lt, Vertical, opposite, codes_of, run_from, line_2d, line_1d, le-leb, paint}
use Rattle.fax_bits.proofs.CodeWords.ReadCodes.{read_code_found, read_code_again}
use Rattle.fax_bits.proofs.CodeWords.ReadRuns.{read_code_shorter, words_not_empty, run_goes_on, run_passes, run_fails, run_ends}
use Rattle.fax_bits.proofs.Repetition.Repeated.{repeated_turn, after_turn, not_next}
use Rattle.fax_bits.proofs.{BitReading.ZerosInWords.codes_free, BitReading.ZerosInWords.modes_free, CodeWords.ReadRuns.chosen}
use Rattle.fax_reading.proofs.DrawingLines.Drawings.{horizontal_is, mode_step, run_then, drawn_by, step_2d, step_1d, try}
use Rattle.fax_reading.proofs.DrawingLines.ReadLines.{draws_mode, draws_run, mode_read, try_next, pen_left, full_by, IsStep}
use Rattle.fax_reading.proofs.EncodedPictures.EncodedLines.{draws}

-- ---- A run.
abbrev pub RunFound : Color → ℕ → Bits → ℕ → Bits → Type 0
RunFound color total here n rest =
    (w : Bits) × (here ≡ w ++ rest) × ((more : Bits) → run_from color (total, w ++ more) ≡ Ok (n, more))

run_found_by : (fuel : ℕ) (color : Color) (total : ℕ) (here : Bits) (n : ℕ) (rest : Bits) → length here < fuel
    → run_from color (total, here) ≡ Ok (n, rest) → RunFound color total here n rest
run_found_by zero color total here n rest lt e = absurd (omega arith)
run_found_by (suc fuel) color total here n rest lt e = let by_read_code : (r : Result (ℕ × Bits) DecodeError)
    → read_code (codes_of color) here ≡ r → RunFound color total here n rest = λ r. elim r
    as (λ (r : Result (ℕ × Bits) DecodeError). read_code (codes_of color) here ≡ r → RunFound color total here n rest) [
      | Err fault ↦ grind (arith, run_fails)
      | Ok found ↦ λ a. let word = read_code_found (codes_of color) here found.0 found.1 a in
          let again : (more : Bits) → read_code (codes_of color) (word.0 ++ more) ≡ Ok (found.0, more) = λ more. read_code_again
          (codes_of color) found.0 word.0 more (codes_free color) word.1 in
          elim (cases_lt 4294967295 (total + found.0)) [
            | inl big ↦ absurd (let f = sym (run_passes color total found.0 here found.1 a big) ∙ e in cc)
            | inr fits ↦ elim (cases_lt found.0 64) [
              | inl last ↦ grind (arith, common_steps, run_ends)
              | inr large ↦ let shorter = read_code_shorter (codes_of color) here found.0 found.1 (words_not_empty color) a in
                  let on = run_found_by fuel color (total + found.0) found.1 n rest (omega (arith, shorter))
                  (sym (run_goes_on color total found.0 here found.1 a fits large) ∙ e) in (
                    word.0 ++ on.0,
                    word.2 ∙ ap (λ (x : Bits). word.0 ++ x) on.1 ∙ sym (append_assoc word.0 on.0 rest),
                    grind (arith, append_assoc, run_goes_on),
                  )
            ]
          ]
    ] in by_read_code (read_code (codes_of color) here) refl

-- ---- A step of a line.
abbrev pub Carries : (Pen → Step) → Type 0
Carries f = (pen t : Pen) → f pen ≡ Turn.next t → (w : Bits) × (pen.rest ≡ w ++ t.rest)
    × ((more : Bits) → f (record pen { rest = w ++ more }) ≡ Turn.next (record t { rest = more }))

pub next_carries : Carries Turn.next
next_carries pen t e = grind (arith, common_steps)

pub draw_run_carries : (strict : Bool) (columns : ℕ) (g : Pen → Step) → Carries g → Carries (λ pen. run_then strict columns pen g)
draw_run_carries strict columns g carries pen t e = let a = try_next pen.front (run_from pen.color (0, pen.rest))
    (λ run. try pen.front (paint strict columns pen.front pen.color run.0)
    (λ front. g (record { front = front; color = opposite pen.color; rest = run.1 }))) t e in
    let b = try_next pen.front (paint strict columns pen.front pen.color a.0.0)
    (λ front. g (record { front = front; color = opposite pen.color; rest = a.0.1 })) t a.2 in
    let c = carries (record { front = b.0; color = opposite pen.color; rest = a.0.1 }) t b.2 in
    let d = (run_found_by (suc (length pen.rest)) pen.color 0 pen.rest a.0.0 a.0.1 (omega arith) a.1) in
    (d.0 ++ c.0, d.1 ∙ ap (λ (x : Bits). d.0 ++ x) c.1 ∙ sym (append_assoc d.0 c.0 t.rest), grind (arith, draws, append_assoc))

mode_carries : (strict : Bool) (columns : ℕ) (reference : Row) (mode : Mode)
    → Carries (λ pen. mode_step strict columns reference pen mode)
mode_carries strict columns reference Pass = grind (arith, common_steps, try_next)
mode_carries strict columns reference Horizontal = λ pen t e.
    let two = draw_run_carries strict columns (λ pen. run_then strict columns pen Turn.next)
    (draw_run_carries strict columns Turn.next next_carries) pen t (horizontal_is strict columns reference pen ∙ e) in
    (two.0, two.1, λ more. sym (horizontal_is strict columns reference (record pen { rest = two.0 ++ more })) ∙ two.2 more)
mode_carries strict columns reference (Vertical k) = grind (arith, try_next)

mode_read_carries : (strict : Bool) (columns : ℕ) (reference : Row) → Carries (mode_read strict columns reference)
mode_read_carries strict columns reference pen t e = let a = try_next pen.front (read_code mode_codes pen.rest)
    (λ mode. mode_step strict columns reference (record pen { rest = mode.1 }) mode.0) t e in
    let word = read_code_found mode_codes pen.rest a.0.0 a.0.1 a.1 in
    let c = mode_carries strict columns reference a.0.0 (record pen { rest = a.0.1 }) t a.2 in (
      word.0 ++ c.0,
      word.2 ∙ ap (λ (y : Bits). word.0 ++ y) c.1 ∙ sym (append_assoc word.0 c.0 t.rest),
      λ more. let read : read_code mode_codes ((word.0 ++ c.0) ++ more) ≡ Ok (a.0.0, c.0 ++ more) = ap (read_code mode_codes)
          (append_assoc word.0 c.0 more) ∙ read_code_again mode_codes a.0.0 word.0 (c.0 ++ more) modes_free word.1 in
          grind arith,
    )

-- ---- A line.

-- what a line read, and that it is read again, whatever follows
pub record LineFound (step : Pen → Step) (pen : Pen) (row : Row) (rest : Bits) : Type 0 where
  pub bits : Bits
  pub is : pen.rest ≡ bits ++ rest
  pub again : (more : Bits) → drawn_by step (record pen { rest = bits ++ more }) ≡ Line.whole row more

module _ {columns : ℕ} {step body : Pen → Step} (drawn_so : IsStep columns step body) (carries : Carries body) where
  rule : (p : Pen) → drawn_by step p ≡ after_turn (drawn_by step) (step p)
  rule p = repeated_turn step (Line.broken [] UnexpectedEof) pen_left drawn_so.shrinks p

  line_found_by : (fuel : ℕ) (pen : Pen) (row : Row) (rest : Bits) → pen_left pen < fuel
      → drawn_by step pen ≡ Line.whole row rest → LineFound step pen row rest
  line_found_by zero pen row rest lt e = absurd (omega arith)
  line_found_by (suc fuel) pen row rest lt e = by_step (λ t small f. line_found_by fuel t row rest small f) (step pen) refl
    where
      by_step : ((t : Pen) → pen_left t < fuel → drawn_by step t ≡ Line.whole row rest → LineFound step t row rest)
          → (turn : Step) → step pen ≡ turn → LineFound step pen row rest
      by_step on (Turn.next t) a = elim (chosen (leb columns (length pen.front)) _ _ _ (sym (drawn_so.same pen) ∙ a)) [
        | inl full ↦ absurd (not_next _ t full.1)
        | inr open_end ↦ let (w, is, again) = carries pen t open_end.1 in
            let more = on t (omega (arith, drawn_so.shrinks pen t a, lt))
            (sym (ap (after_turn (drawn_by step)) a) ∙ sym (rule pen) ∙ e) in
            record {
              bits = w ++ more.bits;
              is = is ∙ ap (λ (x : Bits). w ++ x) more.is ∙ sym (append_assoc w more.bits rest);
              again = λ others. let turn = drawn_so.same (record pen { rest = w ++ (more.bits ++ others) })
                  ∙ cond-false (leb columns (length pen.front)) _ _ open_end.0 ∙ again (more.bits ++ others) in
                  ap (λ (x : Bits). drawn_by step (record pen { rest = x })) (append_assoc w more.bits others)
                  ∙ rule (record pen { rest = w ++ (more.bits ++ others) }) ∙ ap (after_turn (drawn_by step)) turn
                  ∙ more.again others;
            }
      ]
      by_step on (Turn.done line) a = grind (
        arith,
        common_steps,
        rule,
        full_by columns pen (body pen) row rest (drawn_so.goes pen),
        drawn_so.same,
        le-leb columns (length pen.front),
      )

-- a line that was read is read again, whatever follows
pub line_1d_found : (strict : Bool) (columns : ℕ) (here : Bits) (row : Row) (rest : Bits)
    → line_1d strict columns here ≡ Line.whole row rest → LineFound (step_1d strict columns) (start here) row rest
line_1d_found strict columns here row rest e =
    line_found_by (draws_run strict columns) (draw_run_carries strict columns Turn.next next_carries) (suc (length here))
    (start here) row rest (omega arith) e

pub line_2d_found : (strict : Bool) (columns : ℕ) (reference : Row) (here : Bits) (row : Row) (rest : Bits)
    → line_2d strict columns reference here ≡ Line.whole row rest
    → LineFound (step_2d strict columns reference) (start here) row rest
line_2d_found strict columns reference here row rest e = line_found_by (draws_mode strict columns reference)
    (mode_read_carries strict columns reference) (suc (length here)) (start here) row rest (omega arith) e
