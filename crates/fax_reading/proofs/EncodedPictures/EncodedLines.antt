-- Runs, and two-dimensional lines, are read as what was encoded.
use Rattle.fax_reading.proofs.Names.{length-replicate, length-take-le, EncodesLine1D, EncodesLine2D, length-append, append_assoc}
use Rattle.fax_reading.proofs.Names.{common_steps, pixel_before, DecodeError, Horizontal, append-nil, mode_codes, add_assoc, Bits}
use Rattle.fax_reading.proofs.Names.{is_change, replicate, Vertical, cases_lt, codes_of, is_black, opposite, right_of, run_from}
use Rattle.fax_reading.proofs.Names.{line_2d, Result, Spells, length, lt-leb, Black, Color, White, arith, false, paint, pixel, Ok}
use Rattle.fax_reading.proofs.Names.{subst, Bool, Line, Mode, Pass, Step, Turn, refl, take, ◌++◌, ◌+ℤ◌, Has, Pen, Row, inl, inr}
use Rattle.fax_reading.proofs.Names.{pos, suc, sym, ◌+◌, ◌-◌, ◌<◌, ◌∙◌, ◌≡◌, ◌≤◌, [], a1, a2, ap, b1, b2, ℕ}
use Rattle.fax_reading.proofs.DrawingLines.Drawings.{horizontal_is, mode_step, drawn_by, run_then, step_1d, step_2d}
use Rattle.fax_reading.proofs.PixelRows.ChangePlaces.{take_painted, before_same, pixels_same, at_change, a2_least, b1_right}
use Rattle.fax_reading.proofs.PixelRows.ChangePlaces.{b2_above, b2_right, a1_next, a2_next}
use Rattle.fax_bits.proofs.{CodeWords.ReadRuns.run_goes_on, CodeWords.ReadRuns.run_ends, CodeWords.ReadCodes.read_code_again}
use Rattle.fax_bits.proofs.{BitReading.ZerosInWords.codes_free, Repetition.Repeated.after_turn}
use Rattle.fax_reading.proofs.DrawingLines.ReadLines.{drawn1, drawn2}
use Rattle.fax_reading.proofs.PixelRows.ReferencePlaces.{opposite_twice}

-- the words that spell a run are read as that run
pub run_spelled : (color : Color) (n : ℕ) (bits : Bits) (total : ℕ) (more : Bits) → Spells color n bits → total + n ≤ 4294967295
    → run_from color (total, bits ++ more) ≡ Ok (total + n, more)
run_spelled color n bits total more (Spells.terminating m word has small) le =
    run_ends color total n (bits ++ more) more (read_code_again (codes_of color) n bits more (codes_free color) has) le small
run_spelled color n bits total more (Spells.makeup m word {n = k} {bits = next} has large rest) le =
    let step = run_spelled color k next (total + m) more rest (omega arith) in
    grind (arith, common_steps, add_assoc, append_assoc, codes_free, read_code_again, run_goes_on, step)

-- a run that was read
abbrev pub read_as : Bits → ℕ → Result (ℕ × Bits) DecodeError
read_as rest n = Ok (n, rest)

-- pixels that fit are painted
pub whole_run_painted : (strict : Bool) (columns : ℕ) (front : Row) (color : Color) (n : ℕ) → length front + n ≤ columns
    → paint strict columns front color n ≡ Ok (front ++ replicate n (is_black color))
whole_run_painted strict columns front color n le = grind (arith, common_steps)

-- a run that is read and fits is drawn
pub draws : (strict : Bool) (columns : ℕ) (front : Row) (color : Color) (here : Bits) (n : ℕ) (rest : Bits)
    (painted : Row) (f : Pen → Step) → run_from color (0, here) ≡ Ok (n, rest) → paint strict columns front color n ≡ Ok painted
    → run_then strict columns (record { front = front; color = color; rest = here }) f
    ≡ f (record { front = painted; color = opposite color; rest = rest })
draws strict columns front color here n rest painted f read paints = grind (arith, common_steps)

-- a one-dimensional line is read as its row
pub line_1d_again : (strict : Bool) (columns : ℕ) (front row : Row) (color : Color) (bits more : Bits)
    → EncodesLine1D color row bits → columns ≤ 4294967295 → length front + length row ≡ columns → drawn_by
    (step_1d strict columns) (record { front = front; color = color; rest = bits ++ more }) ≡ Line.whole (front ++ row) more
line_1d_again strict columns front row color bits more EncodesLine1D.over le full = grind (arith, common_steps)
line_1d_again strict columns front row color bits more (EncodesLine1D.run n word {row = others} {bits = next} spells some maximal
    rest) le full = let len : length (replicate n (is_black color) ++ others) ≡ n + length others = length-append
    (replicate n (is_black color)) others ∙ ap (λ (k : ℕ). k + length others) (length-replicate n (is_black color)) in
    let here : (word ++ next) ++ more ≡ word ++ (next ++ more) = append_assoc word next more in
    let sum : 0 + n ≡ n = omega arith in
    let read : run_from color (0, (word ++ next) ++ more) ≡ Ok (n, next ++ more) = grind (arith, common_steps, run_spelled) in
    let painted = whole_run_painted strict columns front color n (omega (arith, len)) in
    let stepped : step_1d strict columns (record { front = front; color = color; rest = (word ++ next) ++ more }) ≡ Turn.next
    (record { front = front ++ replicate n (is_black color); color = opposite color; rest = next ++ more }) = grind
    (arith, common_steps, draws, lt-leb) in
    let on = line_1d_again strict columns (front ++ replicate n (is_black color)) others (opposite color) next more rest le
    (omega (arith, len, length-append front (replicate n (is_black color)), length-replicate n (is_black color))) in
    drawn1 strict columns _ ∙ ap (after_turn (drawn_by (step_1d strict columns))) stepped ∙ on
    ∙ ap (λ (r : Row). Line.whole r more) (append_assoc front (replicate n (is_black color)) others)

-- a mode that is read is drawn
pub mode_drawn : (strict : Bool) (columns : ℕ) (reference front : Row) (color : Color) (mode : Mode) (word rest here : Bits)
    → length front < columns → Has mode_codes mode word → here ≡ word ++ rest
    → step_2d strict columns reference (record { front = front; color = color; rest = here }) ≡ mode_step strict columns reference
    (record { front = front; color = color; rest = rest }) mode
mode_drawn strict columns reference front color mode word rest here open_end has is = grind (arith, common_steps)

-- a pass paints up to b2
pub pass_drawn : (strict : Bool) (columns : ℕ) (reference front : Row) (color : Color) (rest : Bits) (to : ℕ)
    → b2 reference (right_of front) color ≡ to → length front ≤ to → to ≤ columns
    → mode_step strict columns reference (record { front = front; color = color; rest = rest }) Pass ≡ Turn.next
    (record { front = front ++ replicate (to - length front) (is_black color); color = color; rest = rest })
pass_drawn strict columns reference front color rest to is le fits = grind (arith, common_steps)

white_first : (color : Color) → false ≡ is_black color → opposite color ≡ Black
white_first color e = grind (arith, common_steps)

pub run_read : (color : Color) (n : ℕ) (word more : Bits) → Spells color n word → n ≤ 4294967295
    → run_from color (0, word ++ more) ≡ Ok (n, more)
run_read color n word more spells le = grind (arith, common_steps, read_as, run_spelled)

down : (p : ℕ) → suc p - 1 ≡ p
down p = omega arith

painted_at : (row front : Row) (p : ℕ) → front ≡ take p row → front ≡ take (suc p - 1) row
painted_at row front p e = rw (down p) e

-- where the steps of an encoded line are, and the front that was painted up to there
pub record IsAt (row front : Row) (from : ℕ) (color : Color) : Type 0 where
  pub painted : front ≡ take (from - 1) row
  pub inside : from ≤ length row → pixel_before row from ≡ is_black color
  pub first : from ≡ 1 → color ≡ Black

length_at : (row front : Row) (from : ℕ) (color : Color) → from ≤ length row + 1 → IsAt row front from color
    → length front ≡ from - 1
length_at row front from color le at = ap length at.painted ∙ length-take-le (from - 1) row (omega arith)

-- painting up to a position before which there is no change
painted_to_place : (row front : Row) (from p : ℕ) (color : Color) → IsAt row front from color
    → from ≤ length row → from ≤ p → p ≤ length row → ((q : ℕ) → from ≤ q → q < p → is_change row q ≡ false)
    → front ++ replicate (p - length front) (is_black color) ≡ take p row
painted_to_place row front from p color at inside above within none =
    let step = pixels_same row from p (is_black color) (at.inside inside) none in
    grind (arith, common_steps, length_at row front from color (omega arith), step, take_painted row (from - 1))

-- the second run of a horizontal mode; it may be empty, at the row's end
second_painted : (row front : Row) (p r : ℕ) (color : Color) → IsAt row front (suc p) color
    → length front ≡ p → p ≤ length row → p ≤ r → r ≤ length row → ((q : ℕ) → suc p ≤ q → q < r → is_change row q ≡ false)
    → front ++ replicate (r - p) (is_black color) ≡ take r row
second_painted row front p r color at len p_within above within none =
    elim (cases_lt p r) [ inl lt ↦ grind (arith, painted_to_place) | inr ge ↦ grind (arith, append-nil) ]

module _ (strict : Bool) (columns : ℕ) (reference row : Row) (wide : 0 < columns) (small : columns ≤ 4294967295)
    (ref_len : length reference ≡ columns) (row_len : length row ≡ columns) where
  abbrev step : Pen → Step
  step = step_2d strict columns reference

  -- a step that goes on
  reads_on : (pen next : Pen) (more : Bits) → step pen ≡ Turn.next next → drawn_by step next ≡ Line.whole row more
      → drawn_by step pen ≡ Line.whole row more
  reads_on pen next more stepped on = drawn2 strict columns reference pen ∙ ap (after_turn (drawn_by step)) stepped ∙ on

  -- from each state on, the steps of an encoded line are read again
  line_2d_from : (front : Row) (from : ℕ) (color : Color) (bits more : Bits) → EncodesLine2D reference row from color bits → IsAt
      row front from color → drawn_by step (record { front = front; color = color; rest = bits ++ more }) ≡ Line.whole row more
  line_2d_from front from color bits more EncodesLine2D.over at = grind (arith, common_steps)
  line_2d_from front from color bits more (EncodesLine2D.pass from2 word {bits = next} inside has left_of steps) at = let len =
      length_at row front from color (omega arith) at in
      let one = a1_next row from in
      let p : ℕ = b2 reference from color in
      let above = b2_above reference from color (omega arith) in
      let painted = painted_to_place row front from p color at inside (omega (arith, above.0, above.1)) (omega arith)
      (λ q ge lt. one.before q ge (omega arith)) in
      let same : pixel row p ≡ is_black color = pixels_same row from (a1 row from) (is_black color)
      (at.inside inside) one.before p (omega (arith, above.0, above.1)) left_of in
      reads_on _ _ more (mode_drawn strict columns reference front color Pass word (next ++ more) _ (omega (arith, len)) has
      (append_assoc word next more) ∙ pass_drawn strict columns reference front color (next ++ more) p
      (b2_right reference front from color len at.first) (omega (arith, len, above.0, above.1)) (omega arith))
      (line_2d_from (front ++ replicate (p - length front) (is_black color)) (suc p) color next more steps (record
      { painted = painted_at row _ p painted; inside = λ le. same; first = λ e. absurd (omega (arith, above.0, above.1)) }))
  line_2d_from front from color bits more (EncodesLine2D.vertical from2 word k {bits = next} inside has exact steps) at =
      let len = length_at row front from color (omega arith) at in
      let one = a1_next row from in
      let p : ℕ = a1 row from in
      let within : p ≤ length row = one.within in
      let above : from ≤ p = one.above inside in
      let place : pos (b1 reference (right_of front) color) +ℤ k ≡ pos p =
      ap (λ (b : ℕ). pos b +ℤ k) (b1_right reference front from color len at.first) ∙ sym exact in
      let painted = painted_to_place row front from p color at inside above within one.before in
      let before : pixel_before row p ≡ is_black color =
      before_same row from p (is_black color) (at.inside inside) one.before p above (omega arith) in
      reads_on _ _ more (mode_drawn strict columns reference front color (Vertical k) word (next ++ more) _
      (omega (arith, len)) has (append_assoc word next more)
      ∙ (grind (arith, common_steps)))
      (line_2d_from (front ++ replicate (p - length front) (is_black color)) (suc p) (opposite color) next more steps (record {
        painted = painted_at row _ p painted;
        inside = λ le. at_change row p color (one.change (omega arith)) before;
        first = λ e. white_first color (let z : p ≡ 0 = omega arith in rw z at before);
      }))
  line_2d_from front from color bits more (EncodesLine2D.horizontal from2 word {first = run1} {second = run2} {bits = next} inside
      has spells1 spells2 steps) at = let len = length_at row front from color (omega arith) at in
      let one = a1_next row from in
      let two = a2_next row from in
      let p : ℕ = a1 row from in
      let r : ℕ = a2 row from in
      let p_within : p ≤ length row = one.within in
      let p_above : from ≤ p = one.above inside in
      let r_within : r ≤ length row = two.within in
      let r_above : p ≤ r = a2_least row from in
      let rest2 : Bits = run2 ++ (next ++ more) in
      let here : (word ++ (run1 ++ (run2 ++ next))) ++ more ≡ word ++ (run1 ++ rest2) = simp append_assoc in
      let front1 : Row = front ++ replicate (p - length front) (is_black color) in
      let front2 : Row = front1 ++ replicate (r - p) (is_black (opposite color)) in
      let painted1 : front1 ≡ take p row = painted_to_place row front from p color at inside p_above p_within one.before in
      let len1 : length front1 ≡ p = ap length painted1 ∙ length-take-le p row p_within in
      let count1 : p - (from - 1) ≡ p - length front = omega (arith, len) in
      let read1 = run_read color (p - length front) run1 rest2 (subst (λ (n : ℕ). Spells color n run1) count1 spells1)
      (omega arith) in
      let read2 = run_read (opposite color) (r - p) run2 (next ++ more) spells2 (omega arith) in
      let turned : p < length row → pixel row p ≡ is_black (opposite color) = λ lt. at_change row p color (one.change lt)
      (before_same row from p (is_black color) (at.inside inside) one.before p p_above (omega arith)) in
      let at1 : IsAt row front1 (suc p) (opposite color) = grind (arith, painted_at, white_first) in
      let painted2 : front2 ≡ take r row = second_painted row front1 p r
      (opposite color) at1 len1 p_within r_above r_within two.before in
      reads_on _ (record { front = front2; color = color; rest = next ++ more }) more
      (mode_drawn strict columns reference front color Horizontal word (run1 ++ rest2) _ (omega (arith, len)) has here
      ∙ sym (horizontal_is strict columns reference (record { front = front; color = color; rest = run1 ++ rest2 })) ∙ draws
      strict columns front color (run1 ++ rest2) (p - length front) rest2 front1 (λ pen. run_then strict columns pen Turn.next)
      read1 (whole_run_painted strict columns front color (p - length front) (omega (arith, len)))
      ∙ draws strict columns front1 (opposite color) rest2 (r - p) (next ++ more) front2 Turn.next read2
      (whole_run_painted strict columns front1 (opposite color) (r - p) (omega (arith, len1)))
      ∙ ap (λ (c : Color). Turn.next (record { front = front2; color = c; rest = next ++ more })) (opposite_twice color))
      (line_2d_from front2 (suc r) color next more steps (record {
        painted = painted_at row front2 r painted2;
        inside = λ le. let r_over : suc p ≤ r = two.above (omega arith) in
            at_change row r (opposite color) (two.change (omega arith)) (before_same row (suc p) r (is_black (opposite color))
            (turned (omega arith)) two.before r r_over (omega arith)) ∙ ap is_black (opposite_twice color);
        first = λ e. absurd (let r_over : suc p ≤ r = two.above (omega arith) in omega arith);
      }))

-- Strict or lenient, whatever follows: a valid encoding of a row is read as that row.
pub line_2d_again : (strict : Bool) (columns : ℕ) (reference row : Row) (bits more : Bits)
    → EncodesLine2D reference row 0 White bits → 0 < columns → columns ≤ 4294967295 → length reference ≡ columns
    → length row ≡ columns → line_2d strict columns reference (bits ++ more) ≡ Line.whole row more
line_2d_again strict columns reference row bits more steps wide small ref_len row_len =
    line_2d_from strict columns reference row wide small ref_len row_len [] 0 White bits more steps
    (record { painted = refl; inside = λ le. refl; first = λ e. absurd (omega arith) })
