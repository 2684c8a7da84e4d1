-- What is chosen for a line, and for a picture, is an encoding of it.
use Rattle.fax_coding.proofs.Names.{◌≡◌, ◌≢◌, ℕ, zero, suc, ◌+◌, ◌-◌, ◌<◌, ◌≤◌, Bool, true, false, cond, not, leb, ltb, List, []}
use Rattle.fax_coding.proofs.Names.{◌∷◌, ◌++◌, length, replicate, refl, sym, ap, subst, ◌∙◌, arith, inl, inr, append_assoc, ℤ}
use Rattle.fax_coding.proofs.Names.{pos, negsuc, ◌+ℤ◌, All, ints, leb-true, ltb-true, lt-ltb, le-ltb, le-leb, and_parts}
use Rattle.fax_coding.proofs.Names.{false≢true, cases_lt, All-head, All-tail, append-nil, Color, White, Black}
use Rattle.fax_coding.proofs.Names.{Mode, Pass, Horizontal, Vertical, Group4, Group3_1D, Bits, mode_codes, Has, Turn, Row}
use Rattle.fax_coding.proofs.Names.{is_black, opposite, changes, pixels_from, AscendFrom, a1, a2, b1, b2}
use Rattle.fax_coding.proofs.Names.{EncodesLine1D, EncodesLine2D, EncodesRows, EncodesRowsWithEols, ClosesWithEols, eol}
use Rattle.fax_coding.proofs.Names.{AscendFrom-wider, pixels_from-first, pixels-changes, AreChanges-changes, a1_next, a2_next}
use Rattle.fax_coding.proofs.Names.{a2_least, b2_above, Shrinks, gathered_turn, chosen_run, chosen_runs, chosen_line_1d, Place}
use Rattle.fax_coding.proofs.Names.{vertical_mode, is_near, chosen_mode, runs_of_mode, place_after, is_coded, next_place, bits_at}
use Rattle.fax_coding.proofs.Names.{chosen_from, chosen_line_2d, chosen_lines_2d, chosen_lines_1d, return_to_control}
use Rattle.fax_coding.proofs.Names.{word_of_mode, Spells}
use Rattle.fax_coding.proofs.ChosenWords.{run_spelled}

-- ---- One-dimensional lines.
pub not_black : (color : Color) → not (is_black color) ≡ is_black (opposite color)
not_black White = refl
not_black Black = refl

colors_differ : (color : Color) → not (is_black color) ≡ is_black color → ⊥
colors_differ White e = false≢true (sym e)
colors_differ Black e = false≢true e

pub begins_other : (color : Color) (change width : ℕ) (places : List ℕ) → change < width → AscendFrom (suc change) width places
    → (rest : Row) → pixels_from change (not (is_black color)) width places ≢ is_black color ∷ rest
begins_other color change width places lt ascend rest e =
    let first = pixels_from-first change (not (is_black color)) width places lt ascend in
    colors_differ color (let heads : not (is_black color) ≡ is_black color = cc in heads)

-- by any words that spell runs
module _ (run : Color → ℕ → Bits) (runs : ℕ → Color → ℕ → List ℕ → Bits)
    (spelled : (color : Color) (n : ℕ) → Spells color n (run color n))
    (last : (width place : ℕ) (color : Color) → runs width color place [] ≡ run color (width - place))
    (more : (width place change : ℕ) (color : Color) (list : List ℕ)
    → runs width color place (change ∷ list) ≡ run color (change - place) ++ runs width (opposite color) change list) where
  runs_encode : (color : Color) (place width : ℕ) (places : List ℕ) → place < width → AscendFrom place width places
      → EncodesLine1D color (pixels_from place (is_black color) width places) (runs width color place places)
  runs_encode color place width [] lt ascend =
      let n : ℕ = width - place in
      subst (λ (row : Row). EncodesLine1D color row (runs width color place [])) (append-nil (replicate n (is_black color)))
      (subst (λ (b : Bits). EncodesLine1D color (replicate n (is_black color) ++ []) b)
      (append-nil (run color n) ∙ sym (last width place color))
      (EncodesLine1D.run n (run color n) (spelled color n) (omega arith) (λ rest e. absurd cc) EncodesLine1D.over))
  runs_encode color place width (change ∷ places) lt ascend =
      let from : place ≤ change = ascend.0 in
      let within : change < width = ascend.1 in
      let on = runs_encode (opposite color) change width places within
      (AscendFrom-wider change (suc change) width width places (omega arith) (omega arith) ascend.2) in
      let rest = subst (λ (c : Bool). EncodesLine1D (opposite color) (pixels_from change c width places)
      (runs width (opposite color) change places)) (sym (not_black color)) on in
      let first = pixels_from-first change (not (is_black color)) width places within ascend.2 in
      subst (λ (b : Bits). EncodesLine1D color (pixels_from place (is_black color) width (change ∷ places)) b)
      (sym (more width place change color places))
      (EncodesLine1D.run (change - place) (run color (change - place)) (spelled color (change - place))
      (omega (arith, ap length first)) (begins_other color change width places within ascend.2) rest)

  pub row_encodes : (row : Row) → 0 < length row → EncodesLine1D White row (runs (length row) White 0 (changes row))
  row_encodes row some =
      subst (λ (r : Row). EncodesLine1D White r (runs (length row) White 0 (changes row))) (pixels-changes row)
      (runs_encode White 0 (length row) (changes row) some (AreChanges-changes row))

-- what is chosen for a one-dimensional line encodes it
pub line_1d_encodes : (row : Row) → 0 < length row → EncodesLine1D White row (chosen_line_1d row)
line_1d_encodes row some = row_encodes chosen_run chosen_runs run_spelled (λ width place color. refl)
    (λ width place change color list. refl) row some

-- ---- Two-dimensional lines.
-- a vertical mode of at most three positions has a word, and names a1
pub record IsVertical (start to : ℕ) : Type 0 where
  pub k : ℤ
  pub mode : vertical_mode start to ≡ Vertical k
  pub word : Has mode_codes (Vertical k) (word_of_mode (Vertical k))
  pub names : pos to ≡ pos start +ℤ k

to_the_right : (start n : ℕ) → n < 4 → (Has mode_codes (Vertical (pos n)) (word_of_mode (Vertical (pos n))))
    × (pos (start + n) ≡ pos start +ℤ pos n)
to_the_right start zero lt = (inr (inr (inl (refl, refl))), refl)
to_the_right start (suc zero) lt = (inr (inr (inr (inl (refl, refl)))), refl)
to_the_right start (suc (suc zero)) lt = (inr (inr (inr (inr (inl (refl, refl))))), refl)
to_the_right start (suc (suc (suc zero))) lt = (inr (inr (inr (inr (inr (inl (refl, refl)))))), refl)
to_the_right start (suc (suc (suc (suc n)))) lt = absurd (omega arith)

to_the_left : (to n : ℕ) → n < 3 → (Has mode_codes (Vertical (negsuc n)) (word_of_mode (Vertical (negsuc n))))
    × (pos to ≡ pos (to + suc n) +ℤ negsuc n)
to_the_left to zero lt = (inr (inr (inr (inr (inr (inr (inl (refl, refl))))))), omega (arith, ints))
to_the_left to (suc zero) lt = (inr (inr (inr (inr (inr (inr (inr (inl (refl, refl)))))))), omega (arith, ints))
to_the_left to (suc (suc zero)) lt = (inr (inr (inr (inr (inr (inr (inr (inr (inl (refl, refl))))))))), omega (arith, ints))
to_the_left to (suc (suc (suc n))) lt = absurd (omega arith)

pub is_vertical : (start to : ℕ) → is_near start to ≡ true → IsVertical start to
is_vertical start to near =
    let parts = and_parts (leb to (start + 3)) (leb start (to + 3)) near in
    let right : to ≤ start + 3 = leb-true to (start + 3) parts.0 in
    let left : start ≤ to + 3 = leb-true start (to + 3) parts.1 in
    by_leb (leb start to) refl right left
  where
    by_leb : (t : Bool) → leb start to ≡ t → to ≤ start + 3 → start ≤ to + 3 → IsVertical start to
    by_leb true is right left =
        let le : start ≤ to = leb-true start to is in
        let n : ℕ = to - start in
        let sides = to_the_right start n (omega arith) in
        let sum : start + n ≡ to = omega arith in
        record { k = pos n; mode = rw is refl; word = sides.0; names = ap (λ (m : ℕ). pos m) (sym sum) ∙ sides.1 }
    by_leb false is right left = elim (cases_lt to start) [
      | inl lt ↦
          let n : ℕ = start - to - 1 in
          let sides = to_the_left to n (omega arith) in
          let sum : to + suc n ≡ start = omega arith in
          record { k = negsuc n; mode = rw is refl; word = sides.0; names = sides.1 ∙ ap (λ (m : ℕ). pos m +ℤ negsuc n) sum }
      | inr ge ↦ absurd (false≢true (sym is ∙ le-leb start to ge))
    ]

module _ (reference row : Row) (same : length reference ≡ length row) where
  -- how far the row's end is
  ahead : Place → ℕ
  ahead at = suc (length row) - at.from

  -- what a mode's choice yields at a position in the row
  pub data Chooses (at : Place) : Mode → Type 0 where
    pass : b2 reference at.from at.color < a1 row at.from → at.from < b2 reference at.from at.color → Chooses at Pass
    vertical : (k : ℤ) → Has mode_codes (Vertical k) (word_of_mode (Vertical k))
        → pos (a1 row at.from) ≡ pos (b1 reference at.from at.color) +ℤ k → Chooses at (Vertical k)
    horizontal : Chooses at Horizontal

  pub chooses : (at : Place) → at.from ≤ length row → Chooses at (chosen_mode reference row at)
  chooses at inside = by_is_near (ltb (b2 reference at.from at.color) (a1 row at.from)) refl
      (is_near (b1 reference at.from at.color) (a1 row at.from)) refl
    where
      by_is_near : (left : Bool) → ltb (b2 reference at.from at.color) (a1 row at.from) ≡ left
          → (near : Bool) → is_near (b1 reference at.from at.color) (a1 row at.from) ≡ near
          → Chooses at (cond left Pass (cond near (vertical_mode (b1 reference at.from at.color) (a1 row at.from)) Horizontal))
      by_is_near true is near near-is =
          let lt : b2 reference at.from at.color < a1 row at.from =
          ltb-true (b2 reference at.from at.color) (a1 row at.from) is in
          let within = (a1_next row at.from).within in
          let sides = b2_above reference at.from at.color (omega arith) in
          Chooses.pass lt (omega (arith, sides.0, sides.1))
      by_is_near false is true near-is =
          let v = is_vertical (b1 reference at.from at.color) (a1 row at.from) near-is in
          subst (λ (m : Mode). Chooses at m) (sym v.mode) (Chooses.vertical v.k v.word v.names)
      by_is_near false is false near-is = Chooses.horizontal

  -- a mode makes progress to the right
  pub goes_right : (at : Place) (mode : Mode) → at.from ≤ length row → Chooses at mode
      → (at.from < (place_after reference row at mode).from) × ((place_after reference row at mode).from ≤ suc (length row))
  goes_right at mode inside (Chooses.pass left right) = let within = (a1_next row at.from).within in (omega arith, omega arith)
  goes_right at mode inside (Chooses.vertical k word names) =
      let next = a1_next row at.from in
      let above = next.above inside in
      let within = next.within in
      (omega arith, omega arith)
  goes_right at mode inside Chooses.horizontal =
      let above = (a1_next row at.from).above inside in
      let within = (a2_next row at.from).within in
      let least = a2_least row at.from in
      (omega arith, omega arith)

  shrinks : Shrinks (next_place reference row) ahead
  unfolding ahead
  shrinks s t e = by_ltb (is_coded row s) refl e
    where
      by_ltb : (coded : Bool) → ltb (length row) s.from ≡ coded → ◌≡◌ {A = Turn Place (Unit {0})} (cond coded (Turn.done tt)
          (Turn.next (place_after reference row s (chosen_mode reference row s)))) (Turn.next t) → ahead t < ahead s
      by_ltb true is e = absurd cc
      by_ltb false is e = elim (cases_lt (length row) s.from) [
        | inl past ↦ absurd (false≢true (sym is ∙ lt-ltb (length row) s.from past))
        | inr inside ↦
            let right = goes_right s (chosen_mode reference row s) inside (chooses s inside) in
            let same_place : place_after reference row s (chosen_mode reference row s) ≡ t = cc in
            let from = ap (λ (p : Place). p.from) same_place in
            omega (arith, right.0, right.1, from)
      ]

  -- at the row's end nothing is left to code
  pub chosen_over : (at : Place) → length row < at.from → chosen_from reference row at ≡ []
  unfolding ahead
  chosen_over at past = let e : is_coded row at ≡ true = lt-ltb (length row) at.from past in
      gathered_turn (next_place reference row) (bits_at reference row) ahead shrinks at ∙ rw e refl

  -- before it, the bits of one mode precede those of the modes from the next position on
  pub chosen_more : (at : Place) → at.from ≤ length row → chosen_from reference row at
      ≡ (word_of_mode (chosen_mode reference row at) ++ runs_of_mode row at (chosen_mode reference row at))
      ++ chosen_from reference row (place_after reference row at (chosen_mode reference row at))
  unfolding ahead
  chosen_more at inside = let e : is_coded row at ≡ false = le-ltb (length row) at.from inside in
      gathered_turn (next_place reference row) (bits_at reference row) ahead shrinks at ∙ rw e refl

  one_mode : (at : Place) (mode : Mode) → at.from ≤ length row → Chooses at mode
      → EncodesLine2D reference row (place_after reference row at mode).from (place_after reference row at mode).color
      (chosen_from reference row (place_after reference row at mode)) → EncodesLine2D reference row at.from at.color
      ((word_of_mode mode ++ runs_of_mode row at mode) ++ chosen_from reference row (place_after reference row at mode))
  one_mode at mode inside (Chooses.pass left right) on =
      EncodesLine2D.pass at.from (word_of_mode Pass) inside (inl (refl, refl)) left on
  one_mode at mode inside (Chooses.vertical k word names) on =
      subst (λ (b : Bits). EncodesLine2D reference row at.from at.color
      (b ++ chosen_from reference row (place_after reference row at (Vertical k)))) (sym (append-nil (word_of_mode (Vertical k))))
      (EncodesLine2D.vertical at.from (word_of_mode (Vertical k)) k inside word names on)
  one_mode at mode inside Chooses.horizontal on =
      let first : Bits = chosen_run at.color (a1 row at.from - (at.from - 1)) in
      let second : Bits = chosen_run (opposite at.color) (a2 row at.from - a1 row at.from) in
      let rest : Bits = chosen_from reference row (place_after reference row at Horizontal) in
      let word : Bits = word_of_mode Horizontal in
      let is : word ++ (first ++ (second ++ rest)) ≡ (word ++ (first ++ second)) ++ rest
      = ap (λ (b : Bits). word ++ b) (sym (append_assoc first second rest)) ∙ sym (append_assoc word (first ++ second) rest) in
      subst (λ (b : Bits). EncodesLine2D reference row at.from at.color b) is (EncodesLine2D.horizontal at.from word inside
      (inr (inl (refl, refl))) (run_spelled at.color (a1 row at.from - (at.from - 1)))
      (run_spelled (opposite at.color) (a2 row at.from - a1 row at.from)) on)

  encodes_over : (at : Place) → at.from ≡ suc (length row)
      → EncodesLine2D reference row at.from at.color (chosen_from reference row at)
  encodes_over at e = subst (λ (b : Bits). EncodesLine2D reference row at.from at.color b) (sym (chosen_over at (omega arith)))
      (subst (λ (n : ℕ). EncodesLine2D reference row n at.color []) (sym e) EncodesLine2D.over)

  pub encodes_from : (turns : ℕ) (at : Place) → at.from ≤ suc (length row) → suc (length row) ≤ at.from + turns
      → EncodesLine2D reference row at.from at.color (chosen_from reference row at)
  encodes_from zero at le enough = encodes_over at (omega arith)
  encodes_from (suc turns) at le enough = elim (cases_lt (length row) at.from) [
    | inl past ↦ encodes_over at (omega arith)
    | inr inside ↦
        let mode : Mode = chosen_mode reference row at in
        let chosen = chooses at inside in
        let right = goes_right at mode inside chosen in
        let on = encodes_from turns (place_after reference row at mode) (omega arith) (omega arith) in
        subst (λ (b : Bits). EncodesLine2D reference row at.from at.color b) (sym (chosen_more at inside))
        (one_mode at mode inside chosen on)
  ]

-- what is chosen for a two-dimensional line encodes it
pub line_2d_encodes : (reference row : Row) → length reference ≡ length row
    → EncodesLine2D reference row 0 White (chosen_line_2d reference row)
line_2d_encodes reference row same =
    encodes_from reference row same (suc (length row)) (record { from = 0; color = White }) (omega arith) (omega arith)

-- ---- Pictures.
pub lines_2d_encode : (columns : ℕ) (aligned : Bool) (reference : Row) (rows : List Row) → length reference ≡ columns
    → All (λ row. length row ≡ columns) rows → EncodesRows Group4 aligned reference rows (chosen_lines_2d aligned reference rows)
lines_2d_encode columns aligned reference [] same widths = refl
lines_2d_encode columns aligned reference (row ∷ rows) same widths =
    let width : length row ≡ columns = All-head (λ row. length row ≡ columns) row rows widths in (
      chosen_line_2d reference row,
      chosen_lines_2d aligned row rows,
      line_2d_encodes reference row (same ∙ sym width),
      lines_2d_encode columns aligned row rows width (All-tail (λ row. length row ≡ columns) row rows widths),
      refl,
    )

pub lines_1d_encode : (columns : ℕ) (reference : Row) (rows : List Row) → 0 < columns → All (λ row. length row ≡ columns) rows
    → EncodesRowsWithEols Group3_1D reference rows (chosen_lines_1d rows)
lines_1d_encode columns reference [] wide widths = refl
lines_1d_encode columns reference (row ∷ rows) wide widths =
    let width : length row ≡ columns = All-head (λ row. length row ≡ columns) row rows widths in (
      0,
      chosen_line_1d row,
      chosen_lines_1d rows,
      line_1d_encodes row (omega arith),
      lines_1d_encode columns row rows wide (All-tail (λ row. length row ≡ columns) row rows widths),
      append_assoc (eol 0) (chosen_line_1d row) (chosen_lines_1d rows),
    )

pub closes : ClosesWithEols Group3_1D 6 return_to_control
closes = (0, _, (0, _, (0, _, (0, _, (0, _, (0, [], refl, refl), refl), refl), refl), refl), refl)
