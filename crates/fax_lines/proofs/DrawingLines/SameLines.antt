-- A line of V0 alone draws the changes of the reference row once more.
use Rattle.fax_lines.proofs.Names.{common_steps, ◌≡◌, ℕ, suc, ◌+◌, ◌-◌, ◌*◌, ◌<◌, ◌≤◌, ◌++◌, ◌∷◌, [], Bool, true, List}
use Rattle.fax_lines.proofs.Names.{length, get_or, drop, Ok, pos, refl, sym, ap, subst, ◌∙◌, arith, append-nil, append_assoc}
use Rattle.fax_lines.proofs.Names.{drop-drop, length-append, Bits, BitsAt, here, moved, Color, White, mode_codes, read_code}
use Rattle.fax_lines.proofs.Names.{Vertical, replicate, ◌%◌, AreChanges, AscendFrom, pixels, opposite, TurnsFrom}
use Rattle.fax_lines.proofs.Names.{GoesOn2d, IsStroke, pen_at}
use Rattle.fax_lines.proofs.DrawingLines.RegularModes.{one_color}
use Rattle.fax_lines.proofs.DrawingLines.UsualModes.{twice_2d, vertical_on, v0_stroke, full_stroke, named_right, b1_onward}
use Rattle.fax_lines.proofs.DrawingLines.UsualModes.{start_stroke}
use Rattle.fax_lines.proofs.DrawingLines.UsualStrokes.{pixels-pending}
use Rattle.fax_bits.specs.Bits.{low_bits}
use Rattle.std.specs.Prelude.{◌^◌}
use Rattle.std.proofs.lemmas.Nat.{shl_whole}
use Rattle.fax_bits.proofs.BitReading.WordRanges.{ones_below}

-- the change after those before it
at_seam : (row rest : List ℕ) (end : ℕ) → get_or (row ++ rest) (length row) end ≡ get_or rest 0 end
at_seam [] rest end = refl
at_seam (p ∷ row) rest end = at_seam row rest end

-- it is in the row
seam_inside : (from columns : ℕ) (row : List ℕ) (p : ℕ) (rest : List ℕ) → AscendFrom from columns (row ++ p ∷ rest) → p < columns
seam_inside from columns [] p rest ascend = ascend.1
seam_inside from columns (q ∷ row) p rest ascend = seam_inside (suc q) columns row p rest ascend.2

-- V0 is next, and the bits after it
module _ (at : BitsAt) (bits : Bits) (is : here at ≡ true ∷ bits) where
  following_one : here (moved 1 at) ≡ bits
  following_one = sym (drop-drop 1 at.place at.bits) ∙ ap (drop 1) is

  v0_here : read_code mode_codes (here at) ≡ Ok (Vertical (pos 0), here (moved 1 at))
  v0_here = ap (read_code mode_codes) is ∙ ap (λ (b : Bits). Ok (Vertical (pos 0), b)) (sym following_one)

module _ {strict : Bool} {columns : ℕ} (places : List ℕ) (last : Color) (ascend : AreChanges columns places)
    (fits : columns ≤ 4294967295) (turns : TurnsFrom (length places) last) (after : Bits) where
  -- from the changes of some of them on
  same_from : (rest row : List ℕ) (painted : ℕ) (color : Color) (at : BitsAt) (ticks : ℕ) → row ++ rest ≡ places
      → painted < columns → IsStroke columns places painted (length row) color row
      → here at ≡ replicate (suc (length rest)) true ++ after
      → GoesOn2d strict columns (pixels columns places) (pen_at painted row color at)
      (pen_at columns places (opposite last) (moved (length rest + 1) at)) ticks (ticks + 2 * (length rest + 1)) (length row - 1)
      (length places - 1) × IsStroke columns places columns (length places) (opposite last) places
  same_from [] row painted color at ticks all inside stroke is =
      let whole : row ≡ places = sym (append-nil row) ∙ all in
      let count : length row ≡ length places = ap length whole in
      let end : get_or places (length row) columns ≡ columns =
      ap (λ (l : List ℕ). get_or l (length row) columns) (sym all) ∙ at_seam row [] columns in
      let color_is : color ≡ last = one_color (length places) color last
      (subst (λ (n : ℕ). TurnsFrom n color) count (stroke.colored inside)) turns in
      let goes = vertical_on ascend inside stroke {strict = strict} at (length places) 1 {ticks = ticks} {now = ticks + 2} fits
      (v0_here at after is) (named_right (get_or places (length row) columns) columns 0 (omega (arith, end)))
      (omega (arith, inside)) (omega arith) (omega arith) (omega (arith, count)) in
      let full = full_stroke ascend inside stroke {new_color = opposite last} in (
        subst (λ (l : List ℕ). GoesOn2d strict columns (pixels columns places) (pen_at painted row color at)
            (pen_at columns l (opposite last) (moved 1 at)) ticks (ticks + 2) (length row - 1) (length places - 1)) whole
            (subst (λ (c : Color). GoesOn2d strict columns (pixels columns places) (pen_at painted row color at)
            (pen_at columns row (opposite c) (moved 1 at)) ticks (ticks + 2) (length row - 1) (length places - 1)) color_is goes),
        subst (λ (l : List ℕ). IsStroke columns places columns (length l) (opposite last) l) whole full,
      )
  same_from (p ∷ rest) row painted color at ticks all inside stroke is =
      let place_is : get_or places (length row) columns ≡ p =
      ap (λ (l : List ℕ). get_or l (length row) columns) (sym all) ∙ at_seam row (p ∷ rest) columns in
      let below : p < columns = seam_inside 0 columns row p rest (subst (AreChanges columns) (sym all) ascend) in
      let next : List ℕ = row ++ p ∷ [] in
      let long : length next ≡ length row + 1 = length-append row (p ∷ []) in
      let bits : Bits = replicate (suc (length rest)) true ++ after in
      let here_next : here (moved 1 at) ≡ bits = following_one at bits is in
      let first = vertical_on ascend inside stroke {strict = strict} at (length row + 1) 1 {ticks = ticks} {now = ticks + 2}
      (omega (arith, below, fits)) (v0_here at bits is)
      (named_right (get_or places (length row) columns) p 0 (omega (arith, place_is)))
      (omega (arith, place_is, b1_onward ascend inside stroke)) (omega (arith, below)) (omega arith) (omega arith) in
      let there = v0_stroke ascend inside stroke {new = next} {new_color = opposite color} (omega (arith, place_is, below))
      (ap (λ (q : ℕ). row ++ q ∷ []) (sym place_is)) refl in
      let stroke_next : IsStroke columns places p (length next) (opposite color) next = rw long (rw place_is at there) in
      let on = same_from rest next p (opposite color) (moved 1 at) (ticks + 2) (append_assoc row (p ∷ []) rest ∙ all) below
      stroke_next here_next in
      let place : at.place + 1 + (length rest + 1) ≡ at.place + (suc (length rest) + 1) = omega arith in
      let count : ticks + 2 + 2 * (length rest + 1) ≡ ticks + 2 * (suc (length rest) + 1) = omega arith in
      (twice_2d first (rw (pixels-pending p row, place, count, long) at on.0), on.1)

-- a row with a change has a pixel
pub some_columns : (columns : ℕ) (places : List ℕ) → AreChanges columns places → 0 < length places → 0 < columns
some_columns columns [] ascend some = absurd (omega (arith, some))
some_columns columns (p ∷ places) ascend some = omega (arith, ascend.1)

-- a line of V0 alone, given by its bits
pub same_line : (strict : Bool) (columns : ℕ) (places : List ℕ) (last : Color) (at : BitsAt) (count ones ticks : ℕ)
    → AreChanges columns places → columns ≤ 4294967295 → count ≡ length places → 0 < count → count ≤ 31 → TurnsFrom count last
    → ones ≡ 1 * 2 ^ (count + 1) % 2 ^ 64 - 1 → here at ≡ low_bits (count + 1) ones ++ here (moved (count + 1) at)
    → GoesOn2d strict columns (pixels columns places) (pen_at 0 [] White at)
    (pen_at columns places (opposite last) (moved (count + 1) at)) ticks (ticks + 2 * (count + 1)) 0 (count - 1)
    × IsStroke columns places columns count (opposite last) places
same_line strict columns places last at count ones ticks ascend fits is some few turns number there =
    let whole : ones ≡ 2 ^ (count + 1) - 1 =
    number ∙ ap (λ (n : ℕ). n - 1) (shl_whole 1 1 (count + 1) 64 (omega arith) (omega (arith, few)) ∙ omega arith) in
    let after : Bits = here (moved (count + 1) at) in
    let long : count + 1 ≡ suc (length places) = omega (arith, is) in
    let spelled : here at ≡ replicate (suc (length places)) true ++ after =
    grind (arith, common_steps, ones_below) in
    let open_row : 0 < columns = some_columns columns places ascend (omega (arith, is, some)) in
    let all = same_from {strict = strict} places last ascend fits (rw is at turns) after places [] 0 White at
    ticks refl open_row (start_stroke columns places ascend) spelled in
    rw is all
