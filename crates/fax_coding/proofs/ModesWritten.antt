-- The bits of one mode, by what an encoder finds.
use Rattle.fax_coding.proofs.Names.{◌≡◌, ℕ, suc, ◌+◌, ◌-◌, ◌%◌, ◌<◌, ◌≤◌, Bool, true, false, cond, ltb, leb, List, [], ◌++◌}
use Rattle.fax_coding.proofs.Names.{length, replicate, refl, sym, ap, ◌∙◌, arith, append_assoc, lt-ltb, le-ltb}
use Rattle.fax_coding.proofs.Names.{false≢true, append-nil, length-append, length-replicate, Mode, Pass, Horizontal, Bits, Row}
use Rattle.fax_coding.proofs.Names.{AreChanges, pixels, opposite, a1, a2, b1, b2, padding, length-pixels, a1_next}
use Rattle.fax_coding.proofs.Names.{Place, word_of_mode, vertical_mode, is_near, is_coded, chosen_mode, runs_of_mode, place_after}
use Rattle.fax_coding.proofs.Names.{bits_at, chosen_run, chosen_from}
use Rattle.fax_coding.proofs.ChosenLines.{goes_right, chooses, chosen_more, chosen_over}
use Rattle.fax_coding.proofs.Names.{AreAllLeft, IsNear, chosen_line_2d, place_of}
use Rattle.fax_words.proofs.RunsWritten.{one_part}
use Rattle.fax_coding.specs.declared.group4.Coding.{Coding}

module _ (reference row : Row) (at : Place) (inside : at.from ≤ length row) where
  open_bits : (mode : Mode) → chosen_mode reference row at ≡ mode
      → bits_at reference row at ≡ word_of_mode mode ++ runs_of_mode row at mode
  open_bits mode e =
      let going : is_coded row at ≡ false = le-ltb (length row) at.from inside in
      ap (λ (coded : Bool). cond coded [] (word_of_mode (chosen_mode reference row at)
      ++ runs_of_mode row at (chosen_mode reference row at))) going ∙ ap (λ (m : Mode). word_of_mode m ++ runs_of_mode row at m) e

  pub pass_bits : b2 reference at.from at.color < a1 row at.from → bits_at reference row at ≡ word_of_mode Pass
  pass_bits lt =
      let left : ltb (b2 reference at.from at.color) (a1 row at.from) ≡ true =
      lt-ltb (b2 reference at.from at.color) (a1 row at.from) lt in
      open_bits Pass (rw left refl) ∙ append-nil (word_of_mode Pass)

  no_runs : (start to : ℕ) → runs_of_mode row at (vertical_mode start to) ≡ []
  no_runs start to = by_leb (leb start to) refl
    where
      by_leb : (t : Bool) → leb start to ≡ t → runs_of_mode row at (vertical_mode start to) ≡ []
      by_leb true e = rw e refl
      by_leb false e = rw e refl

  module _ (right : a1 row at.from ≤ b2 reference at.from at.color) where
    not_left : ltb (b2 reference at.from at.color) (a1 row at.from) ≡ false
    not_left = le-ltb (b2 reference at.from at.color) (a1 row at.from) right

    pub vertical_bits : is_near (b1 reference at.from at.color) (a1 row at.from) ≡ true
        → bits_at reference row at ≡ word_of_mode (vertical_mode (b1 reference at.from at.color) (a1 row at.from))
    vertical_bits near =
        let mode : Mode = vertical_mode (b1 reference at.from at.color) (a1 row at.from) in
        open_bits mode (rw (not_left, near) refl) ∙ ap (λ (b : Bits). word_of_mode mode ++ b)
        (no_runs (b1 reference at.from at.color) (a1 row at.from)) ∙ append-nil (word_of_mode mode)

    pub horizontal_bits : is_near (b1 reference at.from at.color) (a1 row at.from) ≡ false
        → bits_at reference row at ≡ word_of_mode Horizontal ++
        (chosen_run at.color (a1 row at.from - (at.from - 1)) ++ chosen_run (opposite at.color) (a2 row at.from - a1 row at.from))
    horizontal_bits near = open_bits Horizontal (rw (not_left, near) refl)

  pub pass_place : b2 reference at.from at.color < a1 row at.from
      → place_after reference row at (chosen_mode reference row at) ≡ record at { from = suc (b2 reference at.from at.color) }
  pass_place lt =
      let left : ltb (b2 reference at.from at.color) (a1 row at.from) ≡ true =
      lt-ltb (b2 reference at.from at.color) (a1 row at.from) lt in
      rw left refl

  turned_place : (start to : ℕ)
      → place_after reference row at (vertical_mode start to) ≡ record { from = suc (a1 row at.from); color = opposite at.color }
  turned_place start to = by_leb (leb start to) refl
    where
      by_leb : (t : Bool) → leb start to ≡ t → place_after reference row at (vertical_mode start to)
          ≡ record { from = suc (a1 row at.from); color = opposite at.color }
      by_leb true e = rw e refl
      by_leb false e = rw e refl

  pub vertical_place : a1 row at.from ≤ b2 reference at.from at.color
      → is_near (b1 reference at.from at.color) (a1 row at.from) ≡ true → place_after reference row at
      (chosen_mode reference row at) ≡ record { from = suc (a1 row at.from); color = opposite at.color }
  vertical_place right near = rw (not_left right, near) (turned_place (b1 reference at.from at.color) (a1 row at.from))

  pub horizontal_place : a1 row at.from ≤ b2 reference at.from at.color → is_near (b1 reference at.from at.color) (a1 row at.from)
      ≡ false → place_after reference row at (chosen_mode reference row at) ≡ record at { from = suc (a2 row at.from) }
  horizontal_place right near = rw (not_left right, near) refl

-- the runs of horizontal mode are not negative
pub first_run : (row : Row) (from : ℕ) → from ≤ length row → from - 1 ≤ a1 row from
first_run row from inside = omega (arith, (a1_next row from).above inside)

-- near by other names of the same positions
pub near_same : (b x a y : ℕ) (t : Bool) → b ≡ x → a ≡ y → is_near b a ≡ t → is_near x y ≡ t
near_same b x a y t e f near = cc

-- ---- From mode to mode.
module _ (columns : ℕ) (reference changes : List ℕ) (lawful : AreChanges columns reference)
    (are : AreChanges columns changes) where
  pub one_width : length (pixels columns reference) ≡ length (pixels columns changes)
  one_width = length-pixels columns reference lawful ∙ sym (length-pixels columns changes are)

  module _ (at after : Place) (inside : at.from ≤ columns) (moves : after ≡ place_after (pixels columns reference)
      (pixels columns changes) at (chosen_mode (pixels columns reference) (pixels columns changes) at)) where
    in_row : at.from ≤ length (pixels columns changes)
    in_row = omega (arith, inside, length-pixels columns changes are)

    pub step_right : (at.from < after.from) × (after.from ≤ columns + 1)
    step_right =
        let right = goes_right (pixels columns reference)
        (pixels columns changes) one_width at (chosen_mode (pixels columns reference) (pixels columns changes) at) in_row
        (chooses (pixels columns reference) (pixels columns changes) one_width at in_row) in
        let to = ap (λ (p : Place). p.from) moves in
        (omega (arith, right.0, to), omega (arith, right.1, to, length-pixels columns changes are))

    pub step_bits : chosen_from (pixels columns reference) (pixels columns changes) at ≡ bits_at (pixels columns reference)
        (pixels columns changes) at ++ chosen_from (pixels columns reference) (pixels columns changes) after
    step_bits =
        chosen_more (pixels columns reference) (pixels columns changes) one_width at in_row ∙ ap (λ (b : Bits). b ++ chosen_from
        (pixels columns reference) (pixels columns changes) (place_after (pixels columns reference) (pixels columns changes) at
        (chosen_mode (pixels columns reference) (pixels columns changes) at))) (sym (open_bits (pixels columns reference)
        (pixels columns changes) at in_row (chosen_mode (pixels columns reference) (pixels columns changes) at) refl))
        ∙ ap (λ (p : Place). bits_at (pixels columns reference) (pixels columns changes) at
        ++ chosen_from (pixels columns reference) (pixels columns changes) p) (sym moves)

  pub no_more : (at : Place) (now whole : Bits) → columns < at.from
      → now ++ chosen_from (pixels columns reference) (pixels columns changes) at ≡ whole → now ≡ whole
  no_more at now whole past e =
      sym (append-nil now) ∙ ap (λ (b : Bits). now ++ b) (sym (chosen_over (pixels columns reference)
      (pixels columns changes) one_width at (omega (arith, length-pixels columns changes are)))) ∙ e

-- the modes of a line are written, after these bits, up to there
pub record IsCodedUpTo (columns : ℕ) (reference changes : List ℕ) (before so_far : Bits) (at : Coding) : Type 0 where
  pub within : at.from ≤ columns + 1
  pub near : IsNear columns reference (place_of at) at.above
  pub next : at.from ≤ columns → AreAllLeft changes at.from at.next
  pub inside : at.next < length changes → at.from ≤ columns
  pub written : so_far ++ chosen_from (pixels columns reference) (pixels columns changes) (place_of at)
      ≡ before ++ chosen_line_2d (pixels columns reference) (pixels columns changes)

-- so they are up to the next place
pub coded_on : {columns : ℕ} {reference changes : List ℕ} {before old new : Bits} {at after : Coding}
    → AreChanges columns reference → AreChanges columns changes → IsCodedUpTo columns reference changes before old at
    → at.from ≤ columns → new ≡ old ++ bits_at (pixels columns reference) (pixels columns changes) (place_of at)
    → place_of after ≡ place_after (pixels columns reference) (pixels columns changes) (place_of at)
    (chosen_mode (pixels columns reference) (pixels columns changes) (place_of at))
    → IsNear columns reference (place_of after) after.above → (after.from ≤ columns → AreAllLeft changes after.from after.next)
    → (after.next < length changes → after.from ≤ columns) → IsCodedUpTo columns reference changes before new after
coded_on {columns} {reference} {changes} {before} {old} {new} {at} {after} lawful are coded inside more moves near next left =
    record {
      within = (step_right columns reference changes lawful are (place_of at) (place_of after) inside moves).1;
      near = near;
      next = next;
      inside = left;
      written = one_part new old _ _ _ _ coded.written
          (step_bits columns reference changes lawful are (place_of at) (place_of after) inside moves) more;
    }

-- zeros up to a whole byte are the same number after whole bytes
same_padding : (aligned : Bool) (before line : Bits) → (aligned ≡ true → length before % 8 ≡ 0)
    → cond aligned (padding (length (before ++ line))) [] ≡ cond aligned (padding (length line)) []
same_padding false before line whole = refl
same_padding true before line whole = ap (λ (n : ℕ). replicate n false) (let e : (8 - length (before ++ line) % 8) % 8
    ≡ (8 - length line % 8) % 8 = omega (arith, length-append before line, whole refl) in e)

-- a line and its padding
pub padded_line : (aligned : Bool) (before drawn after line : Bits) → (aligned ≡ true → length before % 8 ≡ 0)
    → drawn ≡ before ++ line → after ≡ drawn ++ cond aligned (padding (length drawn)) []
    → after ≡ before ++ (line ++ cond aligned (padding (length line)) [])
padded_line aligned before drawn after line whole a b =
    b ∙ ap (λ (x : Bits). x ++ cond aligned (padding (length x)) []) a ∙ ap (λ (p : Bits). (before ++ line) ++ p)
    (same_padding aligned before line whole) ∙ append_assoc before line (cond aligned (padding (length line)) [])

-- ends at a whole byte
pub padded_whole : (aligned : Bool) (drawn after : Bits) → after ≡ drawn ++ cond aligned (padding (length drawn)) []
    → aligned ≡ true → length after % 8 ≡ 0
padded_whole true drawn after a is =
    omega (arith, ap length a, length-append drawn (padding (length drawn)), length-replicate ((8 - length drawn % 8) % 8) false)
padded_whole false drawn after a is = absurd (false≢true is)
