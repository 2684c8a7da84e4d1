use Rattle.fax_coding.proofs.Names.{◌≡◌, ◌+◌, ◌-◌, ◌<◌, ◌≤◌, ◌++◌, ℕ, suc, Bool, true, false, cond, [], length, get_or, refl, sym}
use Rattle.fax_coding.proofs.Names.{ap, subst, ◌∙◌, arith, Color, Horizontal, Bits, Row, pixels, opposite, a1, a2, b1, b2}
use Rattle.fax_coding.proofs.Names.{length-pixels, Place, chosen_run, word_of_mode, vertical_mode, append-nil, IsNear}
use Rattle.fax_coding.proofs.Names.{color_after, place_of, a1_next, a2_least, all_bits, bits_at, chosen_mode, is_near}
use Rattle.fax_coding.proofs.Names.{place_after}
use Rattle.fax_words.proofs.RunsWritten.{left_of_end}
use Rattle.fax_coding.proofs.Elements.{a1_found, a2_found, next_is_right, left_of_next, still_left}
use Rattle.fax_coding.proofs.ModesWritten.{pass_bits, vertical_bits, horizontal_bits, pass_place, vertical_place}
use Rattle.fax_coding.proofs.ModesWritten.{horizontal_place, first_run, near_same, step_right}
use Rattle.fax_coding.proofs.StepsToB1.{color_next, color_second, near_next, near_pass, near_right}
use Rattle.fax_coding.proofs.group4.put_mode.Goals.{After-change_or_end-a1}
use Rattle.fax_coding.proofs.group4.put_mode.Goals as goal

inside : (c : After-change_or_end-a1) → c.args.at.from ≤ length (pixels c.args.columns c.args.changes.now)
inside c = omega (arith, c.requires.coded.inside, length-pixels c.args.columns c.args.changes.now c.requires.coded.changes)

-- a1 as it was found
a1_is : (c : After-change_or_end-a1) → c.change_or_end-a1.result ≡ a1 (pixels c.args.columns c.args.changes.now) c.args.at.from
a1_is c = c.change_or_end-a1.ensures
    ∙ sym (a1_found c.args.columns c.args.changes.now c.requires.coded.changes c.args.at.from c.args.at.next
    c.requires.coded.next)

a2_is : (c : After-change_or_end-a1)
    → a2 (pixels c.args.columns c.args.changes.now) c.args.at.from ≡ get_or c.args.changes.now (c.args.at.next + 1) c.args.columns
a2_is c = a2_found c.args.columns c.args.changes.now c.requires.coded.changes c.args.at.from c.args.at.next c.requires.coded.next

-- it is right of a0
a1_right : (c : After-change_or_end-a1) → c.args.at.from ≤ c.change_or_end-a1.result
a1_right c = omega (arith, a1_is c, (a1_next (pixels c.args.columns c.args.changes.now) c.args.at.from).above (inside c))

-- ---- the mode and the place after it
module _ (c : After-change_or_end-a1) where
  abbrev above_row : Row
  above_row = pixels c.args.columns c.args.reference.now

  abbrev row : Row
  row = pixels c.args.columns c.args.changes.now

  -- a1 is not right of b2
  abbrev IsBefore : Type 0
  IsBefore = a1 row c.args.at.from ≤ b2 above_row c.args.at.from (color_after c.args.at.next)

  near_here : (t : Bool) → is_near c.args.above.b1 c.change_or_end-a1.result ≡ t
      → is_near (b1 above_row c.args.at.from (color_after c.args.at.next)) (a1 row c.args.at.from) ≡ t
  near_here t near = near_same _ _ _ _ t (sym c.requires.above.b1) (a1_is c) near

  vertical_written : IsBefore → is_near c.args.above.b1 c.change_or_end-a1.result ≡ true
      → word_of_mode (vertical_mode c.args.above.b1 c.change_or_end-a1.result) ≡ bits_at above_row row (place_of c.args.at)
  vertical_written right near = ap (λ (n : ℕ). word_of_mode (vertical_mode n c.change_or_end-a1.result)) (sym c.requires.above.b1)
      ∙ ap (λ (n : ℕ). word_of_mode (vertical_mode (b1 above_row c.args.at.from (color_after c.args.at.next)) n)) (a1_is c)
      ∙ sym (vertical_bits above_row row (place_of c.args.at) (inside c) right (near_here true near))

  vertical_after : {from : ℕ} → from ≡ c.change_or_end-a1.result → IsBefore
      → is_near c.args.above.b1 c.change_or_end-a1.result ≡ true
      → record { from = from + 1; color = color_after (c.args.at.next + 1) }
      ≡ place_after above_row row (place_of c.args.at) (chosen_mode above_row row (place_of c.args.at))
  vertical_after {from} is right near =
      let to : ℕ → Place = λ n. record { from = n; color = color_after (c.args.at.next + 1) } in
      let turned : Color → Place = λ k. record { from = suc (a1 row c.args.at.from); color = k } in
      let next : from + 1 ≡ suc (a1 row c.args.at.from) = omega (arith, is, a1_is c) in
      ap to next ∙ ap turned (color_next c.args.at.next)
      ∙ sym (vertical_place above_row row (place_of c.args.at) (inside c) right (near_here true near))

pub returns-in-Some-clause-written : goal.returns-in-Some-clause-written
returns-in-Some-clause-written c =
    let d = (goal.at.returns-in-Some-clause-written c).After-change_or_end-a1 in
    let left : b2 (above_row d) c.args.at.from (color_after c.args.at.next) < a1 (row d) c.args.at.from =
    omega (arith, c.in-Some.ensures.0, c.in-Some.ensures.1, c.requires.above.b2, a1_is d) in
    c.in_ok-put_code_word.ensures ∙ ap (λ (b : Bits). all_bits c.args.writer.now ++ b)
    (c.pass_word.ensures.spells ∙ sym (pass_bits (above_row d) (row d) (place_of c.args.at) (inside d) left))

pub returns-in-Some-clause-place : goal.returns-in-Some-clause-place
returns-in-Some-clause-place c =
    let d = (goal.at.returns-in-Some-clause-place c).After-change_or_end-a1 in
    let left : b2 (above_row d) c.args.at.from (color_after c.args.at.next) < a1 (row d) c.args.at.from =
    omega (arith, c.in-Some.ensures.0, c.in-Some.ensures.1, c.requires.above.b2, a1_is d) in
    let to : ℕ → Place = λ n. record { from = n; color = (color_after c.args.at.next) } in
    let from : c.from-in-Some.result + 1 ≡ suc (b2 (above_row d) c.args.at.from (color_after c.args.at.next)) =
    omega (arith, c.from-in-Some.ensures, c.in-Some.ensures.0, c.requires.above.b2) in
    ap to from ∙ sym (pass_place (above_row d) (row d) (place_of c.args.at) (inside d) left)

pub returns-in-Some-clause-near : goal.returns-in-Some-clause-near
returns-in-Some-clause-near c = subst (λ (n : ℕ). IsNear c.args.columns c.args.reference.now
    (record { from = n + 1; color = (color_after c.args.at.next) }) (c.args.above.index + 2))
    (sym c.from-in-Some.ensures) (near_pass c.args.columns c.args.reference.now c.requires.coded.reference
    (place_of c.args.at) c.args.above.index c.requires.coded.near c.in-Some.b2 c.in-Some.ensures.0)

pub returns-in-Some-clause-next : goal.returns-in-Some-clause-next
returns-in-Some-clause-next c = λ le.
    let right = step_right c.args.columns c.args.reference.now c.args.changes.now c.requires.coded.reference
    c.requires.coded.changes
    (place_of c.args.at) _ c.requires.coded.inside (returns-in-Some-clause-place c) in
    still_left c.args.columns c.args.changes.now c.args.at.from (c.from-in-Some.result + 1) c.args.at.next
    (omega (arith, right.0)) c.requires.coded.next
    (omega (arith, c.from-in-Some.ensures, c.in-Some.ensures.1, c.change_or_end-a1.ensures))

-- ---- after V0
-- b2 is not left of a1
below_right : (c : After-change_or_end-a1) → c.change_or_end-a1.result ≡ c.args.above.b1 → IsBefore c
below_right c same =
    let index : ℕ = c.args.above.index in
    omega (
      arith,
      same,
      a1_is c,
      c.requires.above.first,
      c.requires.above.b2,
      next_is_right 0 c.args.columns c.args.reference.now index (index + 1) refl c.requires.coded.reference,
    )

pub returns-then-a1-above-clause-written : goal.returns-then-a1-above-clause-written
returns-then-a1-above-clause-written c =
    let d = (goal.at.returns-then-a1-above-clause-written c).After-change_or_end-a1 in
    c.in_ok-put_below.ensures.written ∙ ap (λ (b : Bits). all_bits c.args.writer.now ++ b)
    (vertical_written d (below_right d c.if-a1-above.true) c.put_below.ensures.near)

pub returns-then-a1-above-clause-place : goal.returns-then-a1-above-clause-place
returns-then-a1-above-clause-place c =
    let d = (goal.at.returns-then-a1-above-clause-place c).After-change_or_end-a1 in
    vertical_after d c.from.ensures (below_right d c.if-a1-above.true) c.put_below.ensures.near

pub returns-then-a1-above-clause-near : goal.returns-then-a1-above-clause-near
returns-then-a1-above-clause-near c =
    let after : ℕ → Color → Type 0 =
    λ n k. IsNear c.args.columns c.args.reference.now (record { from = n; color = k }) (c.args.above.index + 1) in
    let from : c.change_or_end-a1.result + 1 ≡ c.from.result + 1 = omega (arith, c.from.ensures) in
    let next = near_next c.args.columns c.args.reference.now c.requires.coded.reference
    (place_of c.args.at) c.args.above.index c.requires.coded.near c.change_or_end-a1.result
    (omega (arith, c.if-a1-above.true, c.requires.above.first)) in
    subst (λ (n : ℕ). after n (color_after (c.args.at.next + 1))) from
    (subst (λ (k : Color). after (c.change_or_end-a1.result + 1) k) (sym (color_next c.args.at.next)) next)

pub returns-then-a1-above-clause-next : goal.returns-then-a1-above-clause-next
returns-then-a1-above-clause-next c = λ le.
    left_of_next 0 c.args.columns c.args.changes.now c.args.at.next (c.args.at.next + 1) c.from.result refl
    c.requires.coded.changes
    (c.from.ensures ∙ c.change_or_end-a1.ensures) (omega arith)

-- ---- after a vertical mode
pub above_after_vertical-requires-clause-right : goal.above_after_vertical-requires-clause-right
above_after_vertical-requires-clause-right c =
    a1_right (goal.at.above_after_vertical-requires-clause-right c).After-change_or_end-a1

pub returns-then-is_vertical-clause-written : goal.returns-then-is_vertical-clause-written
returns-then-is_vertical-clause-written c =
    let d = (goal.at.returns-then-is_vertical-clause-written c).After-change_or_end-a1 in
    let word : Bits = word_of_mode (vertical_mode c.args.above.b1 c.change_or_end-a1.result) in
    c.in_ok-is_vertical.ensures.written ∙ ap (λ (t : Bool). all_bits c.args.writer.now ++ cond t word []) c.if-is_vertical.true
    ∙ ap (λ (b : Bits). all_bits c.args.writer.now ++ b) (vertical_written d
    (omega (arith, c.in_default.ensures, a1_is d, c.requires.above.b2))
    (sym c.in_ok-is_vertical.ensures.near ∙ c.if-is_vertical.true))

pub returns-then-is_vertical-clause-place : goal.returns-then-is_vertical-clause-place
returns-then-is_vertical-clause-place c =
    let d = (goal.at.returns-then-is_vertical-clause-place c).After-change_or_end-a1 in
    vertical_after d c.from-then-is_vertical.ensures (omega (arith, c.in_default.ensures, a1_is d, c.requires.above.b2))
    (sym c.in_ok-is_vertical.ensures.near ∙ c.if-is_vertical.true)

pub returns-then-is_vertical-clause-next : goal.returns-then-is_vertical-clause-next
returns-then-is_vertical-clause-next c = λ le.
    left_of_next 0 c.args.columns c.args.changes.now c.args.at.next (c.args.at.next + 1) c.from-then-is_vertical.result refl
    c.requires.coded.changes (c.from-then-is_vertical.ensures ∙ c.change_or_end-a1.ensures) (omega arith)

pub overflow_sub-a1 : goal.overflow_sub-a1
overflow_sub-a1 c =
    let d = (goal.at.overflow_sub-a1 c).After-change_or_end-a1 in
    omega (
      arith,
      c.saturating_sub.ensures,
      a1_is d,
      first_run (pixels c.args.columns c.args.changes.now) c.args.at.from (inside d),
    )

pub overflow_sub-a2 : goal.overflow_sub-a2
overflow_sub-a2 c =
    let d = (goal.at.overflow_sub-a2 c).After-change_or_end-a1 in
    omega (
      arith,
      a1_is d,
      a2_is d,
      c.change_or_end-a2.ensures,
      a2_least (pixels c.args.columns c.args.changes.now) c.args.at.from,
    )

pub returns-then-is_vertical-clause-near : goal.returns-then-is_vertical-clause-near
returns-then-is_vertical-clause-near c =
    let turned = subst (λ (k : Color). IsNear c.args.columns c.args.reference.now
    (record { from = c.change_or_end-a1.result + 1; color = k }) c.above_after_vertical.result)
    (sym (color_next c.args.at.next)) c.above_after_vertical.ensures.near in
    subst (λ (n : ℕ). IsNear c.args.columns c.args.reference.now
    (record { from = n + 1; color = color_after (c.args.at.next + 1) }) c.above_after_vertical.result)
    (sym c.from-then-is_vertical.ensures) turned

-- ---- after horizontal mode
pub returns-clause-written : goal.returns-clause-written
returns-clause-written c =
    let d = (goal.at.returns-clause-written c).After-change_or_end-a1 in
    let right : IsBefore d = omega (arith, c.in_default.ensures, a1_is d, c.requires.above.b2) in
    let near = near_here d false (sym c.in_ok-is_vertical.ensures.near ∙ c.if-is_vertical.false) in
    let a = a1_is d in
    let first : c.change_or_end-a1.result - c.saturating_sub.result ≡ a1 (row d) c.args.at.from - (c.args.at.from - 1) =
    omega (arith, c.saturating_sub.ensures, a) in
    let second : c.change_or_end-a2.result - c.change_or_end-a1.result ≡ a2 (row d) c.args.at.from - a1 (row d) c.args.at.from =
    omega (arith, a, a2_is d, c.change_or_end-a2.ensures) in
    let runs : ℕ → ℕ → Bits = λ m n. all_bits c.args.writer.now ++ (word_of_mode Horizontal
    ++ (chosen_run (color_after c.args.at.next) m ++ chosen_run (opposite (color_after c.args.at.next)) n)) in
    let nothing : all_bits c.put_vertical.new.writer ≡ all_bits c.args.writer.now = c.in_ok-is_vertical.ensures.written
    ∙ ap (λ (t : Bool). all_bits c.args.writer.now ++ cond t (word_of_mode (vertical_mode c.args.above.b1
    c.change_or_end-a1.result)) []) c.if-is_vertical.false ∙ append-nil (all_bits c.args.writer.now) in
    c.in_ok-put_horizontal.ensures ∙ ap (λ (k : Color). all_bits c.put_vertical.new.writer
    ++ (word_of_mode Horizontal ++ (chosen_run k (c.change_or_end-a1.result - c.saturating_sub.result) ++ chosen_run
    (opposite k) (c.change_or_end-a2.result - c.change_or_end-a1.result)))) c.color_after.ensures ∙ ap (λ (b : Bits). b
    ++ (word_of_mode Horizontal ++ (chosen_run (color_after c.args.at.next) (c.change_or_end-a1.result - c.saturating_sub.result)
    ++ chosen_run (opposite (color_after c.args.at.next)) (c.change_or_end-a2.result - c.change_or_end-a1.result)))) nothing
    ∙ ap (λ (n : ℕ). runs n (c.change_or_end-a2.result - c.change_or_end-a1.result)) first
    ∙ ap (runs (a1 (row d) c.args.at.from - (c.args.at.from - 1))) second ∙ ap (λ (b : Bits). all_bits c.args.writer.now ++ b)
    (sym (horizontal_bits (above_row d) (row d) (place_of c.args.at) (inside d) right near))

pub returns-clause-place : goal.returns-clause-place
returns-clause-place c =
    let d = (goal.at.returns-clause-place c).After-change_or_end-a1 in
    let right : IsBefore d = omega (arith, c.in_default.ensures, a1_is d, c.requires.above.b2) in
    let near = near_here d false (sym c.in_ok-is_vertical.ensures.near ∙ c.if-is_vertical.false) in
    let to : ℕ → Place = λ n. record { from = n; color = (color_after c.args.at.next) } in
    let from : c.from-2.result + 1 ≡ suc (a2 (row d) c.args.at.from) =
    omega (arith, c.from-2.ensures, c.change_or_end-a2.ensures, a2_is d) in
    let kept : Color → Place = λ k. record { from = c.from-2.result + 1; color = k } in
    ap kept (color_second c.args.at.next) ∙ ap to from
    ∙ sym (horizontal_place (above_row d) (row d) (place_of c.args.at) (inside d) right near)

pub returns-clause-near : goal.returns-clause-near
returns-clause-near c =
    let d = (goal.at.returns-clause-near c).After-change_or_end-a1 in
    let le : c.args.at.from ≤ c.from-2.result + 1 = omega (
      arith,
      a1_right d,
      c.from-2.ensures,
      c.change_or_end-a2.ensures,
      a1_is d,
      a2_is d,
      a2_least (pixels c.args.columns c.args.changes.now) c.args.at.from,
    ) in
    subst (λ (k : Color).
    IsNear c.args.columns c.args.reference.now (record { from = c.from-2.result + 1; color = k }) c.args.above.index)
    (sym (color_second c.args.at.next)) (near_right c.args.columns c.args.reference.now c.requires.coded.reference
    (place_of c.args.at) c.args.above.index c.requires.coded.near (c.from-2.result + 1) le)

pub returns-clause-next : goal.returns-clause-next
returns-clause-next c = λ le.
    let two : c.args.at.next + 2 ≡ c.args.at.next + 1 + 1 = omega arith in
    left_of_next 0 c.args.columns c.args.changes.now (c.args.at.next + 1)
    (c.args.at.next + 2) c.from-2.result two c.requires.coded.changes (c.from-2.ensures ∙ c.change_or_end-a2.ensures) (omega
    arith)

-- ---- the row's end
pub returns-then-a1-above-clause-inside : goal.returns-then-a1-above-clause-inside
returns-then-a1-above-clause-inside c = λ lt. omega (
  arith,
  c.from.ensures,
  c.change_or_end-a1.ensures,
  left_of_end 0 c.args.columns c.args.changes.now c.args.at.next c.requires.coded.changes (omega (arith, lt)),
)

pub returns-in-Some-clause-inside : goal.returns-in-Some-clause-inside
returns-in-Some-clause-inside c = λ lt. omega (
  arith,
  c.from-in-Some.ensures,
  c.in-Some.ensures.1,
  c.change_or_end-a1.ensures,
  left_of_end 0 c.args.columns c.args.changes.now c.args.at.next c.requires.coded.changes (omega (arith, lt)),
)

pub returns-then-is_vertical-clause-inside : goal.returns-then-is_vertical-clause-inside
returns-then-is_vertical-clause-inside c = λ lt. omega (
  arith,
  c.from-then-is_vertical.ensures,
  c.change_or_end-a1.ensures,
  left_of_end 0 c.args.columns c.args.changes.now c.args.at.next c.requires.coded.changes (omega (arith, lt)),
)

pub returns-clause-inside : goal.returns-clause-inside
returns-clause-inside c = λ lt. omega (
  arith,
  c.from-2.ensures,
  c.change_or_end-a2.ensures,
  left_of_end 0 c.args.columns c.args.changes.now (c.args.at.next + 1) c.requires.coded.changes (omega (arith, lt)),
)
