use Rattle.fax_encode.proofs.Names.{◌≡◌, ◌+◌, ◌-◌, ◌<◌, ◌≤◌, ◌++◌, ℕ, suc, Bool, true, false, length, get_or, refl, sym}
use Rattle.fax_encode.proofs.Names.{ap, subst, ◌∙◌, arith, Color, Horizontal, Bits, Row, pixels, opposite, a1, a2, b1, b2}
use Rattle.fax_encode.proofs.Names.{length-pixels, Place, chosen_run, word_of_mode, vertical_mode, append-nil, IsNear, low_bits}
use Rattle.fax_encode.proofs.Names.{color_after, place_of, a1_next, a2_least, bits_at, chosen_mode, is_near, place_after}
use Rattle.fax_encode.proofs.Elements.{a1_found, a2_found, left_of_next, still_left}
use Rattle.fax_encode.proofs.ModesWritten.{pass_bits, vertical_bits, horizontal_bits, pass_place, vertical_place}
use Rattle.fax_encode.proofs.ModesWritten.{horizontal_place, near_same, step_right}
use Rattle.fax_encode.proofs.RunLengths.{word_length}
use Rattle.fax_encode.proofs.StepsToB1.{color_next, color_second, near_pass, near_right}
use Rattle.fax_encode.proofs.ComparedBits.{vertical_has_bits}
use Rattle.fax_encode.proofs.procedure.mode_at.Goals.{After-change_or_end-a1}
use Rattle.fax_encode.proofs.procedure.mode_at.Goals as goal

module _ (c : After-change_or_end-a1) where
  abbrev above_row : Row
  above_row = pixels c.args.columns c.args.rows.reference.now

  abbrev row : Row
  row = pixels c.args.columns c.args.rows.changes.now

  inside : c.args.at.from ≤ length row
  inside = omega (arith, c.requires.coded.inside, length-pixels c.args.columns c.args.rows.changes.now c.requires.coded.changes)

  -- a1 as it was found
  a1_is : c.change_or_end-a1.result ≡ a1 row c.args.at.from
  a1_is = c.change_or_end-a1.ensures
      ∙ sym (a1_found c.args.columns c.args.rows.changes.now c.requires.coded.changes c.args.at.from c.args.at.next
      c.requires.coded.next)

  a2_is : a2 row c.args.at.from ≡ get_or c.args.rows.changes.now (c.args.at.next + 1) c.args.columns
  a2_is = a2_found c.args.columns c.args.rows.changes.now c.requires.coded.changes c.args.at.from c.args.at.next
      c.requires.coded.next

  -- it is right of a0
  a1_right : c.args.at.from ≤ c.change_or_end-a1.result
  a1_right = omega (arith, a1_is, (a1_next row c.args.at.from).above inside)

  -- a1 is not right of b2
  abbrev IsBefore : Type 0
  IsBefore = a1 row c.args.at.from ≤ b2 above_row c.args.at.from (color_after c.args.at.next)

  near_here : (t : Bool) → is_near c.args.above.b1 c.change_or_end-a1.result ≡ t
      → is_near (b1 above_row c.args.at.from (color_after c.args.at.next)) (a1 row c.args.at.from) ≡ t
  near_here t near = near_same _ _ _ _ t (sym c.requires.above.b1) a1_is near

  vertical_written : IsBefore → is_near c.args.above.b1 c.change_or_end-a1.result ≡ true
      → word_of_mode (vertical_mode c.args.above.b1 c.change_or_end-a1.result) ≡ bits_at above_row row (place_of c.args.at)
  vertical_written right near = ap (λ (n : ℕ). word_of_mode (vertical_mode n c.change_or_end-a1.result)) (sym c.requires.above.b1)
      ∙ ap (λ (n : ℕ). word_of_mode (vertical_mode (b1 above_row c.args.at.from (color_after c.args.at.next)) n)) a1_is
      ∙ sym (vertical_bits above_row row (place_of c.args.at) inside right (near_here true near))

  vertical_after : {from : ℕ} → from ≡ c.change_or_end-a1.result → IsBefore
      → is_near c.args.above.b1 c.change_or_end-a1.result ≡ true
      → record { from = from + 1; color = color_after (c.args.at.next + 1) }
      ≡ place_after above_row row (place_of c.args.at) (chosen_mode above_row row (place_of c.args.at))
  vertical_after {from} is right near =
      let to : ℕ → Place = λ n. record { from = n; color = color_after (c.args.at.next + 1) } in
      let turned : Color → Place = λ k. record { from = suc (a1 row c.args.at.from); color = k } in
      let next : from + 1 ≡ suc (a1 row c.args.at.from) = omega (arith, is, a1_is) in
      ap to next ∙ ap turned (color_next c.args.at.next)
      ∙ sym (vertical_place above_row row (place_of c.args.at) inside right (near_here true near))

-- ---- pass mode
pub returns-in-Some-clause-bits : goal.returns-in-Some-clause-bits
returns-in-Some-clause-bits c =
    let d = (goal.at.returns-in-Some-clause-bits c).After-change_or_end-a1 in
    let left : b2 (above_row d) c.args.at.from (color_after c.args.at.next) < a1 (row d) c.args.at.from =
    omega (arith, c.in-Some.ensures.0, c.in-Some.ensures.1, c.requires.above.b2, a1_is d) in
    pass_bits (above_row d) (row d) (place_of c.args.at) (inside d) left
    ∙ sym (append-nil (low_bits c.pass_word.result.count c.pass_word.result.bits) ∙ c.pass_word.ensures.spells)

pub returns-in-Some-clause-after : goal.returns-in-Some-clause-after
returns-in-Some-clause-after c =
    let d = (goal.at.returns-in-Some-clause-after c).After-change_or_end-a1 in
    let left : b2 (above_row d) c.args.at.from (color_after c.args.at.next) < a1 (row d) c.args.at.from =
    omega (arith, c.in-Some.ensures.0, c.in-Some.ensures.1, c.requires.above.b2, a1_is d) in
    let to : ℕ → Place = λ n. record { from = n; color = (color_after c.args.at.next) } in
    let from : c.from.result + 1 ≡ suc (b2 (above_row d) c.args.at.from (color_after c.args.at.next)) =
    omega (arith, c.from.ensures, c.in-Some.ensures.0, c.requires.above.b2) in
    let place = ap to from ∙ sym (pass_place (above_row d) (row d) (place_of c.args.at) (inside d) left) in
    record {
      place = place;
      near = subst (λ (n : ℕ). IsNear c.args.columns c.args.rows.reference.now
          (record { from = n + 1; color = (color_after c.args.at.next) }) (c.args.above.index + 2))
          (sym c.from.ensures) (near_pass c.args.columns c.args.rows.reference.now c.requires.coded.reference
          (place_of c.args.at) c.args.above.index c.requires.coded.near c.in-Some.b2 c.in-Some.ensures.0);
      back = omega arith;
      next = λ le.
          let right = step_right c.args.columns c.args.rows.reference.now c.args.rows.changes.now c.requires.coded.reference
          c.requires.coded.changes (place_of c.args.at) _ c.requires.coded.inside place in
          still_left c.args.columns c.args.rows.changes.now c.args.at.from (c.from.result + 1) c.args.at.next
          (omega (arith, right.0)) c.requires.coded.next
          (omega (arith, c.from.ensures, c.in-Some.ensures.1, c.change_or_end-a1.ensures));
    }

-- ---- a vertical mode
pub above_after_vertical-requires-clause-right : goal.above_after_vertical-requires-clause-right
above_after_vertical-requires-clause-right c =
    a1_right (goal.at.above_after_vertical-requires-clause-right c).After-change_or_end-a1

pub returns-in-Some-vertical_word-clause-bits : goal.returns-in-Some-vertical_word-clause-bits
returns-in-Some-vertical_word-clause-bits c =
    let d = (goal.at.returns-in-Some-vertical_word-clause-bits c).After-change_or_end-a1 in
    sym (vertical_written d (omega (arith, c.in_default.ensures, a1_is d, c.requires.above.b2)) c.in-Some-vertical_word.ensures.0)
    ∙ sym (append-nil (low_bits c.in-Some-vertical_word.word.count c.in-Some-vertical_word.word.bits)
    ∙ c.in-Some-vertical_word.ensures.1.spells)

pub returns-in-Some-vertical_word-clause-some : goal.returns-in-Some-vertical_word-clause-some
returns-in-Some-vertical_word-clause-some c = omega (
  arith,
  word_length _ c.in-Some-vertical_word.word c.in-Some-vertical_word.ensures.1,
  vertical_has_bits c.args.above.b1 c.change_or_end-a1.result c.in-Some-vertical_word.ensures.0,
)

pub returns-in-Some-vertical_word-clause-after : goal.returns-in-Some-vertical_word-clause-after
returns-in-Some-vertical_word-clause-after c =
    let d = (goal.at.returns-in-Some-vertical_word-clause-after c).After-change_or_end-a1 in
    let turned = subst (λ (k : Color). IsNear c.args.columns c.args.rows.reference.now
    (record { from = c.change_or_end-a1.result + 1; color = k }) c.above_after_vertical.result)
    (sym (color_next c.args.at.next)) c.above_after_vertical.ensures.near in
    record {
      place = vertical_after d c.from-in-Some-vertical_word.ensures
          (omega (arith, c.in_default.ensures, a1_is d, c.requires.above.b2)) c.in-Some-vertical_word.ensures.0;
      near = subst (λ (n : ℕ). IsNear c.args.columns c.args.rows.reference.now
          (record { from = n + 1; color = color_after (c.args.at.next + 1) }) c.above_after_vertical.result)
          (sym c.from-in-Some-vertical_word.ensures) turned;
      back = c.above_after_vertical.ensures.onward;
      next = λ le. left_of_next 0 c.args.columns c.args.rows.changes.now c.args.at.next (c.args.at.next + 1)
          c.from-in-Some-vertical_word.result refl c.requires.coded.changes
          (c.from-in-Some-vertical_word.ensures ∙ c.change_or_end-a1.ensures) (omega arith);
    }

-- ---- horizontal mode
pub overflow_sub-runs-2 : goal.overflow_sub-runs-2
overflow_sub-runs-2 c =
    let d = (goal.at.overflow_sub-runs-2 c).After-change_or_end-a1 in
    omega (
      arith,
      a1_is d,
      a2_is d,
      c.change_or_end-a2.ensures,
      a2_least (row d) c.args.at.from,
    )

pub returns-clause-bits : goal.returns-clause-bits
returns-clause-bits c =
    let d = (goal.at.returns-clause-bits c).After-change_or_end-a1 in
    let right : IsBefore d = omega (arith, c.in_default.ensures, a1_is d, c.requires.above.b2) in
    let near = near_here d false c.in_default-vertical_word.ensures in
    let first : a1 (row d) c.args.at.from - (c.args.at.from - 1) ≡ c.change_or_end-a1.result - c.saturating_sub.result =
    omega (arith, c.saturating_sub.ensures, a1_is d) in
    let second : a2 (row d) c.args.at.from - a1 (row d) c.args.at.from ≡ c.change_or_end-a2.result - c.change_or_end-a1.result =
    omega (arith, a1_is d, a2_is d, c.change_or_end-a2.ensures) in
    let runs : ℕ → ℕ → Bits = λ m n. word_of_mode Horizontal
    ++ (chosen_run (color_after c.args.at.next) m ++ chosen_run (opposite (color_after c.args.at.next)) n) in
    let both : Bits = chosen_run (color_after c.args.at.next) (c.change_or_end-a1.result - c.saturating_sub.result)
    ++ chosen_run (opposite (color_after c.args.at.next)) (c.change_or_end-a2.result - c.change_or_end-a1.result) in
    horizontal_bits (above_row d) (row d) (place_of c.args.at) (inside d) right near
    ∙ ap (λ (n : ℕ). runs n (a2 (row d) c.args.at.from - a1 (row d) c.args.at.from)) first
    ∙ ap (runs (c.change_or_end-a1.result - c.saturating_sub.result)) second
    ∙ ap (λ (b : Bits). b ++ both) (sym c.horizontal_word.ensures.spells)

pub returns-clause-after : goal.returns-clause-after
returns-clause-after c =
    let d = (goal.at.returns-clause-after c).After-change_or_end-a1 in
    let right : IsBefore d = omega (arith, c.in_default.ensures, a1_is d, c.requires.above.b2) in
    let near = near_here d false c.in_default-vertical_word.ensures in
    let to : ℕ → Place = λ n. record { from = n; color = (color_after c.args.at.next) } in
    let from : c.from-2.result + 1 ≡ suc (a2 (row d) c.args.at.from) =
    omega (arith, c.from-2.ensures, c.change_or_end-a2.ensures, a2_is d) in
    let kept : Color → Place = λ k. record { from = c.from-2.result + 1; color = k } in
    let le : c.args.at.from ≤ c.from-2.result + 1 = omega (
      arith,
      a1_right d,
      c.from-2.ensures,
      c.change_or_end-a2.ensures,
      a1_is d,
      a2_is d,
      a2_least (row d) c.args.at.from,
    ) in
    record {
      place = ap kept (color_second c.args.at.next) ∙ ap to from
          ∙ sym (horizontal_place (above_row d) (row d) (place_of c.args.at) (inside d) right near);
      near = subst (λ (k : Color).
          IsNear c.args.columns c.args.rows.reference.now (record { from = c.from-2.result + 1; color = k }) c.args.above.index)
          (sym (color_second c.args.at.next)) (near_right c.args.columns c.args.rows.reference.now c.requires.coded.reference
          (place_of c.args.at) c.args.above.index c.requires.coded.near (c.from-2.result + 1) le);
      back = omega arith;
      next = λ le.
          let two : c.args.at.next + 2 ≡ c.args.at.next + 1 + 1 = omega arith in
          left_of_next 0 c.args.columns c.args.rows.changes.now (c.args.at.next + 1) (c.args.at.next + 2) c.from-2.result two
          c.requires.coded.changes (c.from-2.ensures ∙ c.change_or_end-a2.ensures) (omega arith);
    }
