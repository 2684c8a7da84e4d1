-- The fewest bits from a position on, along the passes that may be made there.
use Rattle.fax_coding.proofs.Names.{◌≡◌, ℕ, zero, suc, ◌+◌, ◌-◌, ◌*◌, ◌<◌, ◌≤◌, Bool, true, false, leb, ltb, []}
use Rattle.fax_coding.proofs.Names.{◌++◌, length, refl, sym, ap, ◌∙◌, arith, inl, inr, append_assoc, length-append, append-nil}
use Rattle.fax_coding.proofs.Names.{ltb-true, lt-ltb, le-ltb, le-leb, cases_lt, White, Mode, Pass, Horizontal}
use Rattle.fax_coding.proofs.Names.{Bits, Row, opposite, a1, a2, b1, b2, Place, vertical_mode, is_near, place_after}
use Rattle.fax_coding.proofs.Names.{word_of_mode, a1_next, a2_next, a2_least, shorter, shortest_of, shortest_runs_of_mode}
use Rattle.fax_coding.proofs.Names.{other_modes, shortest_run}
use Rattle.fax_coding.specs.Shortest.{shortest_from, shortest_line_2d}
use Rattle.fax_coding.specs.Ways.{shortest_rest, begun_in, without_pass, passed, passed_by, words_of_passes}
use Rattle.fax_coding.specs.Ways.{MayPass}
use Rattle.fax_coding.proofs.ShortestLines.{others, begins_with, from_is, over_is, pass_right, at_most}
use Rattle.fax_coding.proofs.Names.{◌⊎◌}
use Rattle.fax_coding.proofs.ShortestRunsWritten.{run_bounds}
use Rattle.std.proofs.lemmas.Bool.{lt-leb}

-- ---- The shorter of two.
-- it is a matter of numbers
pub kept_first : (first second : Bits) → length first ≤ length second → shorter first second ≡ first
kept_first first second le = let e : leb (length first) (length second) ≡ true = le-leb (length first) (length second) le in
    rw e refl

pub taken_second : (first second : Bits) → length second < length first → shorter first second ≡ second
taken_second first second lt =
    let e : leb (length first) (length second) ≡ false = lt-leb (length first) (length second) lt in rw e refl

shorter_after : (front first second : Bits) → shorter (front ++ first) (front ++ second) ≡ front ++ shorter first second
shorter_after front first second = elim (cases_lt (length second) (length first)) [
  | inl lt ↦
      taken_second (front ++ first) (front ++ second) (omega (arith, lt, length-append front first, length-append front second))
      ∙ ap (λ (b : Bits). front ++ b) (sym (taken_second first second lt))
  | inr le ↦
      kept_first (front ++ first) (front ++ second) (omega (arith, le, length-append front first, length-append front second))
      ∙ ap (λ (b : Bits). front ++ b) (sym (kept_first first second le))
]

shorter_of_three : (one two three : Bits) → shorter (shorter one two) three ≡ shorter one (shorter two three)
shorter_of_three one two three = elim (cases_lt (length two) (length one)) [
  | inl lt ↦ elim (cases_lt (length three) (length two)) [
    | inl less ↦
        ap (λ (b : Bits). shorter b three) (taken_second one two lt) ∙ taken_second two three less
        ∙ sym (ap (shorter one) (taken_second two three less) ∙ taken_second one three (omega (arith, lt, less)))
    | inr more ↦
        ap (λ (b : Bits). shorter b three) (taken_second one two lt) ∙ kept_first two three more
        ∙ sym (ap (shorter one) (kept_first two three more) ∙ taken_second one two lt)
  ]
  | inr le ↦ elim (cases_lt (length three) (length two)) [
    | inl less ↦
        ap (λ (b : Bits). shorter b three) (kept_first one two le) ∙ sym (ap (shorter one) (taken_second two three less))
    | inr more ↦
        ap (λ (b : Bits). shorter b three) (kept_first one two le) ∙ kept_first one three (omega (arith, le, more))
        ∙ sym (ap (shorter one) (kept_first two three more) ∙ kept_first one two le)
  ]
]

-- ---- Passes.
-- the shortest, if a pass is made after this number of passes less one, or the best of the others
pub going_on : Row → Row → Place → ℕ → Bits → Bits
going_on reference row at k best = shorter (words_of_passes k ++ shortest_rest reference row (passed_by reference at k)) best

pub passes_more : (k : ℕ) → words_of_passes (suc k) ≡ words_of_passes k ++ word_of_mode Pass
unfolding words_of_passes
passes_more zero = append-nil (word_of_mode Pass)
passes_more (suc k) =
    ap (λ (b : Bits). word_of_mode Pass ++ b) (passes_more k)
    ∙ sym (append_assoc (word_of_mode Pass) (words_of_passes k) (word_of_mode Pass))

-- ---- Any number of modes that is enough.
same_of : (f g : Mode → Bits) (vertical : Mode) (left near : Bool) → (left ≡ true → f Pass ≡ g Pass)
    → (near ≡ true → f vertical ≡ g vertical) → f Horizontal ≡ g Horizontal
    → shortest_of f (others f vertical left near) ≡ shortest_of g (others g vertical left near)
unfolding others
same_of f g vertical true true pass vert horizontal =
    ap (λ (b : Bits). shorter b (shorter (f vertical) (f Horizontal))) (pass refl)
    ∙ ap (λ (b : Bits). shorter (g Pass) (shorter b (f Horizontal))) (vert refl)
    ∙ ap (λ (b : Bits). shorter (g Pass) (shorter (g vertical) b)) horizontal
same_of f g vertical true false pass vert horizontal =
    ap (λ (b : Bits). shorter b (f Horizontal)) (pass refl) ∙ ap (λ (b : Bits). shorter (g Pass) b) horizontal
same_of f g vertical false true pass vert horizontal =
    ap (λ (b : Bits). shorter b (f Horizontal)) (vert refl) ∙ ap (λ (b : Bits). shorter (g vertical) b) horizontal
same_of f g vertical false false pass vert horizontal = horizontal

pub no_runs_of : (row : Row) (at : Place) (start to : ℕ) → shortest_runs_of_mode row at (vertical_mode start to) ≡ []
no_runs_of row at start to = by_leb (leb start to) refl
  where
    by_leb : (t : Bool) → leb start to ≡ t → shortest_runs_of_mode row at (vertical_mode start to) ≡ []
    by_leb true e = rw e refl
    by_leb false e = rw e refl

-- after vertical mode
pub vertical_place_after : (reference row : Row) (at : Place) (start to : ℕ) → place_after reference row at
    (vertical_mode start to)
    ≡ record { from = suc (a1 row at.from); color = opposite at.color }
vertical_place_after reference row at start to = by_leb (leb start to) refl
  where
    by_leb : (t : Bool) → leb start to ≡ t → place_after reference row at (vertical_mode start to)
        ≡ record { from = suc (a1 row at.from); color = opposite at.color }
    by_leb true e = rw e refl
    by_leb false e = rw e refl

module _ (reference row : Row) (same : length reference ≡ length row) where
  -- a mode and enough modes after it
  enough : (some more : ℕ) (at : Place) → at.from ≤ suc (length row) → suc (length row) ≤ at.from + some
      → suc (length row) ≤ at.from + more → shortest_from some reference row at ≡ shortest_from more reference row at
  unfolding others begins_with
  enough zero more at le one two =
      over_is reference row same zero at (omega arith) ∙ sym (over_is reference row same more at (omega arith))
  enough (suc some) zero at le one two =
      over_is reference row same (suc some) at (omega arith) ∙ sym (over_is reference row same zero at (omega arith))
  enough (suc some) (suc more) at le one two = elim (cases_lt (length row) at.from) [
    | inl past ↦ over_is reference row same (suc some) at past ∙ sym (over_is reference row same (suc more) at past)
    | inr inside ↦
        let to : ℕ = a1 row at.from in
        let right = (a1_next row at.from).above inside in
        let within = (a1_next row at.from).within in
        let further = a2_least row at.from in
        let farthest = (a2_next row at.from).within in
        let mine : Mode → Bits = begins_with reference row same some at in
        let other : Mode → Bits = begins_with reference row same more at in
        let after : (mode : Mode) → at.from < (place_after reference row at mode).from
        → (place_after reference row at mode).from ≤ suc (length row) → mine mode ≡ other mode = λ mode ahead within.
        ap (λ (b : Bits). (word_of_mode mode ++ shortest_runs_of_mode row at mode) ++ b)
        (enough some more (place_after reference row at mode) within (omega (arith, ahead)) (omega (arith, ahead))) in
        let vertical : Mode = vertical_mode (b1 reference at.from at.color) to in
        let turned : (place_after reference row at vertical).from ≡ suc to
        = ap (λ (p : Place). p.from) (vertical_place_after reference row at (b1 reference at.from at.color) to) in
        from_is reference row same some at inside
        ∙ same_of mine other vertical (ltb (b2 reference at.from at.color) to) (is_near (b1 reference at.from at.color) to)
        (λ e. let left : b2 reference at.from at.color < to = ltb-true (b2 reference at.from at.color) to e in
        let ahead = pass_right reference row same at.from at.color left in after Pass (omega (arith, ahead)) (omega
        (arith, left, within)))
        (λ e. after vertical (omega (arith, turned, right)) (omega (arith, turned, within)))
        (after Horizontal (omega (arith, right, further)) (omega (arith, farthest)))
        ∙ sym (from_is reference row same more at inside)
  ]

  bounded : (modes : ℕ) (at : Place) → at.from ≤ suc (length row) → suc (length row) ≤ at.from + modes
      → length (shortest_from modes reference row at) ≤ 64 * (length row + 2 - at.from)
  unfolding begins_with shortest_from
  bounded zero at le enough = omega arith
  bounded (suc modes) at le enough = elim (cases_lt (length row) at.from) [
    | inl past ↦ omega (arith, ap length (over_is reference row same (suc modes) at past))
    | inr inside ↦
        let most = (at_most reference row same modes at inside).0 in
        let to : ℕ = a1 row at.from in
        let second : ℕ = a2 row at.from in
        let right = (a1_next row at.from).above inside in
        let further = a2_least row at.from in
        let after = (a2_next row at.from).within in
        let apart : (second ≡ length row) ⊎ (to < second) = elim (cases_lt to (length row)) [
          | inl lt ↦ inr ((a2_next row at.from).above (omega (arith, lt)))
          | inr ge ↦ inl (omega (arith, ge, further, after))
        ] in
        let run1 : Bits = shortest_run at.color (to - (at.from - 1)) in
        let run2 : Bits = shortest_run (opposite at.color) (second - to) in
        let rest : Bits = shortest_from modes reference row (place_after reference row at Horizontal) in
        let on = bounded modes (place_after reference row at Horizontal) (omega (arith, after)) (omega (arith, right, further)) in
        let three : length (word_of_mode Horizontal) ≡ 3 = refl in
        omega (
          arith,
          most,
          on,
          right,
          further,
          after,
          apart,
          three,
          length-append (word_of_mode Horizontal ++ (run1 ++ run2)) rest,
          length-append (word_of_mode Horizontal) (run1 ++ run2),
          length-append run1 run2,
          (run_bounds at.color (to - (at.from - 1)) (to - (at.from - 1)) (omega arith)).1,
          (run_bounds (opposite at.color) (second - to) (second - to) (omega arith)).1,
        )
  ]

  -- the rest has no more bits than 64 times the pixels and two more
  pub rest_bounded : (at : Place) → at.from ≤ suc (length row)
      → length (shortest_rest reference row at) ≤ 64 * (length row + 2 - at.from)
  unfolding shortest_rest
  rest_bounded at le = bounded (suc (length row) - at.from) at le (omega (arith, le))

  -- the line is the rest at its start
  pub rest_at_start : shortest_rest reference row (record { from = 0; color = White }) ≡ shortest_line_2d reference row
  unfolding shortest_rest shortest_line_2d
  rest_at_start = enough (suc (length row) - 0) (suc (length row)) (record { from = 0; color = White }) (omega arith)
      (omega arith) (omega arith)

  -- nothing is left at the line's end
  pub rest_over : (at : Place) → length row < at.from → shortest_rest reference row at ≡ []
  unfolding shortest_rest
  rest_over at past = over_is reference row same (suc (length row) - at.from) at past

  -- ---- One mode.
  rest_is : (at : Place) → at.from ≤ length row
      → shortest_rest reference row at ≡ shortest_of (begun_in reference row at) (other_modes reference row at)
  unfolding shortest_rest begun_in others begins_with
  rest_is at inside =
      let to : ℕ = a1 row at.from in
      let right = (a1_next row at.from).above inside in
      let within = (a1_next row at.from).within in
      let further = a2_least row at.from in
      let farthest = (a2_next row at.from).within in
      let modes : ℕ = length row - at.from in
      let mine : Mode → Bits = begins_with reference row same modes at in
      let after : (mode : Mode) → at.from < (place_after reference row at mode).from
      → (place_after reference row at mode).from ≤ suc (length row)
      → mine mode ≡ begun_in reference row at mode = λ mode ahead within.
      ap (λ (b : Bits). (word_of_mode mode ++ shortest_runs_of_mode row at mode) ++ b)
      (enough modes (suc (length row) - (place_after reference row at mode).from) (place_after reference row at mode) within
      (omega (arith, ahead)) (omega (arith, within))) in
      let vertical : Mode = vertical_mode (b1 reference at.from at.color) to in
      let turned : (place_after reference row at vertical).from ≡ suc to
      = ap (λ (p : Place). p.from) (vertical_place_after reference row at (b1 reference at.from at.color) to) in
      let one : suc (length row) - at.from ≡ suc modes = omega (arith, inside) in
      ap (λ (n : ℕ). shortest_from n reference row at) one
      ∙ from_is reference row same modes at inside
      ∙ same_of mine (begun_in reference row at) vertical (ltb (b2 reference at.from at.color) to) (is_near
      (b1 reference at.from at.color) to)
      (λ e. let left : b2 reference at.from at.color < to = ltb-true (b2 reference at.from at.color) to e in
      let ahead = pass_right reference row same at.from at.color left in after Pass (omega (arith, ahead)) (omega
      (arith, left, within)))
      (λ e. after vertical (omega (arith, turned, right)) (omega (arith, turned, within)))
      (after Horizontal (omega (arith, right, further)) (omega (arith, farthest)))

  -- no pass may be made
  pub rest_ends : (at : Place) → at.from ≤ length row → a1 row at.from ≤ b2 reference at.from at.color
      → shortest_rest reference row at ≡ without_pass reference row at
  unfolding without_pass
  rest_ends at inside le =
      let e : ltb (b2 reference at.from at.color) (a1 row at.from) ≡ false = le-ltb (b2 reference at.from at.color)
      (a1 row at.from) le in
      rest_is at inside ∙ rw e refl

  -- a pass may be made
  pub rest_passes : (at : Place) → at.from ≤ length row → MayPass reference row at
      → shortest_rest reference row at
      ≡ shorter (word_of_mode Pass ++ shortest_rest reference row (passed reference at)) (without_pass reference row at)
  unfolding without_pass begun_in
  rest_passes at inside lt =
      let e : ltb (b2 reference at.from at.color) (a1 row at.from) ≡ true = lt-ltb (b2 reference at.from at.color)
      (a1 row at.from) lt in
      let none = ap (λ (b : Bits). shorter (b ++ shortest_rest reference row (passed reference at))
      (without_pass reference row at))
      (append-nil (word_of_mode Pass)) in
      rest_is at inside ∙ (rw e refl ∙ none)

  -- ---- The passes from a position.
  module _ (at : Place) where
    pub first_goes_on : at.from ≤ length row → MayPass reference row at
        → shortest_rest reference row at ≡ going_on reference row at 1 (without_pass reference row at)
    unfolding words_of_passes passed_by going_on
    first_goes_on inside lt = rest_passes at inside lt

    -- what is best so far, after one more pass
    pub goes_on : (k : ℕ) (best : Bits) → (passed_by reference at k).from ≤ length row
        → MayPass reference row (passed_by reference at k)
        → shortest_rest reference row at ≡ going_on reference row at k best
        → shortest_rest reference row at ≡ going_on reference row at (suc k) (shorter (words_of_passes k
        ++ without_pass reference row (passed_by reference at k)) best)
    unfolding going_on passed_by
    goes_on k best inside lt is =
        let now : Place = passed_by reference at k in
        let next : Bits = shortest_rest reference row (passed reference now) in
        let word : Bits = word_of_mode Pass in
        let ends : Bits = without_pass reference row now in
        let front : Bits = words_of_passes k in
        is ∙ ap (λ (b : Bits). shorter (front ++ b) best) (rest_passes now inside lt)
        ∙ ap (λ (b : Bits). shorter b best) (sym (shorter_after front (word ++ next) ends))
        ∙ shorter_of_three (front ++ (word ++ next)) (front ++ ends) best
        ∙ ap (λ (b : Bits). shorter b (shorter (front ++ ends) best))
        (sym (append_assoc front word next) ∙ ap (λ (b : Bits). b ++ next) (sym (passes_more k)))

    pub goes_no_further : (k : ℕ) (best : Bits) → (passed_by reference at k).from ≤ length row
        → a1 row (passed_by reference at k).from ≤ b2 reference (passed_by reference at k).from (passed_by reference at k).color
        → shortest_rest reference row at ≡ going_on reference row at k best
        → shortest_rest reference row at ≡ shorter (words_of_passes k ++ without_pass reference row
        (passed_by reference at k)) best
    unfolding going_on
    goes_no_further k best inside le is =
        is ∙ ap (λ (b : Bits). shorter (words_of_passes k ++ b) best) (rest_ends (passed_by reference at k) inside le)

    -- more passes take more bits than the best of the others
    pub stays : (k : ℕ) (best : Bits)
        → length best < length (words_of_passes k) + length (shortest_rest reference row (passed_by reference at k))
        → going_on reference row at k best ≡ best
    unfolding going_on
    stays k best lt =
        let rest : Bits = shortest_rest reference row (passed_by reference at k) in
        taken_second (words_of_passes k ++ rest) best (omega (arith, lt, length-append (words_of_passes k) rest))
