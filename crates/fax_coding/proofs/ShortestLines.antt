-- The shortest line encodes its row, and no encoding of the row has fewer bits.
use Rattle.fax_coding.proofs.Names.{◌≡◌, ℕ, zero, suc, ◌+◌, ◌-◌, ◌<◌, ◌≤◌, Bool, true, false, cond, leb, ltb, ◌&&◌, List, [], ◌∷◌}
use Rattle.fax_coding.proofs.Names.{◌++◌, length, refl, sym, ap, subst, ◌∙◌, arith, inl, inr, append_assoc, ℤ, pos, negsuc, ◌+ℤ◌}
use Rattle.fax_coding.proofs.Names.{ints, leb-true, ltb-true, lt-ltb, le-ltb, le-leb, and_parts, false≢true, cases_lt, append-nil}
use Rattle.fax_coding.proofs.Names.{length-append, Color, White, Mode, Pass, Horizontal, Vertical, Bits, mode_codes, Has, Code}
use Rattle.fax_coding.proofs.Names.{Row, opposite, a1, a2, b1, b2, EncodesLine2D, a1_next, a2_next, a2_least, b2_above, Place}
use Rattle.fax_coding.proofs.Names.{vertical_mode, is_near, place_after, is_coded, word_of_mode}
use Rattle.fax_coding.proofs.Names.{ShortestLines, shortest_run, shortest_runs_of_mode, other_modes, shorter, shortest_of}
use Rattle.fax_coding.proofs.Names.{shortest_from, shortest_line_2d}
use Rattle.fax_coding.proofs.ChosenLines.{is_vertical}
use Rattle.fax_coding.proofs.ShortestRuns.{shortest_runs}
use Rattle.std.proofs.lemmas.Bool.{and_from, lt-leb}
use Rattle.fax_coding.proofs.Names.{runs_of_mode, chosen_from, chosen_run, chosen_mode}
use Rattle.fax_coding.proofs.ChosenLines.{chooses, goes_right, chosen_more, chosen_over, encodes_from}
use Rattle.fax_coding.proofs.ChosenWords.{run_spelled}

-- ---- Words of modes.
-- a vertical mode is of at most three positions
is_short : Mode → Bool
is_short Pass = true
is_short Horizontal = true
is_short (Vertical (pos n)) = ltb n 4
is_short (Vertical (negsuc n)) = ltb n 3

-- a word has no fewer bits than the one that is cited
is_cited : Mode → Bits → Bool
is_cited mode word = is_short mode && leb (length (word_of_mode mode)) (length word)

are_cited : List (Code Mode) → Bool
are_cited [] = true
are_cited (c ∷ list) = is_cited c.value c.word && are_cited list

cited_here : (list : List (Code Mode)) (mode : Mode) (word : Bits) → are_cited list ≡ true → Has list mode word
    → is_cited mode word ≡ true
unfolding are_cited
cited_here [] mode word all has = absurd has
cited_here (c ∷ list) mode word all (inl (value, spelled)) =
    let parts = and_parts (is_cited c.value c.word) (are_cited list) all in
    subst (λ (m : Mode). is_cited m word ≡ true) value (subst (λ (b : Bits). is_cited c.value b ≡ true) spelled parts.0)
cited_here (c ∷ list) mode word all (inr has) =
    let parts = and_parts (is_cited c.value c.word) (are_cited list) all in
    cited_here list mode word parts.1 has

all_cited : are_cited mode_codes ≡ true
unfolding are_cited is_cited is_short
all_cited = refl

mode_bits : (mode : Mode) (word : Bits) → Has mode_codes mode word
    → (is_short mode ≡ true) × (length (word_of_mode mode) ≤ length word)
unfolding is_cited
mode_bits mode word has =
    let parts = and_parts (is_short mode) (leb (length (word_of_mode mode)) (length word))
    (cited_here mode_codes mode word all_cited has) in
    (parts.0, leb-true (length (word_of_mode mode)) (length word) parts.1)

-- a vertical mode from b1 to a1 is the one that is cited
vertical_is : (start to : ℕ) (k : ℤ) → is_short (Vertical k) ≡ true → pos to ≡ pos start +ℤ k
    → (is_near start to ≡ true) × (vertical_mode start to ≡ Vertical k)
unfolding is_short
vertical_is start to (pos n) short names =
    let few : n < 4 = ltb-true n 4 short in
    let sum : to ≡ start + n = omega (arith, ints, names) in
    let right : leb to (start + 3) ≡ true = le-leb to (start + 3) (omega arith) in
    let left : leb start (to + 3) ≡ true = le-leb start (to + 3) (omega arith) in
    let under : leb start to ≡ true = le-leb start to (omega arith) in
    let distance : to - start ≡ n = omega arith in
    (and_from (leb to (start + 3)) (leb start (to + 3)) right left, rw under (ap (λ (m : ℕ). Vertical (pos m)) distance))
vertical_is start to (negsuc n) short names =
    let few : n < 3 = ltb-true n 3 short in
    let sum : to + suc n ≡ start = omega (arith, ints, names) in
    let right : leb to (start + 3) ≡ true = le-leb to (start + 3) (omega arith) in
    let left : leb start (to + 3) ≡ true = le-leb start (to + 3) (omega arith) in
    let under : leb start to ≡ false = lt-leb start to (omega arith) in
    let distance : start - to - 1 ≡ n = omega arith in
    (and_from (leb to (start + 3)) (leb start (to + 3)) right left, rw under (ap (λ (m : ℕ). Vertical (negsuc m)) distance))

-- ---- The shortest of some.
shorter_first : (first second : Bits) → length (shorter first second) ≤ length first
shorter_first first second = by_leb (leb (length first) (length second)) refl
  where
    by_leb : (b : Bool) → leb (length first) (length second) ≡ b → length (cond b first second) ≤ length first
    by_leb true is = omega arith
    by_leb false is = elim (cases_lt (length second) (length first)) [
      | inl lt ↦ omega arith
      | inr le ↦ absurd (false≢true (sym is ∙ le-leb (length first) (length second) le))
    ]

shorter_second : (first second : Bits) → length (shorter first second) ≤ length second
shorter_second first second = by_leb (leb (length first) (length second)) refl
  where
    by_leb : (b : Bool) → leb (length first) (length second) ≡ b → length (cond b first second) ≤ length second
    by_leb true is = leb-true (length first) (length second) is
    by_leb false is = omega arith

shorter_kept : (first second : Bits) → length first ≤ length (shorter first second) → shorter first second ≡ first
shorter_kept first second le =
    let further = shorter_second first second in
    let is : leb (length first) (length second) ≡ true = le-leb (length first) (length second) (omega (arith, le, further)) in
    rw is refl

one_of : (P : Bits → Type 0) (first second : Bits) → P first → P second → P (shorter first second)
one_of P first second left right = by_leb (leb (length first) (length second))
  where
    by_leb : (b : Bool) → P (cond b first second)
    by_leb true = left
    by_leb false = right

module _ (bits_with : Mode → Bits) (vertical : Mode) where
  -- the modes besides horizontal mode, if these are valid
  unfoldable pub others : Bool → Bool → List Mode
  others left near = cond left (Pass ∷ []) [] ++ cond near (vertical ∷ []) []

  no_longer : (left near : Bool) → (length (shortest_of bits_with (others left near)) ≤ length (bits_with Horizontal))
      × (left ≡ true → length (shortest_of bits_with (others left near)) ≤ length (bits_with Pass))
      × (near ≡ true → length (shortest_of bits_with (others left near)) ≤ length (bits_with vertical))
  unfolding others
  no_longer true true =
      let pass : Bits = bits_with Pass in
      let rest : Bits = shorter (bits_with vertical) (bits_with Horizontal) in
      let one = shorter_first pass rest in
      let two = shorter_second pass rest in
      let three = shorter_first (bits_with vertical) (bits_with Horizontal) in
      let four = shorter_second (bits_with vertical) (bits_with Horizontal) in
      (omega (arith, two, four), λ e. one, λ e. omega (arith, two, three))
  no_longer true false = (
    shorter_second (bits_with Pass) (bits_with Horizontal),
    λ e. shorter_first (bits_with Pass) (bits_with Horizontal),
    λ e. absurd (false≢true e),
  )
  no_longer false true = (
    shorter_second (bits_with vertical) (bits_with Horizontal),
    λ e. absurd (false≢true e),
    λ e. shorter_first (bits_with vertical) (bits_with Horizontal),
  )
  no_longer false false = (omega arith, λ e. absurd (false≢true e), λ e. absurd (false≢true e))

  -- what holds for each valid mode holds for the shortest
  holds : (P : Bits → Type 0) (left near : Bool) → (left ≡ true → P (bits_with Pass)) → (near ≡ true → P (bits_with vertical))
      → P (bits_with Horizontal) → P (shortest_of bits_with (others left near))
  unfolding others
  holds P true true pass vert horizontal =
      one_of P (bits_with Pass) (shorter (bits_with vertical) (bits_with Horizontal)) (pass refl)
      (one_of P (bits_with vertical) (bits_with Horizontal) (vert refl) horizontal)
  holds P true false pass vert horizontal = one_of P (bits_with Pass) (bits_with Horizontal) (pass refl) horizontal
  holds P false true pass vert horizontal = one_of P (bits_with vertical) (bits_with Horizontal) (vert refl) horizontal
  holds P false false pass vert horizontal = horizontal

  -- the first valid mode
  first : Bool → Bool → Mode
  first left near = cond left Pass (cond near vertical Horizontal)

  first_longer : (left near : Bool) → length (shortest_of bits_with (others left near)) ≤ length (bits_with (first left near))
  unfolding first
  first_longer true near = (no_longer true near).1 refl
  first_longer false true = (no_longer false true).2 refl
  first_longer false false = (no_longer false false).0

  -- is the mode of the shortest, unless it is longer
  first_kept : (left near : Bool) → length (bits_with (first left near)) ≤ length (shortest_of bits_with (others left near))
      → shortest_of bits_with (others left near) ≡ bits_with (first left near)
  unfolding first others
  first_kept true true le = shorter_kept (bits_with Pass) (shorter (bits_with vertical) (bits_with Horizontal)) le
  first_kept true false le = shorter_kept (bits_with Pass) (bits_with Horizontal) le
  first_kept false true le = shorter_kept (bits_with vertical) (bits_with Horizontal) le
  first_kept false false le = refl

-- ---- Lines.
module _ (reference row : Row) (same : length reference ≡ length row) where
  -- what begins with a mode, within this number of modes after it
  unfoldable pub begins_with : ℕ → Place → Mode → Bits
  begins_with modes at mode = (word_of_mode mode ++ shortest_runs_of_mode row at mode)
      ++ shortest_from modes reference row (place_after reference row at mode)

  pub from_is : (modes : ℕ) (at : Place) → at.from ≤ length row
      → shortest_from (suc modes) reference row at ≡ shortest_of (begins_with modes at) (other_modes reference row at)
  unfolding begins_with shortest_from
  from_is modes at inside = let e : is_coded row at ≡ false = le-ltb (length row) at.from inside in rw e refl

  pub over_is : (modes : ℕ) (at : Place) → length row < at.from → shortest_from modes reference row at ≡ []
  unfolding shortest_from
  over_is zero at past = refl
  over_is (suc modes) at past = let e : is_coded row at ≡ true = lt-ltb (length row) at.from past in rw e refl

  -- pass makes progress to the right
  pub pass_right : (from : ℕ) (color : Color) → b2 reference from color < a1 row from → from < b2 reference from color
  pass_right from color lt =
      let within = (a1_next row from).within in
      let sides = b2_above reference from color (omega arith) in
      omega (arith, sides.0, sides.1)

  -- the shortest is no longer than what begins with any valid mode
  pub at_most : (modes : ℕ) (at : Place) → at.from ≤ length row
      → (length (shortest_from (suc modes) reference row at) ≤ length (begins_with modes at Horizontal))
      × (ltb (b2 reference at.from at.color) (a1 row at.from) ≡ true
      → length (shortest_from (suc modes) reference row at) ≤ length (begins_with modes at Pass))
      × (is_near (b1 reference at.from at.color) (a1 row at.from) ≡ true
      → length (shortest_from (suc modes) reference row at)
      ≤ length (begins_with modes at (vertical_mode (b1 reference at.from at.color) (a1 row at.from))))
  unfolding others
  at_most modes at inside =
      rw (from_is modes at inside)
      (no_longer (begins_with modes at) (vertical_mode (b1 reference at.from at.color) (a1 row at.from))
      (ltb (b2 reference at.from at.color) (a1 row at.from)) (is_near (b1 reference at.from at.color) (a1 row at.from)))

  least : (modes from : ℕ) (color : Color) (bits : Bits) → EncodesLine2D reference row from color bits
      → suc (length row) ≤ from + modes
      → length (shortest_from modes reference row (record { from = from; color = color })) ≤ length bits
  unfolding begins_with shortest_from
  least modes from color bits EncodesLine2D.over enough =
      let none = over_is modes (record { from = from; color = color }) (omega arith) in omega (arith, ap length none)
  least zero from color bits derived enough = omega arith
  least (suc modes) from color bits (EncodesLine2D.pass f word {bits = next} inside has left on) enough =
      let at : Place = record { from = from; color = color } in
      let most = (at_most modes at inside).1 (lt-ltb (b2 reference from color) (a1 row from) left) in
      let right = pass_right from color left in
      let rest = least modes (suc (b2 reference from color)) color next on (omega arith) in
      let few = (mode_bits Pass word has).1 in
      omega (arith, most, rest, few, length-append word next)
  least (suc modes) from color bits (EncodesLine2D.vertical f word k {bits = next} inside has names on) enough =
      let at : Place = record { from = from; color = color } in
      let cited = mode_bits (Vertical k) word has in
      let is = vertical_is (b1 reference from color) (a1 row from) k cited.0 names in
      let right = (a1_next row from).above inside in
      let rest = least modes (suc (a1 row from)) (opposite color) next on (omega arith) in
      let most : length (shortest_from (suc modes) reference row at) ≤ length (begins_with modes at (Vertical k))
      = subst (λ (m : Mode). length (shortest_from (suc modes) reference row at) ≤ length (begins_with modes at m)) is.1
      ((at_most modes at inside).2 is.0) in
      let after : Bits = shortest_from modes reference row (place_after reference row at (Vertical k)) in
      let sums : length (begins_with modes at (Vertical k)) ≡ length (word_of_mode (Vertical k)) + length after
      = ap (λ (b : Bits). length (b ++ after)) (append-nil (word_of_mode (Vertical k)))
      ∙ length-append (word_of_mode (Vertical k)) after in
      omega (arith, most, sums, rest, cited.1, length-append word next)
  least (suc modes) from color bits (EncodesLine2D.horizontal f word {first} {second} {bits = next} le has one two on) enough =
      let at : Place = record { from = from; color = color } in
      let most = (at_most modes at le).0 in
      let right = (a1_next row from).above le in
      let further = a2_least row from in
      let rest = least modes (suc (a2 row from)) color next on (omega arith) in
      let few = (mode_bits Horizontal word has).1 in
      let run1 : Bits = shortest_run color (a1 row from - (from - 1)) in
      let run2 : Bits = shortest_run (opposite color) (a2 row from - a1 row from) in
      let after : Bits = shortest_from modes reference row (place_after reference row at Horizontal) in
      let few1 = (shortest_runs color (a1 row from - (from - 1))).1 first one in
      let few2 = (shortest_runs (opposite color) (a2 row from - a1 row from)).1 second two in
      let sums = length-append (word_of_mode Horizontal ++ (run1 ++ run2)) after in
      omega (
        arith,
        most,
        sums,
        length-append (word_of_mode Horizontal) (run1 ++ run2),
        length-append run1 run2,
        rest,
        few,
        few1,
        few2,
        length-append word (first ++ (second ++ next)),
        length-append first (second ++ next),
        length-append second next,
      )

  -- ---- The shortest line is an encoding.
  Encodes : Place → Bits → Type 0
  Encodes at bits = EncodesLine2D reference row at.from at.color bits

  with_pass : (modes : ℕ) (at : Place) → at.from ≤ length row → b2 reference at.from at.color < a1 row at.from
      → Encodes (place_after reference row at Pass) (shortest_from modes reference row (place_after reference row at Pass))
      → Encodes at (begins_with modes at Pass)
  unfolding Encodes begins_with
  with_pass modes at inside left on = EncodesLine2D.pass at.from (word_of_mode Pass) inside (inl (refl, refl)) left on

  with_vertical : (modes : ℕ) (at : Place) (k : ℤ) → at.from ≤ length row
      → Has mode_codes (Vertical k) (word_of_mode (Vertical k))
      → pos (a1 row at.from) ≡ pos (b1 reference at.from at.color) +ℤ k
      → Encodes (place_after reference row at (Vertical k))
      (shortest_from modes reference row (place_after reference row at (Vertical k)))
      → Encodes at (begins_with modes at (Vertical k))
  unfolding Encodes begins_with
  with_vertical modes at k inside word names on =
      subst (λ (b : Bits). EncodesLine2D reference row at.from at.color
      (b ++ shortest_from modes reference row (place_after reference row at (Vertical k))))
      (sym (append-nil (word_of_mode (Vertical k))))
      (EncodesLine2D.vertical at.from (word_of_mode (Vertical k)) k inside word names on)

  with_horizontal : (modes : ℕ) (at : Place) → at.from ≤ length row
      → Encodes (place_after reference row at Horizontal)
      (shortest_from modes reference row (place_after reference row at Horizontal))
      → Encodes at (begins_with modes at Horizontal)
  unfolding Encodes begins_with
  with_horizontal modes at inside on =
      let first : Bits = shortest_run at.color (a1 row at.from - (at.from - 1)) in
      let second : Bits = shortest_run (opposite at.color) (a2 row at.from - a1 row at.from) in
      let rest : Bits = shortest_from modes reference row (place_after reference row at Horizontal) in
      let word : Bits = word_of_mode Horizontal in
      let is : word ++ (first ++ (second ++ rest)) ≡ (word ++ (first ++ second)) ++ rest
      = ap (λ (b : Bits). word ++ b) (sym (append_assoc first second rest)) ∙ sym (append_assoc word (first ++ second) rest) in
      subst (λ (b : Bits). EncodesLine2D reference row at.from at.color b) is (EncodesLine2D.horizontal at.from word inside
      (inr (inl (refl, refl))) ((shortest_runs at.color (a1 row at.from - (at.from - 1))).0)
      ((shortest_runs (opposite at.color) (a2 row at.from - a1 row at.from)).0) on)

  over_encodes : (modes : ℕ) (at : Place) → at.from ≡ suc (length row) → Encodes at (shortest_from modes reference row at)
  unfolding Encodes
  over_encodes modes at e = subst (λ (b : Bits). EncodesLine2D reference row at.from at.color b)
      (sym (over_is modes at (omega arith))) (subst (λ (n : ℕ). EncodesLine2D reference row n at.color []) (sym e)
      EncodesLine2D.over)

  encodes : (modes : ℕ) (at : Place) → at.from ≤ suc (length row) → suc (length row) ≤ at.from + modes
      → Encodes at (shortest_from modes reference row at)
  unfolding others
  encodes zero at le enough = over_encodes zero at (omega arith)
  encodes (suc modes) at le enough = elim (cases_lt (length row) at.from) [
    | inl past ↦ over_encodes (suc modes) at (omega arith)
    | inr inside ↦
        let start : ℕ = b1 reference at.from at.color in
        let passed : ℕ = b2 reference at.from at.color in
        let to : ℕ = a1 row at.from in
        let right = (a1_next row at.from).above inside in
        let within = (a1_next row at.from).within in
        let further = a2_least row at.from in
        let farthest = (a2_next row at.from).within in
        let pass : ltb passed to ≡ true → Encodes at (begins_with modes at Pass) = λ is.
        (let left : passed < to = ltb-true passed to is in
        let ahead = pass_right at.from at.color left in
        with_pass modes at inside left (encodes modes (place_after reference row at Pass) (omega arith) (omega arith))) in
        let vertical : is_near start to ≡ true → Encodes at (begins_with modes at (vertical_mode start to)) = λ near.
        (let v = is_vertical start to near in
        let on = encodes modes (place_after reference row at (Vertical v.k)) (omega arith) (omega arith) in
        subst (λ (m : Mode). Encodes at (begins_with modes at m)) (sym v.mode)
        (with_vertical modes at v.k inside v.word v.names on)) in
        let on = encodes modes (place_after reference row at Horizontal) (omega arith) (omega arith) in
        subst (λ (b : Bits). Encodes at b) (sym (from_is modes at inside))
        (holds (begins_with modes at) (vertical_mode start to) (Encodes at) (ltb passed to) (is_near start to) pass vertical
        (with_horizontal modes at inside on))
  ]

  -- ---- The procedure's line, unless it is longer.
  runs_longer : (at : Place) (mode : Mode) → length (shortest_runs_of_mode row at mode) ≤ length (runs_of_mode row at mode)
  runs_longer at Pass = omega arith
  runs_longer at (Vertical k) = omega arith
  runs_longer at Horizontal =
      let m : ℕ = a1 row at.from - (at.from - 1) in
      let n : ℕ = a2 row at.from - a1 row at.from in
      omega (
        arith,
        length-append (shortest_run at.color m) (shortest_run (opposite at.color) n),
        length-append (chosen_run at.color m) (chosen_run (opposite at.color) n),
        (shortest_runs at.color m).1 (chosen_run at.color m) (run_spelled at.color m),
        (shortest_runs (opposite at.color) n).1 (chosen_run (opposite at.color) n) (run_spelled (opposite at.color) n),
      )

  runs_kept : (at : Place) (mode : Mode) → length (runs_of_mode row at mode) ≤ length (shortest_runs_of_mode row at mode)
      → shortest_runs_of_mode row at mode ≡ runs_of_mode row at mode
  runs_kept at Pass le = refl
  runs_kept at (Vertical k) le = refl
  runs_kept at Horizontal le =
      let m : ℕ = a1 row at.from - (at.from - 1) in
      let n : ℕ = a2 row at.from - a1 row at.from in
      let mine = length-append (shortest_run at.color m) (shortest_run (opposite at.color) n) in
      let other = length-append (chosen_run at.color m) (chosen_run (opposite at.color) n) in
      let one = (shortest_runs at.color m).1 (chosen_run at.color m) (run_spelled at.color m) in
      let two = (shortest_runs (opposite at.color) n).1 (chosen_run (opposite at.color) n) (run_spelled (opposite at.color) n) in
      let first = (shortest_runs at.color m).2 (omega (arith, le, mine, other, one, two)) in
      let second = (shortest_runs (opposite at.color) n).2 (omega (arith, le, mine, other, one, two)) in
      ap (λ (b : Bits). b ++ shortest_run (opposite at.color) n) first ∙ ap (λ (b : Bits). chosen_run at.color m ++ b) second

  first_best : (modes : ℕ) (at : Place) → at.from ≤ length row → length (shortest_from (suc modes) reference row at)
      ≤ length (begins_with modes at (chosen_mode reference row at))
  unfolding first others
  first_best modes at inside =
      rw (from_is modes at inside)
      (first_longer (begins_with modes at) (vertical_mode (b1 reference at.from at.color) (a1 row at.from))
      (ltb (b2 reference at.from at.color) (a1 row at.from)) (is_near (b1 reference at.from at.color) (a1 row at.from)))

  first_begun : (modes : ℕ) (at : Place) → at.from ≤ length row
      → length (begins_with modes at (chosen_mode reference row at)) ≤ length (shortest_from (suc modes) reference row at)
      → shortest_from (suc modes) reference row at ≡ begins_with modes at (chosen_mode reference row at)
  unfolding first others
  first_begun modes at inside few =
      let is = from_is modes at inside in
      is ∙ first_kept (begins_with modes at) (vertical_mode (b1 reference at.from at.color) (a1 row at.from))
      (ltb (b2 reference at.from at.color) (a1 row at.from)) (is_near (b1 reference at.from at.color) (a1 row at.from))
      (omega (arith, few, ap length is))

  begins_length : (modes : ℕ) (at : Place) (mode : Mode) → length (begins_with modes at mode)
      ≡ length (word_of_mode mode) + length (shortest_runs_of_mode row at mode)
      + length (shortest_from modes reference row (place_after reference row at mode))
  unfolding begins_with
  begins_length modes at mode =
      omega (
        arith,
        length-append (word_of_mode mode ++ shortest_runs_of_mode row at mode)
            (shortest_from modes reference row (place_after reference row at mode)),
        length-append (word_of_mode mode) (shortest_runs_of_mode row at mode),
      )

  kept : (modes : ℕ) (at : Place) → at.from ≤ suc (length row) → suc (length row) ≤ at.from + modes
      → length (chosen_from reference row at) ≤ length (shortest_from modes reference row at)
      → shortest_from modes reference row at ≡ chosen_from reference row at
  unfolding begins_with shortest_from
  kept zero at le enough few = sym (chosen_over reference row same at (omega arith))
  kept (suc modes) at le enough few = elim (cases_lt (length row) at.from) [
    | inl past ↦ over_is (suc modes) at past ∙ sym (chosen_over reference row same at past)
    | inr inside ↦
        let mode : Mode = chosen_mode reference row at in
        let after : Place = place_after reference row at mode in
        let right = goes_right reference row same at mode inside (chooses reference row same at inside) in
        let more = chosen_more reference row same at inside in
        let line = encodes_from reference row same (suc (length row)) after right.1 (omega arith) in
        let rest = least modes after.from after.color (chosen_from reference row after) line (omega (arith, right.0)) in
        let best = first_best modes at inside in
        let word : Bits = word_of_mode mode in
        let mine = begins_length modes at mode in
        let other : length (chosen_from reference row at)
        ≡ length word + length (runs_of_mode row at mode) + length (chosen_from reference row after)
        = ap length more ∙ (length-append (word ++ runs_of_mode row at mode) (chosen_from reference row after)
        ∙ ap (λ (n : ℕ). n + length (chosen_from reference row after)) (length-append word (runs_of_mode row at mode))) in
        let runs = runs_longer at mode in
        let same_runs = runs_kept at mode (omega (arith, few, best, mine, other, rest, runs)) in
        let on = kept modes after right.1 (omega (arith, right.0)) (omega (arith, few, best, mine, other, rest, runs)) in
        let begun = first_begun modes at inside (omega (arith, few, mine, other, rest, runs)) in
        begun ∙ (ap (λ (b : Bits). (word ++ b) ++ shortest_from modes reference row after) same_runs
        ∙ (ap (λ (b : Bits). (word ++ runs_of_mode row at mode) ++ b) on ∙ sym more))
  ]

-- the shortest two-dimensional line
pub shortest_lines : ShortestLines
unfolding Encodes shortest_line_2d
shortest_lines reference row same = (
  encodes reference row same (suc (length row)) (record { from = 0; color = White }) (omega arith) (omega arith),
  λ bits derived. least reference row same (suc (length row)) 0 White bits derived (omega arith),
  kept reference row same (suc (length row)) (record { from = 0; color = White }) (omega arith) (omega arith),
)
