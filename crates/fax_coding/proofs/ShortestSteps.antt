-- How the shortest line continues from each change, as an encoder finds it.
use Rattle.fax_coding.proofs.Names.{◌≡◌, ℕ, zero, suc, ◌+◌, ◌-◌, ◌*◌, ◌^◌, ◌<◌, ◌≤◌, ◌≢◌, Bool, true, false, cond, leb, ◌&&◌}
use Rattle.fax_coding.proofs.Names.{List, [], ◌∷◌}
use Rattle.fax_coding.proofs.Names.{◌++◌, length, get_or, refl, sym, ap, subst, ◌∙◌, arith, inl, inr, length-append, append-nil}
use Rattle.fax_coding.proofs.Names.{Vertical, pos}
use Rattle.fax_coding.proofs.Names.{le-leb, cases_lt, Color, White, Mode, Pass, Horizontal, Bits, Row, AreChanges, AscendFrom}
use Rattle.fax_coding.proofs.Names.{pixels, length-pixels, opposite, a1, a2, b1, b2, Place, vertical_mode, is_near, place_after}
use Rattle.fax_coding.proofs.Names.{word_of_mode, a1_next, b2_above, shorter, shortest_of, shortest_runs_of_mode}
use Rattle.fax_coding.proofs.Names.{shortest_run, AreAllLeft, color_after, Word, IsWord, append_assoc}
use Rattle.fax_coding.proofs.Names.{false≢true}
use Rattle.fax_coding.specs.declared.shortest_lines.Way.{Way}
use Rattle.fax_coding.specs.Ways.{shortest_rest, begun_in, vertical_at, mode_of, without_pass, passed, passed_by}
use Rattle.fax_coding.specs.Ways.{words_of_passes, way_bits}
use Rattle.fax_coding.specs.Ways.{MayPass, IsFound, IsLawful, IsShortest, IsSpelled, right_of_changes, bits_right_of}
use Rattle.fax_coding.specs.Ways.{mode_word, bits_of_vertical, IsAhead, bits_in_vertical, bits_in_horizontal, AreWays, no_way}
use Rattle.fax_coding.specs.declared.shortest_lines.Ahead.{Ahead}
use Rattle.fax_coding.proofs.Elements.{a1_found, a2_found, left_of_next, still_left}
use Rattle.fax_coding.proofs.StepsToB1.{color_next, color_second}
use Rattle.fax_coding.proofs.ShortestWays.{going_on, first_goes_on, goes_on, goes_no_further, rest_ends, vertical_place_after}
use Rattle.fax_coding.proofs.ShortestWays.{no_runs_of, kept_first, taken_second, stays, rest_passes}
use Rattle.fax_coding.proofs.ShortestLines.{pass_right}
use Rattle.fax_coding.proofs.Names.{get_or_past}
use Rattle.fax_coding.proofs.ModesWritten.{one_width}
use Rattle.fax_coding.proofs.ShortestWays.{rest_over, rest_bounded}
use Rattle.fax_coding.proofs.RunLengths.{word_length}
use Rattle.fax_coding.proofs.ShortestRunsWritten.{two_runs_least}
use Rattle.std.proofs.lemmas.Bool.{lt-leb}
use Rattle.fax_words.proofs.RunsWritten.{left_of_end}

-- ---- Places right of changes.
-- there are no more changes than pixels
pub no_more_changes : (first width : ℕ) (places : List ℕ) → AscendFrom first width places → first ≤ width
    → first + length places ≤ width
no_more_changes first width [] ascend le = omega arith
no_more_changes first width (place ∷ places) ascend le =
    omega (arith, ascend.0, ascend.1, no_more_changes (suc place) width places ascend.2 (omega (arith, ascend.1)))

-- a position from which this number of changes is left
pub record Stands (columns : ℕ) (changes : List ℕ) (n : ℕ) (at : Place) : Type 0 where
  pub inside : at.from ≤ columns
  pub color : at.color ≡ color_after n
  pub left : AreAllLeft changes at.from n

pub right_is : (columns : ℕ) (changes : List ℕ) (n : ℕ)
    → right_of_changes columns changes (suc n) ≡ record { from = suc (get_or changes n columns); color = color_after (suc n) }
unfolding right_of_changes
right_is columns changes n = refl

-- as an encoder finds it
pub right_of_none : (columns : ℕ) (changes : List ℕ) (n : ℕ) → n ≡ 0 → 0 ≡ (right_of_changes columns changes n).from
unfolding right_of_changes
right_of_none columns changes zero e = refl
right_of_none columns changes (suc n) e = absurd (omega (arith, e))

pub right_of_some : (columns : ℕ) (changes : List ℕ) (n from : ℕ) → n ≢ 0 → from ≡ get_or changes (n - 1) columns
    → from + 1 ≡ (right_of_changes columns changes n).from
unfolding right_of_changes
right_of_some columns changes zero from e is = absurd (e refl)
right_of_some columns changes (suc n) from e is =
    let one : suc n - 1 ≡ n = omega arith in
    omega (arith, is, ap (λ (m : ℕ). get_or changes m columns) one)

pub right_from : (columns : ℕ) (changes : List ℕ) (n from : ℕ) → from ≡ (right_of_changes columns changes n).from
    → record { from = from; color = color_after n } ≡ right_of_changes columns changes n
unfolding right_of_changes
right_from columns changes zero from is = ap (λ (a : ℕ). record { from = a; color = White }) is
right_from columns changes (suc n) from is = ap (λ (a : ℕ). record { from = a; color = color_after (suc n) }) is

module _ (columns : ℕ) (changes : List ℕ) (are : AreChanges columns changes) where
  -- a position right of changes is one
  pub stands_right : (n : ℕ) → n ≤ length changes → Stands columns changes n (right_of_changes columns changes n)
  unfolding right_of_changes
  stands_right zero le = record {
    inside = omega arith;
    color = refl;
    left = record { left = record { within = omega arith; left = λ k l. absurd (omega arith) }; right = λ l. omega arith };
  }
  stands_right (suc n) le =
      let below = left_of_end 0 columns changes n are (omega arith) in
      let here : ℕ = get_or changes n columns in
      let one : here + 1 ≡ suc here = omega arith in
      record {
        inside = omega (arith, below);
        color = refl;
        left = subst (λ (m : ℕ). AreAllLeft changes m (suc n)) one
            (left_of_next 0 columns changes n (suc n) here (omega arith) are refl below);
      }

  module _ (n : ℕ) (at : Place) (stands : Stands columns changes n at) where
    pub a1_here : a1 (pixels columns changes) at.from ≡ get_or changes n columns
    a1_here = a1_found columns changes are at.from n stands.left

    pub a2_here : a2 (pixels columns changes) at.from ≡ get_or changes (n + 1) columns
    a2_here = a2_found columns changes are at.from n stands.left

    pub in_row : at.from ≤ length (pixels columns changes)
    in_row = omega (arith, stands.inside, length-pixels columns changes are)

    pub not_right : at.from ≤ get_or changes n columns
    not_right = omega (arith, (a1_next (pixels columns changes) at.from).above in_row, a1_here)

    pub change_within : get_or changes n columns ≤ columns
    change_within = omega (arith, (a1_next (pixels columns changes) at.from).within, a1_here, length-pixels columns changes are)

    -- after vertical mode
    pub right_after_vertical : (reference : Row) (start to m : ℕ) → m ≡ n + 1
        → place_after reference (pixels columns changes) at (vertical_mode start to) ≡ right_of_changes columns changes m
    right_after_vertical reference start to m is =
        let one : m ≡ suc n = omega (arith, is) in
        let turned : opposite at.color ≡ color_after (suc n)
        = ap opposite stands.color ∙ sym (color_next n) ∙ ap color_after (let e : n + 1 ≡ suc n = omega arith in e) in
        vertical_place_after reference (pixels columns changes) at start to
        ∙ ap (λ (a : ℕ). record { from = suc a; color = opposite at.color }) a1_here
        ∙ ap (λ (k : Color). record { from = suc (get_or changes n columns); color = k }) turned
        ∙ sym (ap (right_of_changes columns changes) one ∙ right_is columns changes n)

    -- after horizontal mode
    pub right_after_horizontal : (reference : Row) (m : ℕ) → m ≡ n + 2
        → place_after reference (pixels columns changes) at Horizontal ≡ right_of_changes columns changes m
    right_after_horizontal reference m is =
        let two : m ≡ suc (suc n) = omega (arith, is) in
        let e : n + 1 ≡ suc n = omega arith in
        let f : n + 2 ≡ suc (suc n) = omega arith in
        let kept : at.color ≡ color_after (suc (suc n)) = stands.color ∙ sym (color_second n) ∙ ap color_after f in
        ap (λ (a : ℕ). record { from = suc a; color = at.color }) (a2_here ∙ ap (λ (i : ℕ). get_or changes i columns) e)
        ∙ ap (λ (k : Color). record { from = suc (get_or changes (suc n) columns); color = k }) kept
        ∙ sym (ap (right_of_changes columns changes) two ∙ right_is columns changes (suc n))

    -- after a pass the same changes are left
    pub stands_passed : (reference : Row) → length reference ≡ length (pixels columns changes)
        → MayPass reference (pixels columns changes) at → Stands columns changes n (passed reference at)
    stands_passed reference same lt =
        let inside = (a1_next (pixels columns changes) at.from).within in
        let ahead = b2_above reference at.from at.color (omega (arith, lt, inside, same)) in
        record {
          inside = omega (arith, lt, inside, length-pixels columns changes are);
          color = stands.color;
          left = still_left columns changes at.from (suc (b2 reference at.from at.color)) n
              (omega (arith, ahead.0, ahead.1)) stands.left (omega (arith, lt, a1_here));
        }

pub stands_at : (columns : ℕ) (changes : List ℕ) → AreChanges columns changes → (n : ℕ) (at : Place) → n ≤ length changes
    → at ≡ right_of_changes columns changes n → Stands columns changes n at
stands_at columns changes are n at le is = subst (λ (p : Place). Stands columns changes n p) (sym is)
    (stands_right columns changes are n le)

-- ---- After passes.
-- the position after one more
pub passed_next : (above : Row) (at now : Place) (k m from : ℕ) → m ≡ k + 1 → now ≡ passed_by above at k
    → from ≡ b2 above now.from now.color + 1 → record { from = from; color = now.color } ≡ passed_by above at m
unfolding passed_by
passed_next above at now k m from is e f =
    let one : m ≡ suc k = omega (arith, is) in
    let here : from ≡ suc (b2 above now.from now.color) = omega (arith, f) in
    ap (λ (a : ℕ). record { from = a; color = now.color }) here ∙ ap (passed above) e ∙ sym (ap (passed_by above at) one)

module _ (columns : ℕ) (changes : List ℕ) (are : AreChanges columns changes) (above : Row)
    (same : length above ≡ length (pixels columns changes)) (n : ℕ) (at : Place) (stands : Stands columns changes n at) where
  pub stands_by : (k : ℕ) → ((i : ℕ) → i < k → MayPass above (pixels columns changes) (passed_by above at i))
      → Stands columns changes n (passed_by above at k)
  unfolding passed_by
  stands_by zero may = stands
  stands_by (suc k) may =
      stands_passed columns changes are n (passed_by above at k) (stands_by k (λ i lt. may i (omega (arith, lt)))) above same
      (may k (omega arith))

  -- a pass may be made where b2 is left of the change
  pub may_pass : (k : ℕ) → b2 above (passed_by above at k).from (passed_by above at k).color < get_or changes n columns
      → ((i : ℕ) → i < k → MayPass above (pixels columns changes) (passed_by above at i))
      → MayPass above (pixels columns changes) (passed_by above at k)
  may_pass k lt may = omega (arith, lt, a1_here columns changes are n (passed_by above at k) (stands_by k may))

  -- and else it may not
  pub may_not_pass : (k : ℕ) → get_or changes n columns ≤ b2 above (passed_by above at k).from (passed_by above at k).color
      → ((i : ℕ) → i < k → MayPass above (pixels columns changes) (passed_by above at i))
      → a1 (pixels columns changes) (passed_by above at k).from ≤ b2 above (passed_by above at k).from
      (passed_by above at k).color
  may_not_pass k le may = omega (arith, le, a1_here columns changes are n (passed_by above at k) (stands_by k may))

-- ---- The mode without another pass.
module _ (reference row : Row) (at : Place) where
  vertical_length : length (begun_in reference row at (vertical_at reference row at))
      ≡ length (word_of_mode (vertical_at reference row at))
      + length (shortest_rest reference row (place_after reference row at (vertical_at reference row at)))
  unfolding begun_in
  vertical_length =
      let word : Bits = word_of_mode (vertical_at reference row at) in
      let rest : Bits = shortest_rest reference row (place_after reference row at (vertical_at reference row at)) in
      let none = no_runs_of row at (b1 reference at.from at.color) (a1 row at.from) in
      ap (λ (b : Bits). length ((word ++ b) ++ rest)) none ∙ ap (λ (b : Bits). length (b ++ rest)) (append-nil word)
      ∙ length-append word rest

  horizontal_length : length (begun_in reference row at Horizontal) ≡ length (shortest_run at.color (a1 row at.from -
      (at.from - 1)))
      + (length (shortest_run (opposite at.color) (a2 row at.from - a1 row at.from)) + 3
      + length (shortest_rest reference row (place_after reference row at Horizontal)))
  unfolding begun_in
  horizontal_length =
      let first : Bits = shortest_run at.color (a1 row at.from - (at.from - 1)) in
      let second : Bits = shortest_run (opposite at.color) (a2 row at.from - a1 row at.from) in
      let rest : Bits = shortest_rest reference row (place_after reference row at Horizontal) in
      let three : length (word_of_mode Horizontal) ≡ 3 = refl in
      omega (
        arith,
        length-append (word_of_mode Horizontal ++ (first ++ second)) rest,
        length-append (word_of_mode Horizontal) (first ++ second),
        length-append first second,
        three,
      )

  near : Bool
  near = is_near (b1 reference at.from at.color) (a1 row at.from)

  ends_in : (vertical n l : Bool) → near ≡ n → leb (length (begun_in reference row at (vertical_at reference row at)))
      (length (begun_in reference row at Horizontal)) ≡ l → vertical ≡ (n && l)
      → without_pass reference row at ≡ begun_in reference row at (mode_of reference row at vertical)
  unfolding without_pass near
  ends_in true true true e f is = rw (e, f) refl
  ends_in false true false e f is = rw (e, f) refl
  ends_in vertical false l e f is = rw (e, is) refl
  ends_in true true false e f is = absurd (false≢true (sym is))
  ends_in false true true e f is = absurd (false≢true is)

  near_if : (vertical n l : Bool) → near ≡ n → vertical ≡ (n && l) → vertical ≡ true
      → is_near (b1 reference at.from at.color) (a1 row at.from) ≡ true
  unfolding near
  near_if vertical true l e is chosen = e
  near_if vertical false l e is chosen = absurd (false≢true (sym is ∙ chosen))

-- as many passes and one more
pub all_before : (reference row : Row) (at : Place) (k : ℕ) → ((i : ℕ) → i < k → MayPass reference row (passed_by reference at i))
    → MayPass reference row (passed_by reference at k) → (i : ℕ) → i < suc k → MayPass reference row (passed_by reference at i)
all_before reference row at k before may i lt = elim (cases_lt i k) [
  | inl l ↦ before i l
  | inr ge ↦ let e : k ≡ i = omega (arith, lt, ge) in subst (λ (m : ℕ). MayPass reference row (passed_by reference at m)) e may
]

-- ---- Whether it is vertical mode, by numbers.
pub vertical_count : (start to : ℕ) (word : Word) → IsWord (word_of_mode (vertical_mode start to)) word
    → bits_of_vertical start to ≡ word.count
unfolding bits_of_vertical
vertical_count start to word is = word_length (word_of_mode (vertical_mode start to)) word is

-- a1 below b1
pub below_is : (start to : ℕ) → start ≡ to → (is_near start to ≡ true) × (vertical_mode start to ≡ Vertical (pos 0))
below_is start to e =
    let one : leb to (start + 3) ≡ true = le-leb to (start + 3) (omega (arith, e)) in
    let two : leb start (to + 3) ≡ true = le-leb start (to + 3) (omega (arith, e)) in
    let same : leb start to ≡ true = le-leb start to (omega (arith, e)) in
    let none : to - start ≡ 0 = omega (arith, e) in
    (rw (one, two) refl, rw (same, none) refl)

pub is_taken : (near : Bool) (m n : ℕ) → near ≡ true → m ≤ n → true ≡ (near && leb m n)
is_taken near m n e le = sym (rw e (le-leb m n le))

pub is_longer : (near : Bool) (m n : ℕ) → n < m → false ≡ (near && leb m n)
is_longer true m n lt = sym (lt-leb m n lt)
is_longer false m n lt = refl

-- ---- A way, after a number of passes.
length-words_of_passes : (k : ℕ) → length (words_of_passes k) ≡ k * 4
unfolding words_of_passes
length-words_of_passes zero = refl
length-words_of_passes (suc k) = let four : length (word_of_mode Pass) ≡ 4 = refl in
    omega (arith, length-append (word_of_mode Pass) (words_of_passes k), four, length-words_of_passes k)

module _ (columns : ℕ) (reference changes : List ℕ) (are : AreChanges columns changes) (n k : ℕ) (at : Place) (way : Way)
    (stands : Stands columns changes n (passed_by (pixels columns reference) at k)) where
  abbrev pub now : Place
  now = passed_by (pixels columns reference) at k

  -- the numbers that an encoder adds up
  pub found_adds : (start to second after following : ℕ) → b1 (pixels columns reference) now.from now.color ≡ start
      → a1 (pixels columns changes) now.from ≡ to
      → a2 (pixels columns changes) now.from ≡ second
      → after ≡ bits_right_of columns reference changes (n + 1)
      → following ≡ length (shortest_run (opposite now.color) (second - to)) + 3 + bits_right_of columns reference changes (n + 2)
      → way.passes ≡ k
      → way.is_vertical ≡ (is_near start to && leb (bits_of_vertical start to + after)
      (length (shortest_run now.color (to - (now.from - 1))) + following))
      → way.bits ≡ k * 4 + cond way.is_vertical (bits_of_vertical start to + after)
      (length (shortest_run now.color (to - (now.from - 1))) + following)
      → IsWord (word_of_mode (cond way.is_vertical (vertical_mode start to) Horizontal)) (mode_word way)
      → (way.is_vertical ≡ false → way.first ≡ to - (now.from - 1))
      → IsFound (pixels columns reference) (pixels columns changes) at k way
  unfolding bits_right_of way_bits near bits_of_vertical
  found_adds start to second after following e f g one two passes vertical bits word first =
      let place : Place = passed_by (pixels columns reference) at k in
      let R : Row = pixels columns reference in
      let C : Row = pixels columns changes in
      let after_vertical : after ≡ length (shortest_rest R C (place_after R C place (vertical_at R C place)))
      = one ∙ ap (λ (p : Place). length (shortest_rest R C p))
      (sym (right_after_vertical columns changes are n place stands R (b1 R place.from place.color) (a1 C place.from)
      (n + 1) refl)) in
      let after_horizontal : bits_right_of columns reference changes (n + 2) ≡ length (shortest_rest R C
      (place_after R C place Horizontal))
      = ap (λ (p : Place). length (shortest_rest R C p)) (sym (right_after_horizontal columns changes are n place stands R
      (n + 2) refl)) in
      let words : word_of_mode (vertical_at R C place) ≡ word_of_mode (vertical_mode start to)
      = ap (λ (m : ℕ). word_of_mode (vertical_mode m (a1 C place.from))) e ∙ ap (λ (m : ℕ). word_of_mode
      (vertical_mode start m)) f in
      let is_first : length (shortest_run place.color (a1 C place.from - (place.from - 1))) ≡ length (shortest_run place.color
      (to - (place.from - 1)))
      = ap (λ (m : ℕ). length (shortest_run place.color (m - (place.from - 1)))) f in
      let is_second : length (shortest_run (opposite place.color) (a2 C place.from - a1 C place.from)) ≡ length (shortest_run
      (opposite place.color) (second - to))
      = ap (λ (m : ℕ). length (shortest_run (opposite place.color) (m - a1 C place.from))) g
      ∙ ap (λ (m : ℕ). length (shortest_run (opposite place.color) (second - m))) f in
      let in_vertical : length (begun_in R C place (vertical_at R C place)) ≡ bits_of_vertical start to + after
      = omega (arith, vertical_length R C place, after_vertical, ap length words) in
      let in_horizontal : length (begun_in R C place Horizontal) ≡ length (shortest_run place.color (to -
      (place.from - 1))) + following
      = omega (arith, horizontal_length R C place, after_horizontal, is_first, is_second, two) in
      let nearly : is_near (b1 R place.from place.color) (a1 C place.from) ≡ is_near start to
      = ap (λ (m : ℕ). is_near m (a1 C place.from)) e ∙ ap (is_near start) f in
      let less : leb (length (begun_in R C place (vertical_at R C place))) (length (begun_in R C place Horizontal))
      ≡ leb (bits_of_vertical start to + after) (length (shortest_run place.color (to - (place.from - 1))) + following)
      = ap (λ (m : ℕ). leb m (length (begun_in R C place Horizontal))) in_vertical
      ∙ ap (leb (bits_of_vertical start to + after)) in_horizontal in
      record {
        passes = passes;
        near = near_if R C place way.is_vertical (is_near start to) _ nearly vertical;
        bits = bits ∙ sym (length-append (words_of_passes k) (begun_in R C place (mode_of R C place way.is_vertical))
            ∙ ap (λ (m : ℕ). m + length (begun_in R C place (mode_of R C place way.is_vertical))) (length-words_of_passes k)
            ∙ ap (λ (m : ℕ). k * 4 + m) (by_mode R C place way.is_vertical _ _ in_vertical in_horizontal));
        is = ap (λ (b : Bits). words_of_passes k ++ b) (ends_in R C place way.is_vertical
            (is_near start to) _ nearly less vertical);
        spelled = record {
          word = subst (λ (b : Bits). IsWord b (mode_word way)) (by_mode_word R C place way.is_vertical _ (sym words)) word;
          first = λ e. first e ∙ ap (λ (m : ℕ). m - (place.from - 1)) (sym f);
        };
      }
    where
      by_mode_word : (R C : Row) (place : Place) (vertical : Bool) (m : Mode)
          → word_of_mode m ≡ word_of_mode (vertical_at R C place)
          → word_of_mode (cond vertical m Horizontal) ≡ word_of_mode (mode_of R C place vertical)
      by_mode_word R C place true m e = e
      by_mode_word R C place false m e = refl

      by_mode : (R C : Row) (place : Place) (vertical : Bool) (one two : ℕ) → length (begun_in R C place
          (vertical_at R C place)) ≡ one
          → length (begun_in R C place Horizontal) ≡ two
          → length (begun_in R C place (mode_of R C place vertical)) ≡ cond vertical one two
      by_mode R C place true one two e f = e
      by_mode R C place false one two e f = f

-- the numbers that an encoder adds up, of a position
pub record Adds (columns : ℕ) (reference changes : List ℕ) (n k : ℕ) (at : Place) (way : Way) : Type 0 where
  pub start : ℕ
  pub to : ℕ
  pub second : ℕ
  pub after : ℕ
  pub following : ℕ
  pub from : ℕ
  pub color : Color
  pub from_is : from ≡ at.from
  pub color_is : color ≡ at.color
  pub b1_is : b1 (pixels columns reference) at.from at.color ≡ start
  pub to_is : to ≡ get_or changes n columns
  pub second_is : second ≡ get_or changes (n + 1) columns
  pub after_is : after ≡ bits_right_of columns reference changes (n + 1)
  pub following_is : following ≡ length (shortest_run (opposite color) (second - to)) + 3
      + bits_right_of columns reference changes (n + 2)
  pub passes : way.passes ≡ k
  pub vertical : way.is_vertical ≡ (is_near start to && leb (bits_of_vertical start to + after)
      (length (shortest_run color (to - (from - 1))) + following))
  pub bits : way.bits ≡ k * 4 + cond way.is_vertical (bits_of_vertical start to + after)
      (length (shortest_run color (to - (from - 1))) + following)
  pub word : IsWord (word_of_mode (cond way.is_vertical (vertical_mode start to) Horizontal)) (mode_word way)
  pub first : way.is_vertical ≡ false → way.first ≡ to - (from - 1)

pub found_by : (columns : ℕ) (reference changes : List ℕ) (are : AreChanges columns changes) (n k : ℕ) (at now : Place)
    (way : Way)
    → Stands columns changes n (passed_by (pixels columns reference) at k) → now ≡ passed_by (pixels columns reference) at k
    → Adds columns reference changes n k now way → IsFound (pixels columns reference) (pixels columns changes) at k way
found_by columns reference changes are n k at p way stands e adds =
    let R : Row = pixels columns reference in
    let place : Place = passed_by R at k in
    let a : Adds columns reference changes n k place way = subst (λ
    (q : Place). Adds columns reference changes n k q way) e adds in
    let word : ℕ = bits_of_vertical a.start a.to in
    let first : length (shortest_run a.color (a.to - (a.from - 1))) ≡ length (shortest_run place.color (a.to - (place.from - 1)))
    = ap (λ (m : ℕ). length (shortest_run a.color (a.to - (m - 1)))) a.from_is
    ∙ ap (λ (k : Color). length (shortest_run k (a.to - (place.from - 1)))) a.color_is in
    let other = ap (λ (k : Color). length (shortest_run (opposite k)
    (a.second - a.to)) + 3 + bits_right_of columns reference changes (n + 2))
    a.color_is in
    found_adds columns reference changes are n k at way stands a.start a.to a.second a.after a.following a.b1_is
    (a1_here columns changes are n place stands ∙ sym a.to_is) (a2_here columns changes are n place stands ∙ sym a.second_is)
    a.after_is (a.following_is ∙ other) a.passes
    (a.vertical ∙ ap (λ (m : ℕ). is_near a.start a.to && leb (word + a.after) (m + a.following)) first)
    (a.bits ∙ ap (λ (m : ℕ). k * 4 + cond way.is_vertical (word + a.after) (m + a.following)) first)
    a.word (λ e. a.first e ∙ ap (λ (m : ℕ). a.to - (m - 1)) a.from_is)

-- the numbers of a way, with what is ahead
pub record Counts (color : Color) (from start k : ℕ) (ahead : Ahead) (way : Way) : Type 0 where
  pub passes : way.passes ≡ k
  pub vertical : way.is_vertical ≡ (is_near start ahead.a1
      && leb (bits_in_vertical start ahead) (bits_in_horizontal color from ahead))
  pub bits : way.bits ≡ k * 4 + cond way.is_vertical (bits_in_vertical start ahead) (bits_in_horizontal color from ahead)
  pub word : IsWord (word_of_mode (cond way.is_vertical (vertical_mode start ahead.a1) Horizontal)) (mode_word way)
  pub first : way.is_vertical ≡ false → way.first ≡ ahead.a1 - (from - 1)

pub found_ahead : (columns : ℕ) (reference changes : List ℕ) → AreChanges columns changes → (n k : ℕ) (at now : Place)
    (way : Way) (ahead : Ahead) (start : ℕ) (color : Color)
    → Stands columns changes n (passed_by (pixels columns reference) at k) → now ≡ passed_by (pixels columns reference) at k
    → IsAhead columns reference changes n ahead → b1 (pixels columns reference) now.from now.color ≡ start → color ≡ now.color
    → Counts color now.from start k ahead way → IsFound (pixels columns reference) (pixels columns changes) at k way
found_ahead columns reference changes are n k at now way ahead start color stands e right is_b1 is_color counts =
    found_by columns reference changes are n k at now way stands e (record {
      start = start;
      to = ahead.a1;
      second = ahead.a2;
      after = ahead.after_a1;
      following = length (shortest_run (opposite color) (ahead.a2 - ahead.a1)) + 3 + ahead.after_a2;
      from = now.from;
      color = color;
      from_is = refl;
      color_is = is_color;
      b1_is = is_b1;
      to_is = right.a1;
      second_is = right.a2;
      after_is = right.after_a1;
      following_is = ap (λ (m : ℕ). length (shortest_run (opposite color) (ahead.a2 - ahead.a1)) + 3 + m) right.after_a2;
      passes = counts.passes;
      vertical = counts.vertical;
      bits = counts.bits;
      word = counts.word;
      first = counts.first;
    })

-- of a1 below b1
abbrev pub below_way : Word → Ahead → Way
below_way word ahead = record {
  bits = 0 * 4 + (word.count + ahead.after_a1);
  passes = 0;
  first = 0;
  word = word.bits;
  count = word.count;
  is_vertical = true;
}

-- where what follows has few bits
pub below_counts : (color : Color) (from start : ℕ) (ahead : Ahead) (word : Word) → start ≡ ahead.a1
    → ahead.after_a1 ≤ ahead.after_a2 + 8 → IsWord (word_of_mode (Vertical (pos 0))) word
    → Counts color from start 0 ahead (below_way word ahead)
below_counts color from start ahead word e few is =
    let below = below_is start ahead.a1 e in
    let coded : IsWord (word_of_mode (vertical_mode start ahead.a1)) word
    = subst (λ (m : Mode). IsWord (word_of_mode m) word) (sym below.1) is in
    let one : length (word_of_mode (Vertical (pos 0))) ≡ 1 = refl in
    let count : word.count ≡ 1 = omega (arith, one, word_length (word_of_mode (Vertical (pos 0))) word is) in
    record {
      passes = refl;
      vertical = is_taken (is_near start ahead.a1) (bits_in_vertical start ahead)
          (bits_in_horizontal color from ahead) below.0 (omega (
            arith,
            few,
            count,
            vertical_count start ahead.a1 word coded,
            two_runs_least color (ahead.a1 - (from - 1)) (ahead.a2 - ahead.a1),
          ));
      bits = omega (arith, vertical_count start ahead.a1 word coded);
      word = coded;
      first = λ no. absurd (false≢true (sym no));
    }

-- ---- The search.
-- what is best of the ways with no more than this number of passes
pub record IsSearched (reference row : Row) (at : Place) (k : ℕ) (way : Way) : Type 0 where
  pub lawful : IsLawful reference row at way
  pub bits : way.bits ≡ length (way_bits reference row at way.passes way.is_vertical)
  pub passes : (i : ℕ) → i < k → MayPass reference row (passed_by reference at i)
  pub on : MayPass reference row (passed_by reference at k)
      → shortest_rest reference row at ≡ going_on reference row at (suc k) (way_bits reference row at way.passes way.is_vertical)
  pub ends : a1 row (passed_by reference at k).from ≤ b2 reference (passed_by reference at k).from
      (passed_by reference at k).color
      → shortest_rest reference row at ≡ way_bits reference row at way.passes way.is_vertical
  pub spelled : IsSpelled reference row (passed_by reference at way.passes) way

module _ (reference row : Row) (same : length reference ≡ length row) (at : Place) where
  is_spelled : (k : ℕ) (way : Way) → IsFound reference row at k way
      → IsSpelled reference row (passed_by reference at way.passes) way
  is_spelled k way is = subst (λ (m : ℕ). IsSpelled reference row (passed_by reference at m) way) (sym is.passes) is.spelled

  is_lawful : (k : ℕ) (way : Way) → IsFound reference row at k way
      → ((i : ℕ) → i < k → MayPass reference row (passed_by reference at i)) → IsLawful reference row at way
  is_lawful k way is passes = record {
    passes = λ i lt. passes i (omega (arith, lt, is.passes));
    near = λ chosen. subst (λ (m : ℕ). is_near (b1 reference (passed_by reference at m).from (passed_by reference at m).color)
        (a1 row (passed_by reference at m).from) ≡ true) (sym is.passes) (is.near chosen);
  }

  is_bits : (k : ℕ) (way : Way) → IsFound reference row at k way
      → way_bits reference row at k way.is_vertical ≡ way_bits reference row at way.passes way.is_vertical
  is_bits k way is = ap (λ (m : ℕ). way_bits reference row at m way.is_vertical) (sym is.passes)

  pub first_searched : (way : Way) → at.from ≤ length row → IsFound reference row at 0 way → IsSearched reference row at 0 way
  unfolding passed_by words_of_passes
  first_searched way inside is = record {
    lawful = is_lawful 0 way is (λ i lt. absurd (omega arith));
    bits = is.bits ∙ ap length (is_bits 0 way is);
    passes = λ i lt. absurd (omega arith);
    on = λ lt. first_goes_on reference row same at inside lt ∙ ap (going_on reference row at 1) (is.is ∙ is_bits 0 way is);
    ends = λ le. rest_ends reference row same at inside le ∙ is.is ∙ is_bits 0 way is;
    spelled = is_spelled 0 way is;
  }

  module _ (k : ℕ) (best way : Way) (searched : IsSearched reference row at k best)
      (may : MayPass reference row (passed_by reference at k)) (inside : (passed_by reference at (suc k)).from ≤ length row)
      (is : IsFound reference row at (suc k) way) where
    mine : Bits
    mine = way_bits reference row at way.passes way.is_vertical

    other : Bits
    other = way_bits reference row at best.passes best.is_vertical

    found_bits : words_of_passes (suc k) ++ without_pass reference row (passed_by reference at (suc k)) ≡ mine
    unfolding mine
    found_bits = is.is ∙ is_bits (suc k) way is

    next_on : MayPass reference row (passed_by reference at (suc k))
        → shortest_rest reference row at ≡ going_on reference row at (suc (suc k)) (shorter mine other)
    unfolding other
    next_on lt = goes_on reference row same at (suc k) other inside lt (searched.on may)
        ∙ ap (λ (b : Bits). going_on reference row at (suc (suc k)) (shorter b other)) found_bits

    next_ends : a1 row (passed_by reference at (suc k)).from
        ≤ b2 reference (passed_by reference at (suc k)).from (passed_by reference at (suc k)).color
        → shortest_rest reference row at ≡ shorter mine other
    unfolding other
    next_ends le = goes_no_further reference row same at (suc k) other inside le (searched.on may)
        ∙ ap (λ (b : Bits). shorter b other) found_bits

    pub next_searched : (both : Way) → both ≡ cond (leb way.bits best.bits) way best → IsSearched reference row at (suc k) both
    unfolding mine other
    next_searched both is_both = elim (cases_lt best.bits way.bits) [
      | inl lt ↦
          let e : leb way.bits best.bits ≡ false = lt-leb way.bits best.bits lt in
          let picked : both ≡ best = is_both ∙ ap (λ (t : Bool). cond t way best) e in
          let longer : shorter mine other ≡ other = taken_second mine other (omega
          (arith, lt, searched.bits, is.bits, ap length (is_bits (suc k) way is))) in
          subst (λ (w : Way). IsSearched reference row at (suc k) w) (sym picked) (record {
            lawful = searched.lawful;
            bits = searched.bits;
            passes = all_before reference row at k searched.passes may;
            on = λ more. next_on more ∙ ap (going_on reference row at (suc (suc k))) longer;
            ends = λ le. next_ends le ∙ longer;
            spelled = searched.spelled;
          })
      | inr ge ↦
          let e : leb way.bits best.bits ≡ true = le-leb way.bits best.bits ge in
          let picked : both ≡ way = is_both ∙ ap (λ (t : Bool). cond t way best) e in
          let short : shorter mine other ≡ mine = kept_first mine other (omega (
            arith,
            ge,
            searched.bits,
            is.bits,
            ap length
                (is_bits (suc k) way is),
          )) in
          subst (λ (w : Way). IsSearched reference row at (suc k) w) (sym picked) (record {
            lawful = is_lawful (suc k) way is (all_before reference row at k searched.passes may);
            bits = is.bits ∙ ap length (is_bits (suc k) way is);
            passes = all_before reference row at k searched.passes may;
            on = λ more. next_on more ∙ ap (going_on reference row at (suc (suc k))) short;
            ends = λ le. next_ends le ∙ short;
            spelled = is_spelled (suc k) way is;
          })
    ]

  -- the search ends where no pass may be made
  pub searched_to_end : (k : ℕ) (way : Way) → IsSearched reference row at k way
      → a1 row (passed_by reference at k).from ≤ b2 reference (passed_by reference at k).from (passed_by reference at k).color
      → IsShortest reference row at way
  searched_to_end k way is le = record { lawful = is.lawful; bits = is.bits; is = is.ends le; spelled = is.spelled }

  -- or where more passes take more bits
  pub searched_enough : (k : ℕ) (way : Way) → IsSearched reference row at k way → MayPass reference row (passed_by reference at k)
      → way.bits < suc k * 4 + length (shortest_rest reference row (passed_by reference at (suc k)))
      → IsShortest reference row at way
  searched_enough k way is may few = record {
    lawful = is.lawful;
    bits = is.bits;
    is = is.on may ∙ stays reference row same at (suc k) (way_bits reference row at way.passes way.is_vertical)
        (omega (arith, few, is.bits, length-words_of_passes (suc k)));
    spelled = is.spelled;
  }

-- ---- A least number of bits.
shorter_least : (least : ℕ) (first second : Bits) → least ≤ length first → least ≤ length second
    → least ≤ length (shorter first second)
shorter_least least first second one two = elim (cases_lt (length second) (length first)) [
  | inl lt ↦ omega (arith, two, ap length (taken_second first second lt))
  | inr le ↦ omega (arith, one, ap length (kept_first first second le))
]

module _ (columns : ℕ) (reference changes : List ℕ) (lawful : AreChanges columns reference) (are : AreChanges columns changes)
    (n least : ℕ) (vertical : least ≤ bits_right_of columns reference changes (n + 1))
    (horizontal : least ≤ bits_right_of columns reference changes (n + 2) + 9) where
  abbrev above : Row
  above = pixels columns reference

  abbrev row : Row
  row = pixels columns changes

  without_least : (at : Place) → Stands columns changes n at → least ≤ length (without_pass above row at)
  unfolding without_pass bits_right_of
  without_least at stands = by_near (is_near (b1 above at.from at.color) (a1 row at.from))
    where
      in_vertical : least ≤ length (begun_in above row at (vertical_at above row at))
      in_vertical = omega (
        arith,
        vertical,
        vertical_length above row at,
        ap (λ (p : Place). length (shortest_rest above row p)) (right_after_vertical columns changes are n at stands above
            (b1 above at.from at.color) (a1 row at.from) (n + 1) refl),
      )

      in_horizontal : least ≤ length (begun_in above row at Horizontal)
      in_horizontal = omega (
        arith,
        horizontal,
        horizontal_length above row at,
        ap (λ (p : Place). length (shortest_rest above row p))
            (right_after_horizontal columns changes are n at stands above (n + 2) refl),
        two_runs_least at.color (a1 row at.from - (at.from - 1)) (a2 row at.from - a1 row at.from),
      )

      by_near : (near : Bool)
          → least ≤ length (shortest_of (begun_in above row at) (cond near (vertical_at above row at ∷ []) []))
      by_near true = shorter_least least (begun_in above row at (vertical_at above row at)) (begun_in above row at Horizontal)
          in_vertical in_horizontal
      by_near false = in_horizontal

  -- from each position from which this number of changes is left
  pub least_of_rest : (bound : ℕ) (at : Place) → Stands columns changes n at → columns < at.from + bound
      → least ≤ length (shortest_rest above row at)
  least_of_rest zero at stands few = absurd (omega (arith, few, stands.inside))
  least_of_rest (suc bound) at stands few =
      let same = one_width columns reference changes lawful are in
      let inside = in_row columns changes are n at stands in
      let without = without_least at stands in
      elim (cases_lt (b2 above at.from at.color) (a1 row at.from)) [
        | inl lt ↦
            let next : Bits = shortest_rest above row (passed above at) in
            let rest = least_of_rest bound (passed above at) (stands_passed columns changes are n at stands above same lt)
            (omega (arith, few, pass_right above row same at.from at.color lt)) in
            let passes = shorter_least least (word_of_mode Pass ++ next) (without_pass above row at)
            (omega (arith, rest, length-append (word_of_mode Pass) next)) without in
            omega (arith, passes, ap length (rest_passes above row same at inside lt))
        | inr ge ↦ omega (arith, without, ap length (rest_ends above row same at inside ge))
      ]

-- ---- Ways as they are written.
pub vertical_written : (reference row : Row) (at after : Place) (k start to : ℕ) (old middle new : Bits)
    → middle ≡ old ++ words_of_passes k → new ≡ middle ++ word_of_mode (vertical_mode start to)
    → b1 reference (passed_by reference at k).from (passed_by reference at k).color ≡ start
    → a1 row (passed_by reference at k).from ≡ to
    → place_after reference row (passed_by reference at k) (vertical_at reference row (passed_by reference at k)) ≡ after
    → new ++ shortest_rest reference row after ≡ old ++ way_bits reference row at k true
unfolding way_bits begun_in
vertical_written reference row at after k start to old middle new e f g h i =
    let place : Place = passed_by reference at k in
    let word : Bits = word_of_mode (vertical_mode start to) in
    let rest : Bits = shortest_rest reference row after in
    let mode : word_of_mode (vertical_at reference row place) ++ shortest_runs_of_mode row place
    (vertical_at reference row place) ≡ word
    = ap (λ (b : Bits). word_of_mode (vertical_at reference row place) ++ b) (no_runs_of row place
    (b1 reference place.from place.color) (a1 row place.from))
    ∙ append-nil (word_of_mode (vertical_at reference row place))
    ∙ ap (λ (m : ℕ). word_of_mode (vertical_mode m (a1 row place.from))) g ∙ ap (λ (m : ℕ). word_of_mode
    (vertical_mode start m)) h in
    ap (λ (b : Bits). b ++ rest) (f ∙ ap (λ (b : Bits). b ++ word) e)
    ∙ append_assoc (old ++ words_of_passes k) word rest ∙ append_assoc old (words_of_passes k) (word ++ rest)
    ∙ ap (λ (b : Bits). old ++ (words_of_passes k ++ (b ++ rest))) (sym mode)
    ∙ ap (λ (p : Place). old ++ (words_of_passes k ++ ((word_of_mode (vertical_at reference row place)
    ++ shortest_runs_of_mode row place (vertical_at reference row place)) ++ shortest_rest reference row p))) (sym i)

pub horizontal_written : (reference row : Row) (at after : Place) (k to second from : ℕ) (color : Color) (old middle new : Bits)
    → middle ≡ old ++ words_of_passes k
    → new ≡ middle ++ (word_of_mode Horizontal ++ (shortest_run color (to - (from - 1)) ++ shortest_run (opposite color)
    (second - to)))
    → (passed_by reference at k).from ≡ from → (passed_by reference at k).color ≡ color
    → a1 row (passed_by reference at k).from ≡ to → a2 row (passed_by reference at k).from ≡ second
    → place_after reference row (passed_by reference at k) Horizontal ≡ after
    → new ++ shortest_rest reference row after ≡ old ++ way_bits reference row at k false
unfolding way_bits begun_in
horizontal_written reference row at after k to second from color old middle new e f g h i j l =
    let place : Place = passed_by reference at k in
    let mode : Bits = word_of_mode Horizontal
    ++ (shortest_run color (to - (from - 1)) ++ shortest_run (opposite color) (second - to)) in
    let rest : Bits = shortest_rest reference row after in
    let runs : ℕ → ℕ → ℕ → Color → Bits = λ a b f k. word_of_mode Horizontal
    ++ (shortest_run k (a - (f - 1)) ++ shortest_run (opposite k) (b - a)) in
    let same : runs (a1 row place.from) (a2 row place.from) place.from place.color ≡ mode
    = ap (λ (a : ℕ). runs a (a2 row place.from) place.from place.color) i
    ∙ ap (λ (b : ℕ). runs to b place.from place.color) j
    ∙ ap (λ (f : ℕ). runs to second f place.color) g
    ∙ ap (λ (k : Color). runs to second from k) h in
    ap (λ (b : Bits). b ++ rest) (f ∙ ap (λ (b : Bits). b ++ mode) e)
    ∙ append_assoc (old ++ words_of_passes k) mode rest ∙ append_assoc old (words_of_passes k) (mode ++ rest)
    ∙ ap (λ (b : Bits). old ++ (words_of_passes k ++ (b ++ rest))) (sym same)
    ∙ ap (λ (p : Place). old ++ (words_of_passes k
    ++ (runs (a1 row place.from) (a2 row place.from) place.from place.color ++ shortest_rest reference row p))) (sym l)

-- ---- The bits right of changes.
module _ (columns : ℕ) (reference changes : List ℕ) (lawful : AreChanges columns reference)
    (are : AreChanges columns changes) where
  row_same : length (pixels columns reference) ≡ length (pixels columns changes)
  row_same = one_width columns reference changes lawful are

  -- nothing is left at the line's end
  pub none_left : (n : ℕ) → length changes < n
      → shortest_rest (pixels columns reference) (pixels columns changes) (right_of_changes columns changes n) ≡ []
  unfolding right_of_changes
  none_left zero lt = absurd (omega (arith, lt))
  none_left (suc n) lt =
      let past : get_or changes n columns ≡ columns = get_or_past changes n columns (omega (arith, lt)) in
      rest_over (pixels columns reference) (pixels columns changes) row_same (right_of_changes columns changes (suc n))
      (omega (arith, past, length-pixels columns changes are))

  pub none_right : (n : ℕ) → length changes < n → bits_right_of columns reference changes n ≡ 0
  unfolding bits_right_of
  none_right n lt = ap length (none_left n lt)

  -- and never many
  pub few_right : (n : ℕ) → columns < 2 ^ 32 → bits_right_of columns reference changes n < 2 ^ 40
  unfolding bits_right_of
  few_right n le = elim (cases_lt (length changes) n) [
    | inl past ↦ omega (arith, none_right n past)
    | inr inside ↦
        let stands = stands_right columns changes are n inside in
        let bound = rest_bounded (pixels columns reference) (pixels columns changes) row_same (right_of_changes columns changes n)
        (omega (arith, stands.inside, length-pixels columns changes are)) in
        omega (arith, bound, le, length-pixels columns changes are)
  ]

  -- those of the shortest way
  pub bits_of_way : (n : ℕ) (at : Place) (way : Way) → at ≡ right_of_changes columns changes n
      → IsShortest (pixels columns reference) (pixels columns changes) at way
      → way.bits ≡ bits_right_of columns reference changes n
  unfolding bits_right_of
  bits_of_way n at way is shortest =
      shortest.bits ∙ sym (ap length shortest.is)
      ∙ ap (λ (p : Place). length (shortest_rest (pixels columns reference) (pixels columns changes) p)) is

-- ---- The list of ways.
pub pushed_before : (ways : List Way) (way : Way) (i : ℕ) → i < length ways
    → get_or (ways ++ way ∷ []) i no_way ≡ get_or ways i no_way
pushed_before [] way i lt = absurd (omega arith)
pushed_before (w ∷ ways) way zero lt = refl
pushed_before (w ∷ ways) way (suc i) lt = pushed_before ways way i (omega arith)

pub pushed_last : (ways : List Way) (way : Way) (i : ℕ) → i ≡ length ways → get_or (ways ++ way ∷ []) i no_way ≡ way
pushed_last [] way zero e = refl
pushed_last [] way (suc i) e = absurd (omega (arith, e))
pushed_last (w ∷ ways) way zero e = absurd (omega (arith, e))
pushed_last (w ∷ ways) way (suc i) e = pushed_last ways way i (omega (arith, e))

-- the way at a position
pub way_there : (columns : ℕ) (reference changes : List ℕ) (ways : List Way) → AreWays columns reference changes ways
    → (n : ℕ) → n < length ways → IsShortest (pixels columns reference) (pixels columns changes)
    (right_of_changes columns changes n) (get_or ways (length ways - 1 - n) no_way)
way_there columns reference changes ways all n lt =
    let index : length changes - n ≡ length ways - 1 - n = omega (arith, all.count) in
    subst (λ (i : ℕ). IsShortest (pixels columns reference) (pixels columns changes) (right_of_changes columns changes n)
    (get_or ways i no_way)) index (all.each n (omega (arith, lt, all.count)))
