-- Pixels of one colour up to a changing element, and a front that they continue.
use Rattle.hayro_ccitt.proofs.Names.{◌≡◌, ℕ, zero, suc, ◌+◌, ◌-◌, ◌<◌, ◌≤◌, Bool, true, false, not, ◌++◌, length, take}
use Rattle.hayro_ccitt.proofs.Names.{replicate}
use Rattle.hayro_ccitt.proofs.Names.{get_or, refl, ap, sym, ◌∙◌, arith, inl, inr, beq, cases_lt, false≢true}
use Rattle.hayro_ccitt.proofs.Names.{get_or-take, get_or-replicate, get_or-append_right}
use Rattle.hayro_ccitt.proofs.Names.{White, Row, is_black, pixel, pixel_before, is_change, common_steps}
use Rattle.hayro_ccitt.proofs.PixelRows.ChangePlaces.{IsNext, pixels_same, take_painted}
use Rattle.std.proofs.lemmas.List.{take-take, take-append-le, take_all}
use Rattle.fax_conforms.specs.Standing.{Spot, GoesOnFrom}

-- from the pixel at a0 up to a position the pixels have one colour, which is white where a0 is left of the row
pub record IsRunTo (row : Row) (from place : ℕ) (c : Bool) : Type 0 where
  pub same : (q : ℕ) → from ≤ suc q → q < place → pixel row q ≡ c
  pub first : from ≡ 0 → c ≡ false

not_same : (x y c : Bool) → x ≡ c → y ≡ c → not (beq x y) ≡ false
not_same x y c a b = grind (arith, common_steps)

differ : (x y c : Bool) → x ≡ c → y ≡ not c → not (beq x y) ≡ true
differ x y c a b = grind (arith, common_steps)

-- the pixel left of a position in the run
pub run_before : (row : Row) (from place : ℕ) (c : Bool) → IsRunTo row from place c → (q : ℕ) → from ≤ q → q ≤ place
    → pixel_before row q ≡ c
run_before row from place c run zero le lt = sym (run.first (omega arith))
run_before row from place c run (suc q) le lt = run.same q le (omega arith)

-- there is no change within
pub run_unchanged : (row : Row) (from place : ℕ) (c : Bool) → IsRunTo row from place c → (q : ℕ) → from ≤ q → q < place
    → is_change row q ≡ false
run_unchanged row from place c run q le lt =
    not_same (pixel_before row q) (pixel row q) c (run_before row from place c run q le (omega arith)) (run.same q
    (omega arith) lt)

-- there is one at its end
pub run_changes : (row : Row) (from place : ℕ) (c : Bool) → IsRunTo row from place c → from ≤ place → pixel row place ≡ not c
    → is_change row place ≡ true
run_changes row from place c run le turns =
    differ (pixel_before row place) (pixel row place) c (run_before row from place c run place le (omega arith)) turns

-- so the next change is where the run ends
pub next_is : (row : Row) (from place p : ℕ) (c : Bool) → IsNext row from p → from ≤ place → place ≤ length row
    → IsRunTo row from place c → (place < length row → pixel row place ≡ not c) → p ≡ place
next_is row from place p c next le within run turns = elim (cases_lt p place) [
  | inl lt ↦ absurd (false≢true (sym (run_unchanged row from place c run p (next.above (omega arith)) lt)
      ∙ next.change (omega arith)))
  | inr ge ↦ elim (cases_lt place p) [
    | inl lt ↦ absurd (let inside : p ≤ length row = next.within in false≢true (sym (next.before place le lt)
        ∙ run_changes row from place c run le (turns (omega arith))))
    | inr same ↦ omega arith
  ]
]

-- ---- A front that pixels of one colour continue.
-- what is painted up to a position, taken back
pub painted_front_is : (row front : Row) (n place : ℕ) (c : Bool) → length front + n ≡ place
    → front ++ replicate n c ≡ take place row
    → front ≡ take (length front) row
painted_front_is row front n place c sum is =
    let p : ℕ = length front in
    sym (take_all p front (omega arith)) ∙ sym (take-append-le p front (replicate n c) (omega arith))
    ∙ ap (take p) is ∙ take-take p place row (omega arith)

pub painted_pixel : (row front : Row) (n place : ℕ) (c : Bool) → length front + n ≡ place
    → front ++ replicate n c ≡ take place row
    → (q : ℕ) → length front ≤ q → q < place → pixel row q ≡ c
painted_pixel row front n place c sum is q le lt =
    sym (get_or-take place row q false lt) ∙ ap (λ (r : Row). get_or r q false) (sym is)
    ∙ get_or-append_right front (replicate n c) (length front) q false refl le
    ∙ get_or-replicate n (q - length front) c false (omega arith)

-- painting up to a position before which there is no change
pub painted_up_to : (row : Row) (at : Spot) (place : ℕ) → GoesOnFrom row at → at.from ≤ length row → length at.front ≡ at.from - 1
    → at.from ≤ place → place ≤ length row → ((q : ℕ) → at.from ≤ q → q < place → is_change row q ≡ false)
    → at.front ++ replicate (place - length at.front) (is_black at.color) ≡ take place row
painted_up_to row at place goes inside len above within none =
    let c : Bool = is_black at.color in
    let p : ℕ = at.from - 1 in
    let n : ℕ = place - p in
    let sum : p + n ≡ place = omega arith in
    let same = pixels_same row at.from place c (goes.color inside) none in
    let painted : take (p + n) row ≡ take p row ++ replicate n c =
    take_painted row p n c (omega arith) (λ q ge lt. same q ge (omega arith)) in
    rw (len) (ap (λ (r : Row). r ++ replicate n c) goes.front ∙ sym painted ∙ ap (λ (m : ℕ). take m row) sum)

-- where a row goes on after pixels of one colour, it goes on before them, and they are a run of it
pub record GoesBack (row : Row) (at : Spot) (place : ℕ) : Type 0 where
  pub goes : GoesOnFrom row at
  pub run : IsRunTo row at.from place (is_black at.color)

pub goes_back : (row : Row) (at : Spot) (place : ℕ) → length at.front ≡ at.from - 1 → (at.from ≡ 0 → at.color ≡ White)
    → at.from ≤ place → place ≤ length row → at.front ++ replicate (place - length at.front) (is_black at.color) ≡ take place row
    → GoesBack row at place
goes_back row at place len start above within is =
    let c : Bool = is_black at.color in
    let n : ℕ = place - length at.front in
    let sum : length at.front + n ≡ place = omega arith in
    let white : at.from ≡ 0 → c ≡ false = λ e. ap is_black (start e) in
    let run : IsRunTo row at.from place c = record {
      same = λ q le lt. painted_pixel row at.front n place c sum is q (omega arith) lt;
      first = white;
    } in
    record {
      goes = record {
        front = painted_front_is row at.front n place c sum is ∙ ap (λ (m : ℕ). take m row) len;
        color = λ inside. run_before row at.from place c run at.from (omega arith) above;
      };
      run = run;
    }
