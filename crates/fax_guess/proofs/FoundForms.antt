-- What is found among the guesses.
use Rattle.std.proofs.Common.{arith, ◌≡◌, ◌∙◌, ◌<◌, ◌≤◌, ◌+◌, ◌-◌, ℕ, List, [], ◌∷◌, Bool, true, false, refl}
use Rattle.std.proofs.Common.{sym}
use Rattle.std.proofs.Common.{get_or, length, take, drop, All, Contains, inl, inr, subst, Result, Ok, Err, Option, Some, OnOk}
use Rattle.std.proofs.Common.{IfOk, min, add-one, ◌*◌, ◌^◌}
use Rattle.std.proofs.lemmas.Bool.{cases_lt}
use Rattle.std.proofs.Math.Nat.{mul-le-mul_right, suc-mul}
use Rattle.std.proofs.lemmas.List.{take-append-drop, take_all}
use Rattle.std.proofs.lemmas.Result.{on_ok_weaker}
use Rattle.std.proofs.lemmas.List.Edits.{length-insert}
use Rattle.std.proofs.lemmas.List.Elements.{All-append, All-cons, All-drop, All-take}
use Rattle.std.proofs.lemmas.List.Elements.{Contains-append_cases, Contains-append_left, Contains-append_right}
use Rattle.std.specs.List.{insert}
use Rattle.hayro_ccitt.specs.BitOrder.{BitOrder}
use Rattle.hayro_ccitt.specs.BitOrder.TheVariants.{HighestFirst, LowestFirst}
use Rattle.hayro_ccitt.specs.Bits.{BitsFit, bits_in}
use Rattle.hayro_ccitt.specs.DecodeSettings.{DecodeSettings}
use Rattle.hayro_ccitt.specs.EncodingMode.{EncodingMode}
use Rattle.hayro_ccitt.specs.EncodingMode.TheVariants.{Group4, Group3_1D, Group3_2D}
use Rattle.hayro_ccitt.specs.PlainReading.{plain}
use Rattle.fax_guess.specs.Guesses.{FindsAll, IsFound, IsReadSo, Keeps, TakesAll, form_of, is_tried}
use Rattle.fax_guess.specs.Outcomes.{IsWithin}
use Rattle.fax_guess.specs.declared.forms.Form.{Form}
use Rattle.fax_guess.specs.declared.forms.TheConstants.{FORMS}
use Rattle.fax_guess.specs.declared.guess.Guess.{Guess}
use Rattle.fax_guess.specs.declared.reading.Outcome.{Outcome}

-- Each form that is tried is one of the list.
listed : (encoding : EncodingMode) (is_aligned : Bool) (order : BitOrder) → is_tried encoding is_aligned ≡ true
    → (k : ℕ) × (k < 10) × (get_or FORMS k (encoding, is_aligned, order) ≡ (encoding, is_aligned, order))
listed Group3_1D false HighestFirst tried = (0, omega arith, refl)
listed Group3_2D false HighestFirst tried = (1, omega arith, refl)
listed Group4 false HighestFirst tried = (2, omega arith, refl)
listed Group4 true HighestFirst tried = (3, omega arith, refl)
listed Group3_1D true HighestFirst tried = (4, omega arith, refl)
listed Group3_1D false LowestFirst tried = (5, omega arith, refl)
listed Group3_2D false LowestFirst tried = (6, omega arith, refl)
listed Group4 false LowestFirst tried = (7, omega arith, refl)
listed Group4 true LowestFirst tried = (8, omega arith, refl)
listed Group3_1D true LowestFirst tried = (9, omega arith, refl)
listed Group3_2D true HighestFirst tried = absurd (cc tried)
listed Group3_2D true LowestFirst tried = absurd (cc tried)

-- Where each form of the list is found, all are.
pub finds_all : (columns : ℕ) (bytes : List ℕ) (guesses : List Guess)
    → ((k : ℕ) → k < 10 → (form : EncodingMode × Bool × BitOrder) → IsFound columns bytes guesses (form_of (get_or FORMS k form)))
    → FindsAll columns bytes guesses
finds_all columns bytes guesses each form tried =
    let (k, within, is) = listed form.encoding form.is_aligned form.order tried in
    subst (λ (f : EncodingMode × Bool × BitOrder). IsFound columns bytes guesses (form_of f)) is
    (each k within (form.encoding, form.is_aligned, form.order))

-- What is found stays found.
pub found_kept : (columns : ℕ) (bytes : List ℕ) (old new : List Guess) (form : Form) → Keeps old new
    → IsFound columns bytes old form → IsFound columns bytes new form
found_kept columns bytes old new form kept found begins takes = kept _ _ (found begins takes)

-- A guess stays where another one is placed among them.
moved : (guesses : List Guess) (place : ℕ) (guess other : Guess) → Contains guesses other
    → Contains (insert guesses place guess) other
moved guesses place guess other has =
    let split = subst (λ (xs : List Guess). Contains xs other) (sym (take-append-drop place guesses)) has in
    elim (Contains-append_cases (take place guesses) (drop place guesses) other split) [
      | inl front ↦ Contains-append_left (take place guesses) (guess ∷ drop place guesses) other front
      | inr back ↦
          Contains-append_right (take place guesses) (guess ∷ drop place guesses) other
          (Contains-append_right (guess ∷ []) (drop place guesses) other back)
    ]

pub kept_placed : (guesses : List Guess) (place : ℕ) (guess : Guess) → Keeps guesses (insert guesses place guess)
kept_placed guesses place guess settings order has = record {
  guess = has.guess;
  among = moved guesses place guess has.guess has.among;
  by = has.by;
  in_order = has.in_order;
}

-- Nothing is among no guesses.
pub none_among : (columns : ℕ) (bytes : List ℕ) (old new : List Guess) → length old ≡ 0 → FindsAll columns bytes old
    → FindsAll columns bytes new
none_among columns bytes old new none found form tried begins takes =
    let (at, within, is) = (found form tried begins takes).among in absurd (omega (arith, none, within))

-- Guesses with another one are readings of the data, and at most ten.
pub placed_guesses : (bytes : List ℕ) (best new : List Guess) (place : ℕ) (guess : Guess)
    → new ≡ take 10 (insert best place guess) → All (IsReadSo bytes) best → IsReadSo bytes guess → All (IsReadSo bytes) new
placed_guesses bytes best new place guess made read one =
    let front = All-take (IsReadSo bytes) place best read in
    let back = All-cons (IsReadSo bytes) guess (drop place best) one (All-drop (IsReadSo bytes) place best read) in
    rw made (All-take (IsReadSo bytes) 10 (insert best place guess)
    (All-append (IsReadSo bytes) (take place best) (guess ∷ drop place best) front back))

-- Those before it are still there.
pub kept_guesses : (best new : List Guess) (place : ℕ) (guess : Guess) → new ≡ take 10 (insert best place guess)
    → length best < 10 → place ≤ length best → Keeps best new
kept_guesses best new place guess made few within =
    let all : length (insert best place guess) ≤ 10 = omega (arith, few, length-insert best place guess within) in
    rw (made, take_all 10 (insert best place guess) all) (kept_placed best place guess)

-- The width that is given is the one that was tried.
pub found_width : {T E : Type 0} (result : Result T E) (columns : Option ℕ) (given : ℕ) (enough : Type 0) (found : ℕ → Type 0)
    → columns ≡ Some given → OnOk result (enough → found given)
    → OnOk result ((width : ℕ) → columns ≡ Some width → enough → found width)
found_width result columns given enough found is tried =
    on_ok_weaker result (λ tried width said room.
    let same : given ≡ width = cc (sym is ∙ said) in subst found same (tried room)) tried

-- What holds anyway holds after a success.
pub on_ok : {T E P : Type 0} (result : Result T E) → P → OnOk result P
on_ok (Ok value) holds = holds
on_ok (Err error) holds = tt

-- A reading that takes all data ends with its last byte but those of zeros.
pub bits_of_all : (settings : DecodeSettings) (order : BitOrder) (bytes : List ℕ) (outcome : Outcome) (bits : ℕ) → BitsFit bytes
    → IsWithin (length bytes) outcome → outcome.end ≡ (plain settings (bits_in order bytes)).outcome
    → IfOk outcome.end (λ count. bits ≡ min (8 * count) (2 ^ 64 - 1)) → (all : TakesAll settings order bytes)
    → bits ≡ 8 * all.count
bits_of_all settings order bytes outcome bits fit within end read all =
    let whole = end ∙ all.read in
    let few = rw whole at within.bytes in
    let many = rw whole at read in
    omega (arith, fit, few, many)

-- Some steps are left for the next of ten readings.
pub some_left : (before now k cost : ℕ) → 10 * cost ≤ before → before ≤ now + k * cost → k < 10 → 0 < cost → 0 < now
some_left before now k cost enough paid few some =
    let most : k * cost ≤ 9 * cost = mul-le-mul_right {m = k} {n = 9} cost (omega (arith, few)) in
    omega (arith, enough, paid, some, most)

-- One reading more is paid.
pub paid_more : (before now next k cost : ℕ) → before ≤ now + k * cost → now ≤ next + cost → before ≤ next + (k + 1) * cost
paid_more before now next k cost paid one = rw (add-one k, suc-mul k cost) (omega (arith, paid, one))

-- One form more is found.
pub one_more_found : (columns : ℕ) (bytes : List ℕ) (old new : List Guess) (index : ℕ) (form : Form) → index < 10 → Keeps old new
    → ((k : ℕ) → k < index → (f : EncodingMode × Bool × BitOrder) → IsFound columns bytes old (form_of (get_or FORMS k f)))
    → ((f : EncodingMode × Bool × BitOrder) → form ≡ form_of (get_or FORMS index f)) → IsFound columns bytes new form
    → (k : ℕ) → k < index + 1 → (f : EncodingMode × Bool × BitOrder) → IsFound columns bytes new (form_of (get_or FORMS k f))
one_more_found columns bytes old new index form within kept before is found k below f = elim (cases_lt k index) [
  | inl less ↦ found_kept columns bytes old new _ kept (before k less f)
  | inr more ↦
      let same : index ≡ k = omega (arith, below, more) in
      subst (λ (i : ℕ). IsFound columns bytes new (form_of (get_or FORMS i f))) same
      (subst (λ (one : Form). IsFound columns bytes new one) (is f) found)
]
