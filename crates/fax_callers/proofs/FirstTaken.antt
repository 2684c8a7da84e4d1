-- What a sink of the first rows means after some rows.
use Rattle.std.proofs.Common.{◌≡◌, ℕ, ◌+◌, List, [], ◌∷◌, length, take, refl, sym, ap, ◌∙◌, arith, Ok, Err}
use Rattle.std.specs.Prelude.{Result, IfErr, IfOk}
use Rattle.std.proofs.lemmas.List.{length-take}
use Rattle.hayro_ccitt.specs.DecodeError.{DecodeError}
use Rattle.hayro_ccitt.specs.Answers.{IsFault, meaning_after}
use Rattle.hayro_ccitt.specs.Context.{Held}
use Rattle.hayro_ccitt.specs.Decoding.{SinkState, TakesRows}
use Rattle.hayro_ccitt.specs.PlainReading.{Reading}
use Rattle.hayro_ccitt.specs.Rows.{Row, changes}
use Rattle.fax_callers.specs.FirstRows.{Firsts}
use Rattle.fax_callers.specs.Readings.{EndsAs}

-- the step of the sink
abbrev pub takes : {M : Type 0} → (M → List ℕ → M) → Firsts M → List ℕ → Firsts M
takes step before row = record { meaning = step before.meaning row; rows = before.rows + 1; most = before.most }

-- the other sink accepted the rows, and they are counted
pub took : {M : Type 0} (step : M → List ℕ → M) (meaning : M) (n most : ℕ) (rows : List Row)
    → meaning_after (takes step) (record { meaning = meaning; rows = n; most = most }) rows
    ≡ record { meaning = meaning_after step meaning rows; rows = n + length rows; most = most }
took step meaning n most [] =
    ap (λ (k : ℕ). record { meaning = meaning; rows = k; most = most }) (let e : n ≡ n + 0 = omega arith in e)
took step meaning n most (row ∷ rows) =
    let e : n + 1 + length rows ≡ n + length (row ∷ rows) = omega arith in
    took step (step meaning (changes row)) (n + 1) most rows
    ∙ ap (λ (k : ℕ). record { meaning = meaning_after step (step meaning (changes row)) rows; rows = k; most = most }) e

-- a sink of the first rows that had accepted none counts those that were accepted, and the other sink accepted them
pub record IsFirst {M : Type 0} (step : M → List ℕ → M) (reading : Reading) (before after : SinkState (Firsts M))
    (held : Held) : Type 0 where
  pub meaning : after.meaning.meaning ≡ meaning_after step before.meaning.meaning (take after.meaning.rows reading.rows)
  pub rows : after.meaning.rows ≡ held.taken
  pub most : after.meaning.most ≡ before.meaning.most

-- as decoding leaves it
pub is_first : {M : Type 0} (step : M → List ℕ → M) (reading : Reading) (before after : SinkState (Firsts M)) (held : Held)
    (answer : Result ℕ DecodeError) → before.meaning.rows ≡ 0 → TakesRows reading.rows reading.outcome reading.has_eols
    (takes step) before after held answer → IsFirst step reading before after held
is_first {M} step reading before after held answer begun left =
    let rows : List Row = take held.taken reading.rows in
    let is = left.meaning ∙ took step before.meaning.meaning before.meaning.rows before.meaning.most rows in
    let count : after.meaning.rows ≡ held.taken =
    omega (arith, ap (λ (f : Firsts M). f.rows) is, begun, length-take held.taken reading.rows, left.taken) in
    record {
      meaning = ap (λ (f : Firsts M). f.meaning) is
          ∙ ap (λ (n : ℕ). meaning_after step before.meaning.meaning (take n reading.rows)) (sym count);
      rows = count;
      most = ap (λ (f : Firsts M). f.most) is;
    }

-- a call ends as the reading does
pub ends_as : (answer outcome : Result ℕ DecodeError) → IfOk answer (λ n. outcome ≡ Ok n)
    → IfErr answer (λ e. IsFault e → outcome ≡ Err e) → EndsAs answer outcome
ends_as (Ok n) outcome ok fault = rw ok refl
ends_as (Err e) outcome ok fault = fault
