-- The values of the turns of a repeated step, however many turns it is allowed.
use Rattle.fax_bits.proofs.Names.{◌≡◌, ℕ, zero, suc, ◌<◌, List, [], ◌++◌, refl, ap, arith, Turn, gathered}
use Rattle.fax_bits.proofs.Repetition.Repeated.{Shrinks}

-- the values of the turns after a turn
abbrev pub gathered_after : {S R A : Type 0} → (S → List A) → Turn S R → List A
gathered_after rest (Turn.next s) = rest s
gathered_after rest (Turn.done r) = []

-- with more turns than the size of the state, the number of turns doesn't matter
pub gathered_same : {S R A : Type 0} (step : S → Turn S R) (gives : S → List A) (size : S → ℕ) → Shrinks step size
    → (n m : ℕ) (s : S) → size s < n → size s < m → gathered step gives n s ≡ gathered step gives m s
gathered_same step gives size shrinks zero m s h k = absurd (omega arith)
gathered_same step gives size shrinks (suc n) zero s h k = absurd (omega arith)
gathered_same {S} {R} {A} step gives size shrinks (suc n) (suc m) s h k = grind (arith, gathered_same step gives size shrinks n m)

-- a turn of a repetition that is allowed more turns than the size of its state
pub gathered_turn : {S R A : Type 0} (step : S → Turn S R) (gives : S → List A) (size : S → ℕ) → Shrinks step size → (s : S)
    → gathered step gives (suc (size s)) s ≡ gives s ++ gathered_after (λ t. gathered step gives (suc (size t)) t) (step s)
gathered_turn {S} {R} {A} step gives size shrinks s = by_step (step s) refl
  where
    by_step : (turn : Turn S R) → step s ≡ turn → gives s ++ gathered_after (gathered step gives (size s)) turn ≡ gives s
        ++ gathered_after (λ t. gathered step gives (suc (size t)) t) turn
    by_step (Turn.next t) e = ap (λ (x : List A). gives s ++ x)
        (gathered_same step gives size shrinks (size s) (suc (size t)) t (shrinks s t e) (omega arith))
    by_step (Turn.done r) e = refl
