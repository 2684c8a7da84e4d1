-- Zeros that are passed one by one.
use Rattle.hayro_ccitt.proofs.Names.{◌≡◌, ℕ, zero, suc, ◌-◌, ◌<◌, false, ◌∷◌, ◌++◌, ◌↔◌, replicate, ap, sym, ◌∙◌, Bits}
use Rattle.hayro_ccitt.proofs.Names.{arith}

pub iff_on : {A B C : Type 0} → (A ↔ B) → (B ↔ C) → (A ↔ C)
iff_on f g = (λ a. g.0 (f.0 a), λ c. f.1 (g.1 c))

tail_same : (x y : Bits) → false ∷ x ≡ false ∷ y → x ≡ y
tail_same x y e = cc

less_one : (m : ℕ) → replicate (suc m - 1) false ≡ replicate m false
less_one m = let e : suc m - 1 ≡ m = omega arith in ap (λ (n : ℕ). replicate n false) e

-- one zero less
pub zero_passed : (here next : Bits) (left : ℕ) (rest : Bits) → 0 < left → here ≡ false ∷ next
    → (here ≡ replicate left false ++ rest) ↔ (next ≡ replicate (left - 1) false ++ rest)
zero_passed here next zero rest some is = absurd (omega arith)
zero_passed here next (suc m) rest some is = (
  λ e. tail_same next (replicate m false ++ rest) (sym is ∙ e) ∙ ap (λ (x : Bits). x ++ rest) (sym (less_one m)),
  λ e. is ∙ ap (λ (x : Bits). false ∷ x) (e ∙ ap (λ (x : Bits). x ++ rest) (less_one m)),
)

-- no zero is here
pub no_zero : (here : Bits) (left : ℕ) (rest : Bits) → 0 < left → ((more : Bits) → here ≡ false ∷ more → ⊥)
    → here ≡ replicate left false ++ rest → ⊥
no_zero here zero rest some none e = omega arith
no_zero here (suc m) rest some none e = none (replicate m false ++ rest) e
