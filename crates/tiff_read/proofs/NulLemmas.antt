-- The bytes before the first NUL.
use Rattle.std.proofs.Common.{arith, ◌≡◌, ◌∙◌, ◌<◌, ◌≤◌, ◌+◌, ℕ, zero, suc, List, [], ◌∷◌, get_or, length, take, refl, ap}
use Rattle.std.proofs.Common.{Option, Some, option_map}
use Rattle.tiff_read.specs.Texts.{before_nul, cost_of}

-- They end at the first NUL.
pub before_nul-at : (bytes : List ℕ) (i : ℕ) → ((k : ℕ) → k < i → get_or bytes k 0 ≡ 0 → ⊥) → i < length bytes
    → get_or bytes i 0 ≡ 0 → before_nul bytes ≡ take i bytes
unfolding before_nul
before_nul-at [] i others within nul = absurd (omega arith)
before_nul-at (zero ∷ bytes) zero others within nul = refl
before_nul-at (zero ∷ bytes) (suc i) others within nul = absurd (others 0 (omega arith) refl)
before_nul-at (suc b ∷ bytes) zero others within nul = absurd (omega (arith, nul))
before_nul-at (suc b ∷ bytes) (suc i) others within nul =
    let later : (k : ℕ) → k < i → get_or bytes k 0 ≡ 0 → ⊥ = λ k below. others (suc k) (omega (arith, below)) in
    ap (λ (xs : List ℕ). suc b ∷ xs) (before_nul-at bytes i later (omega (arith, within)) nul)

-- Without a NUL they are all.
pub before_nul-all : (bytes : List ℕ) → ((k : ℕ) → k < length bytes → get_or bytes k 0 ≡ 0 → ⊥) → before_nul bytes ≡ bytes
unfolding before_nul
before_nul-all [] others = refl
before_nul-all (zero ∷ bytes) others = absurd (others 0 (omega arith) refl)
before_nul-all (suc b ∷ bytes) others =
    ap (λ (xs : List ℕ). suc b ∷ xs) (before_nul-all bytes (λ k below. others (suc k) (omega (arith, below))))

-- If they are fewer than a limit, they are those of the bytes before it.
pub before_nul-take : (most : ℕ) (bytes : List ℕ) → length (before_nul (take (suc most) bytes)) ≤ most
    → before_nul (take (suc most) bytes) ≡ before_nul bytes
unfolding before_nul
before_nul-take most [] few = refl
before_nul-take most (zero ∷ bytes) few = refl
before_nul-take zero (suc b ∷ bytes) few = absurd (omega (arith, few))
before_nul-take (suc most) (suc b ∷ bytes) few =
    ap (λ (xs : List ℕ). suc b ∷ xs) (before_nul-take most bytes (omega (arith, few)))

-- The text of a tag, of whose bytes no more were looked at than there are steps.
pub text_found : (most : ℕ) (bytes text : List ℕ) (said : Option (List ℕ)) → Some bytes ≡ said
    → text ≡ before_nul (take (1 + most) bytes) → length text ≤ most → Some text ≡ option_map before_nul said
text_found most bytes text said found cut few =
    let next : 1 + most ≡ suc most = omega arith in
    let near : text ≡ before_nul (take (suc most) bytes) = cut ∙ ap (λ (n : ℕ). before_nul (take n bytes)) next in
    rw (← found) (ap Some (near ∙ before_nul-take most bytes (omega (arith, ap length near, few))))

pub cost_found : (text : List ℕ) (said : Option (List ℕ)) → Some text ≡ said → cost_of said ≡ 1 + length text
cost_found text said found = rw (← found) refl

-- No more bytes come before the first NUL of the first bytes.
pub before_nul-few : (most : ℕ) (bytes : List ℕ) → length (before_nul (take most bytes)) ≤ length (before_nul bytes)
unfolding before_nul
before_nul-few zero bytes = omega arith
before_nul-few (suc most) [] = omega arith
before_nul-few (suc most) (zero ∷ bytes) = omega arith
before_nul-few (suc most) (suc b ∷ bytes) = omega (arith, before_nul-few most bytes)

-- The text of a tag costs more than there is exactly if so many of its bytes were looked at.
pub text_spent : (most : ℕ) (bytes text : List ℕ) (said : Option (List ℕ)) → Some bytes ≡ said
    → text ≡ before_nul (take (1 + most) bytes) → most < length text → most + 1 < cost_of (option_map before_nul said)
text_spent most bytes text said found cut less =
    let few = before_nul-few (1 + most) bytes in
    rw (← found) (omega (arith, ap length cut, few, less))
