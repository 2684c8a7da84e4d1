-- Pages that are found one after another.
use Rattle.std.proofs.Common.{◌≡◌, ℕ, ◌+◌, ◌-◌, ◌<◌, ◌≤◌, List, [], ◌∷◌, ◌++◌, Ok, refl, sym, ap, subst, ◌∙◌, arith}
use Rattle.std.specs.Prelude.{Result}
use Rattle.hayro_ccitt.specs.DecodeError.{DecodeError}
use Rattle.fax_callers.specs.Pages.{EndBy, StandBy}

module _ (from : ℕ → Result ℕ DecodeError) (size : ℕ) where
  -- one page more
  pub one_page_more : (first : ℕ) (ends : List ℕ) (begin count : ℕ) → EndBy from size first ends begin → 0 < count
      → begin + count ≤ size → Ok count ≡ from begin → EndBy from size first (ends ++ (begin + count) ∷ []) (begin + count)
  one_page_more first [] begin count at some within read =
      let same : count ≡ begin + count - begin = omega arith in
      rw (at) (omega arith, within, sym read ∙ ap Ok same, refl)
  one_page_more first (next ∷ ends) begin count at some within read =
      (at.0, at.1, at.2, one_page_more next ends begin count at.3 some within read)

  -- no page begins at a position
  abbrev pub NoPage : ℕ → Type 0
  NoPage last = (count : ℕ) → 0 < count → last + count ≤ size → from last ≡ Ok count → ⊥

  -- If pages that are read up to their ends fill the bytes, these are found, and none is left where no page begins.
  pub same_pages : (page : ℕ → ℕ → Type 0) → ((begin count : ℕ) → page begin count → from begin ≡ Ok count)
      → (begin last : ℕ) (ends all : List ℕ) → EndBy from size begin ends last → NoPage last
      → StandBy page size begin all → (ends ≡ all) × (last ≡ size)
  same_pages page law begin last [] [] at none stand = (refl, omega (arith, at, stand))
  same_pages page law begin last [] (end ∷ all) at none stand =
      absurd (none (end - begin) (omega (arith, stand.0)) (omega (arith, at, stand.0, stand.1)) (subst
      (λ (b : ℕ). from b ≡ Ok (end - begin)) at (law begin (end - begin) stand.2)))
  same_pages page law begin last (next ∷ ends) [] at none stand = absurd (omega (arith, at.0, at.1, stand))
  same_pages page law begin last (next ∷ ends) (end ∷ all) at none stand =
      let read : ◌≡◌ {A = Result ℕ DecodeError} (Ok (next - begin)) (Ok (end - begin)) =
      sym at.2 ∙ law begin (end - begin) stand.2 in
      let count : next - begin ≡ end - begin = cc in
      let same : end ≡ next = omega (arith, count, at.0, stand.0) in
      let rest = same_pages page law next last ends all at.3 none
      (subst (λ (e : ℕ). StandBy page size e all) same stand.3) in
      (rw (same) (ap (λ (l : List ℕ). next ∷ l) rest.0), rest.1)
