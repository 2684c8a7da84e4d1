-- EOLs that stand here, one after another.
use Rattle.hayro_ccitt.proofs.Names.{◌≡◌, ℕ, zero, suc, ◌+◌, ◌-◌, ◌<◌, ◌≤◌, true, false, Option, Some, None, [], ◌∷◌, ◌++◌}
use Rattle.hayro_ccitt.proofs.Names.{◌↔◌, replicate}
use Rattle.hayro_ccitt.proofs.Names.{refl, ap, sym, subst, ◌∙◌, append_assoc, append_cancel_left, arith, Bits, EncodingMode}
use Rattle.hayro_ccitt.proofs.Names.{eol}
use Rattle.std.specs.Prelude.{IfNone}
use Rattle.hayro_ccitt.proofs.Names.{tag_of, after_eol, cond, leb, is_some, BitsAt, here, IfSome, common_steps}
use Rattle.hayro_ccitt.proofs.EncodedPictures.PicturesT4.{eol_stands}
use Rattle.fax_conforms.specs.Conforming.{EolStands, TaggedEolStands, EolsStand}

-- zeros and a one are an EOL, if there are eleven at least
pub eol_of_zeros : (zeros : ℕ) (here rest : Bits) → 11 ≤ zeros → here ≡ replicate zeros false ++ true ∷ rest → EolStands here rest
eol_of_zeros zeros here rest le is =
    let e : 11 + (zeros - 11) ≡ zeros = omega arith in (
      zeros - 11,
      is ∙ ap (λ (n : ℕ). replicate n false ++ true ∷ rest) (sym e)
          ∙ sym (append_assoc (replicate (11 + (zeros - 11)) false) (true ∷ []) rest),
    )

-- an EOL is followed by one thing alone
pub one_eol : (here x y : Bits) → EolStands here x → EolStands here y → x ≡ y
one_eol here x y (m, one) (n, two) =
    let e : Option.Some x ≡ Some y = sym (eol_stands m x) ∙ ap (after_eol 0) (sym one ∙ two) ∙ eol_stands n y in cc

-- of some EOLs one is passed
pub one_eol_less : (encoding : EncodingMode) (n : ℕ) (here next : Bits) → TaggedEolStands encoding here next
    → EolsStand encoding (suc n) here ↔ EolsStand encoding n next
one_eol_less encoding n here next (m, stands) = (to, back)
  where
    to : EolsStand encoding (suc n) here → EolsStand encoding n next
    to (closing, (fill, more, closes, is), (rest, begins)) =
        let other : here ≡ eol fill ++ (tag_of encoding ++ (more ++ rest)) =
        begins ∙ ap (λ (x : Bits). x ++ rest) is ∙ simp append_assoc refl in
        let same = one_eol here (tag_of encoding ++ (more ++ rest)) (tag_of encoding ++ next) (fill, other) (m, stands) in
        (more, closes, (rest, sym (append_cancel_left (tag_of encoding) (more ++ rest) next same)))

    back : EolsStand encoding n next → EolsStand encoding (suc n) here
    back (more, closes, (rest, begins)) = (
      (eol m ++ tag_of encoding) ++ more,
      (m, more, closes, refl),
      (rest, stands ∙ ap (λ (x : Bits). eol m ++ (tag_of encoding ++ x)) begins ∙ sym (simp append_assoc refl)),
    )

pub no_eol_more : (encoding : EncodingMode) (n : ℕ) (here : Bits) → ((rest : Bits) → TaggedEolStands encoding here rest → ⊥)
    → EolsStand encoding (suc n) here → ⊥
no_eol_more encoding n here none (closing, (fill, more, closes, is), (rest, begins)) =
    none (more ++ rest) (fill, begins ∙ ap (λ (x : Bits). x ++ rest) is ∙ simp append_assoc refl)

pub none_left : (encoding : EncodingMode) (here : Bits) → EolsStand encoding 0 here
none_left encoding here = ([], refl, (here, refl))

-- the same of a number of EOLs that isn't zero
pub one_eol_left : (encoding : EncodingMode) (n : ℕ) (here next : Bits) → 0 < n → TaggedEolStands encoding here next
    → EolsStand encoding n here ↔ EolsStand encoding (n - 1) next
one_eol_left encoding zero here next some stands = absurd (omega arith)
one_eol_left encoding (suc m) here next some stands =
    let e : m ≡ suc m - 1 = omega arith in
    subst (λ (k : ℕ). EolsStand encoding (suc m) here ↔ EolsStand encoding k next) e (one_eol_less encoding m here next stands)

pub no_eol_left : (encoding : EncodingMode) (n : ℕ) (here : Bits) → 0 < n → ((rest : Bits)
    → TaggedEolStands encoding here rest → ⊥)
    → EolsStand encoding n here → ⊥
no_eol_left encoding zero here some none stands = omega arith
no_eol_left encoding (suc m) here some none stands = no_eol_more encoding m here none stands

-- ---- By the zeros that were counted.
few_zeros : (n : ℕ) (x : Bits) → n < 11 → cond (leb 11 n) (Some x) None ≡ None
few_zeros n x lt = grind (arith, common_steps)

pub no_eol_by_zeros : (o : Option BitsAt) (n : ℕ) (start : Bits) → n < 11
    → IfSome o (λ after. after_eol 0 start ≡ cond (leb 11 n) (Some (here after)) None) → IfNone o (after_eol 0 start ≡ None)
    → (rest : Bits) → EolStands start rest → ⊥
no_eol_by_zeros (Some after) n start lt found none rest (fill, stands) =
    absurd (let e : Option.Some rest ≡ None = sym (eol_stands fill rest) ∙ ap (after_eol 0) (sym stands) ∙ found
    ∙ few_zeros n (here after) lt in cc)
no_eol_by_zeros None n start lt found none rest (fill, stands) =
    absurd (let e : Option.Some rest ≡ None = sym (eol_stands fill rest) ∙ ap (after_eol 0) (sym stands) ∙ none in cc)

pub eol_by_zeros : (o : Option BitsAt) (n : ℕ) (start bits : Bits) → 11 ≤ n
    → IfSome o (λ after. (after.bits ≡ bits) × (start ≡ replicate n false ++ true ∷ here after))
    → IfSome o (λ after. EolStands start (here after))
eol_by_zeros (Some after) n start bits le found = eol_of_zeros n start (here after) le found.1
eol_by_zeros None n start bits le found = tt

pub no_eol_at_end : (o : Option BitsAt) (start : Bits) → IfNone o (after_eol 0 start ≡ None)
    → IfNone o ((rest : Bits) → EolStands start rest → ⊥)
no_eol_at_end (Some after) start none = tt
no_eol_at_end None start none = λ rest (fill, stands).
    absurd (let e : Option.Some rest ≡ None = sym (eol_stands fill rest) ∙ ap (after_eol 0) (sym stands) ∙ none in cc)

pub none_there : {A : Type 0} (o : Option A) (P : Type 0) → is_some o ≡ false → IfNone o P → P
none_there (Some x) P e none = absurd cc
none_there None P e none = none
