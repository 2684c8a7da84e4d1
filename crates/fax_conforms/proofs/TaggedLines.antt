-- Lines of each kind: those of two-dimensional Group 3 after their tags.
use Rattle.hayro_ccitt.proofs.Names.{◌≡◌, ℕ, Bool, true, false, [], ◌∷◌, ◌++◌, inl, inr, refl, ap, sym, ◌∙◌, Bits, Row, Group4}
use Rattle.hayro_ccitt.proofs.Names.{Group3_1D, Group3_2D}
use Rattle.fax_conforms.specs.Standing.{LineStands, Leads, Never, Passes}

abbrev pub StandsIn2D : Row → Bits → Row → Bits → Type 0
StandsIn2D reference here row rest = LineStands Group3_2D reference row here rest

tail_of : (tag : Bool) (line after rest : Bits) → tag ∷ after ≡ (tag ∷ line) ++ rest → after ≡ line ++ rest
tail_of tag line after rest e = cc

pub tagged_2d : (columns : ℕ) (reference : Row) (here after : Bits) → here ≡ false ∷ after
    → Leads columns (StandsIn2D reference here) (λ row rest. LineStands Group4 reference row after rest)
tagged_2d columns reference here after tag row rest len = (to, back)
  where
    to : StandsIn2D reference here row rest → LineStands Group4 reference row after rest
    to (bits, (line, inl (bits_are, runs)), is) =
        absurd (let e : false ∷ after ≡ true ∷ (line ++ rest) = sym tag ∙ is ∙ ap (λ (x : Bits). x ++ rest) bits_are in cc)
    to (bits, (line, inr (bits_are, steps)), is) =
        (line, steps, tail_of false line after rest (sym tag ∙ is ∙ ap (λ (x : Bits). x ++ rest) bits_are))

    back : LineStands Group4 reference row after rest → StandsIn2D reference here row rest
    back (line, steps, is) = (false ∷ line, (line, inr (refl, steps)), tag ∙ ap (λ (x : Bits). false ∷ x) is)

pub tagged_1d : (columns : ℕ) (reference : Row) (here after : Bits) → here ≡ true ∷ after
    → Leads columns (StandsIn2D reference here) (λ row rest. LineStands Group3_1D reference row after rest)
tagged_1d columns reference here after tag row rest len = (to, back)
  where
    to : StandsIn2D reference here row rest → LineStands Group3_1D reference row after rest
    to (bits, (line, inl (bits_are, runs)), is) =
        (line, runs, tail_of true line after rest (sym tag ∙ is ∙ ap (λ (x : Bits). x ++ rest) bits_are))
    to (bits, (line, inr (bits_are, steps)), is) =
        absurd (let e : true ∷ after ≡ false ∷ (line ++ rest) = sym tag ∙ is ∙ ap (λ (x : Bits). x ++ rest) bits_are in cc)

    back : LineStands Group3_1D reference row after rest → StandsIn2D reference here row rest
    back (line, runs, is) = (true ∷ line, (line, inl (refl, runs)), tag ∙ ap (λ (x : Bits). true ∷ x) is)

-- no line stands where there is no tag
pub untagged : (columns : ℕ) (reference : Row) (here : Bits) → here ≡ [] → Never columns (StandsIn2D reference here)
untagged columns reference here none row rest len (bits, (line, inl (bits_are, runs)), is) =
    absurd (let e : [] ≡ true ∷ (line ++ rest) = sym none ∙ is ∙ ap (λ (x : Bits). x ++ rest) bits_are in cc)
untagged columns reference here none row rest len (bits, (line, inr (bits_are, steps)), is) =
    absurd (let e : [] ≡ false ∷ (line ++ rest) = sym none ∙ is ∙ ap (λ (x : Bits). x ++ rest) bits_are in cc)

-- ---- Tags that are passed.
pub passes_tag_2d : (columns : ℕ) (reference : Row) (here after : Bits) → here ≡ false ∷ after
    → Passes columns (StandsIn2D reference) (λ here row rest. LineStands Group4 reference row here rest) here after
passes_tag_2d columns reference here after tag = record {
  passed = false ∷ [];
  is = tag;
  leads = λ more. tagged_2d columns reference (false ∷ more) more refl;
}

pub passes_tag_1d : (columns : ℕ) (reference : Row) (here after : Bits) → here ≡ true ∷ after
    → Passes columns (StandsIn2D reference) (λ here row rest. LineStands Group3_1D reference row here rest) here after
passes_tag_1d columns reference here after tag = record {
  passed = true ∷ [];
  is = tag;
  leads = λ more. tagged_1d columns reference (true ∷ more) more refl;
}
