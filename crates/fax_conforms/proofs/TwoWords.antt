-- A word that stands here twice.
use Rattle.hayro_ccitt.proofs.Names.{◌≡◌, ◌++◌, ◌↔◌, Option, Some, None, is_some, IfSome, IsTrue, refl, ap, sym, ◌∙◌}
use Rattle.std.specs.Prelude.{IfNone}
use Rattle.hayro_ccitt.proofs.Names.{append_cancel_left, Bits, BitsAt, here}

pub two_words : (word start following : Bits) (o : Option BitsAt) → start ≡ word ++ following
    → IfSome o (λ after. following ≡ word ++ here after)
    → IfNone o ((rest : Bits) → following ≡ word ++ rest → ⊥)
    → IsTrue (is_some o) ↔ ((rest : Bits) × (start ≡ word ++ (word ++ rest)))
two_words word start following (Some after) is found none =
    (λ t. (here after, is ∙ ap (λ (x : Bits). word ++ x) found), λ stands. refl)
two_words word start following None is found none =
    (λ t. absurd cc, λ (rest, stands). absurd (none rest (append_cancel_left word following (word ++ rest) (sym is ∙ stands))))

pub no_words : (word start : Bits) → ((rest : Bits) → start ≡ word ++ rest → ⊥)
    → (rest : Bits) × (start ≡ word ++ (word ++ rest)) → ⊥
no_words word start none (rest, stands) = none (word ++ rest) stands

pub no_second_word : (word start following : Bits) (o : Option BitsAt) → start ≡ word ++ following
    → IfNone o ((rest : Bits) → following ≡ word ++ rest → ⊥) → IfNone o ((rest : Bits) → start ≡ word ++ (word ++ rest) → ⊥)
no_second_word word start following (Some after) is none = tt
no_second_word word start following None is none =
    λ rest stands. none rest (append_cancel_left word following (word ++ rest) (sym is ∙ stands))
