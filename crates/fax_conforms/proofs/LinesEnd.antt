-- Where lines begin and end, and one step after another.
use Rattle.hayro_ccitt.proofs.Names.{◌≡◌, ℕ, suc, ◌+◌, ◌-◌, [], ◌++◌, length, take, refl, ap, sym, subst, ◌∙◌, arith}
use Rattle.hayro_ccitt.proofs.Names.{append-nil, length-append, length-replicate, replicate, Color, Bits, Row}
use Rattle.hayro_ccitt.proofs.Names.{is_black, EncodesLine1D, EncodesLine2D}
use Rattle.std.proofs.lemmas.List.{take_all}
use Rattle.fax_conforms.specs.Standing.{Spot, LineFrom, RunsFrom, Leads, Never, IsOnly}
use Rattle.std.proofs.lemmas.List.{nil_from_length}

pub leads_on : {P Q R : Row → Bits → Type 0} (columns : ℕ) → Leads columns P Q → Leads columns Q R → Leads columns P R
leads_on columns f g row rest len =
    (λ p. (g row rest len).0 ((f row rest len).0 p), λ r. (f row rest len).1 ((g row rest len).1 r))

pub leads_never : {P Q : Row → Bits → Type 0} (columns : ℕ) → Leads columns P Q → Never columns Q → Never columns P
leads_never columns f none row rest len p = none row rest len ((f row rest len).0 p)

no_steps : (reference row : Row) (from : ℕ) (color : Color) (bits : Bits) → from ≡ suc (length row)
    → EncodesLine2D reference row from color bits → bits ≡ []
no_steps reference row from color bits e EncodesLine2D.over = refl
no_steps reference row from color bits e (EncodesLine2D.pass from2 word inside has left steps) = absurd (omega arith)
no_steps reference row from color bits e (EncodesLine2D.vertical from2 word k inside has exact steps) = absurd (omega arith)
no_steps reference row from color bits e (EncodesLine2D.horizontal from2 word inside has one two steps) = absurd (omega arith)

pub steps_end : (columns : ℕ) (reference : Row) (at : Spot) (here : Bits) → at.from ≡ suc columns → length at.front ≡ columns
    → Leads columns (LineFrom reference at here) (IsOnly at.front here)
steps_end columns reference at here from_is front_len row rest len = (to, back)
  where
    all : take (at.from - 1) row ≡ row
    all = take_all (at.from - 1) row (omega arith)

    to : LineFrom reference at here row rest → IsOnly at.front here row rest
    to (goes, (bits, steps, is)) =
        let none = no_steps reference row at.from at.color bits (omega arith) steps in
        (sym all ∙ sym goes.front, sym (is ∙ ap (λ (x : Bits). x ++ rest) none))

    back : IsOnly at.front here row rest → LineFrom reference at here row rest
    back (same, rest_is) =
        let last : suc (length row) ≡ at.from = omega arith in (
          record { front = sym same ∙ sym all; color = λ le. absurd (omega arith) },
          ([], subst (λ (n : ℕ). EncodesLine2D reference row n at.color []) last EncodesLine2D.over, sym rest_is),
        )

no_runs : (color : Color) (row : Row) (bits : Bits) → length row ≡ 0 → EncodesLine1D color row bits → bits ≡ []
no_runs color row bits e EncodesLine1D.over = refl
no_runs color row bits e (EncodesLine1D.run n word {row = others} spells some maximal rest) =
    absurd (let l = length-append (replicate n (is_black color)) others in
    omega (arith, l, length-replicate n (is_black color), e, some))

pub runs_end : (columns : ℕ) (at : Spot) (here : Bits) → length at.front ≡ columns
    → Leads columns (RunsFrom at here) (IsOnly at.front here)
runs_end columns at here front_len row rest len = (to, back)
  where
    to : RunsFrom at here row rest → IsOnly at.front here row rest
    to (others, bits, row_is, first, line, is) =
        let l : length row ≡ length at.front + length others = ap length row_is ∙ length-append at.front others in
        let none : length others ≡ 0 = omega (arith, l) in (
          row_is ∙ ap (λ (r : Row). at.front ++ r) (nil_from_length others none) ∙ append-nil at.front,
          sym (is ∙ ap (λ (x : Bits). x ++ rest) (no_runs at.color others bits none line)),
        )

    back : IsOnly at.front here row rest → RunsFrom at here row rest
    back (same, rest_is) =
        ([], [], same ∙ sym (append-nil at.front), (λ begun more e. cc), EncodesLine1D.over, sym rest_is)
