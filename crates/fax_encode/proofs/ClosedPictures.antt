-- A closed picture is what its settings choose.
use Rattle.fax_encode.proofs.Names.{◌≡◌, ℕ, Bool, List, IfOk, ap, subst, ◌∙◌, Result, IfOk-weaker, bits_in, bits_of, Row}
use Rattle.fax_encode.proofs.Names.{chosen_t4, chosen_t6, filled_up, chosen, group3_settings, group4_settings, EncodeSettings}
use Rattle.fax_encode.proofs.ChosenBySettings.{chosen_by_settings}

module _ {X E : Type 0} (items : X → List ℕ) (result : Result X E) (settings : EncodeSettings) (columns : ℕ) (rows : List Row)
    (encoded : IfOk result (λ x. bits_in settings.order (items x) ≡ filled_up (chosen settings columns rows))) where
  abbrev IsBy : EncodeSettings → Type 0
  IsBy s = IfOk result (λ x. bits_in s.order (items x) ≡ filled_up (chosen s columns rows))

  pub in_group4 : (aligned : Bool) → settings ≡ group4_settings aligned
      → IfOk result (λ x. bits_of (items x) ≡ filled_up (chosen_t6 columns aligned rows))
  in_group4 aligned is =
      IfOk-weaker result _ _ (λ x e. e ∙ ap filled_up ((chosen_by_settings columns 1 rows).0 aligned)) (subst IsBy is encoded)

  pub in_group3 : settings ≡ group3_settings → IfOk result (λ x. bits_of (items x) ≡ filled_up (chosen_t4 rows))
  in_group3 is = IfOk-weaker result _ _ (λ x e. e ∙ ap filled_up (chosen_by_settings columns 1 rows).1) (subst IsBy is encoded)
