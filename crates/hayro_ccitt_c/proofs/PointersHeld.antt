-- A struct of a pointer and an allocator, as the machine holds it: opened, and closed again. Assumes `Logic`.
use Rattle.std.proofs.Common.{◌≡◌, ◌∙◌, List, [], ◌∷◌, ◌++◌, refl}
use mathlib.Core.Bool.{Bool, true, false, ◌&&◌}
use lib.Dec.{T}
use seplogic.Ra.Ura.{Ura}
use mir.Syntax.{impl, tnil, dnil, ty_ptr}
use mir.Val.{Val, vstruct, vcons, vnil, of_list, has_ty, WT}
use base.Fml.{Fml}
use types.Logic.{Logic}
use types.Kit.{Item, Goal, Seq, Step, step, ‵, ◌$◌, move, drop, fsplit, fjoin, fpick, fpack, feq_i, feq_l}
use denote.RattleType.{RattleType, Valss}
use denote.Builtin.{RawPtr}
use denote.RawPtr.{Ptr, ptr_val}
use denote.Steps.{nothing}
use denote.Param.{layout}
use denote.Param.Laws.{Laws}
use denote.Struct.Struct.{Struct, within}
use Rattle.core.specs.declared.alloc.Allocator.{Ghosts}
use Rattle.core.proofs.alloc.Calls.{Al, handle_tells}
use Rattle.core.proofs.atomic.Steps.{Ptr-Good}
use Rattle.core.proofs.cell.Inside.{Good}

-- two machine values, side by side
abbrev pub beside : Val → Val → Val
beside v w = vstruct (vcons v (vcons w vnil))

both_hold : (x y : Bool) → T x → T y → T (x && (y && true))
both_hold true true s t = tt
both_hold true false s t = absurd t
both_hold false y s t = absurd s

module _ (A : RattleType) (L : Laws A) (g : Ghosts A.Denot) where
  -- the allocator, as the steps want it
  abbrev pub allocator : Al
  allocator = record { row = A; laws = L; g = g; d = impl [] tnil dnil; drops = impl [] tnil dnil }

  -- what the two fields own
  abbrev pub fields : Ptr → A.Denot → List Val → Fml
  fields p a vs = (Struct (record { name = []; args = []; types = []; fields = RawPtr ∷ A ∷ [] })).own_val (p, (a, tt)) vs

  -- such a value has its type
  pub beside_good : (p : Ptr) (h : Val) → Good (layout A) h → T (has_ty ty_ptr (ptr_val p) && (has_ty (layout A) h && true))
      × WT (beside (ptr_val p) h)
  beside_good p h fits = (
    both_hold (has_ty ty_ptr (ptr_val p)) (has_ty (layout A) h) (Ptr-Good p).0 fits.0,
    ((Ptr-Good p).1, (fits.1, tt)),
  )

  module _ {M : Type 1} {𝓤 : Ura M} {𝓛 : Logic 𝓤} {K : Type 0} {Γ : List (Item 𝓤)} {G : Goal 𝓤 𝓛.H} where
    -- open: the pointer owns nothing, and what is left is the allocator's
    pub open_fields : K → (p : Ptr) (a : A.Denot) (vs : List Val)
        → ((h : Val) → vs ≡ beside (ptr_val p) h ∷ [] → Good (layout A) h → Seq K 𝓛 (‵ (A.own_val a (h ∷ [])) ∷ Γ) G)
        → Seq K 𝓛 (‵ (fields p a vs) ∷ Γ) G
    open_fields t p a vs k =
        fpick t (λ parts. fsplit t $ feq_l t (λ whole. fsplit t $ feq_l t (λ pointer. fsplit t $
        handle_tells allocator t a parts.1.0 (λ h only_one fits. move t (1 ∷ []) $ drop t $
        k h (whole ∙ (λ i. vstruct (of_list (pointer i ++ (only_one i ++ []))) ∷ [])) fits))))

    -- closed
    pub close_fields : K → (p : Ptr) (a : A.Denot) (h : Val)
        → Step K 𝓛 (‵ (fields p a (beside (ptr_val p) h ∷ [])) ∷ Γ) G (‵ (A.own_val a (h ∷ [])) ∷ Γ) G
    close_fields t p a h = step (λ s.
        nothing t $ move t (1 ∷ 0 ∷ []) $ fjoin t $ feq_i t (List Val) (ptr_val p ∷ []) (ptr_val p ∷ []) refl $ fjoin t $
        feq_i t (List Val) (beside (ptr_val p) h ∷ []) (beside (ptr_val p) h ∷ []) refl $ fjoin t $
        fpack t (Valss (RawPtr ∷ A ∷ []))
        (within (record { name = []; args = []; types = []; fields = RawPtr ∷ A ∷ [] }) (p, (a, tt))
        (beside (ptr_val p) h ∷ []))
        (ptr_val p ∷ [], (h ∷ [], tt)) $ s)
