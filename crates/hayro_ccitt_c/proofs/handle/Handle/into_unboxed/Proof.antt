-- `into_unboxed` changes the type back to one that says what the pointer points to: it owns what the handle owned.
use Rattle.std.proofs.Common.{◌≡◌, List, [], ◌∷◌, ◌++◌, Option, Some, None, IsSome, refl, sym, ap, subst}
use mir.Val.{Val}
use base.Logic.{SProp, ent, emp, id⊢}
use base.Fml.{ftrue}
use prog.Wp.{WpFn}
use types.Kit.{‵, raw, ◌⊛◌, ◌$◌, ◌∵◌, !, qed, by, move, keep, split, fsplit, fjoin, suffices, use0, use1, rewrite}
use types.Run.{stop, fld, of_opd, no_more, and_then, returns, enter}
use types.ByLocal.{alloc_all, pass_all, free_all, look_at, get, get_in, sets}
use types.Part.{agg, sub, whole}
use contract.Monad.{fact, fact_i}
use contract.Running.{tables}
use denote.Exit.{yes}
use denote.RattleType.{RattleType, owns}
use denote.Signature.{types_at, plain}
use denote.RawPtr.{ptr_val}
use denote.Steps.{nothing, heard}
use denote.Triple.Walked.{Stays, stay_dropped, walk_of, Goes-dropped}
use Rattle.core.proofs.atomic.Steps.{Ptr-Good}
use Rattle.std.proofs.raw_atomic.Walks.{proved_at, leaves}
use Rattle.std.specs.contracts.alloc.Global as heap
use Rattle.std.proofs.alloc.Global.TheLaws as heap_laws
use Rattle.std.specs.contracts.impls.GlobalAllocator.TheImpl.{ghosts}
use Rattle.hayro_ccitt_c.proofs.PointersHeld.{beside, beside_good, open_fields, close_fields}
use Rattle.hayro_ccitt_c.specs.contracts.owned.Owned as owned_value
use Rattle.hayro_ccitt_c.specs.contracts.handle.Handle as handle
use Rattle.hayro_ccitt_c.specs.contracts.handle.Unboxed as unboxed
use Rattle.hayro_ccitt_c.specs.contracts.handle.Handle.into_unboxed.{ended, clauses}
use Rattle.hayro_ccitt_c.specs.contracts.handle.Handle.into_unboxed.Key.{name as key}
use Rattle.hayro_ccitt_c.proofs.handle.Handle.into_unboxed.Statement.{statement}
use Rattle.hayro_ccitt_c.proofs.handle.Handle.into_unboxed.Code as code

abbrev given_back : RattleType
given_back = unboxed.the_row owned_value.the_row heap.the_row ghosts

abbrev stayed : Stays ended.signature.params ended.kept
stayed = (stay_dropped (plain (λ _. handle.the_row)) yes, tt)

some_of : {A : Type 0} (held : Option A) → IsSome held → (x : A) × (held ≡ Some x)
some_of (Some x) there = (x, refl)
some_of None there = absurd cc

pub into_unboxed_spec : {M : Type 1} → statement M
into_unboxed_spec 𝓤 𝓛 𝓜 𝓡 wired =
    let A = heap.the_row in
    let L = heap_laws.the_row_laws in
    let c = clauses 𝓛 𝓜.mem 𝓡.returns in
    let 𝓣 = tables 𝓤 𝓛.H 𝓜 𝓡 𝓡.env in
    proved_at 𝓛 ended stayed c 𝓜 𝓡 (Goes-dropped 𝓛 0 (plain (λ _. handle.the_row)) yes (λ κs x f. refl), tt)
    key code.function (code.unfolded 𝓤 𝓛.H 𝓜 𝓡 wired) (λ z are.
    let κs = z.0.0 in
    let given : handle.the_row.Denot = z.0.3.0 in
    let p = given.at in
    let a = given.alloc in
    let goal : List Val → SProp 𝓤 = λ ws. WpFn 𝓤 𝓛.H 𝓣.C 𝓣.Λ code.function ws ((walk_of 𝓛 ended stayed c).post z) in
    qed 𝓛 ((‵ ftrue ⊛ ‵ (owns (types_at ended.signature.params κs) z.0.3 z.0.4)) ∷ raw (fact 𝓤 (IsSome given.value)) ∷ []) ∵
    move ! (1 ∷ []) $ heard ! (IsSome given.value) (λ there.
    let found = some_of given.value there in
    let same : given ≡ record { at = p; alloc = a; value = Some found.0 }
    = ap (λ (held : Option owned_value.the_row.Denot). record { at = p; alloc = a; value = held }) found.1 in
    let made : given_back.Denot = record { at = p; alloc = a; value = found.0 } in
    split ! $ move ! (1 ∷ []) $ fsplit ! $ rewrite ! 0 (λ (d : handle.the_row.Denot). ‵ (handle.the_row.own_val d z.0.4.0)) same
    refl $ use1 𝓛 (‵ (given_back.own_val made z.0.4.0)) (id⊢ 𝓤 _) $ fsplit ! $ open_fields A L ghosts ! p a z.0.4.0 (λ h is fits.
    let v = ptr_val p in
    let w = beside v h in
    let good = beside_good A L ghosts p h fits in
    suffices ! (goal (w ∷ [])) (subst (λ (us : List Val). ent 𝓤 (goal (w ∷ [])) (goal us)) (sym (λ i. is i ++ [])) (id⊢ 𝓤 _)) $
    -- the code
    enter ! 𝓣.C 𝓣.Λ code.function (w ∷ []) _ $ alloc_all ! (λ l. pass_all ! refl (good, tt) $
    sets ! (of_opd ! (get_in ! (fld ! refl (stop !)) (sub ! 0 refl (whole !)))) refl (Ptr-Good p) $
    sets ! (of_opd ! (get_in ! (fld ! refl (stop !)) (sub ! 1 refl (whole !)))) refl fits $
    sets ! (agg ! (and_then ! (get ! refl) (and_then ! (get ! refl) (no_more !)))) refl good $
    -- what is returned
    close_fields A L ghosts ! p a h $ move ! (0 ∷ 1 ∷ []) $ fjoin ! $ use1 𝓛 (‵ (given_back.own_val made (w ∷ []))) (id⊢ 𝓤 _) $
    use0 𝓛 (raw (fact 𝓤 (◌≡◌ {A = Option owned_value.the_row.Denot} (Some made.value) given.value)))
    (fact_i 𝓤 (◌≡◌ {A = Option owned_value.the_row.Denot} (Some made.value) given.value) (emp 𝓤) (sym found.1)) $
    nothing ! $ nothing ! $ fjoin ! $
    returns ! (look_at ! 0 refl) $ free_all ! refl $
    keep ! (4 ∷ 0 ∷ 2 ∷ 1 ∷ []) $ by ! (leaves 𝓛 ended stayed c z w made (tt, tt) (tt, tt))))))
