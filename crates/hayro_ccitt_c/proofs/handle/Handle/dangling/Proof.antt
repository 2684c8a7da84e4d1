-- `dangling` puts a pointer and the allocator side by side: they own nothing more.
use Rattle.std.proofs.Common.{◌≡◌, List, [], ◌∷◌, ◌++◌, None, refl, sym, subst}
use mir.Val.{Val}
use base.Logic.{SProp, ent, emp, id⊢}
use base.Fml.{ftrue}
use prog.Wp.{WpFn}
use types.Kit.{‵, raw, ◌⊛◌, ◌$◌, ◌∵◌, !, qed, by, move, keep, split, fsplit, fjoin, suffices, use0, use1, feq_i, feq_l}
use types.Run.{no_more, and_then, returns, enter}
use types.ByLocal.{alloc_all, pass_all, free_all, look_at, get, sets}
use types.Part.{agg}
use contract.Monad.{fact, fact_i}
use contract.Running.{tables}
use denote.Exit.{yes}
use denote.RattleType.{owns}
use denote.Builtin.{RawPtr}
use denote.Signature.{types_at, type_at, plain}
use denote.RawPtr.{ptr_val}
use denote.Steps.{nothing}
use denote.Triple.Walked.{Stays, stay_none, stay_dropped, walk_of, Goes-none, Goes-dropped}
use Rattle.core.proofs.alloc.Calls.{handle_tells}
use Rattle.core.proofs.atomic.Steps.{Ptr-Good}
use Rattle.std.proofs.raw_atomic.Walks.{proved_at, leaves}
use Rattle.std.specs.contracts.alloc.Global as heap
use Rattle.std.proofs.alloc.Global.TheLaws as heap_laws
use Rattle.std.specs.contracts.impls.GlobalAllocator.TheImpl.{ghosts}
use Rattle.hayro_ccitt_c.proofs.PointersHeld.{beside, allocator, beside_good, close_fields}
use Rattle.hayro_ccitt_c.specs.contracts.handle.Handle.dangling.{ended, clauses}
use Rattle.hayro_ccitt_c.specs.contracts.handle.Handle.dangling.Key.{name as key}
use Rattle.hayro_ccitt_c.proofs.handle.Handle.dangling.Statement.{statement}
use Rattle.hayro_ccitt_c.proofs.handle.Handle.dangling.Code as code

abbrev stayed : Stays ended.signature.params ended.kept
stayed = (stay_none (λ _. RawPtr) yes, (stay_dropped (plain (λ _. heap.the_row)) yes, tt))

pub dangling_spec : {M : Type 1} → statement M
dangling_spec 𝓤 𝓛 𝓜 𝓡 wired =
    let A = heap.the_row in
    let L = heap_laws.the_row_laws in
    let c = clauses 𝓛 𝓜.mem 𝓡.returns in
    let 𝓣 = tables 𝓤 𝓛.H 𝓜 𝓡 𝓡.env in
    proved_at 𝓛 ended stayed c 𝓜 𝓡
    (Goes-none 𝓛 0 (λ _. RawPtr) yes (λ κs x f. refl), (Goes-dropped 𝓛 0 (plain (λ _. A)) yes (λ κs x f. refl), tt))
    key code.function (code.unfolded 𝓤 𝓛.H 𝓜 𝓡 wired) (λ z are.
    let κs = z.0.0 in
    let p = z.0.3.0 in
    let a = z.0.3.1.0 in
    let result = type_at ended.signature.result κs in
    let made : result.Denot = record { at = p; alloc = a; value = None } in
    let goal : List Val → SProp 𝓤 = λ ws. WpFn 𝓤 𝓛.H 𝓣.C 𝓣.Λ code.function ws ((walk_of 𝓛 ended stayed c).post z) in
    qed 𝓛 ((‵ ftrue ⊛ ‵ (owns (types_at ended.signature.params κs) z.0.3 z.0.4)) ∷ raw ((c κs z.0.3).requires z.1) ∷ []) ∵
    split ! $ move ! (1 ∷ []) $ fsplit ! $ feq_l ! (λ pointer. fsplit ! $
    handle_tells (allocator A L ghosts) ! a z.0.4.1.0 (λ h only_one fits.
    let v = ptr_val p in
    suffices ! (goal (v ∷ h ∷ []))
    (subst (λ (us : List Val). ent 𝓤 (goal (v ∷ h ∷ [])) (goal us)) (sym (λ i. pointer i ++ (only_one i ++ []))) (id⊢ 𝓤 _)) $
    -- the code
    enter ! 𝓣.C 𝓣.Λ code.function (v ∷ h ∷ []) _ $ alloc_all ! (λ l. pass_all ! refl (Ptr-Good p, (fits, tt)) $
    sets ! (agg ! (and_then ! (get ! refl) (and_then ! (get ! refl) (no_more !)))) refl (beside_good A L ghosts p h fits) $
    -- what the handle owns
    nothing ! $ move ! (1 ∷ []) $ close_fields A L ghosts ! p a h $ move ! (0 ∷ 1 ∷ []) $ fjoin ! $
    use1 𝓛 (‵ (result.own_val made (beside v h ∷ []))) (id⊢ 𝓤 _) $
    use0 𝓛 (raw (fact 𝓤 (made.value ≡ None))) (fact_i 𝓤 (made.value ≡ None) (emp 𝓤) refl) $
    nothing ! $ nothing ! $ fjoin ! $
    returns ! (look_at ! 0 refl) $ free_all ! refl $ feq_i ! (List Val) z.0.4.0 (v ∷ []) pointer $ fjoin ! $
    keep ! (3 ∷ 0 ∷ 2 ∷ 1 ∷ []) $ by ! (leaves 𝓛 ended stayed c z (beside v h) made (tt, (tt, tt)) (tt, (tt, tt)))))))
