-- `into_box` makes a box of the pointer and what it owns.
use Rattle.std.proofs.Common.{◌≡◌, List, [], ◌∷◌, ◌++◌, refl, sym, ap, subst}
use mir.Syntax.{a_type, dcons, dnil}
use mir.Val.{Val}
use mir.MapTy.{inst_fn}
use base.Logic.{SProp, ent, id⊢}
use base.Fml.{ftrue, flft}
use prog.Wp.{WpFn}
use types.Kit.{‵, raw, ◌⊛◌, some, later, at_ret, ◌$◌, ◌∵◌, !, qed, by, move, keep, drop, split, split3, join, fsplit, fjoin}
use types.Kit.{pick, suffices, use1, await, rewrite, feq_i}
use types.Run.{stop, fld, of_opd, no_more, and_then, first, blocks, exec, returns, enter}
use types.ByLocal.{alloc_all, pass_all, free_all, look_at, get, get_in, sets, lands_last, env}
use types.Part.{sub, whole}
use contract.BorrowLft.{◌⊑◌}
use contract.Monad.{fact}
use contract.Running.{tables}
use denote.Exit.{no}
use denote.RattleType.{RattleType, owns}
use denote.Signature.{types_at, plain}
use denote.RawPtr.{ptr_val}
use denote.Steps.{nothing, only}
use denote.Param.{param, layout, bounded}
use denote.Param.Laws.{param_laws}
use denote.Triple.Clauses.{Lasts, lasts}
use denote.Triple.Spec.{triple_of}
use denote.Triple.Call.{calls_at_last}
use denote.Triple.Walked.{Stays, stay_dropped, walk_of}
use Rattle.core.proofs.alloc.Calls.{Goes-blank}
use Rattle.core.proofs.alloc.Shapes.{after}
use Rattle.core.proofs.cell.Inside.{Good}
use Rattle.core.proofs.atomic.Steps.{Ptr-Good, fm}
use Rattle.std_alloc.proofs.BoxSteps.Form as box
use Rattle.std.proofs.raw_atomic.Walks.{proved_at, leaves}
use Rattle.std_alloc.specs.contracts.boxed.Box.from_raw as callee
use Rattle.std_alloc.proofs.boxed.Box.from_raw.Met.{met}
use Rattle.hayro_ccitt_c.proofs.PointersHeld.{beside, beside_good, open_fields, close_fields}
use Rattle.hayro_ccitt_c.specs.contracts.handle.Unboxed as unboxed
use Rattle.hayro_ccitt_c.specs.contracts.handle.Unboxed.into_box.{ended, clauses}
use Rattle.hayro_ccitt_c.specs.contracts.handle.Unboxed.into_box.Key.{name as key}
use Rattle.hayro_ccitt_c.proofs.handle.Unboxed.into_box.Statement.{statement}
use Rattle.hayro_ccitt_c.proofs.handle.Unboxed.into_box.Code as code

pub into_box_spec : {M : Type 1} → statement M
into_box_spec 𝓤 𝓛 𝓜 𝓡 wired T A LT LA g da dt dd allocates glue_t glue_a =
    let Row : RattleType = param 0 T in
    let Alloc : RattleType = param 1 A in
    let L = param_laws 1 A LA in
    let b : box.Bx = record { row = T; laws = LT; al = record { row = A; laws = LA; g = g; d = da; drops = dd } } in
    let at_types = bounded (a_type ∷ a_type ∷ []) (T, (A, tt)) (dcons da (dcons dt (dcons dd dnil))) in
    let fn = inst_fn at_types code.function in
    let T̂ = ended T A g da dt dd in
    let c = clauses T A g da dt dd 𝓛 𝓜.mem 𝓡.returns in
    let 𝓣 = tables 𝓤 𝓛.H 𝓜 𝓡 𝓡.env in
    let taken = unboxed.the_row Row Alloc g in
    let stayed : Stays T̂.signature.params T̂.kept = (stay_dropped (plain (λ _. taken)) no, tt) in
    proved_at 𝓛 T̂ stayed c 𝓜 𝓡 (Goes-blank 𝓛 2 (plain (λ _. taken)) no (λ κs x f. tt), tt)
    (key at_types) fn (code.unfolded 𝓤 𝓛.H 𝓜 𝓡 wired (T, (A, tt)) da dt dd) (λ z are.
    let κs = z.0.0 in
    let qs = z.0.1 in
    let given = z.0.3.0 in
    let p = given.at in
    let a = given.alloc in
    let alive = ‵ (flft κs.0 qs.0) ⊛ ‵ (flft κs.1.0 qs.1.0) ⊛ ‵ ftrue in
    let call = triple_of 𝓛 (callee.signature T A g da dd) (callee.spec T A g da dd 𝓛 𝓜.mem 𝓡.returns) in
    let made : RattleType = box.B b in
    let end = callee.ended T A g da dd in
    let Post : Val → SProp 𝓤 = (walk_of 𝓛 T̂ stayed c).post z in
    let goal : List Val → SProp 𝓤 = λ ws. WpFn 𝓤 𝓛.H 𝓣.C 𝓣.Λ fn ws Post in
    qed 𝓛 ((alive ⊛ ‵ (owns (types_at T̂.signature.params κs) z.0.3 z.0.4)) ∷ raw ((c κs z.0.3).requires z.1) ∷ []) ∵
    split ! $ move ! (1 ∷ []) $ fsplit ! $ use1 𝓛 (‵ (taken.own_val given z.0.4.0)) (id⊢ 𝓤 _) $ fsplit ! $
    open_fields Alloc L g ! p a z.0.4.0 (λ h is fits.
    let v = ptr_val p in
    let w = beside v h in
    let good = beside_good Alloc L g p h fits in
    let y : call.Ghost = ((κs, qs, tt, (a, (p, tt)), (h ∷ [], (v ∷ [], tt))), given.value) in
    -- the call takes the pointer and what it owns
    move ! (4 ∷ []) $ use1 𝓛 (raw (fact 𝓤 (κs.0 ⊑ T.lives)) ⊛ raw (fact 𝓤 (κs.1.0 ⊑ A.lives)) ⊛ ‵ ftrue) (id⊢ 𝓤 _) $
    split3 ! $ move ! (2 ∷ []) $ drop ! $ move ! (1 ∷ 3 ∷ []) $ join ! $ move ! (1 ∷ 0 ∷ []) $ join ! $
    move ! (2 ∷ []) $ feq_i ! (List Val) (v ∷ []) (v ∷ []) refl $ fjoin ! $ move ! (2 ∷ 0 ∷ []) $ fjoin ! $
    move ! (2 ∷ 0 ∷ []) $ join ! $ join ! $ use1 𝓛 (raw (call.pre y)) (id⊢ 𝓤 _) $
    suffices ! (goal (w ∷ [])) (subst (λ (us : List Val). ent 𝓤 (goal (w ∷ [])) (goal us)) (sym (λ i. is i ++ [])) (id⊢ 𝓤 _)) $
    enter ! 𝓣.C 𝓣.Λ fn (w ∷ []) _ $ alloc_all ! (λ l. pass_all ! refl (good, tt) $
    sets ! (of_opd ! (get_in ! (fld ! refl (stop !)) (sub ! 0 refl (whole !)))) refl (Ptr-Good p) $
    sets ! (of_opd ! (get_in ! (fld ! refl (stop !)) (sub ! 1 refl (whole !)))) refl fits $
    first ! $ blocks ! $ sets ! (of_opd ! (get ! refl)) refl fits $
    calls_at_last ! (fm 𝓛 𝓜 𝓡) call
    (met 𝓤 𝓛 𝓜 𝓡 (code.calls-std_alloc::boxed::Box::from_raw 𝓡.env wired) T A LT LA g da dd allocates glue_a)
    y (and_then ! (get ! refl) (and_then ! (get ! refl) (no_more !))) (λ u.
    use1 𝓛 (later (some (λ (r : made.Denot). (alive ⊛ ‵ (made.own_val r (u ∷ []))) ⊛
    some (λ (ls : Lasts end κs y.0.3). ‵ (lasts end κs y.0.3 ls) ⊛
    (raw (fact 𝓤 (r.value ≡ given.value)) ⊛ raw (fact 𝓤 (r.alloc ≡ a))))))) (id⊢ 𝓤 (call.post y u)) $
    -- what it returns
    await ! tt $ pick ! (λ r. split ! $ move ! (1 ∷ []) $ pick ! (λ ls. split3 ! $ drop ! $
    move ! (2 ∷ []) $ split ! $ move ! (1 ∷ []) $ use1 𝓛 (‵ (made.own_val r (u ∷ []))) (id⊢ 𝓤 _) $ fsplit ! $
    open_fields Alloc L g ! r.ptr r.alloc (u ∷ []) (λ k u_is k_fits.
    let u_good = subst (Good (layout made)) (sym (ap only u_is)) (beside_good Alloc L g r.ptr k k_fits) in
    close_fields Alloc L g ! r.ptr r.alloc k $ fjoin ! $
    use1 𝓛 (‵ (made.own_val r (beside (ptr_val r.ptr) k ∷ []))) (id⊢ 𝓤 _) $
    rewrite ! 0 (λ (us : List Val). ‵ (made.own_val r us)) (sym u_is) refl $
    lands_last ! refl u_good $
    exec ! 𝓣.C 𝓣.Λ (env fn.locals l) (after 3 fn.body) (at_ret (env fn.locals l) Post) $
    sets ! (of_opd ! (get ! refl)) refl u_good $
    nothing ! $ nothing ! $ fjoin ! $
    returns ! (look_at ! 0 refl) $ free_all ! refl $
    keep ! (2 ∷ 0 ∷ 1 ∷ 3 ∷ []) $ by ! (leaves 𝓛 T̂ stayed c z u r ((tt, (tt, tt)), tt) (tt, tt)))))))))
