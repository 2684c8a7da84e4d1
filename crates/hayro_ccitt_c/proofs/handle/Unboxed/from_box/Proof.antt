-- `from_box` takes a box apart: its pointer owns what the box owned.
use Rattle.std.proofs.Common.{◌≡◌, List, [], ◌∷◌, ◌++◌, refl, sym, ap, subst}
use mir.Syntax.{a_type, dcons, dnil}
use mir.Val.{Val}
use mir.MapTy.{inst_fn}
use base.Logic.{SProp, ent, emp, id⊢}
use base.Fml.{ftrue, flft}
use prog.Wp.{WpFn}
use types.Kit.{‵, raw, ◌⊛◌, some, later, ◌$◌, ◌∵◌, !, qed, by, move, keep, drop, split, split3, join, fsplit, fjoin, pick}
use types.Kit.{suffices, use0, use1, await, rewrite}
use types.Run.{stop, fld, of_opd, no_more, and_then, returns, enter}
use types.ByLocal.{alloc_all, pass_all, free_all, look_at, get, get_in, sets, lands_as}
use types.Part.{agg, sub, whole}
use contract.Monad.{fact, fact_i}
use contract.Running.{tables}
use denote.Exit.{no}
use denote.RattleType.{RattleType, owns}
use denote.Signature.{types_at, type_at, plain}
use denote.Builtin.{RawPtr}
use denote.RawPtr.{Ptr, ptr_val}
use denote.Steps.{nothing, only, heard}
use denote.Param.{param, bounded}
use denote.Param.Laws.{param_laws}
use denote.Struct.Tuple.{Tuple}
use denote.Triple.Clauses.{Lasts, lasts}
use denote.Triple.Spec.{triple_of}
use denote.Triple.Call.{calls_at}
use denote.Triple.Walked.{Stays, stay_dropped, walk_of}
use Rattle.core.proofs.alloc.Calls.{Goes-blank}
use Rattle.core.proofs.atomic.Steps.{Ptr-Good, fm}
use Rattle.std_alloc.specs.Box.Ownership.{box_owns}
use Rattle.std_alloc.proofs.BoxSteps.Form as box
use Rattle.std.proofs.raw_atomic.Walks.{proved_at, leaves}
use Rattle.std_alloc.specs.contracts.boxed.Box.into_raw_with_allocator as callee
use Rattle.std_alloc.proofs.boxed.Box.into_raw_with_allocator.Met.{met}
use Rattle.hayro_ccitt_c.proofs.PointersHeld.{beside, fields, beside_good, open_fields, close_fields}
use Rattle.hayro_ccitt_c.specs.contracts.handle.Unboxed.from_box.{ended, clauses}
use Rattle.hayro_ccitt_c.specs.contracts.handle.Unboxed.from_box.Key.{name as key}
use Rattle.hayro_ccitt_c.proofs.handle.Unboxed.from_box.Statement.{statement}
use Rattle.hayro_ccitt_c.proofs.handle.Unboxed.from_box.Code as code

pub from_box_spec : {M : Type 1} → statement M
from_box_spec 𝓤 𝓛 𝓜 𝓡 wired T A LT LA g da dt dd allocates glue_t glue_a =
    let Row : RattleType = param 0 T in
    let Alloc : RattleType = param 1 A in
    let L = param_laws 1 A LA in
    let b : box.Bx = record { row = T; laws = LT; al = record { row = A; laws = LA; g = g; d = da; drops = dd } } in
    let at_types = bounded (a_type ∷ a_type ∷ []) (T, (A, tt)) (dcons da (dcons dt (dcons dd dnil))) in
    let fn = inst_fn at_types code.function in
    let T̂ = ended T A g da dt dd in
    let c = clauses T A g da dt dd 𝓛 𝓜.mem 𝓡.returns in
    let 𝓣 = tables 𝓤 𝓛.H 𝓜 𝓡 𝓡.env in
    let stayed : Stays T̂.signature.params T̂.kept = (stay_dropped (plain (λ _. box.B b)) no, tt) in
    proved_at 𝓛 T̂ stayed c 𝓜 𝓡 (Goes-blank 𝓛 2 (plain (λ _. box.B b)) no (λ κs x f. tt), tt)
    (key at_types) fn (code.unfolded 𝓤 𝓛.H 𝓜 𝓡 wired (T, (A, tt)) da dt dd) (λ z are.
    let κs = z.0.0 in
    let qs = z.0.1 in
    let given = z.0.3.0 in
    let a = given.alloc in
    let alive = ‵ (flft κs.0 qs.0) ⊛ ‵ (flft κs.1.0 qs.1.0) ⊛ ‵ ftrue in
    let result = type_at T̂.signature.result κs in
    let pair = Tuple (RawPtr ∷ Alloc ∷ []) in
    let call = triple_of 𝓛 (callee.signature T A g da dd dt) (callee.spec T A g da dd dt 𝓛 𝓜.mem 𝓡.returns) in
    let goal : List Val → SProp 𝓤 = λ ws. WpFn 𝓤 𝓛.H 𝓣.C 𝓣.Λ fn ws ((walk_of 𝓛 T̂ stayed c).post z) in
    let end = callee.ended T A g da dd dt in
    qed 𝓛 ((alive ⊛ ‵ (owns (types_at T̂.signature.params κs) z.0.3 z.0.4)) ∷ raw ((c κs z.0.3).requires z.1) ∷ []) ∵
    split ! $ move ! (1 ∷ []) $ fsplit ! $ use1 𝓛 (‵ ((box.B b).own_val given z.0.4.0)) (id⊢ 𝓤 _) $ fsplit ! $
    open_fields Alloc L g ! given.ptr a z.0.4.0 (λ h is fits.
    let w = beside (ptr_val given.ptr) h in
    let y : call.Ghost = ((κs, qs, tt, (given, tt), (w ∷ [], tt)), tt) in
    -- the call takes the box
    close_fields Alloc L g ! given.ptr a h $ fjoin ! $ use1 𝓛 (‵ ((box.B b).own_val given (w ∷ []))) (id⊢ 𝓤 _) $
    fjoin ! $ move ! (1 ∷ 0 ∷ []) $ join ! $ join ! $ use1 𝓛 (raw (call.pre y)) (id⊢ 𝓤 _) $
    suffices ! (goal (w ∷ [])) (subst (λ (us : List Val). ent 𝓤 (goal (w ∷ [])) (goal us)) (sym (λ i. is i ++ [])) (id⊢ 𝓤 _)) $
    enter ! 𝓣.C 𝓣.Λ fn (w ∷ []) _ $ alloc_all ! (λ l. pass_all ! refl (beside_good Alloc L g given.ptr h fits, tt) $
    sets ! (of_opd ! (get ! refl)) refl (beside_good Alloc L g given.ptr h fits) $
    calls_at ! (fm 𝓛 𝓜 𝓡) call
    (met 𝓤 𝓛 𝓜 𝓡 (code.calls-std_alloc::boxed::Box::into_raw_with_allocator 𝓡.env wired) T A LT LA g da dd dt allocates
    glue_a glue_t)
    y (and_then ! (get ! refl) (no_more !)) (λ u.
    use1 𝓛 (later (some (λ (r : Ptr × A.Denot). (alive ⊛ ‵ (pair.own_val r (u ∷ []))) ⊛
    some (λ (ls : Lasts end κs y.0.3). ‵ (lasts end κs y.0.3 ls) ⊛
    (raw (fact 𝓤 (r.1 ≡ a)) ⊛ ‵ (box_owns (g.dealloc_token a) Row r.0 given.value)))))) (id⊢ 𝓤 _) $
    -- what it returns
    await ! tt $ pick ! (λ r. split ! $ move ! (1 ∷ []) $ pick ! (λ ls. split3 ! $ drop ! $ heard ! (r.1 ≡ a) (λ same.
    move ! (1 ∷ []) $ split ! $ move ! (1 ∷ []) $ use1 𝓛 (‵ (fields Alloc L g r.0 r.1 (u ∷ []))) (id⊢ 𝓤 _) $
    rewrite ! 0 (λ (d : A.Denot). ‵ (fields Alloc L g r.0 d (u ∷ []))) same refl $
    open_fields Alloc L g ! r.0 a (u ∷ []) (λ k u_is k_fits.
    let good = beside_good Alloc L g r.0 k k_fits in
    let made : result.Denot = record { at = r.0; alloc = a; value = given.value } in
    lands_as ! (ap only u_is) refl good $ sets ! (of_opd ! (get_in ! (fld ! refl (stop !)) (sub ! 0 refl (whole !)))) refl
    (Ptr-Good r.0) $ sets ! (of_opd ! (get_in ! (fld ! refl (stop !)) (sub ! 1 refl (whole !)))) refl k_fits $ sets !
    (of_opd ! (get ! refl)) refl k_fits $ sets !
    (agg ! (and_then ! (get ! refl) (and_then ! (get ! refl) (no_more !)))) refl good $
    -- what the pointer owns
    close_fields Alloc L g ! r.0 a k $ move ! (0 ∷ 2 ∷ []) $ fjoin ! $
    use1 𝓛 (‵ (result.own_val made (beside (ptr_val r.0) k ∷ []))) (id⊢ 𝓤 _) $
    use0 𝓛 (raw (fact 𝓤 (made.value ≡ given.value))) (fact_i 𝓤 (made.value ≡ given.value) (emp 𝓤) refl) $
    nothing ! $ nothing ! $ fjoin ! $
    returns ! (look_at ! 0 refl) $ free_all ! refl $
    keep ! (3 ∷ 0 ∷ 2 ∷ 1 ∷ []) $ by ! (leaves 𝓛 T̂ stayed c z (beside (ptr_val r.0) k) made ((tt, (tt, tt)), tt)
    (tt, tt))))))))))
