use Rattle.fax_encode.proofs.Names.{◌≡◌, ◌⊎◌, ◌<◌, ◌++◌, ℕ, List, [], ◌∷◌, length, drop, get_or, not, map}
use Rattle.fax_encode.proofs.Names.{rules, sym, ap, ◌∙◌, subst, arith}
use Rattle.fax_encode.proofs.Names.{pixels, AreChanges, inl, inr}
use Rattle.fax_encode.proofs.Names.{◌-◌, take, take_rest}
use Rattle.fax_pictures.proofs.OtherColours.{begins_with_zero, black_first, white_first}
use Rattle.fax_pictures.proofs.placing.inverted_changes.Goals.{else-changes-gt0-via-then-changes-gt0+else-changes-eq0}
use Rattle.fax_pictures.proofs.placing.inverted_changes.Goals.{else-changes-gt0-via-else-changes-gt0}
use Rattle.fax_pictures.proofs.placing.inverted_changes.Goals as goal

pub returns-then-changes-eq0-clause-row : goal.returns-then-changes-eq0-clause-row
returns-then-changes-eq0-clause-row c =
    let changes : List ℕ = c.args.changes.now in
    let is : changes ≡ 0 ∷ drop 1 changes = begins_with_zero changes (omega (arith, c.if-changes-gt0.true))
    (omega (arith, c.if-changes-eq0.true)) in
    let copied : c.in_ok-rest.rest.items ≡ take (length changes - 1) (drop 1 changes) = search rules in
    ap (pixels c.args.columns) (copied ∙ take_rest changes 1)
    ∙ (white_first c.args.columns (drop 1 changes) (subst (AreChanges c.args.columns) is c.requires.lawful)).1
    ∙ ap (λ (l : List ℕ). map not (pixels c.args.columns l)) (sym is)

pub returns-clause-row : goal.returns-clause-row
returns-clause-row c =
    let changes : List ℕ = c.args.changes.now in
    let made : c.extend_from_slice.new.self.items ≡ 0 ∷ changes =
    c.in_ok-extend_from_slice.ensures.items ∙ ap (λ (l : List ℕ). l ++ changes) (c.in_ok-push.ensures.items
    ∙ ap (λ (l : List ℕ). l ++ 0 ∷ []) c.in_ok-others.ensures.items) in
    let first : (length changes ≡ 0) ⊎ (0 < get_or changes 0 0) = elim c.else-changes-gt0.branch [
      | else-changes-gt0-via-then-changes-gt0+else-changes-eq0 w ↦ inr (omega (arith, w.if-changes-eq0.false))
      | else-changes-gt0-via-else-changes-gt0 w ↦ inl (omega (arith, w.if-changes-gt0.false))
    ] in
    ap (pixels c.args.columns) made ∙ (black_first c.args.columns changes c.requires.some c.requires.lawful first).1
