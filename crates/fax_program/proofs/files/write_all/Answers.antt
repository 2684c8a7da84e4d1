use Rattle.std.proofs.Common.{◌≡◌, ℕ, ◌-◌, List, ◌++◌, rules, length, take, drop, sym, ap, ◌∙◌, append_assoc, take-append-drop}
use Rattle.std.proofs.lemmas.List.{take_rest}
use Rattle.std.proofs.KnownBytes.{Appends-trans, Appends-kept}
use Rattle.fax_program.proofs.files.write_all.Goals as goal

-- bytes that move from the start of the rest to what is written
moved : (all written rest : List ℕ) (n : ℕ) → all ≡ written ++ rest
    → all ≡ (written ++ take n rest) ++ take (length rest - n) (drop n rest)
moved all written rest n e =
    e ∙ ap (λ l. written ++ l) (sym (take-append-drop n rest)) ∙ sym (append_assoc written (take n rest) (drop n rest))
    ∙ ap (λ l. (written ++ take n rest) ++ l) (sym (take_rest rest n))

pub loop-rest-preserved : goal.loop-rest-preserved
loop-rest-preserved g c =
    let (written, split, appended, flag) = c.loop-rest.invariant in
    let rest = c.loop-rest.rest.now in
    let n = c.in-Ok.count in
    (written ++ take n rest, moved _ written rest n split, Appends-trans _ _ _ _ _ appended c.in-Ok.ensures.bytes, search rules)

pub returns-in_default-clause-front : goal.returns-in_default-clause-front
returns-in_default-clause-front g c =
    let (written, split, appended, flag) = c.loop-rest.invariant in
    (written, c.loop-rest.rest.now, Appends-kept _ _ _ _ appended c.in_default.ensures.bytes, split)
