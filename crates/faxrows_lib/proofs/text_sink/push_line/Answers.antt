use Rattle.faxrows_lib.proofs.Names.{◌≡◌, ℕ, ◌+◌, List, ◌++◌, length, take, ap, sym, ◌∙◌, arith, rules, take_all, length-append}
use Rattle.faxrows_lib.proofs.Names.{take-take, take-append-le, StartsWith}
use Rattle.faxrows_lib.proofs.text_sink.push_line.Goals as goal

-- what begins with a text begins with a prefix of that text
StartsWith-front : (new text front rest : List ℕ) → text ≡ front ++ rest → StartsWith new text → StartsWith new front
StartsWith-front new text front rest e starts =
    let lengths : length text ≡ length front + length rest = ap length e ∙ length-append front rest in
    sym (take-take (length front) (length text) new (omega arith)) ∙ ap (take (length front)) (starts ∙ e)
    ∙ take-append-le (length front) front rest (omega arith) ∙ take_all (length front) front (omega arith)

pub returns-in_err-push_number-clause-err : goal.returns-in_err-push_number-clause-err
returns-in_err-push_number-clause-err c =
    let starts = StartsWith-front _ _ c.args.text.now.items _ c.loop-change.invariant c.in_err-push_number.ensures.err in
    search rules
