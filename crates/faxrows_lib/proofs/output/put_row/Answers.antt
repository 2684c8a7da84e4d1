use Rattle.faxrows_lib.proofs.Names.{rules, ◌≡◌, ◌+◌, ◌++◌, [], ◌∷◌, Err, List, ℕ, take, drop, get_or, take_all, ap, sym, subst}
use Rattle.faxrows_lib.proofs.Names.{flat_map, PutsText, line_of_row, text_of_change, used, Ok}
use Rattle.faxrows_lib.proofs.{output.put_row.Given.Over, output.put_row.Goals.After-put-2}
use Rattle.faxrows_lib.proofs.output.put_row.Goals.{After-put_change}
use Rattle.faxrows_lib.proofs.Outputs.{line_rest, pieces_more, puts_neither, puts_then}
use Rattle.faxrows_lib.proofs.output.put_row.Goals as goal

-- the changes so far, and this one
one_more : (g : Over) (c : After-put_change g)
    → (114 ∷ flat_map text_of_change (take c.loop-change.change-index c.args.changes.now)) ++ text_of_change
    (get_or c.args.changes.now c.loop-change.change-index 0)
    ≡ 114 ∷ flat_map text_of_change (take (c.loop-change.change-index + 1) c.args.changes.now)
one_more g c = ap (λ l. 114 ∷ l)
    (pieces_more text_of_change c.args.changes.now c.loop-change.change-index 0 c.loop-change-test.true)

-- all changes came
all_changes_put : (g : Over) (c : After-put-2 g) → take c.loop-change.change-index c.args.changes.now ≡ c.args.changes.now
all_changes_put g c = take_all c.loop-change.change-index c.args.changes.now c.loop-change-test.false

pub returns-in_err-put : goal.returns-in_err-put
returns-in_err-put g c =
    let is : c.from_residual.result ≡ Err c.in_err-put.field-0.0 = search rules in
    puts_neither _ c.from_residual.result c.in_err-put.field-0.0 is c.in_err-put.ensures

pub returns-in_err-put_change : goal.returns-in_err-put_change
returns-in_err-put_change g c =
    let result = c.from_residual-in_err-put_change.result in
    let is : result ≡ Err c.in_err-put_change.field-0.0 = search rules in
    let so_far : PutsText (114 ∷ flat_map text_of_change (take (c.loop-change.change-index + 1) c.args.changes.now))
    c.args.waiting.now.items c.put_change.new.waiting.items
    (used g.W.Write.contents c.args.writer.now c.put_change.new.writer) (Err c.in_err-put_change.field-0.0)
    = subst (λ (l : List ℕ). PutsText l c.args.waiting.now.items c.put_change.new.waiting.items
    (used g.W.Write.contents c.args.writer.now c.put_change.new.writer) (Err c.in_err-put_change.field-0.0))
    (one_more g (goal.at.returns-in_err-put_change g c).After-put_change)
    (puts_then c.loop-change.invariant.line c.in_err-put_change.ensures) in
    subst (λ (l : List ℕ). PutsText l c.args.waiting.now.items c.put_change.new.waiting.items
    (used g.W.Write.contents c.args.writer.now c.put_change.new.writer) result)
    (line_rest c.args.changes.now (c.loop-change.change-index + 1))
    (puts_neither _ result c.in_err-put_change.field-0.0 is so_far)

pub loop-change-preserved : goal.loop-change-preserved
loop-change-preserved g c = record {
  line =
      subst (λ (l : List ℕ). PutsText l c.args.waiting.now.items c.put_change.new.waiting.items
      (used g.W.Write.contents c.args.writer.now c.put_change.new.writer) (Ok tt))
      (one_more g (goal.at.loop-change-preserved g c).After-put_change)
      (puts_then c.loop-change.invariant.line c.in_ok-put_change.ensures);
}

pub returns : goal.returns
returns g c =
    subst (λ (l : List ℕ). PutsText (114 ∷ (flat_map text_of_change l ++ 10 ∷ [])) c.args.waiting.now.items
    c.put-2.new.waiting.items (used g.W.Write.contents c.args.writer.now c.put-2.new.writer) c.put-2.result)
    (all_changes_put g c) (puts_then c.loop-change.invariant.line c.put-2.ensures)
