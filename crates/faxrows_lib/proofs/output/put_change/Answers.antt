use Rattle.faxrows_lib.proofs.Names.{◌∙◌, ◌-◌, List, ℕ, subst, arith, drop, length-drop, take_all, PutsText, used}
use Rattle.faxrows_lib.proofs.output.put_change.Goals as goal

pub returns : goal.returns
returns g c =
    let start = c.put_change_text-start.result in
    let text = c.put_change_text-start.new.text in
    subst (λ (text : List ℕ). PutsText text c.args.waiting.now.items c.put.new.waiting.items
    (used g.W.Write.contents c.args.writer.now c.put.new.writer) c.put.result)
    (take_all (21 - start) (drop start text) (omega (arith, length-drop start text, c.put_change_text-start.array_long))
    ∙ c.put_change_text-start.ensures.text) c.put.ensures
