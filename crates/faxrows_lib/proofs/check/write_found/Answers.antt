use Rattle.faxrows_lib.proofs.Names.{rules, ◌≡◌, [], List, ℕ, refl, subst, AppendsFront, Done, PassesOn, done_of_check}
use Rattle.faxrows_lib.proofs.Names.{line_of_check}
use Rattle.faxrows_lib.proofs.Outputs.{front_of_waiting}
use Rattle.faxrows_lib.proofs.check.write_found.Goals as goal

pub returns-in_err-flush : goal.returns-in_err-flush
returns-in_err-flush g c =
    let line = line_of_check c.args.found in
    let none : c.new-waiting.result.items ≡ [] = search rules in
    let put : PassesOn (g.W.Write.contents c.args.writer.now.0) (g.W.Write.contents c.put_found.new.writer.0) [] line
    c.put_found.new.waiting.items
    = subst (λ (l : List ℕ). PassesOn (g.W.Write.contents c.args.writer.now.0)
    (g.W.Write.contents c.put_found.new.writer.0) l line c.put_found.new.waiting.items) none c.in_ok-put_found.ensures.ok in
    let front : (done : Done) × (text : List ℕ) × ((done ≡ done_of_check c.args.found) × (text ≡ line))
    × AppendsFront (g.W.Write.contents c.args.writer.now.0) (g.W.Write.contents c.flush.new.writer.0) text = (
      done_of_check c.args.found,
      line,
      (refl, refl),
      front_of_waiting _ _ _ [] line c.put_found.new.waiting.items put c.in_err-flush.ensures.front,
    ) in
    search rules
