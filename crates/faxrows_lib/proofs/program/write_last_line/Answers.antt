use Rattle.faxrows_lib.proofs.Names.{◌≡◌, ◌∙◌, ◌-◌, List, ℕ, ap, arith, drop, length-drop, subst, sym, take, take_all, Used}
use Rattle.faxrows_lib.proofs.Names.{WritesText, line_of_outcome, used}
use Rattle.faxrows_lib.proofs.ProgramRuns.{writes_this}
use Rattle.faxrows_lib.proofs.program.write_last_line.Goals as goal

pub returns-in-Ok : goal.returns-in-Ok
returns-in-Ok g c =
    let writer : Used g.row.W.Denot = used g.W.Write.contents c.args.writer.now c.write_all.new.writer in
    let start = c.put_ok-start.result in
    let line : List ℕ = drop start c.put_ok-start.new.line in
    let all : take (24 - start) line ≡ line =
    take_all (24 - start) line (omega (arith, length-drop start c.put_ok-start.new.line, c.put_ok-start.array_long)) in
    record {
      writes = subst (λ (line : List ℕ). WritesText (λ _ text. text ≡ line) writer c.write_all.result)
          (all ∙ c.put_ok-start.ensures.line ∙ ap line_of_outcome (sym c.in-Ok.is)) (writes_this (take (24 - start) line) writer
          c.write_all.result c.write_all.ensures.ok c.write_all.ensures.front c.write_all.ensures.flag c.write_all.ensures.failed
          c.write_all.ensures.only);
    }
