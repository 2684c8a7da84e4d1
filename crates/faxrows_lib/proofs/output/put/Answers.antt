use Rattle.faxrows_lib.proofs.Names.{rules, ◌≡◌, Err, List, ℕ, subst, Appends, AppendsFront, PutsText, [], used, Ok, refl}
use Rattle.faxrows_lib.proofs.{output.put.Given.Over, output.put.Goals.After-flush}
use Rattle.faxrows_lib.proofs.Outputs.{flushed, front_of_more, puts_neither, puts_then, unwritten, written}
use Rattle.faxrows_lib.proofs.output.put.Goals as goal

-- a failed push leaves what waits
kept : (g : Over) (c : After-flush g) → c.extend_from_slice.new.self.items ≡ c.make_room.new.waiting.items
kept g c = search rules

pub returns-in_err-make_room : goal.returns-in_err-make_room
returns-in_err-make_room g c =
    let is : c.from_residual.result ≡ Err c.in_err-make_room.field-0.0 = search rules in
    puts_neither _ c.from_residual.result c.in_err-make_room.field-0.0 is c.in_err-make_room.ensures

pub returns-in_err-flush : goal.returns-in_err-flush
returns-in_err-flush g c =
    let result = c.from_residual-in_err-flush.result in
    let is : result ≡ Err c.in_err-flush.field-0.0 = search rules in
    let waits = c.make_room.new.waiting.items in
    let front : AppendsFront (g.W.Write.contents c.make_room.new.writer.0) (g.W.Write.contents c.flush.new.writer.0) waits
    = subst (AppendsFront (g.W.Write.contents c.make_room.new.writer.0) (g.W.Write.contents c.flush.new.writer.0))
    (kept g (goal.at.returns-in_err-flush g c).After-flush) c.in_err-flush.ensures.front in
    puts_then c.in_ok-make_room.ensures (unwritten c.args.text.now result c.in_err-flush.field-0.0 is
    (front_of_more _ _ waits c.args.text.now front) c.in_err-flush.ensures.by_writer.failed c.in_err-flush.ensures.by_writer.only)

pub returns-in_err-write_all : goal.returns-in_err-write_all
returns-in_err-write_all g c =
    let result = c.from_residual-in_err-write_all.result in
    let is : result ≡ Err c.in_err-write_all.field-0.0 = search rules in
    let waits = c.make_room.new.waiting.items in
    let appends : Appends (g.W.Write.contents c.make_room.new.writer.0) (g.W.Write.contents c.flush.new.writer.0) waits
    = subst (Appends (g.W.Write.contents c.make_room.new.writer.0) (g.W.Write.contents c.flush.new.writer.0))
    (kept g (goal.at.returns-in_err-write_all g c).After-flush) c.in_ok-flush.ensures.ok in
    let empty : PutsText [] waits [] (used g.W.Write.contents c.make_room.new.writer c.flush.new.writer) (Ok tt)
    = flushed appends refl c.in_ok-flush.ensures.by_writer.flag in
    puts_then c.in_ok-make_room.ensures (puts_then empty (unwritten c.args.text.now result c.in_err-write_all.field-0.0 is
    c.in_err-write_all.ensures.front c.in_err-write_all.ensures.failed c.in_err-write_all.ensures.only))

pub returns-in_ok-write_all : goal.returns-in_ok-write_all
returns-in_ok-write_all g c =
    let waits = c.make_room.new.waiting.items in
    let appends : Appends (g.W.Write.contents c.make_room.new.writer.0) (g.W.Write.contents c.flush.new.writer.0) waits
    = subst (Appends (g.W.Write.contents c.make_room.new.writer.0) (g.W.Write.contents c.flush.new.writer.0))
    (kept g (goal.at.returns-in_ok-write_all g c).After-flush) c.in_ok-flush.ensures.ok in
    let empty : PutsText [] waits [] (used g.W.Write.contents c.make_room.new.writer c.flush.new.writer) (Ok tt)
    = flushed appends refl c.in_ok-flush.ensures.by_writer.flag in
    puts_then c.in_ok-make_room.ensures (puts_then empty
    (written c.args.text.now c.in_ok-write_all.ensures.ok c.in_ok-flush.ensures.empty c.in_ok-write_all.ensures.flag))
