use Rattle.faxrows_lib.proofs.Names.{◌∷◌, take, flat_map, Ok, PutsText, text_of_change, used}
use Rattle.faxrows_lib.proofs.output.put_row.Given as goal

-- the line as far as the changes were put
abbrev pub invariant-loop-change : goal.invariant-loop-change
invariant-loop-change g l = record {
  line : PutsText (114 ∷ flat_map text_of_change (take l.change-index l.changes)) l.fn.waiting.items l.waiting.items
      (used g.W.Write.contents l.fn.writer l.writer) (Ok tt);
}
