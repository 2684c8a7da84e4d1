use Rattle.faxrows_lib.proofs.Names.{◌≡◌, ◌++◌, ◌∷◌, take, flat_map, text_of_change}
use Rattle.faxrows_lib.proofs.text_sink.push_line.Given as goal

-- the line as far as the changes are written
abbrev pub invariant-loop-change : goal.invariant-loop-change
invariant-loop-change l = l.text.items ≡ l.fn.text.items ++ 114 ∷ flat_map text_of_change (take l.change-index l.changes)
