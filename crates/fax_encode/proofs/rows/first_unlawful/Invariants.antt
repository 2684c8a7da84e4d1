use Rattle.fax_encode.proofs.Names.{ℕ, ◌<◌, get_or, [], map, AreChanges}
use Rattle.fax_encode.proofs.rows.first_unlawful.Given as goal

abbrev pub invariant-loop-index : goal.invariant-loop-index
invariant-loop-index l = (k : ℕ) → k < l.index → AreChanges l.columns (get_or (map (λ row. row.items) l.rows) k [])
