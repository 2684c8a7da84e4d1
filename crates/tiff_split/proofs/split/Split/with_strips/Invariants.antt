use Rattle.tiff_split.specs.Reads.{Reads}
use Rattle.tiff_split.proofs.split.Split.with_strips.Given as goal

abbrev pub invariant-strips : goal.invariant-strips
invariant-strips g l =
    (goal.iterator-strips g).can_next l.place-iterator ×
    (goal.iterator-strips g).is_finite l.place-iterator ×
    Reads l.fn.self l.self
