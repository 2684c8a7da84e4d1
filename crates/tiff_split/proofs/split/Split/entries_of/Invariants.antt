use Rattle.tiff_split.specs.Reads.{Reads}
use Rattle.tiff_split.proofs.split.Split.entries_of.Given as goal

abbrev pub invariant-pieces : goal.invariant-pieces
invariant-pieces g l = Reads l.fn.self l.self
