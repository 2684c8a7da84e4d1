use Rattle.tiff_split.specs.Reads.{Reads}
use Rattle.tiff_split.proofs.split.Split.carried.Given as goal

abbrev pub invariant-entries : goal.invariant-entries
invariant-entries g l = Reads l.fn.self l.self
