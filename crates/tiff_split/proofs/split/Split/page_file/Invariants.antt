use Rattle.tiff_split.specs.Reads.{Reads}
use Rattle.tiff_split.proofs.split.Split.page_file.Given as goal

abbrev pub invariant-runs : goal.invariant-runs
invariant-runs g l = Reads l.fn.self l.self
