use Rattle.tiff_split.specs.Reads.{Reads}
use Rattle.tiff_split.proofs.split.Split.file_of_entries.Given as goal

abbrev pub invariant-entries : goal.invariant-entries
invariant-entries g l = Reads l.fn.self l.self
