use Rattle.tiff_read.specs.Texts.{slot_of}
use Rattle.tiff_read.proofs.EntryLemmas.{no_values}
use Rattle.tiff_read.proofs.directory.Directory.new.Goals as goal

pub returns-clause-values : goal.returns-clause-values
returns-clause-values c = λ tag. no_values (slot_of tag) 76
