use Rattle.std.proofs.Common.{◌≡◌, ℕ}
use Rattle.tiff_read.specs.Directories.{first_values}
use Rattle.tiff_read.specs.Texts.{values_of}
use Rattle.tiff_read.proofs.file.Tiff.directory_of.Given as goal

abbrev pub invariant-entries : goal.invariant-entries
invariant-entries l = record {
  entries : l.directory.entries ≡ l.fn.table.entries;
  is_cut : l.directory.is_cut ≡ l.fn.table.is_cut;
  values : (tag : ℕ) → values_of l.directory tag ≡ first_values l.self.bytes l.table.start tag l.index;
}
