use Rattle.std.proofs.Common.{◌-◌, ◌≤◌}
use Rattle.tiff_read.specs.Payments.{IsSameReading}
use Rattle.fax_pages.proofs.tiff_pages.TiffPages.starts.Given as goal

abbrev pub invariant-starts : goal.invariant-starts
invariant-starts l = record {
  least : l.self-inside.tiff.left ≤ l.fn.self.left;
  same : IsSameReading l.fn.self l.self-inside.tiff;
}

abbrev pub decreases-starts : goal.decreases-starts
decreases-starts l = l.count - l.index
