use Rattle.std.proofs.Common.{◌≡◌, ◌+◌, ◌-◌, ◌*◌, ◌<◌, ◌≤◌, length, All}
use Rattle.tiff_read.specs.Payments.{IsSameReading}
use Rattle.fax_pages.specs.TiffPages.{LiesIn}
use Rattle.fax_pages.proofs.tiff_pages.TiffPages.parts.Given as goal

abbrev pub invariant-parts : goal.invariant-parts
invariant-parts l = record {
  parts : All (LiesIn l.fn.picture l.fn.sizes (length l.fn.self.bytes)) l.parts.items;
  paid : l.self.left + 2 * length l.parts.items ≤ l.fn.self.left;
  same : IsSameReading l.fn.self l.self;
  left : l.left < l.sizes.columns;
  size : l.size ≡ length l.fn.self.bytes;
}

abbrev pub decreases-parts : goal.decreases-parts
decreases-parts l = l.count - l.index
