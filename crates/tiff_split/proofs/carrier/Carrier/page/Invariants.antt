use Rattle.std.proofs.Common.{◌-◌}
use Rattle.tiff_split.proofs.carrier.Carrier.page.Given as goal

abbrev pub decreases-tables : goal.decreases-tables
decreases-tables g l = l.number - l.self.count
