use Rattle.std.specs.Prelude.{⊤}
use Rattle.std.proofs.Common.{◌-◌, length}
use Rattle.pdf_values.proofs.names.is_same_name.Given as goal

abbrev pub invariant-bytes : goal.invariant-bytes
invariant-bytes l = ⊤

abbrev pub decreases-bytes : goal.decreases-bytes
decreases-bytes l = length l.one - l.at
