use Rattle.std.proofs.Common.{length}
use Rattle.fax_strips.proofs.encoded.strips_of.Given as goal

abbrev pub decreases-strips : goal.decreases-strips
decreases-strips l = length l.rest
