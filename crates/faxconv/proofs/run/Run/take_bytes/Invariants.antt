use Rattle.std.proofs.Common.{length}
use Rattle.faxconv.proofs.run.Run.take_bytes.Given as goal

abbrev pub decreases-pieces : goal.decreases-pieces
decreases-pieces l = length l.rest
