use Rattle.std.proofs.Common.{length}
use Rattle.faxconv_in.proofs.raw.feed_whole.Given as goal

abbrev pub decreases-pieces : goal.decreases-pieces
decreases-pieces l = length l.rest
