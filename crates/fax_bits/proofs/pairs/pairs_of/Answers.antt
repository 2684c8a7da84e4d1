use Rattle.fax_bits.proofs.BitReading.WrittenPairs.{white_pairs_are, black_pairs_are}
use Rattle.fax_bits.proofs.pairs.pairs_of.Goals as goal

pub returns-in-White : goal.returns-in-White
returns-in-White c = rw c.in-White.is white_pairs_are

pub returns-in-Black : goal.returns-in-Black
returns-in-Black c = rw c.in-Black.is black_pairs_are
