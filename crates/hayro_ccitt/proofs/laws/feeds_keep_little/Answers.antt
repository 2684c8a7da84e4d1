use Rattle.hayro_ccitt.proofs.Readings.FeedsKeepLittle.{feeds_keep_little}
use Rattle.hayro_ccitt.proofs.laws.feeds_keep_little.Goals as goal

pub returns : goal.returns
returns c = feeds_keep_little
