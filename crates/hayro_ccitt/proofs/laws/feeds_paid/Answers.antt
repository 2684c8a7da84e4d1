use Rattle.fax_feeds.proofs.Readings.FeedsPaid.{feeds_are_paid}
use Rattle.hayro_ccitt.proofs.laws.feeds_paid.Goals as goal

pub returns : goal.returns
returns c = feeds_are_paid
