use Rattle.worked_examples.proofs.Examples.{feeds_one_byte}
use Rattle.worked_examples.proofs.feed_examples.Goals as goal

pub returns-clause-a_feed : goal.returns-clause-a_feed
returns-clause-a_feed c = feeds_one_byte
