use Rattle.hayro_ccitt.proofs.Names.{rules}
use Rattle.hayro_ccitt.proofs.decode_in.Goals as goal

pub returns-in-HighestFirst-clause-decodes : goal.returns-in-HighestFirst-clause-decodes
returns-in-HighestFirst-clause-decodes g c = rw c.in-HighestFirst.is (search rules)

pub returns-in-LowestFirst-clause-decodes : goal.returns-in-LowestFirst-clause-decodes
returns-in-LowestFirst-clause-decodes g c = rw c.in-LowestFirst.is (search rules)
