use Rattle.fax_bitmap.proofs.BlackRuns.{moved_ones}
use Rattle.fax_bitmap.proofs.black_runs.black_between.Goals as goal

pub returns : goal.returns
returns c = moved_ones c.args.from c.args.to c.requires.ascend c.requires.below
