use Rattle.fax_callers.proofs.RunsCounted.{IsCounted}
use Rattle.fax_callers.proofs.black_pixels.black_in_row.Given as goal

abbrev pub invariant-loop-change : goal.invariant-loop-change
invariant-loop-change l = IsCounted l.columns l.changes l.change-index l.start l.is_black l.black
