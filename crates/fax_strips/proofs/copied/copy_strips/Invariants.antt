use Rattle.std.proofs.Common.{◌≤◌}
use Rattle.fax_strips.proofs.copied.copy_strips.Given as goal

abbrev pub invariant-loop-part : goal.invariant-loop-part
invariant-loop-part l = l.allowance.pictures ≤ l.fn.allowance.pictures
