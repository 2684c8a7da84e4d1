-- Why reading stops.
use Rattle.std.proofs.Common.{arith, ◌≤◌, ℕ}
use Rattle.std.proofs.lemmas.Grind.{common_steps}
use Rattle.tiff_split.specs.Reads.{OpensNot, Reading, StopsReading, cost_of_number}
use Rattle.tiff_split.specs.declared.error.SplitError.{SplitError}
use Rattle.tiff_split.specs.declared.error.SplitError.TheVariants.{Outside, Loop, Spent, OutOfMemory, Unread}

-- A number has at most eight bytes.
pub cost_few : (size offset count : ℕ) → cost_of_number size offset count ≤ 8
cost_few size offset count = grind (arith, common_steps)

-- Where enough may be read, a file isn't opened for another reason.
pub opens_not : (count : ℕ) (old new : Reading) (error : SplitError) → count ≤ old.left → StopsReading count old new error
    → OpensNot error
opens_not count old new Spent enough (same, few) = absurd (omega (arith, enough, few))
opens_not count old new (Unread error) enough costs = tt
opens_not count old new OutOfMemory enough none = none
opens_not count old new Outside enough none = tt
opens_not count old new Loop enough none = none
