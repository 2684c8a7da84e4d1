use Rattle.std.proofs.Common.{◌≤◌, ◌*◌, ℕ}
use Rattle.fax_guess.specs.Guesses.{FindsAll, cost_of}
use Rattle.fax_guess.proofs.FoundForms.{found_width}
use Rattle.fax_guess.proofs.search.Search.try_strictly.Goals as goal

pub returns-in-Some-clause-finds : goal.returns-in-Some-clause-finds
returns-in-Some-clause-finds c =
    found_width c.try_width.result c.args.columns c.in-Some.columns (10 * cost_of c.args.bytes.now ≤ c.args.self.now.left)
    (λ (width : ℕ). FindsAll width c.args.bytes.now c.try_width.new.self.best.items) c.in-Some.is c.try_width.ensures.finds
