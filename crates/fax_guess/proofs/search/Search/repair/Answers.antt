use Rattle.std.proofs.Common.{arith, ◌≡◌, length}
use Rattle.std.proofs.lemmas.Grind.{common_steps}
use Rattle.fax_guess.proofs.FoundForms.{none_among}
use Rattle.fax_guess.proofs.search.Search.repair.Goals as goal

pub returns-clause-finds : goal.returns-clause-finds
returns-clause-finds c =
    let none : length c.args.self.now.best.items ≡ 0 =
    grind (arith, common_steps, c.is_empty.ensures, c.if-not-is_empty.false, c.as_slice.ensures.value) in
    λ width found. none_among width c.args.bytes.now c.args.self.now.best.items _ none found
