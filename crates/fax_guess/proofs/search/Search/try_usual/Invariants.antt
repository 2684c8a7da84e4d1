use Rattle.fax_guess.specs.Guesses.{IsSearchOf}
use Rattle.fax_guess.proofs.search.Search.try_usual.Given as goal

abbrev pub invariant-widths : goal.invariant-widths
invariant-widths l = IsSearchOf l.bytes l.self
