use Rattle.fax_guess.specs.Guesses.{IsSearchOf}
use Rattle.fax_guess.proofs.search.Search.try_widths.Given as goal

abbrev pub invariant-usual : goal.invariant-usual
invariant-usual l = IsSearchOf l.bytes l.self

abbrev pub invariant-others : goal.invariant-others
invariant-others l = IsSearchOf l.bytes l.self
