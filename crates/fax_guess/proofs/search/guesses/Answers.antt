use Rattle.fax_guess.proofs.search.guesses.Goals as goal

pub returns-clause-finds : goal.returns-clause-finds
returns-clause-finds c = λ width given few.
    c.in_ok-repair.ensures.finds width (c.in_ok-try_strictly.ensures.finds width given (c.new-search.ensures.left few))
