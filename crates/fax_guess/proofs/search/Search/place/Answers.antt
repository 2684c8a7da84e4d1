use Rattle.std.proofs.Common.{arith, ◌∙◌, take, ap, List}
use Rattle.fax_guess.specs.declared.guess.Guess.{Guess}
use Rattle.fax_guess.proofs.FoundForms.{kept_guesses, placed_guesses}
use Rattle.fax_guess.proofs.search.Search.place.Goals as goal

pub returns-clause-found : goal.returns-clause-found
returns-clause-found c =
    let made = c.truncate.ensures.items ∙ ap (λ (xs : List Guess). take 10 xs) c.in_ok-insert.ensures.items in
    record {
      most = omega (arith, c.truncate.ensures.len);
      read = placed_guesses c.args.bytes.now c.args.self.now.best.items _ c.place_of-place.result c.args.guess made
          c.requires.found.read c.requires.read;
    }

pub returns-clause-keeps : goal.returns-clause-keeps
returns-clause-keeps c = λ few.
    let made = c.truncate.ensures.items ∙ ap (λ (xs : List Guess). take 10 xs) c.in_ok-insert.ensures.items in
    let within = rw c.as_slice.ensures.value at c.place_of-place.ensures in
    kept_guesses c.args.self.now.best.items _ c.place_of-place.result c.args.guess made few within
