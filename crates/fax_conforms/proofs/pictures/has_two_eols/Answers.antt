use Rattle.hayro_ccitt.proofs.Names.{arith, eol, here}
use Rattle.hayro_ccitt.proofs.Work.EolsPassed.{looked_most}
use Rattle.fax_conforms.proofs.TwoWords.{two_words, no_words}
use Rattle.fax_conforms.proofs.WordsPaid.{eol_is_paid, no_eol_stands}
use Rattle.fax_conforms.proofs.pictures.has_two_eols.Goals as goal

pub returns-in-Some-clause-stands : goal.returns-in-Some-clause-stands
returns-in-Some-clause-stands c = rw c.is_some.ensures (two_words (eol 0) (here c.args.reader.now) (here c.in-Some.after)
    c.after_plain_eol-in-Some.result c.in-Some.ensures.found c.after_plain_eol-in-Some.ensures.found
    c.after_plain_eol-in-Some.ensures.none)

pub returns-in-None-clause-stands : goal.returns-in-None-clause-stands
returns-in-None-clause-stands c = (
  λ t. absurd cc,
  λ stands. absurd (no_words (eol 0) (here c.args.reader.now) c.in-None.ensures.none stands),
)

pub returns-in-Some-clause-work : goal.returns-in-Some-clause-work
returns-in-Some-clause-work c = λ none.
    absurd (no_eol_stands (here c.args.reader.now) (here c.in-Some.after) none (0, c.in-Some.ensures.found))

pub returns-in-Some-clause-at_most : goal.returns-in-Some-clause-at_most
returns-in-Some-clause-at_most c = omega (
  arith,
  c.after_plain_eol.ensures.ticks,
  c.after_plain_eol-in-Some.ensures.ticks,
  eol_is_paid (here c.args.reader.now) (here c.in-Some.after) (0, c.in-Some.ensures.found),
  looked_most (here c.in-Some.after),
)

pub returns-in-None-clause-at_most : goal.returns-in-None-clause-at_most
returns-in-None-clause-at_most c = omega (arith, c.after_plain_eol.ensures.ticks, looked_most (here c.args.reader.now))
