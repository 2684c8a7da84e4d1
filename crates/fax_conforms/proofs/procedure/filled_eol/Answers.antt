use Rattle.hayro_ccitt.proofs.Names.{◌∙◌, sym, arith, refl, here}
use Rattle.fax_conforms.proofs.ClosingsDepart.{filled_eol_stands}
use Rattle.fax_conforms.proofs.EolsHere.{none_there}
use Rattle.hayro_ccitt.proofs.Work.EolsPassed.{looked_most}
use Rattle.fax_conforms.proofs.procedure.filled_eol.Goals as goal

pub returns-then-not-has_eol-clause-none : goal.returns-then-not-has_eol-clause-none
returns-then-not-has_eol-clause-none c = λ (fill, rest, some, is). c.has_eol.ensures.none c.if-not-has_eol.true rest (fill, is)

pub returns-clause-found : goal.returns-clause-found
returns-clause-found c =
    let (rest, stands) = c.has_eol.ensures.found c.if-not-has_eol.false in (
      (refl, c.bit_pos-place.ensures.place, omega (arith, c.bit_pos-place.ensures.place, c.bit_pos-place.ensures.within)),
      filled_eol_stands (here c.args.reader.now)
          (none_there c.after_plain_eol.result _ (sym c.is_some.ensures ∙ c.if-is_some.false) c.after_plain_eol.ensures.none)
          rest stands,
    )

pub returns-then-is_some-clause-at_most : goal.returns-then-is_some-clause-at_most
returns-then-is_some-clause-at_most c =
    omega (arith, c.after_plain_eol.ensures.ticks, looked_most (here c.args.reader.now))

pub returns-then-not-has_eol-clause-at_most : goal.returns-then-not-has_eol-clause-at_most
returns-then-not-has_eol-clause-at_most c =
    omega (arith, c.after_plain_eol.ensures.ticks, c.has_eol.ensures.ticks, looked_most (here c.args.reader.now))

pub returns-clause-at_most : goal.returns-clause-at_most
returns-clause-at_most c =
    omega (arith, c.after_plain_eol.ensures.ticks, c.has_eol.ensures.ticks, looked_most (here c.args.reader.now))
