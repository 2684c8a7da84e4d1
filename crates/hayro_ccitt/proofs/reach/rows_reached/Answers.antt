use Rattle.hayro_ccitt.proofs.Names.{common_steps}
use Rattle.hayro_ccitt.proofs.Names.{length, ap, arith}
use Rattle.hayro_ccitt.proofs.Names.{BitsAt, here}
use Rattle.hayro_ccitt.proofs.BitReading.BitLists.{length-bits_in}
use Rattle.hayro_ccitt.proofs.DamagedLines.LinesPassed.{reaches_if, reaches_none}
use Rattle.hayro_ccitt.proofs.reach.rows_reached.Goals as goal

pub returns-then-to-data-clause-rows : goal.returns-then-to-data-clause-rows
returns-then-to-data-clause-rows c = grind (arith, common_steps, reaches_none, length-bits_in)

pub returns-clause-rows : goal.returns-clause-rows
returns-clause-rows c =
    grind (arith, common_steps, reaches_if, length-bits_in, c.is_lenient_2d.ensures.0 c.if-not-is_lenient_2d.false)

pub returns-clause-at_most : goal.returns-clause-at_most
returns-clause-at_most c =
    omega (arith, c.rows_before_1d.ensures.at_most, ap (λ (at : BitsAt). length (here at)) c.at_place-reader.ensures)
