use Rattle.hayro_ccitt.proofs.Names.{◌-◌, ◌%◌, false, arith, length-replicate}
use Rattle.fax_conforms.proofs.pictures.pass_fill.Goals as goal

pub returns-then-aligned-clause-few : goal.returns-then-aligned-clause-few
returns-then-aligned-clause-few c =
    omega (arith, c.pass_padding.ensures.at_most, length-replicate ((8 - c.args.reader.now.place % 8) % 8) false)
