use Rattle.fax_coding.proofs.Names.{◌+◌, refl, arith}
use Rattle.fax_coding.proofs.Elements.{next_is_right}
use Rattle.fax_coding.proofs.group4.b2_left_of.Goals as goal

pub returns-then-a1-b1 : goal.returns-then-a1-b1
returns-then-a1-b1 c = omega (
  arith,
  c.if-a1-b1.true,
  c.requires.first,
  next_is_right 0 c.args.columns c.args.reference.now c.args.index (c.args.index + 1) refl c.requires.lawful,
)
