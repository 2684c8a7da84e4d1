use Rattle.fax_bits.proofs.Names.{◌≤◌, BitsAt, arith, length, length-drop, here, Pass, Horizontal}
use Rattle.fax_bits.proofs.CodeWords.VerticalWords.{group_next, first_next, horizontal_wide, pass_wide}
use Rattle.fax_bits.proofs.mode_groups.group_at_hand.Goals as goal

pub returns-clause-words : goal.returns-clause-words
returns-clause-words c = grind (arith, length-drop, group_next)

pub returns-clause-horizontal : goal.returns-clause-horizontal
returns-clause-horizontal c = λ first. let at : BitsAt = c.args.window.now.at in
    let enough : 10 ≤ length (here at) = omega (
      arith,
      length-drop at.place at.bits,
      c.peek_10.ensures.there,
      c.requires.within,
    ) in
    first_next at c.peek_10.result c.peek_10.ensures.bits enough Horizontal 3 horizontal_wide first

pub returns-clause-pass : goal.returns-clause-pass
returns-clause-pass c = λ first. let at : BitsAt = c.args.window.now.at in
    let enough : 10 ≤ length (here at) = omega (
      arith,
      length-drop at.place at.bits,
      c.peek_10.ensures.there,
      c.requires.within,
    ) in
    first_next at c.peek_10.result c.peek_10.ensures.bits enough Pass 4 pass_wide first
