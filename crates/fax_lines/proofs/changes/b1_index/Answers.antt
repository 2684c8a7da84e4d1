use Rattle.fax_lines.proofs.Names.{common_steps}
use Rattle.fax_lines.proofs.Names.{arith, right_of_painted}
use Rattle.fax_reading.proofs.PixelRows.ReferencePlaces.{IsSplit, b1_first, b1_second, b2_after_b1}
use Rattle.fax_reading.proofs.PixelRows.ReferencePlaces.{split_passed}
use Rattle.fax_lines.proofs.changes.b1_index.Goals.{After-is_white, then-painted-gt0+then-loop-index-test+else-changes-index}
use Rattle.fax_lines.proofs.changes.b1_index.Goals.{then-painted-gt0+else-loop-index-test, else-painted-gt0}
use Rattle.fax_lines.proofs.changes.b1_index.Goals as goal

-- the loop has passed the changes that are not right of a0, and no others
split : (c : After-is_white) → IsSplit c.args.changes.now (right_of_painted c.args.painted) c.if-painted-gt0.index
split c = grind (arith, common_steps)

pub returns-then-is_multiple_of-is_white-clause-b1 : goal.returns-then-is_multiple_of-is_white-clause-b1
returns-then-is_multiple_of-is_white-clause-b1 c =
    b1_second c.args.columns c.args.changes.now (right_of_painted c.args.painted) c.if-painted-gt0.index c.args.color
    c.is_multiple_of.result c.is_white.result c.requires.lawful (split (goal.at.returns-then-is_multiple_of-is_white-clause-b1
    c).After-is_white) c.is_multiple_of.ensures c.is_white.ensures c.if-is_multiple_of-is_white.true

pub returns-then-is_multiple_of-is_white-clause-b2 : goal.returns-then-is_multiple_of-is_white-clause-b2
returns-then-is_multiple_of-is_white-clause-b2 c =
    grind (arith, common_steps, b2_after_b1, returns-then-is_multiple_of-is_white-clause-b1 c)

pub returns-else-is_multiple_of-is_white-clause-b1 : goal.returns-else-is_multiple_of-is_white-clause-b1
returns-else-is_multiple_of-is_white-clause-b1 c =
    b1_first c.args.columns c.args.changes.now (right_of_painted c.args.painted) c.if-painted-gt0.index c.args.color
    c.is_multiple_of.result c.is_white.result c.requires.lawful (split (goal.at.returns-else-is_multiple_of-is_white-clause-b1
    c).After-is_white) c.is_multiple_of.ensures c.is_white.ensures c.if-is_multiple_of-is_white.false

pub returns-else-is_multiple_of-is_white-clause-b2 : goal.returns-else-is_multiple_of-is_white-clause-b2
returns-else-is_multiple_of-is_white-clause-b2 c =
    grind (arith, common_steps, b2_after_b1, returns-else-is_multiple_of-is_white-clause-b1 c)

pub returns-then-is_multiple_of-is_white-clause-all : goal.returns-then-is_multiple_of-is_white-clause-all
returns-then-is_multiple_of-is_white-clause-all c =
    split_passed c.args.columns c.args.changes.now c.args.painted c.if-painted-gt0.index c.requires.lawful
    (split (goal.at.returns-then-is_multiple_of-is_white-clause-all c).After-is_white)

pub returns-else-is_multiple_of-is_white-clause-all : goal.returns-else-is_multiple_of-is_white-clause-all
returns-else-is_multiple_of-is_white-clause-all c =
    split_passed c.args.columns c.args.changes.now c.args.painted c.if-painted-gt0.index c.requires.lawful
    (split (goal.at.returns-else-is_multiple_of-is_white-clause-all c).After-is_white)
