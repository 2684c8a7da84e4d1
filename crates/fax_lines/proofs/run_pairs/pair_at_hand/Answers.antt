use Rattle.fax_lines.proofs.Names.{common_steps}
use Rattle.fax_lines.proofs.Names.{arith, length-drop, and_mask}
use Rattle.fax_lines.proofs.Names.{moved}
use Rattle.fax_lines.proofs.CodeWords.PairsOfRuns.{pair_there, AreBothHere}
use Rattle.fax_bits.proofs.CodeWords.WordsHere.{word_is_run}
use Rattle.fax_lines.proofs.run_pairs.pair_at_hand.Goals as goal

words : (c : goal.After-from-3)
    → AreBothHere c.args.color (moved c.args.skip c.args.window.now.at) c.from.result c.from-2.result c.from-3.result
words c =
    grind (
      arith,
      common_steps,
      length-drop,
      and_mask,
      pair_there,
      c.pairs_of.ensures.each c.peek_12.result c.peek_12.ensures.few,
    )

pub returns-clause-runs : goal.returns-clause-runs
returns-clause-runs c = grind (arith, common_steps, word_is_run, words c, words)

pub returns-clause-short : goal.returns-clause-short
returns-clause-short c = ((words c).short, (words c).short2)

pub returns-clause-narrow : goal.returns-clause-narrow
returns-clause-narrow c = (words c).few
