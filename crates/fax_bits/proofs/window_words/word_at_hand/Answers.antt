use Rattle.fax_bits.proofs.Names.{arith, moved}
use Rattle.fax_bits.proofs.CodeWords.LookedUp.{word_is_near}
use Rattle.fax_bits.proofs.window_words.word_at_hand.Goals as goal

pub returns-clause-word : goal.returns-clause-word
returns-clause-word c =
    λ some. word_is_near c.args.color (moved c.args.skip c.args.window.now.at) _ _ _ (grind arith) c.from.ensures c.from-2.ensures
    (omega arith) some
