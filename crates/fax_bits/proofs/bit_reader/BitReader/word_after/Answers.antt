use Rattle.fax_bits.proofs.Names.{arith, moved}
use Rattle.fax_bits.proofs.CodeWords.LookedUp.{word_is_cut, word_is_here}
use Rattle.fax_bits.proofs.bit_reader.BitReader.word_after.Goals as goal

pub returns-clause-word : goal.returns-clause-word
returns-clause-word c =
    λ some within. word_is_here c.args.color (moved c.args.skip c.args.self.now) _ _ _ (grind arith) c.from.ensures
    c.from-2.ensures (λ past. omega (arith, past, within)) some

pub returns-clause-cut : goal.returns-clause-cut
returns-clause-cut c =
    λ past. word_is_cut c.args.color (moved c.args.skip c.args.self.now) _ _ _ (grind arith) c.from.ensures c.from-2.ensures past
