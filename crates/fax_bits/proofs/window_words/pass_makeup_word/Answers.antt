use Rattle.fax_bits.proofs.Names.{◌<◌, length, arith, BitsAt, here}
use Rattle.fax_bits.proofs.CodeWords.WordsHere.{run_on_word, shorter_following}
use Rattle.fax_bits.proofs.window_words.pass_makeup_word.Goals as goal

pub returns-clause-on : goal.returns-clause-on
returns-clause-on c = let word = c.word_at_hand-run in
    let at : BitsAt = c.has_two_words.new.window.at in
    let on = run_on_word c.args.color at c.args.total word.result.0 word.result.1 c.args.ticks.now
    (word.ensures.word c.if-run-eq4095.false) c.if-run-lt64.false (omega (arith, word.ensures.below, c.if-total.false)) in
    rw (c.pass.ensures.moved, c.tick.ensures, ← c.has_two_words.ensures.same) on

pub returns-clause-shorter : goal.returns-clause-shorter
returns-clause-shorter c = let word = c.word_at_hand-run in
    let at : BitsAt = c.has_two_words.new.window.at in
    let shorter : length (here c.pass.new.self.at) < length (here at) = rw c.pass.ensures.moved
    (shorter_following c.args.color at word.result.0 word.result.1 (word.ensures.word c.if-run-eq4095.false)) in
    rw (← c.has_two_words.ensures.same) shorter
