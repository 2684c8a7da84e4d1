use Rattle.fax_bits.proofs.Names.{◌<◌, arith, length, here, common_steps}
use Rattle.fax_bits.proofs.CodeWords.WordsHere.{on_after_words, run_after_words, shorter_following}
use Rattle.fax_bits.proofs.window_words.pass_run.Goals as goal

pub returns-then-run-lt64-clause-run : goal.returns-then-run-lt64-clause-run
returns-then-run-lt64-clause-run c =
    let word = c.word_at_hand-run in
    let before = c.words.invariant in
    run_after_words c.args.color c.args.window.now.at c.words.window.at c.words.total c.words.width c.words.count word.result.0
    word.result.1 before.on (rw c.has_word.ensures.same at (word.ensures.word c.if-run-eq4095.false))
    (omega (arith, before.below, word.ensures.below)) before.at c.if-run-lt64.true

pub words-smaller : goal.words-smaller
words-smaller c =
    let word = c.word_at_hand-run in
    let shorter : length (here c.pass.new.self.at) < length (here c.has_word.new.window.at) =
    rw c.pass.ensures.moved (shorter_following c.args.color c.has_word.new.window.at word.result.0 word.result.1
    (word.ensures.word c.if-run-eq4095.false)) in
    rw c.has_word.ensures.same at shorter

pub words-preserved : goal.words-preserved
words-preserved c =
    let word = c.word_at_hand-run in
    let before = c.words.invariant in
    let there = rw c.has_word.ensures.same at (word.ensures.word c.if-run-eq4095.false) in
    let few = there.few in
    record {
      on = rw (c.pass.ensures.moved, c.has_word.ensures.same) (on_after_words c.args.color c.args.window.now.at c.words.window.at
          c.words.total c.words.width c.words.count word.result.0 word.result.1 before.on there
          (omega (arith, before.below, word.ensures.below)) c.if-run-lt64.false);
      at = grind (arith, common_steps);
      bits = omega (arith, before.bits, few);
      words = omega (arith, before.words, c.if-run-lt64.false);
      below = omega (arith, c.if-total.false);
    }
