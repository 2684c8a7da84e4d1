use Rattle.fax_bits.proofs.Names.{◌≡◌, ℕ, ◌+◌, ◌≤◌, false, ltb, length, min, arith, lt-ltb, ltb-true, moved, IsWordHere}
use Rattle.fax_bits.proofs.Names.{common_steps}
use Rattle.fax_bits.proofs.CodeWords.WordsHere.{run_ends_by_two, run_on_two, shorter_after_two}
use Rattle.fax_bits.proofs.bit_reader.BitReader.read_two_words.Goals as goal

-- the bits of both words are here
both_within : (c : goal.After-tick_times) → c.args.self.now.place + (c.word_after-first.result.1 + c.word_after-second.result.1)
    ≤ length c.args.self.now.bits
both_within c = grind (arith, common_steps)

moved_past_both : (c : goal.After-tick_times)
    → c.consume.new.self ≡ moved (c.word_after-first.result.1 + c.word_after-second.result.1) c.args.self.now
moved_past_both c = grind (arith, common_steps, min, both_within)

first : (c : goal.After-tick_times)
    → IsWordHere c.args.color (moved 0 c.args.self.now) c.word_after-first.result.0 c.word_after-first.result.1
first c = c.word_after-first.ensures.word c.if-first-eq4095.false (omega (arith, both_within c))

second : (c : goal.After-tick_times) → IsWordHere c.args.color (moved c.word_after-first.result.1 c.args.self.now)
    c.word_after-second.result.0 c.word_after-second.result.1
second c = c.word_after-second.ensures.word c.if-second-eq4095.false (omega (arith, both_within c))

fits : (c : goal.After-tick_times) → c.args.total + c.word_after-first.result.0 + c.word_after-second.result.0 ≤ 4294967295
fits c = omega (arith, c.requires.below, c.word_after-first.ensures.below, c.word_after-second.ensures.below)

long : (c : goal.After-tick_times) → 64 ≤ c.word_after-first.result.0
long c = omega (arith, c.if-first-lt64.false)

not_below : (n : ℕ) → ltb n 64 ≡ false → 64 ≤ n
not_below n e = grind (arith, common_steps, lt-ltb)

pub returns-clause-last : goal.returns-clause-last
returns-clause-last c = λ short.
    let ends = run_ends_by_two c.args.color c.args.self.now c.args.total c.word_after-first.result.0 c.word_after-first.result.1
    c.word_after-second.result.0 c.word_after-second.result.1 (first c) (second c) (long c) (fits c) (ltb-true _ _ short) in
    rw (moved_past_both c, c.tick_times.ensures) (ends.0, omega (arith, ends.1))

pub returns-clause-on : goal.returns-clause-on
returns-clause-on c = λ long_too. rw (moved_past_both c, c.tick_times.ensures) (run_on_two c.args.color c.args.self.now
    c.args.total c.word_after-first.result.0 c.word_after-first.result.1 c.word_after-second.result.0
    c.word_after-second.result.1 (first c) (second c) (long c) (fits c) c.args.ticks.now (not_below _ long_too))

pub returns-clause-shorter : goal.returns-clause-shorter
returns-clause-shorter c = rw (moved_past_both c)
    (shorter_after_two c.args.color c.args.self.now c.args.total c.word_after-first.result.0 c.word_after-first.result.1
    c.word_after-second.result.0 c.word_after-second.result.1 (first c) (second c) (long c) (fits c))
