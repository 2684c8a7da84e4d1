use Rattle.fax_bits.proofs.Names.{◌≡◌, ◌≢◌, ◌+◌, ◌<◌, ◌≤◌, ◌∙◌, Err, refl, length, min, arith, err_from_is_err_and, DecodeError}
use Rattle.fax_bits.proofs.Names.{UnexpectedEof, BitsAt, here, moved, codes_of, read_code, run_from, run_found, common_steps}
use Rattle.fax_bits.proofs.CodeWords.ReadRuns.{read_code_shorter, words_not_empty, run_fails, run_goes_on, some_where}
use Rattle.fax_bits.proofs.CodeWords.RunWords.{run_found_on, run_found_missed}
use Rattle.fax_bits.proofs.bit_reader.BitReader.decode_words.Goals.{in-Some+else-is_whole}
use Rattle.fax_bits.proofs.bit_reader.BitReader.decode_words.Goals.{in-None+in_ok-run-in-None+else-run-lt64}
use Rattle.fax_bits.proofs.CodeWords.{WordsHere.run_ends_by_one, ReadCodes.read_code_missed}
use Rattle.fax_bits.proofs.bit_reader.BitReader.decode_words.Goals as goal

pub words-smaller : goal.words-smaller
words-smaller c = elim c.match-read_two_words.branch [
  | in-Some+else-is_whole w ↦ rw (w.self-is) w.in-Some.ensures.shorter
  | in-None+in_ok-run-in-None+else-run-lt64 w ↦ let old = here c.read_two_words.new.self in
      let shorter = read_code_shorter (codes_of c.args.color) old w.in_ok-run-in-None.run' (here w.decode_word.new.self)
      (words_not_empty c.args.color) w.in_ok-run-in-None.ensures.word in
      rw (w.self-is, ← w.in-None.ensures.left.0) shorter
]

pub words-preserved : goal.words-preserved
words-preserved c = elim c.match-read_two_words.branch [
  | in-Some+else-is_whole w ↦ grind arith
  | in-None+in_ok-run-in-None+else-run-lt64 w ↦ grind (arith, some_where, run_found_on, run_goes_on)
]

pub returns-in_err-consume-clause-run : goal.returns-in_err-consume-clause-run
returns-in_err-consume-clause-run c = let at : BitsAt = c.words.self in
    let missing : length at.bits < at.place + c.word_after-last.result.1 = c.in_err-consume.ensures.end.0 refl in
    let cut : read_code (codes_of c.args.color)
    (here (moved 0 at)) ≡ Err UnexpectedEof = c.word_after-last.ensures.cut (omega (arith, missing)) in
    let none : at.place + 0 ≡ at.place = omega arith in
    grind (arith, err_from_is_err_and, run_fails)

-- the bits of the last word are here
ends_within : (c : goal.In_ok-consume) → c.words.self.place + c.word_after-last.result.1 ≤ length c.words.self.bits
ends_within c = grind (arith, common_steps)

moved_past : (c : goal.In_ok-consume) → c.consume.new.self ≡ moved c.word_after-last.result.1 c.words.self
moved_past c = grind (arith, common_steps, min, ends_within)

pub returns-then-last-lt64-clause-run : goal.returns-then-last-lt64-clause-run
returns-then-last-lt64-clause-run c =
    let some : c.word_after-last.result.0 ≢ 4095 = λ e. absurd (omega (arith, e, c.if-last-lt64.true)) in
    let word = c.word_after-last.ensures.word some (omega (arith, ends_within c)) in
    c.words.invariant.0 ∙ rw (moved_past c) (run_ends_by_one c.args.color c.words.self c.words.total c.word_after-last.result.0
    c.word_after-last.result.1 word c.if-last-lt64.true (omega (arith, c.words.invariant, c.if-last-lt64.true)))

pub returns-in_err-run-in-None-clause-ticks : goal.returns-in_err-run-in-None-clause-ticks
returns-in_err-run-in-None-clause-ticks c = let e : DecodeError = c.in_err-run-in-None.field-0.0 in
    let left = c.in-None.ensures.left in
    let old = here c.words.self in
    let word : read_code (codes_of c.args.color) old ≡ Err e = rw (← left.0) c.in_err-run-in-None.ensures.word in
    let answer = err_from_is_err_and c.from_residual-in_err-run-in-None.result c.from_residual-in_err-run-in-None.ensures.1 in
    let is : c.from_residual-in_err-run-in-None.result ≡ Err e = rw (answer.1, answer.2) refl in
    let none = run_found_missed c.args.color c.words.total old e word in
    let one = read_code_missed (codes_of c.args.color) old e c.from_residual-in_err-run-in-None.result word is in
    omega (arith, c.words.invariant.2, c.decode_word.ensures.ticks, left.1, none, one)

-- the run goes on after the words that were read
goes_on : (c : goal.After-decode_long_run) → (run_from c.args.color (0, here c.args.self.now)
    ≡ run_from c.args.color (c.match-read_two_words.total, here c.match-read_two_words.self)) × (c.match-read_two_words.ticks
    + length (run_found c.args.color (c.match-read_two_words.total, here c.match-read_two_words.self))
    ≡ c.args.ticks.now + length (run_found c.args.color (0, here c.args.self.now)))
goes_on c = elim c.match-read_two_words.branch [
  | in-Some+else-is_whole w ↦ grind arith
  | in-None+in_ok-run-in-None+else-run-lt64 w ↦ grind (arith, some_where, run_found_on, run_goes_on)
]

pub returns-then-total-gt40960-clause-run : goal.returns-then-total-gt40960-clause-run
returns-then-total-gt40960-clause-run c = rw ((goes_on c).0) c.decode_long_run.ensures.run

pub returns-then-total-gt40960-clause-ticks : goal.returns-then-total-gt40960-clause-ticks
returns-then-total-gt40960-clause-ticks c = omega (arith, (goes_on c).1, c.decode_long_run.ensures.ticks)
