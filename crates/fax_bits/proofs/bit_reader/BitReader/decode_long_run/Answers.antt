use Rattle.fax_bits.proofs.Names.{◌≡◌, Err, refl, arith, err_from_is_err_and, DecodeError, here, codes_of, common_steps}
use Rattle.fax_bits.proofs.CodeWords.ReadRuns.{read_code_shorter, words_not_empty, run_goes_on, some_where}
use Rattle.fax_bits.proofs.CodeWords.{ReadCodes.read_code_missed, RunWords.run_found_on, RunWords.run_found_missed}
use Rattle.fax_bits.proofs.bit_reader.BitReader.decode_long_run.Goals as goal

pub words-smaller : goal.words-smaller
words-smaller c = read_code_shorter (codes_of c.args.color) (here c.words.self) c.in_ok-run.run' (here c.decode_word.new.self)
    (words_not_empty c.args.color) c.in_ok-run.ensures.word

pub words-preserved : goal.words-preserved
words-preserved c = grind (arith, common_steps, some_where, run_found_on, run_goes_on)

pub returns-in_err-run-clause-ticks : goal.returns-in_err-run-clause-ticks
returns-in_err-run-clause-ticks c = let e : DecodeError = c.in_err-run.field-0.0 in
    let old = here c.words.self in
    let answer = err_from_is_err_and c.from_residual.result c.from_residual.ensures.1 in
    let is : c.from_residual.result ≡ Err e = rw (answer.1, answer.2) refl in
    let none = run_found_missed c.args.color c.words.total old e c.in_err-run.ensures.word in
    let one = read_code_missed (codes_of c.args.color) old e c.from_residual.result c.in_err-run.ensures.word is in
    omega (arith, c.words.invariant.2, c.decode_word.ensures.ticks, none, one)
