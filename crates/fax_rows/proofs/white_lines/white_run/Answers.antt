use Rattle.fax_rows.proofs.Names.{◌≡◌, ◌%◌, arith, subst, ℕ}
use Rattle.fax_bits.specs.WhiteWords.{IsWhiteWord}
use Rattle.fax_rows.proofs.Readings.WhiteLineBits.{one_word_run, two_word_run}
use Rattle.fax_rows.proofs.white_lines.white_run.Goals as goal

pub returns-then-columns-lt64-clause-run : goal.returns-then-columns-lt64-clause-run
returns-then-columns-lt64-clause-run c =
    let below : c.args.columns % 64 ≡ c.args.columns = omega arith in
    λ some. one_word_run c.args.columns c.white_terminating_word-last.result (omega arith)
    (subst (λ (n : ℕ). IsWhiteWord n c.white_terminating_word-last.result) below c.white_terminating_word-last.ensures)

pub returns-clause-run : goal.returns-clause-run
returns-clause-run c =
    λ some. two_word_run c.args.columns c.white_makeup_word.result c.white_terminating_word-last.result c.joined.result
    (omega arith) (omega arith) c.white_makeup_word.ensures c.white_terminating_word-last.ensures c.joined.ensures.whole
    c.joined.ensures.count c.joined.ensures.bits
