use Rattle.fax_coding.proofs.Names.{◌≡◌, ◌++◌, OnOk, sym, subst, ◌∙◌, arith, Bits, all_bits}
use Rattle.fax_words.proofs.RunsWritten.{run_rest, rest_few}
use Rattle.fax_coding.proofs.runs.put_run.Goals as goal

pub returns : goal.returns
returns c =
    let short = run_rest c.args.color c.args.pixels (omega (arith, c.if-pixels-ge64.false))
    ∙ rest_few c.args.color c.args.pixels c.if-pixels-ge64.false in
    subst (λ (b : Bits). OnOk c.put_code_word.result (all_bits c.put_code_word.new.writer ≡ all_bits c.args.writer.now ++ b))
    (c.terminating_word.ensures.spells ∙ sym short) c.put_code_word.ensures
