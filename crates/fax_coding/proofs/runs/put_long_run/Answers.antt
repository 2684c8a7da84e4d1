use Rattle.fax_coding.proofs.Names.{◌≡◌, ◌-◌, ◌++◌, OnOk, sym, ap, subst, ◌∙◌, Bits, word_of_length, chosen_run, all_bits}
use Rattle.fax_words.proofs.RunsWritten.{run_more, run_rest, one_part}
use Rattle.fax_coding.proofs.runs.put_long_run.Goals as goal

pub loop-left-preserved : goal.loop-left-preserved
loop-left-preserved c = one_part (all_bits c.put_code_word.new.writer) (all_bits c.loop-left.writer)
    (chosen_run c.args.color c.loop-left.left) (word_of_length c.args.color 2560) (chosen_run c.args.color
    (c.loop-left.left - 2560)) _ c.loop-left.invariant (run_more c.args.color c.loop-left.left c.loop-left-test.true)
    (c.in_ok-put_code_word.ensures ∙ ap (λ (b : Bits). all_bits c.loop-left.writer ++ b) c.makeup_word.ensures.spells)

pub returns : goal.returns
returns c =
    let rest =
    ap (λ (b : Bits). all_bits c.loop-left.writer ++ b) (run_rest c.args.color c.loop-left.left c.loop-left-test.false) in
    subst (λ (b : Bits). OnOk c.put_rest.result (all_bits c.put_rest.new.writer ≡ b))
    (sym rest ∙ c.loop-left.invariant) c.put_rest.ensures
