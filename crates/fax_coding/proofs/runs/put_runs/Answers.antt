use Rattle.fax_coding.proofs.Names.{◌≡◌, ◌++◌, OnOk, ap, subst, ◌∙◌, arith, Color, Bits, low_bits, chosen_run, all_bits}
use Rattle.fax_words.proofs.RunsWritten.{short_run}
use Rattle.fax_coding.proofs.runs.put_runs.Goals as goal

pub returns-then-second-lt64 : goal.returns-then-second-lt64
returns-then-second-lt64 c =
    let one = short_run c.args.color c.args.first c.terminating_word.result
    (omega (arith, c.if-first-lt64.true)) c.terminating_word.ensures in
    let two = short_run c.opposite.result c.args.second c.terminating_word-then-second-lt64.result
    (omega (arith, c.if-second-lt64.true)) c.terminating_word-then-second-lt64.ensures
    ∙ ap (λ (k : Color). chosen_run k c.args.second) c.opposite.ensures in
    let rest : Bits = low_bits c.terminating_word-then-second-lt64.result.count c.terminating_word-then-second-lt64.result.bits in
    let both = ap (λ (b : Bits). b ++ rest) one ∙ ap (λ (b : Bits). chosen_run c.args.color c.args.first ++ b) two in
    subst (λ (b : Bits). OnOk c.put_two_words.result (all_bits c.put_two_words.new.writer ≡ all_bits c.args.writer.now ++ b)) both
    c.put_two_words.ensures
