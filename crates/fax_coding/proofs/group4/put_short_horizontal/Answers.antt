use Rattle.fax_coding.proofs.Names.{◌≡◌, ◌++◌, ℕ, OnOk, ap, subst, ◌∙◌, arith, append_assoc, Color, Horizontal, Bits, low_bits}
use Rattle.fax_coding.proofs.Names.{opposite}
use Rattle.fax_coding.proofs.Names.{chosen_run, word_of_mode, all_bits}
use Rattle.fax_words.proofs.RunsWritten.{more_bits, short_run}
use Rattle.fax_coding.proofs.group4.put_short_horizontal.Goals as goal

pub returns : goal.returns
returns c =
    let mode : low_bits c.one_word-mode.result.count c.one_word-mode.result.bits ≡ word_of_mode Horizontal =
    ap (λ (n : ℕ). low_bits n c.one_word-mode.result.bits) c.one_word-mode.ensures.count
    ∙ ap (low_bits c.horizontal_word.result.count) c.one_word-mode.ensures.bits ∙ c.horizontal_word.ensures.spells in
    let first = short_run c.args.color c.args.first c.terminating_word.result
    (omega (arith, c.requires.0)) c.terminating_word.ensures in
    let second = short_run c.opposite.result c.args.second c.terminating_word-2.result
    (omega (arith, c.requires.1)) c.terminating_word-2.ensures
    ∙ ap (λ (k : Color). chosen_run k c.args.second) c.opposite.ensures in
    let all = more_bits c.with_word-two.ensures.spells (more_bits c.with_word-one.ensures.spells mode first) second
    ∙ append_assoc (word_of_mode Horizontal) (chosen_run c.args.color c.args.first)
    (chosen_run (opposite c.args.color) c.args.second) in
    subst (λ (b : Bits). OnOk c.put_joined.result (all_bits c.put_joined.new.writer ≡ all_bits c.args.writer.now ++ b)) all
    c.put_joined.ensures
