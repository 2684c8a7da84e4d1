use Rattle.fax_coding.proofs.Names.{◌≡◌, ◌-◌, ◌++◌, ℕ, suc, sym, ap, ◌∙◌, arith, append-nil, append_assoc, Bits, Pass}
use Rattle.fax_coding.proofs.Names.{word_of_mode}
use Rattle.fax_coding.proofs.Names.{all_bits}
use Rattle.fax_coding.specs.Ways.{words_of_passes}
use Rattle.fax_coding.proofs.ShortestWays.{passes_more}
use Rattle.fax_coding.proofs.shortest_lines.put_passes.Goals as goal

pub passes-init : goal.passes-init
unfolding words_of_passes
passes-init c =
    let none : c.args.passes - c.args.passes ≡ 0 = omega arith in
    record {
      counted = omega arith;
      written = sym (ap (λ (m : ℕ). all_bits c.args.writer.now ++ words_of_passes m) none
          ∙ append-nil (all_bits c.args.writer.now));
    }

pub passes-preserved : goal.passes-preserved
passes-preserved c =
    let k : ℕ = c.args.passes - c.passes.left in
    let one : c.args.passes - (c.passes.left - 1) ≡ suc k = omega (arith, c.passes.invariant.counted, c.passes-test.true) in
    record {
      counted = omega (arith, c.passes.invariant.counted);
      written = c.in_ok-put_code_word.ensures ∙ ap (λ (b : Bits). all_bits c.passes.writer ++ b) c.pass_word.ensures.spells
          ∙ ap (λ (b : Bits). b ++ word_of_mode Pass) c.passes.invariant.written
          ∙ append_assoc (all_bits c.args.writer.now) (words_of_passes k) (word_of_mode Pass)
          ∙ ap (λ (b : Bits). all_bits c.args.writer.now ++ b) (sym (ap words_of_passes one ∙ passes_more k));
    }
