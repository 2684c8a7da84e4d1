use Rattle.fax_encode.proofs.Names.{◌≡◌, ◌-◌, ◌++◌, suc, ap, ℕ, length, ◌∙◌, arith, chosen_eols, all_bits}
use Rattle.fax_encode.proofs.FilledEols.{eol_more}
use Rattle.fax_encode.proofs.group3.put_closing_eols.Goals as goal

pub loop-left-preserved : goal.loop-left-preserved
loop-left-preserved c =
    let one : suc (c.loop-left.left - 1) ≡ c.loop-left.left = omega (arith, c.loop-left-test.true) in
    eol_more c.args.encoding c.args.fills (all_bits c.loop-left.writer) (all_bits c.put_tagged_eol.new.writer)
    (c.loop-left.left - 1) c.in_ok-put_tagged_eol.ensures ∙ ap (λ (n : ℕ). all_bits c.loop-left.writer
    ++ chosen_eols c.args.encoding c.args.fills (length (all_bits c.loop-left.writer)) n) one ∙ c.loop-left.invariant
