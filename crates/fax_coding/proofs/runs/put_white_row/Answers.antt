use Rattle.fax_coding.proofs.Names.{◌≡◌, ◌++◌, OnOk, sym, subst, White, Bits, all_bits}
use Rattle.fax_words.proofs.RunsWritten.{run_rest}
use Rattle.fax_coding.proofs.runs.put_white_row.Goals as goal

pub returns : goal.returns
returns c = subst (λ (b : Bits). OnOk c.put_rest.result (all_bits c.put_rest.new.writer ≡ all_bits c.args.writer.now ++ b))
    (sym (run_rest White c.args.columns c.if-columns-ge2560.false)) c.put_rest.ensures
