use Rattle.fax_encode.proofs.Names.{◌≡◌, ◌++◌, OnOk, ap, subst, ◌∙◌, Bits, eol, all_bits}
use Rattle.fax_encode.proofs.FilledEols.{one_fits, eol_bits}
use Rattle.fax_encode.proofs.group3.put_filled_eol.Goals as goal

pub put-requires-clause-word : goal.put-requires-clause-word
put-requires-clause-word c = one_fits c.fill_of-fill.result

pub returns : goal.returns
returns c = subst (λ (b : Bits). OnOk c.put.result (all_bits c.put.new.self ≡ all_bits c.args.writer.now ++ b))
    (eol_bits c.fill_of-fill.result ∙ ap eol c.fill_of-fill.ensures.fill) c.put.ensures
