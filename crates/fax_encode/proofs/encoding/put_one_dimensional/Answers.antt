use Rattle.fax_encode.proofs.Names.{◌≡◌, ◌∷◌, ◌++◌, [], true, OnOk, ap, subst, ◌∙◌, append_assoc, Bits, pixels, line_1d}
use Rattle.fax_encode.proofs.Names.{all_bits}
use Rattle.fax_encode.proofs.encoding.put_one_dimensional.Goals as goal

pub returns : goal.returns
returns c =
    let old : Bits = all_bits c.args.writer.now in
    let line : Bits = line_1d c.args.effort (pixels c.args.columns c.args.changes.now) in
    let both = ap (λ (b : Bits). b ++ line) c.in_ok-put.ensures ∙ append_assoc old (true ∷ []) line in
    subst (λ (b : Bits). OnOk c.put_line_1d.result (all_bits c.put_line_1d.new.writer ≡ b)) both c.put_line_1d.ensures
