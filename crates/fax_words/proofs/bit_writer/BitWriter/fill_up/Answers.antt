use Rattle.fax_words.proofs.Names.{◌≡◌, ◌++◌, ap, subst, ◌∙◌, length, OnOk, Bits, padding, Written, all_bits}
use Rattle.fax_words.proofs.WrittenBits.{missing}
use Rattle.fax_words.proofs.bit_writer.BitWriter.fill_up.Goals as goal

pub returns : goal.returns
returns c =
    let w = c.put.inside in
    let zeros = missing w.bytes.items w.room w.pending c.put.invariant.2
    ∙ ap (λ (written : Written). padding (length (all_bits written))) c.put.view_is in
    subst (λ (b : Bits). OnOk c.put-2.result (all_bits c.put-2.new.self ≡ all_bits c.args.self.now ++ b)) zeros c.put-2.ensures
