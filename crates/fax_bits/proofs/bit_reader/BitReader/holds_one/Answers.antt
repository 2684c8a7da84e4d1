use Rattle.fax_bits.proofs.Names.{sym, ap, not, ◌∙◌, ne_eqb}
use Rattle.fax_bits.proofs.BitReading.OnesLeft.{one_in_word}
use Rattle.fax_bits.proofs.bit_reader.BitReader.holds_one.Goals as goal

pub returns-then-peek_u32-ne0 : goal.returns-then-peek_u32-ne0
returns-then-peek_u32-ne0 c = let some = c.if-peek_u32-ne0.true in
    ap not (ne_eqb c.peek_u32.result 0 some)
    ∙ sym (one_in_word c.args.self.now c.peek_u32.result c.peek_u32.type_inv c.peek_u32.ensures some)
