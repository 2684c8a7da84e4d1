use Rattle.fax_encode.proofs.Names.{ℕ, ap, get_or, ◌∙◌, arith, LowestFirst, bits_of_byte, TURNED}
use Rattle.fax_encode.proofs.TurnedBits.{turned_byte}
use Rattle.fax_encode.proofs.bit_order.byte_turned.Goals as goal

pub returns : goal.returns
returns c = ap (bits_of_byte LowestFirst) (c.byte_at.ensures ∙ ap (λ (n : ℕ). get_or TURNED n 0) c.from.ensures)
    ∙ turned_byte c.args.byte (omega (arith, c.ranges.byte))
