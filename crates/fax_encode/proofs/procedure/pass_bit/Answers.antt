use Rattle.std.proofs.Common.{◌≡◌, ◌+◌, ◌/◌, ◌∙◌, ℕ, ap, arith, eqb, false, get_or, sym}
use Rattle.fax_encode.proofs.ComparedBits.{bit_compared, bit_elsewhere, are_others, same_bits, top_bit}
use Rattle.fax_encode.proofs.procedure.pass_bit.Goals.{After-peek_u32}
use Rattle.fax_encode.proofs.procedure.pass_bit.Goals as goal

-- the bit at hand
at_hand : (c : After-peek_u32)
    → eqb (c.peek_u32.result / 2147483648) 1 ≡ get_or c.args.reader.now.bits c.args.reader.now.place false
at_hand c =
    let place : c.args.reader.now.place + 0 ≡ c.args.reader.now.place = omega arith in
    top_bit c.peek_u32.result c.peek_u32.type_inv ∙ c.peek_u32.ensures 0 (omega arith)
    ∙ ap (λ (n : ℕ). get_or c.args.reader.now.bits n false) place

pub returns-then-is_one-bit : goal.returns-then-is_one-bit
returns-then-is_one-bit c =
    let d = (goal.at.returns-then-is_one-bit c).After-peek_u32 in
    bit_elsewhere c.args.reader.now c.args.bit (λ is. are_others _ _ c.if-is_one-bit.true (at_hand d ∙ is))

pub returns : goal.returns
returns c =
    let d = (goal.at.returns c).After-peek_u32 in
    let read = c.read_bit.ensures in
    rw c.is_ok.ensures.value (bit_compared c.read_bit.result c.args.reader.now c.read_bit.new.self c.args.bit
    (sym (at_hand d) ∙ same_bits _ _ c.if-is_one-bit.false) read.bit read.next read.front read.end read.unchanged)
