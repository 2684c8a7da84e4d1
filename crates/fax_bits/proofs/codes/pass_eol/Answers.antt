use Rattle.fax_bits.proofs.Names.{cond-true, cond-false, ◌∙◌, arith, le-leb, lt-leb, drop_min, count_leading_zeros}
use Rattle.fax_bits.proofs.BitReading.PlainEols.{word_says}
use Rattle.fax_bits.proofs.codes.pass_eol.Goals as goal

pub returns-then-zeros-lt11-clause-eol : goal.returns-then-zeros-lt11-clause-eol
returns-then-zeros-lt11-clause-eol c =
    let says = word_says c.args.reader.now c.peek_u32.result c.peek_u32.type_inv c.peek_u32.ensures c.if-zeros-ge32.false in
    says.0 ∙ cond-false _ _ _ (lt-leb 11 (count_leading_zeros 32 c.peek_u32.result) c.if-zeros-lt11.true)

pub returns-then-zeros-lt11-clause-ticks : goal.returns-then-zeros-lt11-clause-ticks
returns-then-zeros-lt11-clause-ticks c =
    let says = word_says c.args.reader.now c.peek_u32.result c.peek_u32.type_inv c.peek_u32.ensures c.if-zeros-ge32.false in
    omega (arith, says.1, c.tick_times.ensures)

pub returns-clause-eol : goal.returns-clause-eol
returns-clause-eol c = let at = c.args.reader.now in
    let n = count_leading_zeros 32 c.peek_u32.result in
    let says = word_says at c.peek_u32.result c.peek_u32.type_inv c.peek_u32.ensures c.if-zeros-ge32.false in
    grind (arith, drop_min, cond-true, le-leb)

pub returns-clause-ticks : goal.returns-clause-ticks
returns-clause-ticks c =
    let says = word_says c.args.reader.now c.peek_u32.result c.peek_u32.type_inv c.peek_u32.ensures c.if-zeros-ge32.false in
    omega (arith, says.1, c.tick_times.ensures)
