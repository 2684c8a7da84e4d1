use Rattle.fax_bits.proofs.Names.{arith}
use Rattle.fax_bits.proofs.BitReading.PlainEols.{plain_eol_here}
use Rattle.fax_bits.proofs.bit_reader.BitReader.is_at_plain_eol.Goals as goal

pub returns-clause-eol : goal.returns-clause-eol
returns-clause-eol c =
    λ e. (_, (plain_eol_here c.args.self.now c.peek_u32.result c.peek_u32.type_inv c.peek_u32.ensures c.if-peek_u32-ne1.false).0)

pub returns-clause-looked : goal.returns-clause-looked
returns-clause-looked c = λ e. omega (
  arith,
  c.tick_times.ensures,
  (plain_eol_here c.args.self.now c.peek_u32.result c.peek_u32.type_inv c.peek_u32.ensures c.if-peek_u32-ne1.false).1,
)
