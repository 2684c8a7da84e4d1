use Rattle.fax_words.proofs.Names.{◌-◌, refl, length, ap, arith, length-low_bits, Written}
use Rattle.fax_words.proofs.WrittenBits.{put_more}
use Rattle.fax_words.proofs.bit_writer.BitWriter.put.Goals as goal

pub put_over-requires-clause-full : goal.put_over-requires-clause-full
put_over-requires-clause-full c = omega (
  arith,
  c.if-count-self.true,
  ap (λ (w : Written). length w.rest) c.self.view_is,
  length-low_bits (64 - c.self.inside.room) c.self.inside.pending,
  c.self.invariant.2,
)

pub returns : goal.returns
returns c = rw (← c.self.view_is) (put_more c.self.inside.bytes.items
    c.self.inside.pending c.self.inside.room c.args.count c.args.word _
    c.if-count-self.false c.self.invariant.2 c.requires.word refl)
