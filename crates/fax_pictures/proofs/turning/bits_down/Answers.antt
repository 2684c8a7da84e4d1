use Rattle.std.proofs.Common.{arith, ◌-◌, ◌∙◌}
use Rattle.std.proofs.lemmas.List.{length-set}
use Rattle.fax_pictures.proofs.TurnedBytes.{one_byte_more}
use Rattle.fax_pictures.proofs.turning.bits_down.Goals as goal

pub loop-index-preserved : goal.loop-index-preserved
loop-index-preserved c = record {
  size = length-set c.loop-index.bits c.loop-index.index c.eight_bits.result ∙ c.loop-index.invariant.size;
  made = one_byte_more c.loop-index.bits c.args.bytes.now c.loop-index.index c.eight_bits.result (7 - c.args.bit)
      (omega (arith, c.loop-index-test.true, c.loop-index.invariant.size)) c.eight_bits.ensures c.loop-index.invariant.made;
}
