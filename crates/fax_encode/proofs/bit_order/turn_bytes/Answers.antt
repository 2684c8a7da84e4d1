use Rattle.fax_encode.proofs.Names.{arith, HighestFirst, LowestFirst, bits_of_byte}
use Rattle.fax_encode.proofs.ChangedBytes.{none_changed, one_changed, all_changed}
use Rattle.fax_encode.proofs.bit_order.turn_bytes.Goals as goal

pub loop-index-init : goal.loop-index-init
loop-index-init c = none_changed (bits_of_byte LowestFirst) (bits_of_byte HighestFirst) c.args.bytes.now

pub loop-index-preserved : goal.loop-index-preserved
loop-index-preserved c = one_changed (bits_of_byte LowestFirst) (bits_of_byte HighestFirst) c.loop-index.index c.loop-index.bytes
    c.args.bytes.now c.byte_turned.result c.loop-index-test.true c.byte_turned.ensures c.loop-index.invariant

pub returns : goal.returns
returns c = all_changed (bits_of_byte LowestFirst) (bits_of_byte HighestFirst) c.loop-index.index c.loop-index.bytes
    c.args.bytes.now (omega (arith, c.loop-index-test.false)) c.loop-index.invariant
