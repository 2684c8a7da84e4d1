use Rattle.std.proofs.Common.{◌∙◌, arith}
use Rattle.hayro_ccitt.specs.BitOrder.TheVariants.{HighestFirst}
use Rattle.hayro_ccitt.specs.Bits.{bits_of_byte}
use Rattle.fax_encode.proofs.ChangedBytes.{none_changed, one_changed, all_changed}
use Rattle.c_rows.proofs.InvertedBits.{all_inverted, inverted_bits}
use Rattle.c_rows.proofs.packed_rows.invert.Goals as goal

pub loop-index-init : goal.loop-index-init
loop-index-init c = none_changed (bits_of_byte HighestFirst) inverted_bits c.args.bytes.now

pub loop-index-preserved : goal.loop-index-preserved
loop-index-preserved c = one_changed (bits_of_byte HighestFirst) inverted_bits c.loop-index.index c.loop-index.bytes
    c.args.bytes.now c.inverted.result c.loop-index-test.true c.inverted.ensures c.loop-index.invariant

pub returns : goal.returns
returns c = all_changed (bits_of_byte HighestFirst) inverted_bits c.loop-index.index c.loop-index.bytes c.args.bytes.now
    (omega (arith, c.loop-index-test.false)) c.loop-index.invariant ∙ all_inverted c.args.bytes.now
