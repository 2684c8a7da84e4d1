use Rattle.fax_encode.proofs.Names.{◌-◌, length, HighestFirst, LowestFirst, bits_of_byte}
use Rattle.fax_encode.proofs.ChangedBytes.{AreChanged}
use Rattle.fax_encode.proofs.bit_order.turn_bytes.Given as goal

abbrev pub invariant-loop-index : goal.invariant-loop-index
invariant-loop-index l =
    AreChanged (bits_of_byte LowestFirst) (bits_of_byte HighestFirst) l.index l.bytes l.fn.bytes

abbrev pub decreases-loop-index : goal.decreases-loop-index
decreases-loop-index l = length l.bytes - l.index
