use Rattle.std.proofs.Common.{◌≡◌, ◌+◌, ◌-◌, ◌^◌, ◌<◌, ℕ, suc}
use Rattle.std.specs.Prelude.{slice_index}
use Rattle.fax_bits.specs.Bits.{bit_of}
use Rattle.fax_pictures.proofs.turning.eight_bits.Given as goal

abbrev pub invariant-loop-i : goal.invariant-loop-i
invariant-loop-i l = record {
  fits : l.bits < 2 ^ l.i;
  made : (k : ℕ) → k < l.i → bit_of l.bits (l.i - suc k) ≡ bit_of (slice_index l.bytes (l.start + k)) (7 - l.bit);
}
