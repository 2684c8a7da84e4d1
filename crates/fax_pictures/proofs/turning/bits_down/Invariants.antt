use Rattle.std.proofs.Common.{◌≡◌, ◌-◌, ◌*◌, ◌/◌, ◌%◌, ◌<◌, ℕ, length}
use Rattle.std.specs.Prelude.{slice_index}
use Rattle.fax_bits.specs.Bits.{bit_of}
use Rattle.fax_pictures.proofs.turning.bits_down.Given as goal

abbrev pub invariant-loop-index : goal.invariant-loop-index
invariant-loop-index l = record {
  size : length l.bits ≡ 64;
  made : (k : ℕ) → k < 8 * l.index → bit_of (slice_index l.bits (k / 8)) (7 - k % 8) ≡ bit_of (slice_index l.bytes k) (7 - l.bit);
}
