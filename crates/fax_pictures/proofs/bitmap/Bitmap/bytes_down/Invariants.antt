use Rattle.std.proofs.Common.{◌≡◌, ◌+◌, ◌-◌, ◌*◌, ◌<◌, ℕ, [], length, get_or}
use Rattle.std.specs.Prelude.{slice_index}
use Rattle.fax_bits.specs.Bits.{bit_of}
use Rattle.fax_reading.specs.Rows.{pixel}
use Rattle.fax_pictures.specs.Turned.{counted, is_row_last}
use Rattle.fax_pictures.proofs.bitmap.Bitmap.bytes_down.Given as goal

abbrev pub invariant-loop-i : goal.invariant-loop-i
invariant-loop-i l = record {
  size : length l.bytes ≡ 512;
  read : (k : ℕ) → k < l.i → (t : ℕ) → t < 8 → 8 * l.index + t < l.self.columns
      → bit_of (slice_index l.bytes k) (7 - t)
      ≡ pixel (get_or l.self.rows (counted (is_row_last l.orientation) (length l.self.rows) (l.left + k)) []) (8 * l.index + t);
}
