use Rattle.std.proofs.Common.{arith, ◌≡◌, ◌+◌, ◌-◌, ◌*◌, ◌<◌, ℕ, [], length, get_or, ap, ◌∙◌}
use Rattle.std.proofs.lemmas.List.{length-set}
use Rattle.fax_bits.specs.Bits.{bit_of}
use Rattle.fax_reading.specs.Rows.{pixel}
use Rattle.fax_pictures.specs.Turned.{counted, is_row_last}
use Rattle.fax_pictures.proofs.TurnedBytes.{one_more_set}
use Rattle.fax_pictures.proofs.bitmap.Bitmap.bytes_down.Goals as goal

pub loop-i-preserved : goal.loop-i-preserved
loop-i-preserved c =
    let rows = c.args.self.now.rows in
    let first : ℕ = 8 * c.args.index in
    let row : ℕ → ℕ = λ k. counted (is_row_last c.args.orientation) (length rows) (c.args.left + k) in
    let same : c.counted-row.result ≡ row c.loop-i.i =
    c.counted-row.ensures.value ∙ ap (λ b. counted b c.rows-in-loop-i.result (c.args.left + c.loop-i.i)) c.is_row_last.ensures
    ∙ ap (λ (n : ℕ). counted (is_row_last c.args.orientation) n (c.args.left + c.loop-i.i)) c.rows-in-loop-i.ensures in
    record {
      size = length-set c.loop-i.bytes c.loop-i.i c.byte_of_row.result ∙ c.loop-i.invariant.size;
      read = one_more_set
          (λ k v. (t : ℕ) → t < 8 → first + t < c.args.self.now.columns
          → bit_of v (7 - t) ≡ pixel (get_or rows (row k) []) (first + t))
          c.loop-i.bytes c.loop-i.i c.byte_of_row.result
          (omega (arith, c.loop-i-test.true, c.min-count.ensures, c.loop-i.invariant.size))
          (λ t lt within. c.byte_of_row.ensures t lt within ∙ ap (λ (n : ℕ). pixel (get_or rows n []) (first + t)) same)
          c.loop-i.invariant.read;
    }
