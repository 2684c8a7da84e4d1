use Rattle.fax_bitmap.proofs.Names.{◌≡◌, ◌+◌, ◌-◌, ◌*◌, ◌/◌, ◌≤◌, ℕ, List, length, take, drop, replicate, ap, ◌∙◌, arith}
use Rattle.fax_bitmap.proofs.Names.{length-drop, length-replicate, length-take-le, put_mid, refl}
use Rattle.fax_bitmap.proofs.PaintedRows.{length-put_mid, words_filled}
use Rattle.fax_bitmap.proofs.painting.move_by_filling.Goals as goal

pub returns : goal.returns
returns c =
    let start : ℕ = c.args.brush.start in
    let to : ℕ = c.args.place / 64 * 8 in
    let count : ℕ = to - (start + 8) in
    let one : List ℕ = c.put_pixels.new.bytes in
    let further : start + 8 ≤ to = omega (arith, c.if-start-brush.false, c.requires.begun) in
    let end : start + 8 + count ≡ to = omega (arith, further) in
    let within : start + 8 + count ≤ length c.args.row.now = omega (arith, end, c.requires.within) in
    let there : length (take count (drop (start + 8) one)) ≡ count =
    length-take-le count (drop (start + 8) one)
    (omega (arith, length-drop (start + 8) one, c.put_pixels.ensures.length, within)) in
    let filled : c.fill_apart.new.bytes ≡ replicate count c.plain_byte.result =
    c.fill_apart.ensures ∙ ap (λ (n : ℕ). replicate n c.plain_byte.result) there in
    let done =
    words_filled start count c.plain_byte.result c.args.brush.word c.plain_word.result c.args.row.now one _ c.args.brush.is_black
    within c.put_pixels.ensures.length c.put_pixels.ensures.written (ap (put_mid (start + 8) count one) filled)
    c.plain_byte.ensures c.plain_word.ensures in
    record {
      stands = record { begun = omega arith; from = omega arith; below = omega arith };
      right = omega (arith, further);
      color = refl;
      painted = rw end at done;
      long = length-put_mid (start + 8) count one c.fill_apart.new.bytes (omega (arith, within, c.put_pixels.ensures.length))
          (omega (arith, ap length filled, length-replicate count c.plain_byte.result)) ∙ c.put_pixels.ensures.length;
    }
