use Rattle.fax_bitmap.proofs.Names.{◌≡◌, ◌+◌, ◌-◌, ◌*◌, ◌/◌, ◌%◌, ◌++◌, ℕ, List, length, take, drop, ap, ◌∙◌, arith}
use Rattle.fax_bitmap.proofs.Names.{Bits, bits_of}
use Rattle.fax_bitmap.proofs.BlackRuns.{long_painted}
use Rattle.fax_bitmap.proofs.black_runs.paint_long_run.Goals as goal

pub returns-clause-painted : goal.returns-clause-painted
returns-clause-painted c = λ front long white.
    let from : ℕ = c.args.from in
    let to : ℕ = c.args.to in
    let last : ℕ = (to - 1) / 8 - 7 in
    let zeros : ℕ = (8 - to % 8) % 8 in
    let word = c.paint_in_word.ensures in
    let row1 : List ℕ = c.paint_in_word.new.row in
    let there : length front ≡ 8 * (from / 8) + from % 8 = omega (arith, long) in
    let end : last + 8 ≡ (to + 7) / 8 = omega (arith, c.requires.long) in
    let left : zeros + to ≡ 8 * last + 64 = omega (arith, end) in
    long_painted from to last zeros c.args.row.now row1 c.put_pixels.new.bytes c.paint_bytes.new.row front c.requires.long end
    left c.requires.within long word.length c.put_pixels.ensures.length (word.painted front there white)
    (c.put_pixels.ensures.written
    ∙ ap (λ (b : Bits). bits_of (take last row1) ++ (b ++ bits_of (drop (last + 8) row1))) c.ones_before.ensures)
    c.paint_bytes.ensures.painted
