use Rattle.fax_bitmap.proofs.Names.{ℕ, List, ap, ◌∙◌, arith, bit_xor}
use Rattle.fax_bitmap.proofs.BlackRuns.{turned_between, word_painted}
use Rattle.fax_bitmap.proofs.black_runs.paint_in_word.Goals as goal

pub returns-clause-painted : goal.returns-clause-painted
returns-clause-painted c = λ front long white.
    let row : List ℕ = c.args.row.now in
    let start : ℕ = c.args.start in
    let word : ℕ = c.pixels_at-word.result in
    word_painted start c.args.from c.args.to row _ word _ front c.requires.within
    (omega (arith, c.requires.ascend)) c.requires.below long white
    c.pixels_at-word.ensures
    (ap (bit_xor word) c.black_between.ensures ∙ turned_between word c.args.from c.args.to (omega (arith, c.requires.ascend)))
    c.put_pixels.ensures.written
