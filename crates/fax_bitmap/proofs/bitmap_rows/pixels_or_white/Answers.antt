use Rattle.fax_bitmap.proofs.Names.{◌≡◌, ◌<◌, ℕ, List, get_or, ap, ◌∙◌, arith, from_be_bytes, w64, length-set, fill_by_more}
use Rattle.fax_bitmap.proofs.Names.{fill_by_all}
use Rattle.fax_bitmap.proofs.ScannedWords.{eight, word_of_bytes}
use Rattle.fax_bitmap.proofs.bitmap_rows.pixels_or_white.Goals as goal

pub loop-index-preserved : goal.loop-index-preserved
loop-index-preserved c =
    let first : List ℕ = c.loop-index.first in
    let index : ℕ = c.loop-index.index in
    let bytes : List ℕ = c.args.bytes.now in
    rw c.byte_or_white.ensures (record {
      long = length-set first index (get_or bytes index 0) ∙ c.loop-index.invariant.long;
      filled = fill_by_more (λ k. get_or bytes k 0) first index 0
          (omega (arith, c.loop-index-test.true, c.loop-index.invariant.long)) c.loop-index.invariant.filled;
    })

pub returns : goal.returns
returns c =
    let bytes : List ℕ = c.args.bytes.now in
    let at : (k : ℕ) → k < 8 → get_or c.loop-index.first k 0 ≡ get_or bytes k 0 =
    λ k lt. c.loop-index.invariant.filled k (omega (arith, lt, c.loop-index-test.false)) in
    let filled : c.loop-index.first ≡ eight bytes =
    fill_by_all (λ k. get_or bytes k 0) c.loop-index.first 8 0 c.loop-index.invariant.long at in
    word_of_bytes bytes c.from_be_bytes.result (λ i. (c.type_inv.bytes i).fits)
    (c.from_be_bytes.ensures ∙ ap (from_be_bytes w64) filled)
