use Rattle.fax_encode.proofs.Names.{◌≡◌, ◌*◌, ◌≤◌, ◌<◌, ℕ, List, replicate, sym, ap, ◌∙◌}
use Rattle.fax_encode.proofs.Names.{subst, arith, Row, bytes_of_row, shown}
use Rattle.fax_reading.specs.Rows.{white_row}
use Rattle.fax_pictures.specs.Pictures.{ArePacked, HasRoom, Picture}
use Rattle.fax_pictures.proofs.PackedPictures.{white_is_held}
use Rattle.fax_pictures.proofs.bitmap.Bitmap.white.Goals as goal

-- zeros, as many as the picture has bytes
held_zeros : (columns rows width : ℕ) (items : List ℕ) → width ≡ bytes_of_row columns → items ≡ replicate (rows * width) 0
    → 0 < columns → rows * width ≤ 1073741824
    → ArePacked columns rows items × (shown columns items ≡ replicate rows (white_row columns))
held_zeros columns rows width items is made some few =
    let size : rows * width ≡ rows * bytes_of_row columns = ap (λ (w : ℕ). rows * w) is in
    let same : items ≡ replicate (rows * bytes_of_row columns) 0 = made ∙ ap (λ (n : ℕ). replicate n 0) size in
    let room : HasRoom columns rows = (some, omega (arith, few, size)) in
    subst (λ (l : List ℕ). ArePacked columns rows l × (shown columns l ≡ replicate rows (white_row columns))) (sym same)
    (white_is_held columns rows room)

pub invariant_of-result : goal.invariant_of-result
invariant_of-result c = (held_zeros c.args.columns c.args.rows c.div_ceil.result c.in_ok-bytes.bytes.items
    (omega (arith, c.div_ceil.ensures)) c.in_ok-bytes.ensures (omega (arith, c.if-columns-eq0.false))
    (omega (arith, c.if-size-gt-MOST_BYTES.false))).0

pub returns-clause-white : goal.returns-clause-white
returns-clause-white c =
    let picture : List Row → Picture = λ rows. record { columns = c.args.columns; rows = rows } in
    ap picture (held_zeros c.args.columns c.args.rows c.div_ceil.result c.in_ok-bytes.bytes.items
    (omega (arith, c.div_ceil.ensures)) c.in_ok-bytes.ensures (omega (arith, c.if-columns-eq0.false))
    (omega (arith, c.if-size-gt-MOST_BYTES.false))).1
