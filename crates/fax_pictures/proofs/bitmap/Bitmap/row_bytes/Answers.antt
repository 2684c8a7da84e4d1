use Rattle.fax_encode.proofs.Names.{◌≡◌, ◌+◌, ◌-◌, ◌*◌, ◌<◌, ℕ, List, [], length, take, drop, get_or}
use Rattle.fax_encode.proofs.Names.{sym, ap, ◌∙◌, subst, arith, bits_of, shown, bytes_of_row}
use Rattle.fax_pictures.specs.Pictures.{Picture}
use Rattle.fax_pictures.proofs.PackedPictures.{inside_bytes, row_of_picture, rows_counted}
use Rattle.fax_pictures.proofs.bitmap.Bitmap.row_bytes.Goals as goal

pub slice_bounds-result-end : goal.slice_bounds-result-end
slice_bounds-result-end c =
    let inside = c.self.inside in
    let lt : c.args.index < length (shown inside.columns inside.bytes.items) =
    subst (λ (p : Picture). c.args.index < length p.rows) (sym c.self.view_is) c.requires.within in
    let count = rows_counted inside.columns inside.rows inside.bytes.items c.self.invariant in
    let width : c.div_ceil-width.result ≡ bytes_of_row inside.columns = omega (arith, c.div_ceil-width.ensures) in
    let there = inside_bytes c.args.index inside.rows c.div_ceil-width.result inside.columns inside.bytes.items
    (omega (arith, lt, count)) width c.self.invariant.size in
    omega (arith, there, width, c.deref.ensures.len, ap length c.deref.ensures.value)

pub returns-clause-row : goal.returns-clause-row
returns-clause-row c =
    let inside = c.self.inside in
    let width : c.div_ceil-width.result ≡ bytes_of_row inside.columns = omega (arith, c.div_ceil-width.ensures) in
    let start : ℕ = c.args.index * c.div_ceil-width.result in
    let part : List ℕ = take (start + c.div_ceil-width.result - start) (drop start c.deref.result.now) in
    let count : start + c.div_ceil-width.result - start ≡ c.div_ceil-width.result = omega arith in
    let is : part ≡ take c.div_ceil-width.result (drop start inside.bytes.items) =
    ap (λ (n : ℕ). take n (drop start c.deref.result.now)) count
    ∙ ap (λ (l : List ℕ). take c.div_ceil-width.result (drop start l)) c.deref.ensures.value in
    let lt : c.args.index < length (shown inside.columns inside.bytes.items) =
    subst (λ (p : Picture). c.args.index < length p.rows) (sym c.self.view_is) c.requires.within in
    subst (λ (p : Picture). take p.columns (bits_of part) ≡ get_or p.rows c.args.index []) c.self.view_is
    (row_of_picture inside.columns inside.rows c.args.index c.div_ceil-width.result inside.bytes.items part c.self.invariant lt
    width is).1
